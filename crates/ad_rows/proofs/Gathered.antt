-- What was taken in of rows is what stands in their table.
use Rattle.std.proofs.Common.{◌≡◌, ◌∙◌, ◌⊎◌, inl, inr, ℕ, suc, Bool, true, false, List, [], ◌∷◌, ◌++◌, Option, Some}
use Rattle.std.proofs.Common.{None, Ok, refl, sym, ap, subst, append_assoc, arith}
use Rattle.std.specs.Prelude.{◌==◌, IfSome, IsSome, cond}
use Rattle.std.specs.List.{AllByRecursion}
use Rattle.std.proofs.lemmas.List.{append-nil}
use Rattle.std.proofs.lemmas.Bool.{eq-eqb, eqb-true}
use Rattle.std.proofs.lemmas.Option.{none-some, same_Some}
use Rattle.ad_bytes.specs.Reading.{IsBytes}
use Rattle.ad_bytes.proofs.Steps.{from_bind, from_ok}
use Rattle.ad_schema.specs.declared.line.SchemaRecord.{SchemaRecord}
use Rattle.prop_queue.specs.declared.pending.Pending.{Pending}
use Rattle.row_store.specs.declared.row.Row.{Row}
use Rattle.row_store.specs.Table.{table_of, ComesBefore, AreListed}
use Rattle.ad_dir_model.specs.Object.{Object}
use Rattle.ad_dir_model.specs.Objects.{object_of}
use Rattle.ad_dir_model.specs.Directory.{Meta}
use Rattle.ad_rows.specs.declared.fault.RowFault.{RowFault}
use Rattle.ad_rows_write.specs.Body.{SpellsQueue, SpellsMeta}
use Rattle.ad_rows.specs.Parsing.{attrs_rise}
use Rattle.ad_rows_write.specs.Rows.{HasBody, Shows}
use Rattle.ad_rows.specs.Taking.{Parts, HasBytes, in_place, with_row, with_rows}
use Rattle.ad_rows.proofs.Codec.{IsKeptHeld, IsReadAs}
use Rattle.ad_rows.proofs.Forms.{Takes, takes_object, takes_queue, takes_meta, takes_record, any_takes}
use Rattle.ad_rows.proofs.Schemas.{other_row, not_of, none_below, from_next}
use Rattle.ad_rows.proofs.Sorted.{first_stands}

abbrev pub IsKeptObject : Option (List SchemaRecord) → Object → Type 0
IsKeptObject schema o = (attrs_rise 0 o.values ≡ true) × AllByRecursion (IsKeptHeld schema) o.values

-- what was taken in after other parts
pub record Gathers (schema : Option (List SchemaRecord)) (parts : Parts) (rows : List Row) (end : Parts) : Type 0 where
  pub more : List Object
  pub objects : end.objects ≡ parts.objects ++ more
  pub shows : (n : ℕ) → Shows (IsReadAs schema n) (object_of more n) (table_of rows 1 n)
  pub kept : AllByRecursion (IsKeptObject schema) more
  pub queue : (pending : List Pending) → end.pending ≡ Some pending → (parts.pending ≡ Some pending)
      ⊎ HasBody (SpellsQueue pending) (table_of rows 2 0)
  pub meta : (counters : Meta) → end.meta ≡ Some counters → (parts.meta ≡ Some counters)
      ⊎ HasBody (SpellsMeta counters) (table_of rows 3 0)

module _ (schema : Option (List SchemaRecord)) (parts : Parts) (r : Row) (rows : List Row) (body : List ℕ)
    (stands : r.body ≡ Some body) (comes : ComesBefore r rows) where
  there : (k n : ℕ) → r.kind ≡ k → r.number ≡ n → table_of (r ∷ rows) k n ≡ Some body
  there k n kind number = (λ i. table_of (r ∷ rows) (sym kind i) (sym number i)) ∙ first_stands r rows comes ∙ stands

  gone : (k n : ℕ) → r.kind ≡ k → r.number ≡ n → table_of rows k n ≡ None
  gone k n kind number = none_below r.kind (suc r.number) rows k n (from_next r rows comes) (λ from. elim from [
    | inl less ↦ omega (arith, less, kind)
    | inr level ↦ (let most = level.1 in omega (arith, most, number))
  ])

  off : (k n : ℕ) → (r.kind ≡ k → r.number ≡ n → ⊥) → table_of (r ∷ rows) k n ≡ table_of rows k n
  off k n other = other_row k n r rows (not_of k n r other)

  -- what was there before, or stands after the row
  behind : {A : Type 0} (Spells : A → List ℕ → Type 0) (k : ℕ) (x : A) (now before : Option A) → (r.kind ≡ k → ⊥)
      → now ≡ before → (now ≡ Some x) ⊎ HasBody (Spells x) (table_of rows k 0) → (before ≡ Some x)
      ⊎ HasBody (Spells x) (table_of (r ∷ rows) k 0)
  behind Spells k x now before other same (inl is) = inl (sym same ∙ is)
  behind Spells k x now before other same (inr has)
      = inr (subst (HasBody (Spells x)) (sym (off k 0 (λ kind _. other kind))) has)

  -- what stands at the row
  here : {A : Type 0} (Spells : A → List ℕ → Type 0) (k : ℕ) (x read : A) (now before : Option A) → r.kind ≡ k
      → r.number ≡ 0 → Spells read body → now ≡ Some read → (now ≡ Some x) ⊎ HasBody (Spells x) (table_of rows k 0)
      → (before ≡ Some x) ⊎ HasBody (Spells x) (table_of (r ∷ rows) k 0)
  here Spells k x read now before kind number s same (inl is) =
      inr (body, there k 0 kind number, subst (λ (y : _). Spells y body) (same_Some read x (sym same ∙ is)) s)
  here Spells k x read now before kind number s same (inr has)
      = absurd (none-some has.0 (sym (gone k 0 kind number) ∙ has.1))

  no_object : (more : List Object) → (r.kind ≡ 1 → ⊥)
      → ((n : ℕ) → Shows (IsReadAs schema n) (object_of more n) (table_of rows 1 n)) → (n : ℕ)
      → Shows (IsReadAs schema n) (object_of more n) (table_of (r ∷ rows) 1 n)
  no_object more other shows n = subst (Shows (IsReadAs schema n) (object_of more n))
      (sym (off 1 n (λ kind _. other kind))) (shows n)

  one_object : (o : Object) (more : List Object) → r.kind ≡ 1 → IsReadAs schema r.number o body
      → ((n : ℕ) → Shows (IsReadAs schema n) (object_of more n) (table_of rows 1 n)) → (n : ℕ)
      → Shows (IsReadAs schema n) (object_of (o ∷ more) n) (table_of (r ∷ rows) 1 n)
  unfolding object_of
  one_object o more kind is shows n = by (o.number == n) refl
    where
      found : Bool → Option Object
      found b = cond b (Some o) (object_of more n)

      by : (b : Bool) → (o.number == n) ≡ b → Shows (IsReadAs schema n) (found (o.number == n))
          (table_of (r ∷ rows) 1 n)
      by true same =
          let number : r.number ≡ n = sym is.number_is ∙ eqb-true o.number n same in
          subst (λ (f : Option Object). Shows (IsReadAs schema n) f (table_of (r ∷ rows) 1 n)) (sym (ap found same))
          (body, there 1 n kind number, subst (λ (m : ℕ). IsReadAs schema m o body) number is)
      by false other =
          let not_it : r.number ≡ n → ⊥ = λ number.
          (let clash : true ≡ false = sym (eq-eqb o.number n (is.number_is ∙ number)) ∙ other in absurd cc) in
          subst (λ (f : Option Object). Shows (IsReadAs schema n) f (table_of (r ∷ rows) 1 n)) (sym (ap found other))
          (subst (Shows (IsReadAs schema n) (object_of more n)) (sym (off 1 n (λ _ number. not_it number))) (shows n))

  one_taken : (more end : Parts) → Takes schema parts r body more → Gathers schema more rows end
      → Gathers schema parts (r ∷ rows) end
  one_taken more end (takes_object kind above below o is same) rest = record {
    more = o ∷ rest.more;
    objects = rest.objects ∙ ap (λ (p : Parts). p.objects ++ rest.more) same ∙ append_assoc parts.objects (o ∷ [])
        rest.more;
    shows = one_object o rest.more kind is rest.shows;
    kept = ((is.rise, is.each), rest.kept);
    queue = λ pending e. behind SpellsQueue 2 pending more.pending parts.pending (λ two. omega (arith, two, kind))
        (ap (λ (p : Parts). p.pending) same) (rest.queue pending e);
    meta = λ counters e. behind SpellsMeta 3 counters more.meta parts.meta (λ three. omega (arith, three, kind))
        (ap (λ (p : Parts). p.meta) same) (rest.meta counters e);
  }
  one_taken more end (takes_queue kind number read s same) rest = record {
    more = rest.more;
    objects = rest.objects ∙ ap (λ (p : Parts). p.objects ++ rest.more) same;
    shows = no_object rest.more (λ one. omega (arith, one, kind)) rest.shows;
    kept = rest.kept;
    queue = λ pending e. here SpellsQueue 2 pending read more.pending parts.pending kind number s
        (ap (λ (p : Parts). p.pending) same) (rest.queue pending e);
    meta = λ counters e. behind SpellsMeta 3 counters more.meta parts.meta (λ three. omega (arith, three, kind))
        (ap (λ (p : Parts). p.meta) same) (rest.meta counters e);
  }
  one_taken more end (takes_meta kind number read s same) rest = record {
    more = rest.more;
    objects = rest.objects ∙ ap (λ (p : Parts). p.objects ++ rest.more) same;
    shows = no_object rest.more (λ one. omega (arith, one, kind)) rest.shows;
    kept = rest.kept;
    queue = λ pending e. behind SpellsQueue 2 pending more.pending parts.pending (λ two. omega (arith, two, kind))
        (ap (λ (p : Parts). p.pending) same) (rest.queue pending e);
    meta = λ counters e. here SpellsMeta 3 counters read more.meta parts.meta kind number s
        (ap (λ (p : Parts). p.meta) same) (rest.meta counters e);
  }
  one_taken more end (takes_record kind below read s same) rest = record {
    more = rest.more;
    objects = rest.objects ∙ ap (λ (p : Parts). p.objects ++ rest.more) same;
    shows = no_object rest.more (λ one. omega (arith, one, kind)) rest.shows;
    kept = rest.kept;
    queue = λ pending e. behind SpellsQueue 2 pending more.pending parts.pending (λ two. omega (arith, two, kind))
        (ap (λ (p : Parts). p.pending) same) (rest.queue pending e);
    meta = λ counters e. behind SpellsMeta 3 counters more.meta parts.meta (λ three. omega (arith, three, kind))
        (ap (λ (p : Parts). p.meta) same) (rest.meta counters e);
  }

some_is : (stands : Option (List ℕ)) → IsSome stands → IfSome stands IsBytes → (body : List ℕ) × (stands ≡ Some body)
    × IsBytes body
some_is None is are = absurd cc
some_is (Some body) is are = (body, refl, are)

pub gathers : (schema : Option (List SchemaRecord)) (rows : List Row) (parts end : Parts) → AreListed rows
    → AllByRecursion HasBytes rows → with_rows schema parts rows ≡ Ok end → Gathers schema parts rows end
unfolding with_rows with_row object_of
gathers schema [] parts end listed bytes e =
    subst (Gathers schema parts []) (from_ok {E = RowFault} parts end e) (record {
      more = [];
      objects = sym (append-nil parts.objects);
      shows = λ n. refl;
      kept = tt;
      queue = λ pending is. inl is;
      meta = λ counters is. inl is;
    })
gathers schema (r ∷ rows) parts end listed bytes e =
    let body = some_is r.body listed.0 bytes.0 in
    from_bind (with_row schema parts r) _ end e (λ (more : Parts) e1 e2.
    from_bind (in_place parts r) _ more e1 (λ _ _ e3.
    one_taken schema parts r rows body.0 body.1 listed.1 more end
    (any_takes schema parts r body.0 body.1 body.2 more e3) (gathers schema rows more end listed.2 bytes.1 e2)))
