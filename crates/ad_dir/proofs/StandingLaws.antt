-- The edits that may be made leave the objects standing.
use Rattle.std.proofs.Common.{◌≡◌, ℕ, zero, suc, unwrap_or, ◌-◌, ◌^◌, ◌<◌, ◌≤◌, true, false, List, [], ◌∷◌, Option}
use Rattle.std.proofs.Common.{Some, None, is_some, sym, subst, ap, ◌∙◌, arith, inl, inr}
use Rattle.std.specs.Prelude.{nat_eq, not, filter_map}
use Rattle.std.specs.List.{AllByRecursion}
use Rattle.std.proofs.lemmas.Bool.{cases_Bool, eqb-true, eqb-false, both_ways}
use Rattle.std.proofs.lemmas.Option.{none-some}
use Rattle.ad_schema.specs.declared.line.SchemaRecord.{SchemaRecord}
use Rattle.ad_dir_model.specs.Object.{Object, no_object, Stored, plain, link, Held, linked, links_in, names}
use Rattle.ad_dir_model.specs.Objects.{object_of, object_at, parent_at, is_live, put, removed, has_number}
use Rattle.ad_dir_model.specs.Limits.{max_counter}
use Rattle.ad_dir_model.specs.Tree.{root, IsAtDepth}
use Rattle.ad_dir_model.specs.Directory.{Directory}
use Rattle.ad_dir_model.specs.Soundness.{IsSound}
use Rattle.ad_dir_model.proofs.Finding.{of_number, of-live, at-put_other, live-put, live-put_other, rise_put}
use Rattle.ad_dir_model.proofs.Finding.{rise_filter, of-removed_same, of-removed_other}
use Rattle.ad_dir_model.proofs.Placing.{put_or_before, all_live_more, put_name, put_sid, before_name, before_sid}
use Rattle.ad_dir_model.proofs.ScratchLaws.{stands_below}
use Rattle.ad_dir_model.proofs.WorkLaws.{placed_at}
use Rattle.ad_dir_model.proofs.Unlinking.{all_append}
use Rattle.ad_dir.specs.Conditions.{MayPut, MayRemove}
use Rattle.ad_dir_table.specs.Indexed.{AreNamed}
use Rattle.ad_dir.specs.Standing.{AreStanding}

nothing_of : (n : ℕ) (o : Object) → object_of [] n ≡ Some o → ⊥
unfolding object_of
nothing_of n o is = none-some o is

nothing_live : (n : ℕ) → is_live [] n ≡ true → ⊥
unfolding object_of
nothing_live n live = let bad : false ≡ true = live in absurd cc

pub none_stand : (schema : List SchemaRecord) → AreStanding schema []
none_stand schema = record {
  rise = tt;
  small = λ n live. absurd (nothing_live n live);
  content = λ n o is. absurd (nothing_of n o is);
  parents = λ n o is below. absurd (nothing_of n o is);
  placed = λ n live. absurd (nothing_live n live);
  links = λ n o is. absurd (nothing_of n o is);
  own_name = λ n o is. absurd (nothing_of n o is);
  own_sid = λ n o is. absurd (nothing_of n o is);
}

-- ---- a put

-- the parent of the root is never looked at
other_root : (o : Object) (objects : List Object) → o.number ≡ root → (depth n : ℕ) → IsAtDepth (parent_at objects)
    depth n → IsAtDepth (parent_at (put o objects)) depth n
other_root o objects own zero n chain = chain
other_root o objects own (suc depth) n chain =
    let same : parent_at (put o objects) n ≡ parent_at objects n = ap (λ (x : Object). x.parent)
    (at-put_other o objects n (λ e. chain.0 (sym e ∙ own))) in (
      chain.0,
      subst (λ (p : ℕ). IsAtDepth (parent_at (put o objects)) depth p) (sym same)
          (other_root o objects own depth (parent_at objects n) chain.1),
    )

pub put_stands : (dir : Directory) (o : Object) → AreStanding dir.schema dir.objects → MayPut dir o
    → AreStanding dir.schema (put o dir.objects)
put_stands dir o stand may = record {
  rise = rise_put 0 o dir.objects stand.rise (let some : 1 ≤ o.number = may.some in omega arith);
  small = λ n live. elim (cases_Bool (nat_eq o.number n)) [
    | inl same ↦ subst (λ (k : ℕ). k < 2 ^ 32 - 1) (eqb-true o.number n same) may.fits_number
    | inr other ↦ stand.small n (sym (live-put_other o dir.objects n (eqb-false o.number n other)) ∙ live)
  ];
  content = λ n x is. elim (put_or_before o dir.objects n x is) [
    | inl itself ↦ rw (← itself) may.fits.content
    | inr before ↦ stand.content n x before.live
  ];
  parents = λ n x is below. elim (put_or_before o dir.objects n x is) [
    | inl itself ↦
        let number : x.number ≡ n = of_number (put o dir.objects) n x is in
        let own : o.number ≡ n = ap (λ (y : Object). y.number) itself ∙ number in
        subst (λ (y : Object). is_live (put o dir.objects) y.parent ≡ true) itself
        (live-put o dir.objects o.parent (may.parent_live (λ e. below (sym own ∙ e))))
    | inr before ↦ live-put o dir.objects x.parent (stand.parents n x before.live below)
  ];
  placed = λ n live. elim (cases_Bool (nat_eq o.number root)) [
    | inl top ↦
        let own : o.number ≡ root = eqb-true o.number root top in
        elim (cases_Bool (nat_eq o.number n)) [
          | inl same ↦ record { depth = 0; within = omega arith; chain = sym (eqb-true o.number n same) ∙ own }
          | inr other ↦
              let before = stand.placed n (sym (live-put_other o dir.objects n (eqb-false o.number n other)) ∙ live) in
              record {
                depth = before.depth;
                within = before.within;
                chain = other_root o dir.objects own before.depth
                    n before.chain;
              }
        ]
    | inr below ↦ may.placed (eqb-false o.number root below) n live
  ];
  links = λ n x is. elim (put_or_before o dir.objects n x is) [
    | inl itself ↦ rw (← itself) may.fits.links
    | inr before ↦ all_live_more dir.objects (put o dir.objects) (links_in x.values) (live-put o dir.objects)
        (stand.links n x before.live)
  ];
  own_name = λ n x is. elim (put_or_before o dir.objects n x is) [
    | inl itself ↦ rw (← itself) (put_name dir o may.fits)
    | inr before ↦ before_name dir o may.fits n x before.live (stand.own_name n x before.live)
  ];
  own_sid = λ n x is. elim (put_or_before o dir.objects n x is) [
    | inl itself ↦ rw (← itself) (put_sid dir o may.fits)
    | inr before ↦ before_sid dir o may.fits n x before.live (stand.own_sid n x before.live)
  ];
}

-- ---- a removal

-- an object that is left is another one, and was there
record IsLeft (number : ℕ) (objects : List Object) (n : ℕ) (x : Object) : Type 0 where
  apart : number ≡ n → ⊥
  live : object_of objects n ≡ Some x

is_left : (number : ℕ) (objects : List Object) (n : ℕ) (x : Object) → object_of (removed number objects) n ≡ Some x
    → IsLeft number objects n x
is_left number objects n x is = record { apart = apart; live = sym (of-removed_other number objects n apart) ∙ is }
  where
    apart : number ≡ n → ⊥
    apart e = none-some x (sym (of-removed_same number objects)
        ∙ subst (λ (k : ℕ). object_of (removed number objects) k ≡ Some x) (sym e) is)

stays_live : (number : ℕ) (objects : List Object) (n : ℕ) → (number ≡ n → ⊥) → is_live objects n ≡ true
    → is_live (removed number objects) n ≡ true
stays_live number objects n apart live = ap is_some (of-removed_other number objects n apart) ∙ live

gone_apart : (number : ℕ) (objects : List Object) (n : ℕ) → is_live (removed number objects) n ≡ true → number ≡ n → ⊥
gone_apart number objects n live e =
    let gone : is_live (removed number objects) n ≡ false
    = ap is_some (subst (λ (k : ℕ). object_of (removed number objects) k ≡ None) e
    (of-removed_same number objects)) in
    both_ways (is_live (removed number objects) n) gone live

was_live : (number : ℕ) (objects : List Object) (n : ℕ) → is_live (removed number objects) n ≡ true
    → is_live objects n ≡ true
was_live number objects n live = ap is_some
    (sym (of-removed_other number objects n (gone_apart number objects n live))) ∙ live

-- no link of values that don't name the object is to it
is_link : (n number : ℕ) (others : List Stored) → names number (link n ∷ others) ≡ false → (n ≡ number → ⊥)
    × (names number others ≡ false)
is_link n number others none =
    elim (cases_Bool (nat_eq n number)) [
      | inl same ↦ let bad : true ≡ false = rw same at none in absurd cc
      | inr other ↦ (eqb-false n number other, rw other at none)
    ]

other_links : (number : ℕ) (values : List Stored) → names number values ≡ false
    → AllByRecursion (λ (n : ℕ). number ≡ n → ⊥) (filter_map linked values)
other_links number [] none = tt
other_links number (plain v ∷ others) none = other_links number others none
other_links number (link n ∷ others) none = let parts = is_link n number others none
    in (λ e. parts.0 (sym e), other_links number others parts.1)

no_links : (number : ℕ) (values : List Held) → AllByRecursion (λ (held : Held). names number held.values ≡ false)
    values → AllByRecursion (λ (n : ℕ). number ≡ n → ⊥) (links_in values)
unfolding links_in
no_links number [] all = tt
no_links number (held ∷ others) all = all_append (λ (n : ℕ). number ≡ n → ⊥) (filter_map linked held.values)
    (links_in others) (other_links number held.values all.0) (no_links number others all.1)

links_left : (number : ℕ) (objects : List Object) (ns : List ℕ) → AllByRecursion (λ (n : ℕ). number ≡ n → ⊥) ns
    → AllByRecursion (λ (n : ℕ). is_live objects n ≡ true) ns
    → AllByRecursion (λ (n : ℕ). is_live (removed number objects) n ≡ true) ns
links_left number objects [] apart live = tt
links_left number objects (n ∷ ns) apart live
    = (stays_live number objects n apart.0 live.0, links_left number objects ns apart.1 live.1)

-- the chain of an object that is left doesn't go through the one that goes
chain_left : (dir : Directory) (number : ℕ) → AreStanding dir.schema dir.objects → MayRemove dir number
    → (depth n : ℕ) → (number ≡ n → ⊥) → is_live dir.objects n ≡ true
    → IsAtDepth (parent_at dir.objects) depth n → IsAtDepth (parent_at (removed number dir.objects)) depth n
unfolding object_at
chain_left dir number stand may zero n apart live chain = chain
chain_left dir number stand may (suc depth) n apart live chain =
    let is : object_of dir.objects n ≡ Some (object_at dir.objects n) = of-live dir.objects n live in
    let parent_live : is_live dir.objects (parent_at dir.objects n) ≡ true = stand.parents n (object_at dir.objects n)
    is chain.0 in
    let same : parent_at (removed number dir.objects) n ≡ parent_at dir.objects n
    = ap (λ (found : Option Object). (unwrap_or found no_object).parent)
    (of-removed_other number dir.objects n apart) in
    let differ : number ≡ parent_at dir.objects n → ⊥ = λ e. may.no_child n (object_at dir.objects n) is
    (λ f. apart (sym f)) (sym e) in (
      chain.0,
      subst (λ (p : ℕ). IsAtDepth (parent_at (removed number dir.objects)) depth p) (sym same)
          (chain_left dir number stand may depth (parent_at dir.objects n) differ parent_live chain.1),
    )

pub removed_stand : (dir : Directory) (number : ℕ) → AreStanding dir.schema dir.objects → MayRemove dir number
    → AreStanding dir.schema (removed number dir.objects)
unfolding removed
removed_stand dir number stand may = record {
  rise = rise_filter (λ (o : Object). not (has_number number o)) 0 dir.objects stand.rise;
  small = λ n live. stand.small n (was_live number dir.objects n live);
  content = λ n x is. stand.content n x (is_left number dir.objects n x is).live;
  parents = λ n x is below.
      let left = is_left number dir.objects n x is in
      stays_live number dir.objects x.parent (λ e. may.no_child n x left.live (λ f. left.apart (sym f)) (sym e))
      (stand.parents n x left.live below);
  placed = λ n live.
      let was = was_live number dir.objects n live in
      let before = stand.placed n was in
      record {
        depth = before.depth;
        within = before.within;
        chain = chain_left dir number stand may before.depth n
            (gone_apart number dir.objects n live) was before.chain;
      };
  links = λ n x is.
      let left = is_left number dir.objects n x is in
      links_left number dir.objects (links_in x.values)
      (no_links number x.values (may.no_link n x left.live (λ f. left.apart (sym f))))
      (stand.links n x left.live);
  own_name = λ n x is. λ k other of same_parent same_name. stand.own_name n x (is_left number dir.objects n x is).live
      k other (is_left number dir.objects k other of).live same_parent same_name;
  own_sid = λ n x is. λ k other sid of has own. stand.own_sid n x (is_left number dir.objects n x is).live k other sid
      (is_left number dir.objects k other of).live has own;
}

-- ---- a sound directory

below_most : (n next : ℕ) → n < next → next ≤ max_counter → n < 2 ^ 32 - 1
unfolding max_counter
below_most n next less most = omega (arith, less, most)

pub sound_stand : (dir : Directory) → IsSound dir → AreStanding dir.schema dir.objects
sound_stand dir sound = record {
  rise = sound.rise;
  small = λ n live. let above : n < dir.meta.next_number = sound.frame.counters.number_above n live in
      let most = sound.frame.counters.number_fits in below_most n dir.meta.next_number above most;
  content = λ n x is. (sound.each n x is).content;
  parents = λ n x is below. parent_of n x is below;
  placed = placed_at dir sound.each;
  links = λ n x is. (sound.each n x is).links;
  own_name = λ n x is. (sound.each n x is).own_name;
  own_sid = λ n x is. (sound.each n x is).own_sid;
}
  where
    parent_of : (n : ℕ) (x : Object) → object_of dir.objects n ≡ Some x → (n ≡ root → ⊥)
        → is_live dir.objects x.parent ≡ true
    parent_of n x is below =
        let number : x.number ≡ n = of_number dir.objects n x is in
        (stands_below dir x (λ e. below (sym number ∙ e)) (sound.each n x is).stands).parent_live

pub are_named : (schema : List SchemaRecord) (objects : List Object) → AreStanding schema objects → AreNamed objects
are_named schema objects stand number o at = (stand.content number o at).name.utf8
