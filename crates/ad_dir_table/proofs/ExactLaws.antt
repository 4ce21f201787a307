-- A map that has exactly the objects' keys still does after an edit.
use Rattle.std.proofs.Common.{◌≡◌, ℕ, Bool, true, List, [], Option, Some, None, refl, sym, subst, ap, ◌∙◌, inl, inr}
use Rattle.std.specs.Prelude.{nat_eq, ◌⊎◌, find}
use Rattle.std.specs.Option.{option_map, option_and_then}
use Rattle.std.proofs.lemmas.Bool.{cases_Bool, eqb-true, eqb-false, both_ways}
use Rattle.std.proofs.lemmas.Option.{none-some, same_Some}
use Rattle.ad_dir_model.specs.Object.{Object}
use Rattle.ad_dir_model.specs.Objects.{object_of, Rise, put, removed}
use Rattle.ad_dir_model.proofs.Finding.{of_number, of-put_same, of-put_other, of-removed_same, of-removed_other}
use Rattle.ad_dir_model.proofs.Finding.{found_first, none_found}
use Rattle.ad_dir_table.specs.Exact.{HasKey, IsExact}
use Rattle.ad_dir_table.specs.KeyChanges.{IsOther, IsChange, Removes, Edits}
use Rattle.ad_dir_table.specs.Indexed.{was}

nothing_of : (n : ℕ) (o : Object) → object_of [] n ≡ Some o → ⊥
unfolding object_of
nothing_of n o is = none-some o is

module _ {V : Type 0} (told : (u v : V) → (u ≡ v) ⊎ (u ≡ v → ⊥)) (key : Object → Option V) where
  is_or_not : (k : Option V) (v : V) → (k ≡ Some v) ⊎ (k ≡ Some v → ⊥)
  is_or_not None v = inr (λ e. none-some v e)
  is_or_not (Some u) v = elim (told u v) [
    | inl same ↦ inl (ap Some same)
    | inr apart ↦ inr (λ e. apart (same_Some u v e))
  ]

  pub none_exact : (at : V → Option ℕ) → ((v : V) → at v ≡ None) → IsExact key at []
  none_exact at none = record {
    each = λ n o v live own. absurd (nothing_of n o live);
    only = λ n v is. absurd (none-some n (sym (none v) ∙ is));
  }

  pub same_exact : (at new : V → Option ℕ) (objects : List Object) → ((v : V) → new v ≡ at v) → IsExact key at objects
      → IsExact key new objects
  same_exact at new objects same exact = record {
    each = λ n o v live own. same v ∙ exact.each n o v live own;
    only = λ n v is. exact.only n v (sym (same v) ∙ is);
  }

  -- the key that an object had
  had : (objects : List Object) (n : ℕ) (o : Object) → object_of objects n ≡ Some o → was key objects n ≡ key o
  had objects n o live = ap (option_and_then key) live

  -- that of a number which has one is some object's
  record Had (objects : List Object) (n : ℕ) (v : V) : Type 0 where
    object : Object
    live : object_of objects n ≡ Some object
    own : key object ≡ Some v

  had_by : (objects : List Object) (n : ℕ) (v : V) → was key objects n ≡ Some v → Had objects n v
  had_by objects n v is = by_found (object_of objects n) refl is
    where
      by_found : (found : Option Object) → object_of objects n ≡ found → option_and_then key found ≡ Some v
          → Had objects n v
      by_found None live own = absurd (none-some v own)
      by_found (Some o) live own = record { object = o; live = live; own = own }

  module _ (at : V → Option ℕ) (objects : List Object) (o : Object) (exact : IsExact key at objects) where
    -- where its key stays
    kept_exact : was key objects o.number ≡ key o → IsExact key at (put o objects)
    kept_exact same = record { each = each; only = only }
      where
        each : (n : ℕ) (x : Object) (v : V) → object_of (put o objects) n ≡ Some x → key x ≡ Some v → at v ≡ Some n
        each n x v live own = elim (cases_Bool (nat_eq o.number n)) [
          | inl here ↦
              let e : o.number ≡ n = eqb-true o.number n here in
              let itself : o ≡ x = same_Some o x
              (sym (of-put_same o objects) ∙ subst (λ (k : ℕ). object_of (put o objects) k ≡ Some x) (sym e) live)
              in
              let one = had_by objects o.number v (same ∙ ap key itself ∙ own) in
              exact.each o.number one.object v one.live one.own ∙ ap Some e
          | inr other ↦ exact.each n x v (sym (of-put_other o objects n (eqb-false o.number n other)) ∙ live) own
        ]

        only : (n : ℕ) (v : V) → at v ≡ Some n → HasKey key (put o objects) n v
        only n v is =
            let one = exact.only n v is in
            elim (cases_Bool (nat_eq o.number n)) [
              | inl here ↦
                  let e : o.number ≡ n = eqb-true o.number n here in
                  record {
                    object = o;
                    live = subst (λ (k : ℕ). object_of (put o objects) k ≡ Some o) e (of-put_same o objects);
                    own = sym same ∙ ap (was key objects) e ∙ had objects n one.object one.live ∙ one.own;
                  }
              | inr other ↦ record {
                object = one.object;
                live = of-put_other o objects n (eqb-false o.number n other)
                    ∙ one.live;
                own = one.own;
              }
            ]

    module _ (new : V → Option ℕ) (to from : Option V) (edits : Edits to from o.number at new)
        (alone : (n : ℕ) (x : Object) (v : V) → object_of objects n ≡ Some x → key x ≡ Some v → key o ≡ Some v
        → x.number ≡ o.number) where
      -- where it changes
      changed_exact : IsOther (was key objects o.number) (key o) to from → IsExact key new (put o objects)
      changed_exact other = record { each = each; only = only }
        where
          -- another number's key is neither of the two
          stays : (n : ℕ) (x : Object) (v : V) → (o.number ≡ n → ⊥) → object_of objects n ≡ Some x → key x ≡ Some v
              → new v ≡ at v
          stays n x v apart live own =
              edits.takes.others v (λ e.
              let one = had_by objects o.number v (sym other.taken ∙ e) in
              apart (same_Some o.number n (sym (exact.each o.number one.object v one.live one.own)
              ∙ exact.each n x v live own)))
              ∙ edits.puts.others v (λ e.
              apart (sym (alone n x v live own (sym other.put ∙ e)) ∙ of_number objects n x live))

          put_there : (v : V) → key o ≡ Some v → new v ≡ Some o.number
          put_there v own = edits.takes.others v (λ e. other.apart v own (sym other.taken ∙ e))
              ∙ edits.puts.here v (other.put ∙ own)

          each : (n : ℕ) (x : Object) (v : V) → object_of (put o objects) n ≡ Some x → key x ≡ Some v → new v ≡ Some n
          each n x v live own = elim (cases_Bool (nat_eq o.number n)) [
            | inl here ↦
                let e : o.number ≡ n = eqb-true o.number n here in
                let itself : o ≡ x = same_Some o x
                (sym (of-put_same o objects) ∙ subst (λ (k : ℕ). object_of (put o objects) k ≡ Some x) (sym e)
                live) in
                put_there v (ap key itself ∙ own) ∙ ap Some e
            | inr apart ↦
                let before : object_of objects n ≡ Some x
                = sym (of-put_other o objects n (eqb-false o.number n apart)) ∙ live in
                stays n x v (eqb-false o.number n apart) before own ∙ exact.each n x v before own
          ]

          only : (n : ℕ) (v : V) → new v ≡ Some n → HasKey key (put o objects) n v
          only n v is = elim (is_or_not (key o) v) [
            | inl own ↦
                let e : o.number ≡ n = same_Some o.number n (sym (put_there v own) ∙ is) in
                record {
                  object = o;
                  live = subst (λ (k : ℕ). object_of (put o objects) k ≡ Some o) e
                      (of-put_same o objects);
                  own = own;
                }
            | inr not_own ↦ elim (is_or_not (was key objects o.number) v) [
              | inl old ↦ absurd (none-some n (sym (edits.takes.here v (other.taken ∙ old)) ∙ is))
              | inr not_old ↦
                  let same : new v ≡ at v = edits.takes.others v (λ e. not_old (sym other.taken ∙ e))
                  ∙ edits.puts.others v (λ e. not_own (sym other.put ∙ e)) in
                  let one = exact.only n v (sym same ∙ is) in
                  let apart : o.number ≡ n → ⊥ = λ (e : o.number ≡ n). not_old
                  (ap (was key objects) e ∙ had objects n one.object one.live ∙ one.own) in
                  record { object = one.object; live = of-put_other o objects n apart ∙ one.live; own = one.own }
            ]
          ]

      pub put_exact : IsChange (was key objects o.number) (key o) to from → IsExact key new (put o objects)
      put_exact change = elim change [
        | inl kept ↦
            same_exact at new (put o objects) (λ v. edits.takes.others v (λ e. none-some v (sym kept.no_take ∙ e))
            ∙ edits.puts.others v (λ e. none-some v (sym kept.no_put ∙ e)))
            (kept_exact kept.same)
        | inr other ↦ changed_exact other
      ]

  pub removed_exact : (at new : V → Option ℕ) (objects : List Object) (number : ℕ) → IsExact key at objects
      → Removes (was key objects number) at new → IsExact key new (removed number objects)
  removed_exact at new objects number exact takes = record { each = each; only = only }
    where
      each : (n : ℕ) (x : Object) (v : V) → object_of (removed number objects) n ≡ Some x → key x ≡ Some v → new v
          ≡ Some n
      each n x v live own =
          let apart : number ≡ n → ⊥ = λ (e : number ≡ n).
          none-some x (sym (of-removed_same number objects)
          ∙ subst (λ (k : ℕ). object_of (removed number objects) k ≡ Some x) (sym e) live) in
          let before : object_of objects n ≡ Some x = sym (of-removed_other number objects n apart) ∙ live in
          takes.others v (λ e.
          let one = had_by objects number v e in
          apart (same_Some number n (sym (exact.each number one.object v one.live one.own) ∙ exact.each n x v before
          own)))
          ∙ exact.each n x v before own

      only : (n : ℕ) (v : V) → new v ≡ Some n → HasKey key (removed number objects) n v
      only n v is = elim (is_or_not (was key objects number) v) [
        | inl old ↦ absurd (none-some n (sym (takes.here v old) ∙ is))
        | inr not_old ↦
            let one = exact.only n v (sym (takes.others v not_old) ∙ is) in
            let apart : number ≡ n → ⊥ = λ (e : number ≡ n). not_old
            (ap (was key objects) e ∙ had objects n one.object one.live ∙ one.own) in
            record { object = one.object; live = of-removed_other number objects n apart ∙ one.live; own = one.own }
      ]

  -- what stands at a key is found by a test of it
  pub exact_finds : (at : V → Option ℕ) (objects : List Object) (test : Object → Bool) (v : V) → Rise objects
      → ((o : Object) → test o ≡ true → key o ≡ Some v) → ((o : Object) → key o ≡ Some v → test o ≡ true)
      → IsExact key at objects → at v ≡ option_map (λ (o : Object). o.number) (find test objects)
  exact_finds at objects test v rise has passes exact = by_found (find test objects) refl
    where
      none_at : (n : Option ℕ) → at v ≡ n → find test objects ≡ None → n ≡ None
      none_at None is none = refl
      none_at (Some n) is none =
          let one = exact.only n v is in
          absurd (both_ways (test one.object) (none_found test objects n one.object none one.live)
          (passes one.object one.own))

      by_found : (found : Option Object) → find test objects ≡ found → at v ≡ option_map (λ (o : Object). o.number)
          (find test objects)
      by_found None none = none_at (at v) refl none ∙ ap (option_map (λ (o : Object). o.number)) (sym none)
      by_found (Some o) is =
          let first = found_first test 0 objects o rise is in
          exact.each o.number o v first.live (has o first.passes) ∙ ap (option_map (λ (o : Object). o.number)) (sym is)
