use Rattle.std.proofs.Common.{◌≡◌, ℕ, Bool, true, false, List, [], ◌∷◌, length, refl, sym, ap, subst, ◌∙◌, arith}
use Rattle.std.specs.Prelude.{nat_eq, Result, Ok, Err, codes}
use Rattle.std.proofs.lemmas.Bool.{both_ways, eqb-true, eq-eqb}
use Rattle.ad_bytes.specs.Reading.{GivesUnless}
use Rattle.ad_principals.specs.declared.fault.NameFault.{NameFault}
use Rattle.ad_principals.specs.declared.fault.NameFault.TheVariants as name_fault
use Rattle.ad_principals.specs.Named.{numbers_with, only_one, is_memory}
use Rattle.ad_principals.proofs.named.account_with.Goals as goal

gives : (r read : Result ℕ NameFault) → r ≡ read → GivesUnless is_memory (λ (n : ℕ). n) r read
gives r read same = subst (GivesUnless is_memory (λ (n : ℕ). n) r) same (itself r)
  where
    itself : (s : Result ℕ NameFault) → GivesUnless is_memory (λ (n : ℕ). n) s s
    itself (Ok n) = refl
    itself (Err fault) = λ not_memory. refl

-- what stands after a list that isn't empty doesn't matter
some_first : (first : List ℕ) (a b : Result ℕ NameFault) → (first ≡ [] → ⊥) → only_one first a ≡ only_one first b
some_first [] a b some = absurd (some refl)
some_first (n ∷ []) a b some = refl
some_first (n ∷ m ∷ others) a b some = refl

none_in : (ns : List ℕ) → length ns ≡ 0 → ns ≡ []
none_in [] none = refl
none_in (n ∷ ns) none = absurd (omega (arith, none))

empty : (ns items : List ℕ) (b : Bool) → b ≡ nat_eq (length ns) 0 → b ≡ true → ns ≡ items → items ≡ []
empty ns items b is yes' same = none_in items (sym (ap length same) ∙ eqb-true (length ns) 0 (sym is ∙ yes'))

not_empty : (ns items : List ℕ) (b : Bool) → b ≡ nat_eq (length ns) 0 → b ≡ false → ns ≡ items → items ≡ [] → ⊥
not_empty ns items b is no' same none = both_ways b no' (is ∙ eq-eqb (length ns) 0 (ap length (same ∙ none)))

pub returns-then-is_empty : goal.returns-then-is_empty
returns-then-is_empty c =
    let first : numbers_with c.args.dir.now (codes "sAMAccountName") c.args.text.now ≡ [] =
    sym c.in_ok-by_account.ensures ∙ empty c.as_slice.result.now c.in_ok-by_account.by_account.items c.is_empty.result
    c.is_empty.ensures c.if-is_empty.true c.as_slice.ensures.value in
    gives c.only_one.result
    (only_one (numbers_with c.args.dir.now (codes "sAMAccountName") c.args.text.now)
    (only_one (numbers_with c.args.dir.now (codes "userPrincipalName") c.args.text.now) (Err name_fault.NoObject)))
    (c.only_one.ensures ∙ ap (λ (ns : List ℕ). only_one ns (Err name_fault.NoObject))
    (c.as_slice-then-is_empty.ensures.value ∙ c.in_ok-by_user.ensures)
    ∙ ap (λ (ns : List ℕ). only_one ns (only_one
    (numbers_with c.args.dir.now (codes "userPrincipalName") c.args.text.now) (Err name_fault.NoObject)))
    (sym first))

pub returns : goal.returns
returns c =
    let some : numbers_with c.args.dir.now (codes "sAMAccountName") c.args.text.now ≡ [] → ⊥ = λ none.
    not_empty c.as_slice.result.now c.in_ok-by_account.by_account.items c.is_empty.result c.is_empty.ensures
    c.if-is_empty.false c.as_slice.ensures.value (c.in_ok-by_account.ensures ∙ none) in
    gives c.only_one-2.result
    (only_one (numbers_with c.args.dir.now (codes "sAMAccountName") c.args.text.now)
    (only_one (numbers_with c.args.dir.now (codes "userPrincipalName") c.args.text.now) (Err name_fault.NoObject)))
    (c.only_one-2.ensures ∙ ap (λ (ns : List ℕ). only_one ns (Err name_fault.NoObject))
    (c.as_slice-2.ensures.value ∙ c.in_ok-by_account.ensures)
    ∙ some_first (numbers_with c.args.dir.now (codes "sAMAccountName") c.args.text.now) (Err name_fault.NoObject)
    (only_one (numbers_with c.args.dir.now (codes "userPrincipalName") c.args.text.now) (Err name_fault.NoObject)) some)
