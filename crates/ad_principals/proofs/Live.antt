-- What a text names is there.
use Rattle.std.proofs.Common.{◌≡◌, ℕ, Bool, true, false, List, [], ◌∷◌, Option, Some, None, inl, inr, refl, sym, ap}
use Rattle.std.proofs.Common.{◌+◌, take, drop, subst, ◌∙◌}
use Rattle.std.specs.Prelude.{nat_eq, ◌==◌, if◌then◌else◌, position, filter, Result, Ok, Err, IfOk}
use Rattle.std.specs.Prelude.{codes}
use Rattle.std.specs.Option.{option_map_or}
use Rattle.std.proofs.lemmas.Bool.{cases_Bool, or_cases, or_left, or_right, eq-eqb}
use Rattle.ad_bytes.specs.Reading.{GivesUnless}
use Rattle.ad_ids.specs.SidValue.{SidValue}
use Rattle.ad_ids.specs.SidFront.{sid_of_text}
use Rattle.ad_dn.specs.declared.rdn.Dn.{Dn}
use Rattle.ad_dn.specs.Reading.{dn_of}
use Rattle.ad_value.specs.Value.{Value}
use Rattle.ad_value.specs.ValueOf.{normal_or_fault}
use Rattle.ad_value.specs.declared.fault.ValueFault.{ValueFault}
use Rattle.ad_value.specs.declared.syntax.Syntax.TheVariants as syntax
use Rattle.ad_dir.specs.Standing.{AreStanding}
use Rattle.ad_dir_model.specs.Objects.{numbers, is_live}
use Rattle.ad_dir_model.specs.Attributes.{attr_place}
use Rattle.ad_dir_model.specs.Identity.{with_sid}
use Rattle.ad_dir_model.specs.Directory.{Directory}
use Rattle.ad_dir_model.specs.Protection.{has}
use Rattle.ad_dir_model.specs.Names.{found}
use Rattle.ad_dir_model.proofs.Named.{found_live}
use Rattle.ad_principals.specs.declared.fault.NameFault.{NameFault}
use Rattle.ad_principals.specs.declared.fault.NameFault.TheVariants as name_fault
use Rattle.ad_principals.specs.Named.{has_text, numbers_with, only_one, account_named, or_no_object, named, is_memory}
use Rattle.ad_principals.specs.Named.{is_domain_name, account_only, backslash, account_at, any_account}
use Rattle.ad_principals.proofs.Identified.{has_numbers, with_sid_has, live_by_sid}

-- ---- by the name of an account

left_in : (test : ℕ → Bool) (ns : List ℕ) (n : ℕ) → has (filter test ns) n ≡ true → has ns n ≡ true
left_in test [] n is = is
left_in test (m ∷ ms) n is = elim (cases_Bool (test m)) [
  | inl stays ↦ elim (or_cases (nat_eq m n) (has (filter test ms) n) (rw stays at is)) [
    | inl here ↦ or_left (nat_eq m n) (has ms n) here
    | inr behind ↦ or_right (nat_eq m n) (has ms n) (left_in test ms n behind)
  ]
  | inr goes ↦ or_right (nat_eq m n) (has ms n) (left_in test ms n (rw goes at is))
]

abbrev ok_of : ℕ → Result ℕ NameFault
ok_of n = Ok n

numbers_live : (dir : Directory) (name : List ℕ) (text : Value) (n : ℕ) → has (numbers_with dir name text) n ≡ true
    → is_live dir.objects n ≡ true
unfolding numbers_with
numbers_live dir name text n is =
    sym (has_numbers dir.objects n) ∙ left_in (has_text dir (attr_place dir.schema name) text) (numbers dir.objects) n
    is

ok_same : (a b : ℕ) → ok_of a ≡ ok_of b → a ≡ b
ok_same a b e = cc

one_live : (dir : Directory) (name : List ℕ) (text : Value) (otherwise : Result ℕ NameFault) (n : ℕ)
    → only_one (numbers_with dir name text) otherwise ≡ Ok n → (otherwise ≡ Ok n → is_live dir.objects n ≡ true)
    → is_live dir.objects n ≡ true
one_live dir name text otherwise n is rest = by_list (numbers_with dir name text) refl is
  where
    by_list : (ns : List ℕ) → numbers_with dir name text ≡ ns → only_one ns otherwise ≡ Ok n → is_live dir.objects n
        ≡ true
    by_list [] e none = rest none
    by_list (m ∷ []) e one =
        numbers_live dir name text n (ap (λ (ns : List ℕ). has ns n) e
        ∙ subst (λ (k : ℕ). has (m ∷ []) k ≡ true) (ok_same m n one) (or_left (nat_eq m m) false (eq-eqb m m refl)))
    by_list (m ∷ k ∷ ns) e several = absurd cc

account_live : (dir : Directory) (text : Result Value ValueFault) (n : ℕ) → account_named dir text ≡ Ok n
    → is_live dir.objects n ≡ true
account_live dir (Ok text) n is =
    one_live dir (codes "sAMAccountName") text
    (only_one (numbers_with dir (codes "userPrincipalName") text) (Err name_fault.NoObject)) n is
    (λ second. one_live dir (codes "userPrincipalName") text (Err name_fault.NoObject) n second (λ never. absurd cc))
account_live dir (Err cause) n is = absurd cc

-- ---- by the name of an account of the domain

only_live : (dir : Directory) (text : Result Value ValueFault) (n : ℕ) → account_only dir text ≡ Ok n
    → is_live dir.objects n ≡ true
only_live dir (Ok text) n is = one_live dir (codes "sAMAccountName") text (Err name_fault.NoObject) n is
    (λ never. absurd cc)
only_live dir (Err cause) n is = absurd cc

at_live : (dir : Directory) (text : List ℕ) (place n : ℕ) → account_at dir text place ≡ Ok n → is_live dir.objects n
    ≡ true
at_live dir text place n is = by_test (is_domain_name dir (normal_or_fault syntax.Unicode (take place text))) is
  where
    by_test : (b : Bool) → (if b then account_only dir (normal_or_fault syntax.Unicode (drop (place + 1) text))
        else account_named dir (normal_or_fault syntax.Unicode text)) ≡ Ok n → is_live dir.objects n ≡ true
    by_test true it = only_live dir (normal_or_fault syntax.Unicode (drop (place + 1) text)) n it
    by_test false it = account_live dir (normal_or_fault syntax.Unicode text) n it

any_live : (dir : Directory) (text : List ℕ) (n : ℕ) → any_account dir text ≡ Ok n → is_live dir.objects n ≡ true
unfolding any_account
any_live dir text n is = by_place (position (λ b. b == backslash) text) is
  where
    by_place : (at : Option ℕ) → option_map_or (account_at dir text) at
        (account_named dir (normal_or_fault syntax.Unicode text)) ≡ Ok n → is_live dir.objects n ≡ true
    by_place None it = account_live dir (normal_or_fault syntax.Unicode text) n it
    by_place (Some place) it = at_live dir text place n it

-- ---- any name

some_found : (found : Option ℕ) (n : ℕ) → or_no_object found ≡ Ok n → found ≡ Some n
some_found None n is = absurd cc
some_found (Some m) n is = ap Some (ok_same m n is)

pub named_live : (dir : Directory) (text : List ℕ) (n : ℕ) → AreStanding dir.schema dir.objects → named dir text
    ≡ Ok n → is_live dir.objects n ≡ true
unfolding named
named_live dir text n stands is = by_name (dn_of text) is
  where
    by_sid : (sid : Option SidValue) → option_map_or (λ (s : SidValue). or_no_object (with_sid dir s)) sid
        (any_account dir text) ≡ Ok n
        → is_live dir.objects n ≡ true
    by_sid None it = any_live dir text n it
    by_sid (Some s) it = live_by_sid dir n s (with_sid_has dir s n stands (some_found (with_sid dir s) n it))

    by_name : (dn : Option Dn) → option_map_or (λ (d : Dn). or_no_object (found dir d.rdns)) dn
        (option_map_or (λ (s : SidValue). or_no_object (with_sid dir s)) (sid_of_text text)
        (any_account dir text)) ≡ Ok n
        → is_live dir.objects n ≡ true
    by_name None it = by_sid (sid_of_text text) it
    by_name (Some d) it = found_live dir d.rdns n stands.rise (some_found (found dir d.rdns) n it)

pub given_live : (dir : Directory) (text : List ℕ) (r : Result ℕ NameFault) → AreStanding dir.schema dir.objects
    → GivesUnless is_memory (λ (n : ℕ). n) r (named dir text) → IfOk r (λ n. is_live dir.objects n ≡ true)
given_live dir text (Ok n) stands is = named_live dir text n stands is
given_live dir text (Err fault) stands is = tt
