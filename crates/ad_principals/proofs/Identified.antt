-- Objects and their identifiers: an object with one is live, and the object of one is found.
use Rattle.std.proofs.Common.{◌≡◌, ℕ, Bool, true, false, List, [], ◌∷◌, Option, Some, None, inl, inr, refl, sym, ap}
use Rattle.std.proofs.Common.{subst, ◌∙◌}
use Rattle.std.specs.Prelude.{nat_eq, find, is_some, ◌&&◌}
use Rattle.std.specs.List.{AllByRecursion}
use Rattle.std.specs.Option.{option_map, option_and_then}
use Rattle.std.proofs.lemmas.Bool.{cases_Bool, both_ways, false≢true, and_parts}
use Rattle.std.proofs.lemmas.Option.{none-some, same_Some}
use Rattle.ad_ids.specs.SidValue.{SidValue, same_sid_laws}
use Rattle.ad_value.specs.Value.{Value}
use Rattle.ad_value.specs.ValueOf.{sid_of}
use Rattle.ad_schema.specs.declared.line.SchemaRecord.{SchemaRecord}
use Rattle.ad_dir.specs.Standing.{AreStanding}
use Rattle.ad_dir_model.specs.Object.{Object, no_object, stored_in, first_plain}
use Rattle.ad_dir_model.specs.Objects.{numbers, object_of, object_at, is_live}
use Rattle.ad_dir_model.specs.Attributes.{object_sid}
use Rattle.ad_dir_model.specs.Identity.{first_of_attr, sid_in, self_sid, is_sid, with_sid}
use Rattle.ad_dir_model.specs.Directory.{Directory}
use Rattle.ad_dir_model.specs.Protection.{has}
use Rattle.ad_dir_model.proofs.Finding.{of-live, at-of, at_number, at-not_live, found_first, none_found}
use Rattle.ad_dir_model.proofs.EditLaws.{all_by}
use Rattle.ad_principals.specs.Groups.{is_principal, is_security_enabled, has_member, Brings}
use Rattle.ad_principals.specs.Membership.{is_group, is_group_of}
use Rattle.ad_principals.proofs.Rising.{one_sid}

-- ---- numbers of live objects

pub has_numbers : (os : List Object) (n : ℕ) → has (numbers os) n ≡ is_live os n
unfolding numbers object_of
has_numbers [] n = refl
has_numbers (x ∷ xs) n =
    elim (cases_Bool (nat_eq x.number n)) [
      | inl here ↦ rw here refl
      | inr other ↦ rw other (has_numbers xs n)
    ]

pub all_live : (os : List Object) (ns : List ℕ) → ns ≡ numbers os → AllByRecursion (λ (n : ℕ). is_live os n ≡ true) ns
all_live os ns all = all_by (λ (n : ℕ). is_live os n ≡ true) ns
    (λ n is. sym (ap (λ (xs : List ℕ). has xs n) all ∙ has_numbers os n) ∙ is)

-- ---- an object with an identifier is live

none_of_none : (attr : Option ℕ) → option_and_then (λ (value : Value). sid_of value.shown)
    (option_and_then (λ (place : ℕ). first_plain (stored_in [] place)) attr) ≡ None
unfolding stored_in
none_of_none None = refl
none_of_none (Some place) = refl

no_sid_of_none : (schema : List SchemaRecord) → sid_in schema no_object ≡ None
unfolding sid_in first_of_attr
no_sid_of_none schema = none_of_none (object_sid schema)

pub sid_live : (dir : Directory) (n : ℕ) → is_some (self_sid dir n) ≡ true → is_live dir.objects n ≡ true
sid_live dir n is =
    elim (cases_Bool (is_live dir.objects n)) [
      | inl live ↦ live
      | inr gone ↦ absurd (false≢true (sym
          (ap is_some (ap (sid_in dir.schema) (at-not_live dir.objects n gone) ∙ no_sid_of_none dir.schema)) ∙ is))
    ]

pub live_by_sid : (dir : Directory) (n : ℕ) (sid : SidValue) → self_sid dir n ≡ Some sid → is_live dir.objects n ≡ true
live_by_sid dir n sid is = sid_live dir n (ap is_some is)

-- a principal has an identifier, and is live
pub principal_has : (dir : Directory) (n : ℕ) → is_principal dir n ≡ true → is_some (self_sid dir n) ≡ true
principal_has dir n is = (and_parts (is_some (self_sid dir n)) _ is).0

pub principal_live : (dir : Directory) (n : ℕ) → is_principal dir n ≡ true → is_live dir.objects n ≡ true
principal_live dir n is = sid_live dir n (principal_has dir n is)

-- ---- the object of an identifier

is_own : (sid : SidValue) (own : Option SidValue) → is_sid sid own ≡ true → own ≡ Some sid
is_own sid None is = absurd (false≢true is)
is_own sid (Some other) is = ap Some (one_sid other sid is)

pub with_sid_has : (dir : Directory) (sid : SidValue) (n : ℕ) → AreStanding dir.schema dir.objects → with_sid dir sid
    ≡ Some n → self_sid dir n ≡ Some sid
unfolding with_sid
with_sid_has dir sid n stands is = by_found (find (λ (o : Object). is_sid sid (sid_in dir.schema o)) dir.objects) refl
    is
  where
    by_found : (found : Option Object) → find (λ (o : Object). is_sid sid (sid_in dir.schema o)) dir.objects ≡ found
        → option_map (λ (o : Object). o.number) found ≡ Some n → self_sid dir n ≡ Some sid
    by_found None e none = absurd (none-some n none)
    by_found (Some o) e some =
        let first = found_first (λ (o : Object). is_sid sid (sid_in dir.schema o)) 0 dir.objects o stands.rise e in
        subst (λ (k : ℕ). self_sid dir k ≡ Some sid) (same_Some o.number n some)
        (ap (sid_in dir.schema) (at-of dir.objects o.number o first.live) ∙ is_own sid (sid_in dir.schema o)
        first.passes)

pub with_sid_none : (dir : Directory) (sid : SidValue) (n : ℕ) → with_sid dir sid ≡ None → self_sid dir n ≡ Some sid → ⊥
unfolding with_sid
with_sid_none dir sid n is own = by_found (find (λ (o : Object). is_sid sid (sid_in dir.schema o)) dir.objects) refl is
  where
    by_found : (found : Option Object) → find (λ (o : Object). is_sid sid (sid_in dir.schema o)) dir.objects ≡ found
        → option_map (λ (o : Object). o.number) found ≡ None → ⊥
    by_found None e none = both_ways (is_sid sid (self_sid dir n))
        (none_found (λ (o : Object). is_sid sid (sid_in dir.schema o)) dir.objects n (object_at dir.objects n) e
        (of-live dir.objects n (live_by_sid dir n sid own)))
        (ap (is_sid sid) own ∙ same_sid_laws.refl sid)
    by_found (Some o) e some = none-some o.number (sym some)

-- an identifier without an object brings nothing
pub none_brought : (dir : Directory) (sid other : SidValue) → with_sid dir sid ≡ None → Brings dir sid other → ⊥
none_brought dir sid other none (inl is) = with_sid_none dir sid is.member none is.is_member
none_brought dir sid other none (inr had) = with_sid_none dir sid had.number none had.own

-- two objects of one identifier are one
pub one_of_sid : (dir : Directory) (sid : SidValue) (m n : ℕ) → AreStanding dir.schema dir.objects → self_sid dir m
    ≡ Some sid → self_sid dir n ≡ Some sid → m ≡ n
one_of_sid dir sid m n stands of_m of_n =
    let m_live : is_live dir.objects m ≡ true = live_by_sid dir m sid of_m in
    let n_live : is_live dir.objects n ≡ true = live_by_sid dir n sid of_n in
    sym (at_number dir.objects m m_live)
    ∙ stands.own_sid n (object_at dir.objects n) (of-live dir.objects n n_live) m (object_at dir.objects m) sid
    (of-live dir.objects m m_live) of_m of_n
    ∙ at_number dir.objects n n_live

-- ---- the table of all members

pub members_of_all : (dir : Directory) (ns : List ℕ) (table : ℕ → List ℕ) → ns ≡ numbers dir.objects
    → ((member group : ℕ) → has (table member) group ≡ (is_group_of dir member group && has ns group))
    → (member group : ℕ) → has (table member) group ≡ is_group_of dir member group
members_of_all dir ns table all are member group = are member group ∙ by_test (is_group_of dir member group) refl
  where
    live : is_group_of dir member group ≡ true → has ns group ≡ true
    live is =
        let group_is = (and_parts (is_group dir group) (has_member dir group member) is).0 in
        let some = (and_parts (is_some (self_sid dir group)) (is_security_enabled dir group) group_is).0 in
        ap (λ (xs : List ℕ). has xs group) all ∙ has_numbers dir.objects group ∙ sid_live dir group some

    by_test : (b : Bool) → is_group_of dir member group ≡ b → (b && has ns group) ≡ b
    by_test true is = live is
    by_test false is = refl
