-- The identifiers without a principal are those of the identities that have no object, whether they have a token or not.
use Rattle.std.proofs.Common.{◌≡◌, ◌∙◌, ℕ, Bool, true, false, ◌||◌, Option, Some, None, List, [], ◌∷◌, ◌++◌, inl, inr, refl}
use Rattle.std.proofs.Common.{sym, ap, map}
use Rattle.std.specs.Prelude.{filter_map}
use Rattle.std.specs.List.{AllByRecursion, IsDistinct}
use Rattle.std.specs.Option.{option_map_or}
use Rattle.std.proofs.lemmas.Bool.{or_parts, false_from_ne_true}
use Rattle.std.proofs.lemmas.List.Elements.{filter_map-append}
use Rattle.ad_ids.specs.SidValue.{SidValue, same_sid, contains_sid, same_sid_laws}
use Rattle.ad_ids.specs.declared.token.Token.{Token}
use Rattle.ad_dir_model.specs.Directory.{Directory}
use Rattle.ad_dir_model.specs.Identity.{self_sid}
use Rattle.ad_principals.specs.Groups.{principals}
use Rattle.ad_principals.specs.Tokens.{is_before, SidsRise}
use Rattle.ad_principals.proofs.Rising.{one_sid, not_both}
use Rattle.ad_principals.proofs.Sets.{has_append}
use Rattle.ad_identities.specs.declared.identity.Identity.{Identity}
use Rattle.ad_identities.specs.Identities.{identity_at, lone, AreIdentities}
use Rattle.ad_rights_rows.specs.Rows.{AreParties}
use Rattle.ad_control_nodes.specs.Steps.{lone_sid}

abbrev pub lones : List Identity → List SidValue
lones all = filter_map lone_sid all

-- ---- one identity more

first_none : (identity : Identity) (all : List Identity) → identity.number ≡ None
    → lones (identity ∷ all) ≡ identity.sid ∷ lones all
first_none identity all is = rw is refl

first_some : (identity : Identity) (all : List Identity) (number : ℕ) → identity.number ≡ Some number
    → lones (identity ∷ all) ≡ lones all
first_some identity all number is = rw is refl

abbrev is_lone : Identity → SidValue → Bool
is_lone identity sid = option_map_or (λ s. same_sid s sid) (lone_sid identity) false

first_has : (identity : Identity) (all : List Identity) (sid : SidValue)
    → contains_sid (lones (identity ∷ all)) sid ≡ (is_lone identity sid || contains_sid (lones all) sid)
first_has identity all sid = by identity.number refl
  where
    by : (number : Option ℕ) → identity.number ≡ number
        → contains_sid (lones (identity ∷ all)) sid ≡ (is_lone identity sid || contains_sid (lones all) sid)
    by None is = rw is refl
    by (Some number) is = rw is refl

-- ---- those with a token, and those without

or_assoc : (a b c : Bool) → ((a || b) || c) ≡ (a || (b || c))
or_assoc true b c = refl
or_assoc false b c = refl

or_middle : (a b c : Bool) → (a || (b || c)) ≡ (b || (a || c))
or_middle true true c = refl
or_middle true false c = refl
or_middle false b c = refl

pub parted : (dir : Directory) (all members : List Identity) (tokens : List Token) (without : List Identity)
    (sid : SidValue) → AreParties dir all members tokens without
    → (contains_sid (lones members) sid || contains_sid (lones without) sid) ≡ contains_sid (lones all) sid
parted dir [] members tokens without sid are =
    ap (λ l. contains_sid (lones l) sid || contains_sid (lones without) sid) are.0
    ∙ ap (λ l. contains_sid (lones l) sid) are.1.1
parted dir (i ∷ all) members tokens without sid (inl w) =
    ap (λ l. contains_sid (lones l) sid || contains_sid (lones without) sid) w.4
    ∙ ap (λ b. b || contains_sid (lones without) sid) (first_has i w.1 sid)
    ∙ or_assoc (is_lone i sid) (contains_sid (lones w.1) sid) (contains_sid (lones without) sid)
    ∙ ap (λ b. is_lone i sid || b) (parted dir all w.1 w.2 without sid w.6)
    ∙ sym (first_has i all sid)
parted dir (i ∷ all) members tokens without sid (inr w) =
    ap (λ l. contains_sid (lones members) sid || contains_sid (lones l) sid) w.2
    ∙ ap (λ b. contains_sid (lones members) sid || b) (first_has i w.0 sid)
    ∙ or_middle (contains_sid (lones members) sid) (is_lone i sid) (contains_sid (lones w.0) sid)
    ∙ ap (λ b. is_lone i sid || b) (parted dir all members tokens w.0 sid w.3)
    ∙ sym (first_has i all sid)

-- ---- each once

abbrev AreApart : SidValue → List SidValue → Type 0
AreApart sid sids = AllByRecursion (λ s. same_sid sid s ≡ false) sids

apart : (sid : SidValue) (sids : List SidValue) → contains_sid sids sid ≡ false → AreApart sid sids
apart sid [] none = tt
apart sid (s ∷ sids) none =
    let parts = or_parts (same_sid s sid) (contains_sid sids sid) none in
    (same_sid_laws.symm sid s ∙ parts.0, apart sid sids parts.1)

is_apart : (sid : SidValue) (sids : List SidValue) → AreApart sid sids → contains_sid sids sid ≡ false
is_apart sid [] all = refl
is_apart sid (s ∷ sids) all = rw (same_sid_laws.symm s sid ∙ all.0) (is_apart sid sids all.1)

apart_middle : (x s : SidValue) (xs ys : List SidValue) → AreApart x (xs ++ ys) → same_sid x s ≡ false
    → AreApart x (xs ++ s ∷ ys)
apart_middle x s [] ys all one = (one, all)
apart_middle x s (y ∷ xs) ys all one = (all.0, apart_middle x s xs ys all.1 one)

middle : (s : SidValue) (xs ys : List SidValue) → IsDistinct same_sid (xs ++ ys) → contains_sid (xs ++ ys) s ≡ false
    → IsDistinct same_sid (xs ++ s ∷ ys)
unfolding IsDistinct
middle s [] ys distinct none = (apart s ys none, distinct)
middle s (x ∷ xs) ys distinct none =
    let parts = or_parts (same_sid x s) (contains_sid (xs ++ ys) s) none in
    (apart_middle x s xs ys distinct.0 parts.0, middle s xs ys distinct.1 parts.1)

pub distinct : (dir : Directory) (all members : List Identity) (tokens : List Token) (without : List Identity)
    → AreParties dir all members tokens without → IsDistinct same_sid (lones all)
    → IsDistinct same_sid (lones members ++ lones without)
unfolding IsDistinct
distinct dir [] members tokens without are once =
    rw are.0 (rw are.1.1 tt)
distinct dir (i ∷ all) members tokens without (inl w) once =
    rw w.4 (by i.number refl (distinct dir all w.1 w.2 without w.6))
  where
    by : (number : Option ℕ) → i.number ≡ number
        → (IsDistinct same_sid (lones all) → IsDistinct same_sid (lones w.1 ++ lones without))
        → IsDistinct same_sid (lones (i ∷ w.1) ++ lones without)
    by None is rest =
        let each : IsDistinct same_sid (i.sid ∷ lones all) = rw (first_none i all is) at once in
        rw (first_none i w.1 is) (
          apart i.sid (lones w.1 ++ lones without)
              (has_append (lones w.1) (lones without) i.sid ∙ parted dir all w.1 w.2 without i.sid w.6
              ∙ is_apart i.sid (lones all) each.0),
          rest each.1,
        )
    by (Some number) is rest =
        rw (first_some i w.1 number is) (rest (rw (first_some i all number is) at once))
distinct dir (i ∷ all) members tokens without (inr w) once =
    rw w.2 (by i.number refl (distinct dir all members tokens w.0 w.3))
  where
    by : (number : Option ℕ) → i.number ≡ number
        → (IsDistinct same_sid (lones all) → IsDistinct same_sid (lones members ++ lones w.0))
        → IsDistinct same_sid (lones members ++ lones (i ∷ w.0))
    by None is rest =
        let each : IsDistinct same_sid (i.sid ∷ lones all) = rw (first_none i all is) at once in
        rw (first_none i w.0 is)
        (middle i.sid (lones members) (lones w.0) (rest each.1)
        (has_append (lones members) (lones w.0) i.sid ∙ parted dir all members tokens w.0 i.sid w.3
        ∙ is_apart i.sid (lones all) each.0))
    by (Some number) is rest =
        rw (first_some i w.0 number is) (rest (rw (first_some i all number is) at once))

-- ---- those of all identities

none_lone : (dir : Directory) (ns : List ℕ) → lones (filter_map (identity_at dir) ns) ≡ []
none_lone dir [] = refl
none_lone dir (n ∷ ns) = by (self_sid dir n) refl (none_lone dir ns)
  where
    by : (sid : Option SidValue) → self_sid dir n ≡ sid → lones (filter_map (identity_at dir) ns) ≡ []
        → lones (filter_map (identity_at dir) (n ∷ ns)) ≡ []
    by None is others = rw is others
    by (Some sid) is others = rw is others

all_lone : (sids : List SidValue) → lones (map lone sids) ≡ sids
all_lone [] = refl
all_lone (s ∷ sids) = ap (λ l. s ∷ l) (all_lone sids)

pub lone_identities : (dir : Directory) (all : List Identity) (are : AreIdentities dir all) → lones all ≡ are.others
lone_identities dir all are =
    ap lones are.are
    ∙ filter_map-append lone_sid (filter_map (identity_at dir) (principals dir)) (map lone are.others)
    ∙ ap (λ l. l ++ lones (map lone are.others)) (none_lone dir (principals dir))
    ∙ all_lone are.others

rise_apart : (x : SidValue) (sids : List SidValue) → AllByRecursion (λ s. is_before x s ≡ true) sids → AreApart x sids
rise_apart x [] rise = tt
rise_apart x (s ∷ sids) rise = (
  false_from_ne_true (same_sid x s) (λ same.
      let own : is_before x x ≡ true = ap (is_before x) (one_sid x s same) ∙ rise.0 in not_both x x own own),
  rise_apart x sids rise.1,
)

pub rise_distinct : (sids : List SidValue) → SidsRise sids → IsDistinct same_sid sids
unfolding IsDistinct
rise_distinct [] rise = tt
rise_distinct (s ∷ sids) rise = (rise_apart s sids rise.0, rise_distinct sids rise.1)
