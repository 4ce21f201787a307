-- What the code computes of validated writes is what they say.
use Rattle.std.proofs.Common.{◌≡◌, ℕ, zero, suc, ◌+◌, ◌<◌, Bool, true, false, ◌||◌, List, [], ◌∷◌, ◌++◌, length, map}
use Rattle.std.proofs.Common.{drop, get_or, Some, None, inl, inr, if◌then◌else◌, refl, sym, subst, ap, ◌∙◌, arith}
use Rattle.std.specs.Prelude.{◌==◌, codes, filter}
use Rattle.std.specs.Option.{option_map_or}
use Rattle.std.specs.List.{flat_map, list_any}
use Rattle.std.proofs.Math.Bool.{or-false}
use Rattle.std.proofs.lemmas.Bool.{cases_Bool}
use Rattle.std.proofs.lemmas.List.{append-nil, length-append, at_drop_more}
use Rattle.ad_ids.specs.declared.token.Token.{Token}
use Rattle.ad_dn.specs.declared.rdn.Rdn.{Rdn}
use Rattle.ad_ldap.specs.declared.items.Item.{Item}
use Rattle.ad_dir_objects.specs.declared.object.Stored.{Stored as StoredIn}
use Rattle.ad_dir_objects.specs.Seen.{stored_seen}
use Rattle.ad_dir.specs.Standing.{AreStanding}
use Rattle.ad_dir_model.specs.Object.{Stored, plain, link}
use Rattle.ad_dir_model.specs.Objects.{is_live, object_at, parent_at}
use Rattle.ad_dir_model.specs.Tree.{root, IsAtDepth}
use Rattle.ad_dir_model.specs.Attributes.{member}
use Rattle.ad_dir_model.specs.Directory.{Directory}
use Rattle.ad_dir_model.proofs.Finding.{of-live}
use Rattle.ad_needs_rules.specs.declared.validated.OwnWrite.TheVariants.{Membership, Service, HostName}
use Rattle.ad_needs_rules.specs.Validated.{self_membership, validated_spn, validated_host_name, is_domain_part, joined}
use Rattle.ad_needs_rules.specs.Validated.{is_own_membership, is_own_service, is_own_host_name, if_all, validated_write}
use Rattle.ad_needs_rules.specs.OwnWrites.{shown_in, dotted, is_of_computer, write_of, guid_if}

-- ---- the write of an attribute

by_tests : (dir : Directory) (token : Token) (number : ℕ) (items : List Item) (a b c : Bool)
    → guid_if dir token number items (if a then Some Membership
    else (if b then Some Service else (if c then Some HostName else None)))
    ≡ (if a then if_all (is_own_membership dir token) items self_membership
    else (if b then if_all (is_own_service dir number) items validated_spn
    else (if c then if_all (is_own_host_name dir number) items validated_host_name
    else None)))
by_tests dir token number items true b c = refl
by_tests dir token number items false true c = refl
by_tests dir token number items false false true = refl
by_tests dir token number items false false false = refl

pub by_write : (dir : Directory) (token : Token) (number attr : ℕ) (items : List Item)
    → guid_if dir token number items (write_of dir number attr) ≡ validated_write dir token number attr items
unfolding write_of validated_write
by_write dir token number attr items =
    by_tests dir token number items (option_map_or (λ (own : ℕ). own == attr) (member dir.schema) false)
    (is_of_computer dir number (codes "servicePrincipalName") attr)
    (is_of_computer dir number (codes "dNSHostName") attr)

-- ---- the root is there where any object is

at_depth : (dir : Directory) → AreStanding dir.schema dir.objects → (depth number : ℕ) → is_live dir.objects number
    ≡ true
    → IsAtDepth (parent_at dir.objects) depth number → is_live dir.objects root ≡ true
at_depth dir stands zero number live is = subst (λ (k : ℕ). is_live dir.objects k ≡ true) is live
at_depth dir stands (suc depth) number live is =
    at_depth dir stands depth (parent_at dir.objects number)
    (stands.parents number (object_at dir.objects number) (of-live dir.objects number live) is.0) is.1

pub root_lives : (dir : Directory) (number : ℕ) → AreStanding dir.schema dir.objects → is_live dir.objects number
    ≡ true → is_live dir.objects root ≡ true
root_lives dir number stands live = let placed = stands.placed number live in at_depth dir stands placed.depth number
    live placed.chain

-- ---- stored values

shown_more : (test : List ℕ → Bool) (s : Stored) (rest : List Stored)
    → list_any test (shown_in (s ∷ rest)) ≡ (list_any test (shown_in (s ∷ [])) || list_any test (shown_in rest))
shown_more test (plain value) rest = sym (ap (λ (b : Bool). b || list_any test (shown_in rest))
    (or-false (test value.shown)))
shown_more test (link number) rest = refl

pub shown_here : (test : List ℕ → Bool) (stored : List StoredIn) (i : ℕ) (item : StoredIn) → i < length stored → item
    ≡ get_or stored i item
    → list_any test (shown_in (map stored_seen (drop i stored)))
    ≡ (list_any test (shown_in (stored_seen item ∷ []))
    || list_any test (shown_in (map stored_seen (drop (i + 1) stored))))
shown_here test stored i item lt is =
    at_drop_more (λ (left : List StoredIn). list_any test (shown_in (map stored_seen left))) stored i item lt
    ∙ ap (λ (s : StoredIn). list_any test (shown_in (map stored_seen (s ∷ drop (i + 1) stored)))) (sym is)
    ∙ shown_more test (stored_seen item) (map stored_seen (drop (i + 1) stored))

-- ---- the values of the domain's parts

abbrev pub domain_values : List Rdn → List (List ℕ)
domain_values rdns = map (λ (rdn : Rdn). rdn.value) (filter is_domain_part rdns)

-- each after a dot
abbrev pub dots : List (List ℕ) → List ℕ
dots values = flat_map (λ (value : List ℕ). 46 ∷ value) values

joined_dots : (value : List ℕ) (others : List (List ℕ)) → 46 ∷ joined (value ∷ others) ≡ dots (value ∷ others)
joined_dots value [] = sym (append-nil (46 ∷ value))
joined_dots value (other ∷ others) = ap (λ (x : List ℕ). 46 ∷ (value ++ x)) (joined_dots other others)

dotted_dots : (rdns : List Rdn) → dotted rdns ≡ dots (domain_values rdns)
dotted_dots [] = refl
dotted_dots (rdn ∷ rdns) = elim (cases_Bool (is_domain_part rdn)) [
  | inl is ↦ rw is (ap (λ (x : List ℕ). (46 ∷ rdn.value) ++ x) (dotted_dots rdns))
  | inr not' ↦ rw not' (dotted_dots rdns)
]

none_of : (name full : List ℕ) (values : List (List ℕ)) → full ≡ name ++ dots values → length full ≡ length name
    → full ++ 46 ∷ [] ≡ name ++ 46 ∷ joined values
none_of name full [] is same = ap (λ (x : List ℕ). x ++ 46 ∷ []) (is ∙ append-nil name)
none_of name full (value ∷ others) is same =
    let longer : length full ≡ length name + length (dots (value ∷ others)) = ap length is
    ∙ length-append name (dots (value ∷ others)) in
    absurd (omega arith)

some_of : (name full : List ℕ) (values : List (List ℕ)) → full ≡ name ++ dots values → (length full ≡ length name → ⊥)
    → full ≡ name ++ 46 ∷ joined values
some_of name full [] is differ = absurd (differ (ap length (is ∙ append-nil name)))
some_of name full (value ∷ others) is differ = is ∙ ap (λ (x : List ℕ). name ++ x) (sym (joined_dots value others))

-- where no part is one of the domain, there is the dot alone
pub dot_alone : (name full : List ℕ) (rdns : List Rdn) → full ≡ name ++ dotted rdns → length full ≡ length name
    → full ++ 46 ∷ [] ≡ name ++ 46 ∷ joined (domain_values rdns)
dot_alone name full rdns is same = none_of name full (domain_values rdns)
    (is ∙ ap (λ (x : List ℕ). name ++ x) (dotted_dots rdns)) same

pub dot_and_values : (name full : List ℕ) (rdns : List Rdn) → full ≡ name ++ dotted rdns
    → (length full ≡ length name → ⊥)
    → full ≡ name ++ 46 ∷ joined (domain_values rdns)
dot_and_values name full rdns is differ = some_of name full (domain_values rdns)
    (is ∙ ap (λ (x : List ℕ). name ++ x) (dotted_dots rdns)) differ
