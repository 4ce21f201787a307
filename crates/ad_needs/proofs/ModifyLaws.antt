-- What the code says of a Modify, part by part, is what its checks say.
use Rattle.std.proofs.Common.{◌≡◌, ℕ, ◌+◌, ◌<◌, ◌≤◌, Bool, true, false, not, List, [], ◌∷◌, ◌++◌, length, take, drop}
use Rattle.std.proofs.Common.{get_or, Option, Some, None, if◌then◌else◌, refl, sym, ap, ◌∙◌}
use Rattle.std.specs.Prelude.{is_some, unwrap_or}
use Rattle.std.specs.List.{flat_map, list_any}
use Rattle.std.proofs.lemmas.List.{map-append, at_drop_more, at_drop_all, take_more}
use Rattle.ad_ids.specs.declared.guid.Guid.{Guid}
use Rattle.ad_ids.specs.declared.token.Token.{Token}
use Rattle.ad_acl.specs.Mask.{write_owner, write_dac, access_system_security}
use Rattle.ad_sd.specs.declared.parts.SdParts.{SdParts}
use Rattle.ad_dn.specs.declared.rdn.Rdn.{Rdn}
use Rattle.ad_dn.specs.declared.rdn.Dn.{Dn}
use Rattle.ad_dn.specs.Reading.{dn_of}
use Rattle.ad_ldap.specs.declared.items.Item.{Item}
use Rattle.ad_ldap.specs.declared.requests.Modify.{Modify}
use Rattle.ad_ldap.specs.declared.controls.Settings.{Settings}
use Rattle.ad_ldap.specs.MessageValue.{ModifyOf}
use Rattle.ad_dir_model.specs.Attributes.{attr_place}
use Rattle.ad_dir_model.specs.Directory.{Directory}
use Rattle.ad_access_dir.specs.Sight.{is_granted, visible_of, matched}
use Rattle.ad_needs_rules.specs.declared.outcome.Verdict.{Verdict}
use Rattle.ad_needs_rules.specs.declared.outcome.Verdict.TheVariants.{Granted, Refused}
use Rattle.ad_needs_rules.specs.Needs.{Alternative, needs, is_met}
use Rattle.ad_needs_rules.specs.Checks.{Check, hidden, or_code, or_missing, all_met, first_failing, by_checks}
use Rattle.ad_needs_rules.specs.Requests.{object_named}
use Rattle.ad_needs_rules.specs.Descriptors.{has_owner_or_group}
use Rattle.ad_needs_rules.specs.Modifying.{need_if, parts_needs}
use Rattle.ad_needs_rules.specs.Modifying.{is_item_of, ordinary_checks, item_checks, needs_behind, modify_needs}
use Rattle.ad_needs_rules.specs.Modifying.{modify_checks}
use Rattle.ad_needs_rules.specs.Verdicts.{verdict_of}
use Rattle.ad_needs_rules.specs.Judged.{refusal_of}
use Rattle.ad_needs.specs.ItemWords.{placed_checks, needs_if, named_needs, act_at, verdict_at, verdict_found}
use Rattle.ad_needs.specs.ItemWords.{verdict_named}
use Rattle.ad_needs_rules.proofs.Refusing.{goes_on, stops, refuses, grants}

-- ---- checks of items, one after the other

items_here : (f : Item → List Check) (items : List Item) (i : ℕ) (item : Item) → i < length items → item
    ≡ get_or items i item
    → flat_map f (drop i items) ≡ f item ++ flat_map f (drop (i + 1) items)
items_here f items i item lt is =
    at_drop_more (flat_map f) items i item lt ∙ ap (λ (x : Item). f x ++ flat_map f (drop (i + 1) items)) (sym is)

pub item_stops : (f : Item → List Check) (items : List Item) (i : ℕ) (item : Item) (verdict : Verdict) → i
    < length items → item ≡ get_or items i item
    → Some verdict ≡ refusal_of (f item) → refusal_of (flat_map f (drop i items)) ≡ refusal_of (flat_map f items)
    → Some verdict ≡ refusal_of (flat_map f items)
item_stops f items i item verdict lt is some so_far =
    stops (f item) (flat_map f (drop (i + 1) items)) verdict some
    ∙ sym (ap refusal_of (items_here f items i item lt is)) ∙ so_far

pub item_goes_on : (f : Item → List Check) (items : List Item) (i : ℕ) (item : Item) → i < length items → item
    ≡ get_or items i item
    → None ≡ refusal_of (f item) → refusal_of (flat_map f (drop i items)) ≡ refusal_of (flat_map f items)
    → refusal_of (flat_map f (drop (i + 1) items)) ≡ refusal_of (flat_map f items)
item_goes_on f items i item lt is none so_far =
    sym (goes_on (f item) (flat_map f (drop (i + 1) items)) none)
    ∙ sym (ap refusal_of (items_here f items i item lt is)) ∙ so_far

pub items_end : (f : Item → List Check) (items : List Item) (i : ℕ) → length items ≤ i
    → refusal_of (flat_map f (drop i items)) ≡ refusal_of (flat_map f items) → None ≡ refusal_of (flat_map f items)
unfolding refusal_of first_failing
items_end f items i le so_far = sym (at_drop_all (λ (left : List Item). refusal_of (flat_map f left)) items i le)
    ∙ so_far

-- ---- an attribute of the schema

pub at_its_place : (dir : Directory) (number : ℕ) (items : List Item) (item : Item) (attr : ℕ)
    → attr_place dir.schema item.attr ≡ Some attr
    → refusal_of (placed_checks dir number items item.attr attr) ≡ refusal_of (ordinary_checks dir number items item)
unfolding refusal_of first_failing
at_its_place dir number items item attr is = rw is refl

pub at_no_place : (dir : Directory) (number : ℕ) (items : List Item) (item : Item) → attr_place dir.schema item.attr
    ≡ None
    → Some (Refused 17) ≡ refusal_of (ordinary_checks dir number items item)
unfolding refusal_of first_failing
at_no_place dir number items item is = rw is refl

-- ---- needs before others

all_met_more : (dir : Directory) (token : Token) (xs ys : List (List Alternative)) → all_met dir token (xs ++ ys)
    ≡ all_met dir token xs ++ all_met dir token ys
all_met_more dir token xs ys = map-append (or_missing dir token) xs ys

pub need_stops : (dir : Directory) (token : Token) (xs ys : List (List Alternative)) (verdict : Verdict)
    → Some verdict ≡ refusal_of (all_met dir token xs) → Some verdict ≡ refusal_of (all_met dir token (xs ++ ys))
need_stops dir token xs ys verdict some =
    stops (all_met dir token xs) (all_met dir token ys) verdict some
    ∙ sym (ap refusal_of (all_met_more dir token xs ys))

pub need_goes_on : (dir : Directory) (token : Token) (xs ys : List (List Alternative))
    → None ≡ refusal_of (all_met dir token xs) → refusal_of (all_met dir token (xs ++ ys))
    ≡ refusal_of (all_met dir token ys)
need_goes_on dir token xs ys none =
    ap refusal_of (all_met_more dir token xs ys) ∙ goes_on (all_met dir token xs) (all_met dir token ys) none

-- ---- the parts of a descriptor

pub owner_stops : (dir : Directory) (token : Token) (number : ℕ) (parts : SdParts) (owned : Bool) (verdict : Verdict)
    → owned ≡ has_owner_or_group parts
    → Some verdict ≡ refusal_of (all_met dir token (need_if owned number write_owner)) → Some verdict
    ≡ refusal_of (all_met dir token (parts_needs number parts))
owner_stops dir token number parts owned verdict is some =
    need_stops dir token (need_if (has_owner_or_group parts) number write_owner)
    (need_if (is_some parts.dacl) number write_dac ++ need_if (is_some parts.sacl) number access_system_security)
    verdict
    (some ∙ ap (λ (b : Bool). refusal_of (all_met dir token (need_if b number write_owner))) is)

owner_goes_on : (dir : Directory) (token : Token) (number : ℕ) (parts : SdParts) (owned : Bool) → owned
    ≡ has_owner_or_group parts
    → None ≡ refusal_of (all_met dir token (need_if owned number write_owner))
    → refusal_of (all_met dir token (parts_needs number parts))
    ≡ refusal_of (all_met dir token (need_if (is_some parts.dacl) number write_dac ++ need_if (is_some parts.sacl)
    number access_system_security))
owner_goes_on dir token number parts owned is none =
    need_goes_on dir token (need_if (has_owner_or_group parts) number write_owner)
    (need_if (is_some parts.dacl) number write_dac ++ need_if (is_some parts.sacl) number access_system_security)
    (none ∙ ap (λ (b : Bool). refusal_of (all_met dir token (need_if b number write_owner))) is)

pub list_stops : (dir : Directory) (token : Token) (number : ℕ) (parts : SdParts) (owned listed : Bool)
    (verdict : Verdict) → owned ≡ has_owner_or_group parts
    → None ≡ refusal_of (all_met dir token (need_if owned number write_owner)) → listed ≡ is_some parts.dacl
    → Some verdict ≡ refusal_of (all_met dir token (need_if listed number write_dac)) → Some verdict
    ≡ refusal_of (all_met dir token (parts_needs number parts))
list_stops dir token number parts owned listed verdict is none is' some =
    need_stops dir token (need_if (is_some parts.dacl) number write_dac)
    (need_if (is_some parts.sacl) number access_system_security) verdict
    (some ∙ ap (λ (b : Bool). refusal_of (all_met dir token (need_if b number write_dac))) is')
    ∙ sym (owner_goes_on dir token number parts owned is none)

pub list_goes_on : (dir : Directory) (token : Token) (number : ℕ) (parts : SdParts) (owned listed audited : Bool)
    (refusal : Option Verdict) → owned ≡ has_owner_or_group parts
    → None ≡ refusal_of (all_met dir token (need_if owned number write_owner)) → listed ≡ is_some parts.dacl
    → None ≡ refusal_of (all_met dir token (need_if listed number write_dac)) → audited ≡ is_some parts.sacl
    → refusal ≡ refusal_of (all_met dir token (need_if audited number access_system_security)) → refusal
    ≡ refusal_of (all_met dir token (parts_needs number parts))
list_goes_on dir token number parts owned listed audited refusal is none is' none' is'' last =
    last
    ∙ ap (λ (b : Bool). refusal_of (all_met dir token (need_if b number access_system_security))) is''
    ∙ sym (need_goes_on dir token (need_if (is_some parts.dacl) number write_dac)
    (need_if (is_some parts.sacl) number access_system_security)
    (none' ∙ ap (λ (b : Bool). refusal_of (all_met dir token (need_if b number write_dac))) is'))
    ∙ sym (owner_goes_on dir token number parts owned is none)

-- the first alternative of a required right
pub first_met : (dir : Directory) (token : Token) (object bit : ℕ) (path : List Guid) (others : List Alternative)
    → true ≡ is_granted dir token object path bit
    → None ≡ refusal_of (all_met dir token ((needs object bit path ∷ others) ∷ []))
unfolding refusal_of first_failing is_met
first_met dir token object bit path others is = rw (sym is) refl

-- ---- needs of items, one after the other

-- what is said of the items from a place on
abbrev pub said_from : Directory → Token → ℕ → ℕ → List Item → ℕ → Option Verdict
said_from dir token number flags items i = refusal_of
    (all_met dir token (needs_behind dir token number flags items (take i items) (drop i items)))

-- what the item of a place needs
abbrev pub needs_at : Directory → Token → ℕ → ℕ → List Item → ℕ → Item → List (List Alternative)
needs_at dir token number flags items i item =
    needs_if (not (list_any (is_item_of item.attr) (take i items))) (named_needs dir token number flags items item.attr)

unless : (test : Bool) (requirements : List (List Alternative)) → (if test then [] else requirements)
    ≡ needs_if (not test) requirements
unless true requirements = refl
unless false requirements = refl

pub needs_here : (dir : Directory) (token : Token) (number flags : ℕ) (items : List Item) (i : ℕ) (item : Item) → i
    < length items → item ≡ get_or items i item
    → needs_behind dir token number flags items (take i items) (drop i items)
    ≡ needs_at dir token number flags items i item ++ needs_behind dir token number flags items (take (i + 1) items)
    (drop (i + 1) items)
unfolding needs_behind
needs_here dir token number flags items i item lt is =
    at_drop_more (needs_behind dir token number flags items (take i items)) items i item lt
    ∙ ap (λ (x : Item). needs_behind dir token number flags items (take i items) (x ∷ drop (i + 1) items)) (sym is)
    ∙ ap (λ (own : List (List Alternative)). own ++ needs_behind dir token number flags items
    (take i items ++ item ∷ []) (drop (i + 1) items))
    (unless (list_any (is_item_of item.attr) (take i items)) (named_needs dir token number flags items item.attr))
    ∙ ap (λ (earlier : List Item). needs_at dir token number flags items i item ++ needs_behind dir token number flags
    items earlier (drop (i + 1) items))
    (sym (take_more items i item lt ∙ ap (λ (x : Item). take i items ++ x ∷ []) (sym is)))

pub needs_stop : (dir : Directory) (token : Token) (number flags : ℕ) (items : List Item) (i : ℕ) (item : Item)
    (first : Bool) (verdict : Verdict)
    → i < length items → item ≡ get_or items i item → first ≡ not (list_any (is_item_of item.attr) (take i items))
    → Some verdict ≡ refusal_of (all_met dir token
    (needs_if first (named_needs dir token number flags items item.attr)))
    → said_from dir token number flags items i ≡ said_from dir token number flags items 0
    → Some verdict ≡ refusal_of (all_met dir token (modify_needs dir token number flags items))
needs_stop dir token number flags items i item first verdict lt is by some so_far =
    need_stops dir token (needs_at dir token number flags items i item)
    (needs_behind dir token number flags items (take (i + 1) items) (drop (i + 1) items)) verdict
    (some ∙ ap (λ (test : Bool). refusal_of
    (all_met dir token (needs_if test (named_needs dir token number flags items item.attr)))) by)
    ∙ sym (ap (λ (requirements : List (List Alternative)). refusal_of (all_met dir token requirements))
    (needs_here dir token number flags items i item lt is))
    ∙ so_far

pub needs_go_on : (dir : Directory) (token : Token) (number flags : ℕ) (items : List Item) (i : ℕ) (item : Item)
    (first : Bool)
    → i < length items → item ≡ get_or items i item → first ≡ not (list_any (is_item_of item.attr) (take i items))
    → None ≡ refusal_of (all_met dir token (needs_if first (named_needs dir token number flags items item.attr)))
    → said_from dir token number flags items i ≡ said_from dir token number flags items 0
    → said_from dir token number flags items (i + 1) ≡ said_from dir token number flags items 0
needs_go_on dir token number flags items i item first lt is by none so_far =
    sym (need_goes_on dir token (needs_at dir token number flags items i item)
    (needs_behind dir token number flags items (take (i + 1) items) (drop (i + 1) items))
    (none ∙ ap (λ (test : Bool). refusal_of
    (all_met dir token (needs_if test (named_needs dir token number flags items item.attr)))) by))
    ∙ sym (ap (λ (requirements : List (List Alternative)). refusal_of (all_met dir token requirements))
    (needs_here dir token number flags items i item lt is))
    ∙ so_far

-- the items of one more
pub taken_more : (items : List Item) (i : ℕ) (item : Item) → i < length items → item ≡ get_or items i item
    → take i items ++ item ∷ [] ≡ take (i + 1) items
taken_more items i item lt is = sym (take_more items i item lt ∙ ap (λ (x : Item). take i items ++ x ∷ []) (sym is))

pub needs_end : (dir : Directory) (token : Token) (number flags : ℕ) (items : List Item) (i : ℕ) → length items ≤ i
    → said_from dir token number flags items i ≡ said_from dir token number flags items 0
    → None ≡ refusal_of (all_met dir token (modify_needs dir token number flags items))
unfolding refusal_of first_failing needs_behind
needs_end dir token number flags items i le so_far =
    sym (at_drop_all (λ (left : List Item). refusal_of
    (all_met dir token (needs_behind dir token number flags items (take i items) left))) items i le) ∙ so_far

-- ---- the verdict

pub item_refused : (dir : Directory) (token : Token) (number : ℕ) (items : List Item) (flags : ℕ) (verdict : Verdict)
    → Some verdict ≡ refusal_of (flat_map (item_checks dir number flags items) items) → verdict
    ≡ verdict_at dir token number items flags
item_refused dir token number items flags verdict some =
    let own = flat_map (item_checks dir number flags items) items in
    let needed = all_met dir token (modify_needs dir token number flags items) in
    refuses (own ++ needed) (act_at dir number items flags) verdict (stops own needed verdict some)

pub need_refused : (dir : Directory) (token : Token) (number : ℕ) (items : List Item) (flags : ℕ) (verdict : Verdict)
    → None ≡ refusal_of (flat_map (item_checks dir number flags items) items)
    → Some verdict ≡ refusal_of (all_met dir token (modify_needs dir token number flags items)) → verdict
    ≡ verdict_at dir token number items flags
need_refused dir token number items flags verdict none some =
    let own = flat_map (item_checks dir number flags items) items in
    let needed = all_met dir token (modify_needs dir token number flags items) in
    refuses (own ++ needed) (act_at dir number items flags) verdict (some ∙ sym (goes_on own needed none))

pub all_granted : (dir : Directory) (token : Token) (number : ℕ) (items : List Item) (flags : ℕ)
    → None ≡ refusal_of (flat_map (item_checks dir number flags items) items)
    → None ≡ refusal_of (all_met dir token (modify_needs dir token number flags items))
    → Granted (act_at dir number items flags) ≡ verdict_at dir token number items flags
all_granted dir token number items flags none none' =
    let own = flat_map (item_checks dir number flags items) items in
    let needed = all_met dir token (modify_needs dir token number flags items) in
    grants (own ++ needed) (act_at dir number items flags) (none' ∙ sym (goes_on own needed none))

-- the checks after that of the name, on what it names
checks_found : Directory → Token → List Rdn → List Item → ℕ → Option ℕ → Verdict
checks_found dir token rdns items flags found =
    by_checks (first_failing (or_code true 34
    ∷ record { holds = is_some found; refusal = hidden (matched dir token rdns) }
    ∷ (flat_map (item_checks dir (unwrap_or found 0) flags items) items
    ++ all_met dir token (modify_needs dir token (unwrap_or found 0) flags items))))
    (act_at dir (unwrap_or found 0) items flags)

by_found : (dir : Directory) (token : Token) (rdns : List Rdn) (items : List Item) (flags : ℕ) (found : Option ℕ)
    → verdict_found dir token rdns items flags found ≡ checks_found dir token rdns items flags found
unfolding first_failing checks_found
by_found dir token rdns items flags None = refl
by_found dir token rdns items flags (Some number) = refl

pub by_name : (dir : Directory) (token : Token) (m : Modify) (s : Settings) (dn : Dn) → Some dn ≡ dn_of m.dn
    → verdict_named dir token dn.rdns m.items s.sd_flags ≡ verdict_of dir token (ModifyOf m) s
unfolding verdict_of modify_checks object_named checks_found
by_name dir token m s dn is = rw (sym is) (by_found dir token dn.rdns m.items s.sd_flags (visible_of dir token dn.rdns))

pub by_no_name : (dir : Directory) (token : Token) (m : Modify) (s : Settings) → None ≡ dn_of m.dn → Refused 34
    ≡ verdict_of dir token (ModifyOf m) s
unfolding verdict_of modify_checks first_failing
by_no_name dir token m s is = rw (sym is) refl
