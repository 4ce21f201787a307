-- What an Add is answered with, by how far the code comes.
use Rattle.std.proofs.Common.{◌≡◌, ℕ, ◌≤◌, arith, Bool, true, false, not, List, [], ◌∷◌, ◌++◌, Option, Some, None}
use Rattle.std.proofs.Common.{refl, sym, ap, subst, ◌∙◌, length}
use Rattle.std.specs.Prelude.{◌==◌, option_map, drop, unwrap_or, is_some, codes}
use Rattle.std.specs.Option.{option_map_or, option_and_then}
use Rattle.std.specs.List.{flat_map}
use Rattle.std.proofs.lemmas.Option.{none-some, same_Some, cond_some, option_and_then_some, slice_get_within}
use Rattle.ad_ids.specs.declared.token.Token.{Token}
use Rattle.ad_sd.specs.declared.parts.SdParts.{SdParts}
use Rattle.ad_dn.specs.declared.rdn.Rdn.{Rdn}
use Rattle.ad_dn.specs.declared.rdn.Dn.{Dn}
use Rattle.ad_dn.specs.Reading.{dn_of}
use Rattle.ad_ldap.specs.declared.controls.Settings.{Settings}
use Rattle.ad_ldap.specs.declared.requests.Add.{Add}
use Rattle.ad_ldap.specs.MessageValue.{AddOf}
use Rattle.ad_schema.specs.declared.info.ClassId.{ClassId}
use Rattle.ad_dir_model.specs.Tree.{root}
use Rattle.ad_dir_model.specs.Names.{found}
use Rattle.ad_dir_model.specs.Directory.{Directory}
use Rattle.ad_access_dir.specs.Sight.{visible_of, matched}
use Rattle.ad_needs_rules.specs.declared.outcome.Verdict.{Verdict}
use Rattle.ad_needs_rules.specs.declared.outcome.Verdict.TheVariants.{Granted, Refused, Hidden}
use Rattle.ad_needs_rules.specs.Checks.{Check, first_failing, or_code, all_met}
use Rattle.ad_needs_rules.specs.Descriptors.{sd_in_one, asked_parts}
use Rattle.ad_schema_defaults.specs.NewClass.{is_schema_class, classes_named, lowest_of, is_structural, if_structural}
use Rattle.ad_schema_defaults.specs.NewClass.{class_by_names}
use Rattle.ad_needs_rules.specs.Renaming.{is_typed}
use Rattle.ad_needs_rules.specs.Adding.{ordinary, first_part, new_part, has_parts, is_root_named, parent_seen}
use Rattle.ad_needs_rules.specs.Adding.{parent_number, add_act, brings_sacl, sacl_needs, parent_named, sent}
use Rattle.ad_needs_rules.specs.Adding.{all_naming_checks, new_class, class_number, descriptor_reads, new_sd}
use Rattle.ad_needs_rules.specs.Adding.{all_ordinary, own_checks, new_values, add_needs, add_checks}
use Rattle.ad_needs.specs.Additions.{sd_sent, class_checks, act_of, class_judged, below_judged}
use Rattle.ad_needs_rules.specs.Verdicts.{verdict_of}
use Rattle.ad_needs_rules.specs.Judged.{refusal_of}
use Rattle.ad_needs_rules.proofs.Refusing.{passes, goes_on, stops, refuses, grants, same_judged}
use Rattle.ad_needs_rules.proofs.NameChecks.{coded, holds, parts_read}
use Rattle.ad_needs.proofs.RenameLaws.{needs_stop, needs_go_on}
use Rattle.ad_acl.specs.Mask.{create_child}
use Rattle.ad_needs_rules.specs.Needs.{Alternative, needs}
use Rattle.ad_needs_rules.specs.Requests.{class_path}
use Rattle.ad_schema.specs.declared.line.SchemaRecord.{SchemaRecord}
use Rattle.ad_schema.specs.declared.info.ClassInfo.{ClassInfo}
use Rattle.ad_schema.specs.declared.info.AttrId.{AttrId}
use Rattle.ad_dir_objects.specs.declared.act.Act.TheVariants as act
use Rattle.ad_schema.specs.Classes.{classes_of}
use Rattle.std.specs.Prelude.{filter_map, ◌<◌, ◌&&◌, slice_get, IfSome}
use Rattle.std.proofs.lemmas.Bool.{false≢true, ne_eqb}

-- ---- the descriptor

pub sd_unread : (a : Add) → None ≡ sd_sent a → descriptor_reads a ≡ false
unfolding sd_sent
sd_unread a none = by (sent a (codes "nTSecurityDescriptor")) none
  where
    by_read : (parts : Option SdParts) → None ≡ option_map (λ (p : SdParts). Some p) parts → is_some parts ≡ false
    by_read None e = refl
    by_read (Some p) e = absurd (none-some (Some p) e)

    by : (values : Option (List (List ℕ))) → None
        ≡ option_map_or (λ (v : List (List ℕ)). option_map (λ (p : SdParts). Some p) (sd_in_one v)) values (Some None)
        → option_map_or (λ (v : List (List ℕ)). is_some (sd_in_one v)) values true ≡ false
    by None e = absurd (none-some None e)
    by (Some v) e = by_read (sd_in_one v) e

pub sd_reads : (a : Add) (sd : Option SdParts) → Some sd ≡ sd_sent a
    → (descriptor_reads a ≡ true) × (sd ≡ option_and_then sd_in_one (sent a (codes "nTSecurityDescriptor")))
unfolding sd_sent
sd_reads a sd some = by (sent a (codes "nTSecurityDescriptor")) some
  where
    by_read : (parts : Option SdParts) → Some sd ≡ option_map (λ (p : SdParts). Some p) parts → (is_some parts ≡ true)
        × (sd ≡ parts)
    by_read None e = absurd (none-some sd (sym e))
    by_read (Some p) e = (refl, same_Some sd (Some p) e)

    by : (values : Option (List (List ℕ))) → Some sd
        ≡ option_map_or (λ (v : List (List ℕ)). option_map (λ (p : SdParts). Some p) (sd_in_one v)) values (Some None)
        → (option_map_or (λ (v : List (List ℕ)). is_some (sd_in_one v)) values true ≡ true)
        × (sd ≡ option_and_then sd_in_one values)
    by None e = (refl, same_Some sd None e)
    by (Some v) e = by_read (sd_in_one v) e

pub sd_is_new : (a : Add) (flags : ℕ) (sd new : Option SdParts) → Some sd ≡ sd_sent a → new
    ≡ option_map (asked_parts flags) sd → new ≡ new_sd a flags
sd_is_new a flags sd new some is = is ∙ ap (option_map (asked_parts flags)) (sd_reads a sd some).1

-- ---- after the class

-- the checks after the descriptor
abbrev last : Directory → Token → ℕ → Rdn → ℕ → Add → ℕ → List Check
last dir token parent rdn class a flags =
    flat_map (own_checks dir.schema class rdn.value) (all_ordinary dir.schema a)
    ++ all_met dir token (add_needs dir parent class (new_sd a flags))

pub of_schema : (dir : Directory) (token : Token) (parent : ℕ) (rdn : Rdn) (class : ℕ) (a : Add) (flags : ℕ)
    → is_schema_class dir.schema class ≡ true
    → Refused 53 ≡ class_judged dir token parent rdn class a flags
unfolding class_judged class_checks first_failing
of_schema dir token parent rdn class a flags is = rw is refl

pub untyped : (dir : Directory) (token : Token) (parent : ℕ) (rdn : Rdn) (class : ℕ) (a : Add) (flags : ℕ)
    → is_schema_class dir.schema class ≡ false
    → is_typed dir.schema class rdn ≡ false → Refused 64 ≡ class_judged dir token parent rdn class a flags
unfolding class_judged class_checks first_failing
untyped dir token parent rdn class a flags other un = rw (other, un) refl

pub unread_sd : (dir : Directory) (token : Token) (parent : ℕ) (rdn : Rdn) (class : ℕ) (a : Add) (flags : ℕ)
    → is_schema_class dir.schema class ≡ false
    → is_typed dir.schema class rdn ≡ true → None ≡ sd_sent a → Refused 19 ≡ class_judged dir token parent rdn class a
    flags
unfolding class_judged class_checks first_failing
unread_sd dir token parent rdn class a flags other typed none = rw (other, typed, sd_unread a none) refl

-- where those before hold
to_last : (dir : Directory) (token : Token) (parent : ℕ) (rdn : Rdn) (class : ℕ) (a : Add) (flags : ℕ)
    (sd : Option SdParts) → is_schema_class dir.schema class ≡ false
    → is_typed dir.schema class rdn ≡ true → Some sd ≡ sd_sent a
    → refusal_of (last dir token parent rdn class a flags)
    ≡ refusal_of (class_checks dir token parent rdn class a flags)
unfolding class_checks
to_last dir token parent rdn class a flags sd other typed some =
    sym (holds (last dir token parent rdn class a flags) 19 (descriptor_reads a) (sd_reads a sd some).0)
    ∙ sym (holds (or_code (descriptor_reads a) 19 ∷ last dir token parent rdn class a flags) 64
    (is_typed dir.schema class rdn) typed)
    ∙ sym (holds (or_code (is_typed dir.schema class rdn) 64 ∷ or_code (descriptor_reads a) 19
    ∷ last dir token parent rdn class a flags) 53
    (not (is_schema_class dir.schema class)) (ap not other))

-- where this descriptor is sent
to_with : (dir : Directory) (token : Token) (parent : ℕ) (rdn : Rdn) (class : ℕ) (a : Add) (flags : ℕ)
    (sd new : Option SdParts) → is_schema_class dir.schema class ≡ false
    → is_typed dir.schema class rdn ≡ true → Some sd ≡ sd_sent a → new ≡ option_map (asked_parts flags) sd
    → refusal_of (flat_map (own_checks dir.schema class rdn.value) (all_ordinary dir.schema a)
    ++ all_met dir token (add_needs dir parent class new))
    ≡ refusal_of (class_checks dir token parent rdn class a flags)
to_with dir token parent rdn class a flags sd new other typed some is =
    ap (λ (x : Option SdParts). refusal_of
    (flat_map (own_checks dir.schema class rdn.value) (all_ordinary dir.schema a)
    ++ all_met dir token (add_needs dir parent class x)))
    (sd_is_new a flags sd new some is)
    ∙ to_last dir token parent rdn class a flags sd other typed some

pub adds_not : (dir : Directory) (token : Token) (parent : ℕ) (rdn : Rdn) (class : ℕ) (a : Add) (flags : ℕ)
    (sd new : Option SdParts) (verdict : Verdict)
    → is_schema_class dir.schema class ≡ false → is_typed dir.schema class rdn ≡ true → Some sd ≡ sd_sent a → new
    ≡ option_map (asked_parts flags) sd
    → Some verdict ≡ refusal_of (flat_map (own_checks dir.schema class rdn.value) (all_ordinary dir.schema a)
    ++ all_met dir token (add_needs dir parent class new))
    → verdict ≡ class_judged dir token parent rdn class a flags
unfolding class_judged
adds_not dir token parent rdn class a flags sd new verdict other typed some is refused =
    refuses (class_checks dir token parent rdn class a flags) (act_of dir parent rdn class a flags) verdict
    (refused ∙ to_with dir token parent rdn class a flags sd new other typed some is)

pub adds : (dir : Directory) (token : Token) (parent : ℕ) (rdn : Rdn) (class : ℕ) (a : Add) (flags : ℕ)
    (sd new : Option SdParts)
    → is_schema_class dir.schema class ≡ false → is_typed dir.schema class rdn ≡ true → Some sd ≡ sd_sent a → new
    ≡ option_map (asked_parts flags) sd
    → None ≡ refusal_of (flat_map (own_checks dir.schema class rdn.value) (all_ordinary dir.schema a)
    ++ all_met dir token (add_needs dir parent class new))
    → Granted (act_of dir parent rdn class a flags) ≡ class_judged dir token parent rdn class a flags
unfolding class_judged
adds dir token parent rdn class a flags sd new other typed some is none =
    grants (class_checks dir token parent rdn class a flags) (act_of dir parent rdn class a flags)
    (none ∙ to_with dir token parent rdn class a flags sd new other typed some is)

-- ---- after the name

-- the checks after the names of the attributes
abbrev of_class : Directory → Token → ℕ → Rdn → Add → ℕ → List Check
of_class dir token parent rdn a flags = or_code (is_some (new_class dir a)) 65 ∷ class_checks dir token parent rdn
    (class_number dir a) a flags

pub below_misnamed : (dir : Directory) (token : Token) (parent : ℕ) (rdn : Rdn) (a : Add) (flags : ℕ)
    (verdict : Verdict)
    → Some verdict ≡ refusal_of (all_naming_checks dir.schema [] a.attrs) → verdict ≡ below_judged dir token parent
    rdn a flags
unfolding below_judged
below_misnamed dir token parent rdn a flags verdict refused =
    refuses (all_naming_checks dir.schema [] a.attrs ++ of_class dir token parent rdn a flags)
    (act_of dir parent rdn (class_number dir a) a flags) verdict
    (stops (all_naming_checks dir.schema [] a.attrs) (of_class dir token parent rdn a flags) verdict refused)

pub below_classless : (dir : Directory) (token : Token) (parent : ℕ) (rdn : Rdn) (a : Add) (flags : ℕ)
    → None ≡ refusal_of (all_naming_checks dir.schema [] a.attrs) → None ≡ new_class dir a → Refused 65
    ≡ below_judged dir token parent rdn a flags
unfolding below_judged
below_classless dir token parent rdn a flags none classless =
    refuses (all_naming_checks dir.schema [] a.attrs ++ of_class dir token parent rdn a flags)
    (act_of dir parent rdn (class_number dir a) a flags) (Refused 65)
    (coded (class_checks dir token parent rdn (class_number dir a) a flags) 65 (is_some (new_class dir a))
    (sym (ap (λ (x : Option ℕ). is_some x) classless))
    ∙ sym (goes_on (all_naming_checks dir.schema [] a.attrs) (of_class dir token parent rdn a flags) none))

pub below_of_class : (dir : Directory) (token : Token) (parent : ℕ) (rdn : Rdn) (a : Add) (flags : ℕ) (class : ℕ)
    → None ≡ refusal_of (all_naming_checks dir.schema [] a.attrs) → Some class ≡ new_class dir a
    → class_judged dir token parent rdn class a flags ≡ below_judged dir token parent rdn a flags
unfolding below_judged class_judged
below_of_class dir token parent rdn a flags class none some =
    ap (λ (k : ℕ). class_judged dir token parent rdn k a flags) (ap (λ (x : Option ℕ). unwrap_or x 0) some)
    ∙ same_judged (class_checks dir token parent rdn (class_number dir a) a flags)
    (all_naming_checks dir.schema [] a.attrs ++ of_class dir token parent rdn a flags)
    (act_of dir parent rdn (class_number dir a) a flags)
    (sym (holds (class_checks dir token parent rdn (class_number dir a) a flags) 65 (is_some (new_class dir a))
    (sym (ap (λ (x : Option ℕ). is_some x) some)))
    ∙ sym (goes_on (all_naming_checks dir.schema [] a.attrs) (of_class dir token parent rdn a flags) none))

-- ---- the name

pub add_unread : (dir : Directory) (token : Token) (a : Add) (s : Settings) → None ≡ dn_of a.dn → Refused 34
    ≡ verdict_of dir token (AddOf a) s
unfolding verdict_of add_checks first_failing
add_unread dir token a s none = rw (sym none) refl

pub add_partless : (dir : Directory) (token : Token) (a : Add) (s : Settings) (dn : Dn) → Some dn ≡ dn_of a.dn
    → dn.rdns ≡ []
    → Refused 34 ≡ verdict_of dir token (AddOf a) s
unfolding verdict_of add_checks first_failing
add_partless dir token a s dn read none = rw (sym read, none) refl

-- the name has a part
has_part : (rdns : List Rdn) → 1 ≤ length rdns → not (length rdns == 0) ≡ true
has_part rdns le = ap not (ne_eqb (length rdns) 0 (λ e. omega (arith, le, e)))

pub add_root : (dir : Directory) (token : Token) (a : Add) (s : Settings) (dn : Dn) → Some dn ≡ dn_of a.dn → 1
    ≤ length dn.rdns
    → option_map_or (λ (number : ℕ). number == root) (found dir dn.rdns) false ≡ true → Refused 68
    ≡ verdict_of dir token (AddOf a) s
unfolding verdict_of add_checks first_failing
add_root dir token a s dn read parts is = rw (sym read, has_part dn.rdns parts, is) refl

pub add_unseen : (dir : Directory) (token : Token) (a : Add) (s : Settings) (dn : Dn) → Some dn ≡ dn_of a.dn → 1
    ≤ length dn.rdns
    → option_map_or (λ (number : ℕ). number == root) (found dir dn.rdns) false ≡ false → None
    ≡ visible_of dir token (drop 1 dn.rdns)
    → Hidden (record { rdns = matched dir token dn.rdns }) ≡ verdict_of dir token (AddOf a) s
unfolding verdict_of add_checks first_failing parent_named
add_unseen dir token a s dn read parts other none = rw (sym read, has_part dn.rdns parts, other, sym none) refl

-- the parent is the one that the name gives
parent_is : (dir : Directory) (token : Token) (a : Add) (dn : Dn) (parent : ℕ) → Some dn ≡ dn_of a.dn → Some parent
    ≡ visible_of dir token (drop 1 dn.rdns)
    → Some parent ≡ parent_named dir token a
unfolding parent_named
parent_is dir token a dn parent read some = some ∙ ap (λ (rdns : List Rdn). visible_of dir token (drop 1 rdns))
    (parts_read a.dn dn read)

-- the checks after the name
abbrev behind : Directory → Token → Add → ℕ → List Check
behind dir token a flags = all_naming_checks dir.schema [] a.attrs ++ of_class dir token (parent_number dir token a)
    (new_part a) a flags

to_behind : (dir : Directory) (token : Token) (a : Add) (s : Settings) → has_parts a ≡ true → is_root_named dir a
    ≡ false → is_some (parent_named dir token a) ≡ true
    → below_judged dir token (parent_number dir token a) (new_part a) a s.sd_flags ≡ verdict_of dir token (AddOf a) s
unfolding verdict_of add_checks below_judged class_checks
to_behind dir token a s parts other seen =
    same_judged (behind dir token a s.sd_flags) (add_checks dir token a s.sd_flags) (add_act dir token a s.sd_flags)
    (sym (passes (parent_seen dir token a) (behind dir token a s.sd_flags) seen)
    ∙ sym (holds (parent_seen dir token a ∷ behind dir token a s.sd_flags) 68 (not (is_root_named dir a))
    (ap not other))
    ∙ sym (holds (or_code (not (is_root_named dir a)) 68 ∷ parent_seen dir token a ∷ behind dir token a s.sd_flags) 34
    (has_parts a) parts))

pub add_below : (dir : Directory) (token : Token) (a : Add) (s : Settings) (dn : Dn) (parent : ℕ) (rdn : Rdn)
    → Some dn ≡ dn_of a.dn → 1 ≤ length dn.rdns
    → option_map_or (λ (number : ℕ). number == root) (found dir dn.rdns) false ≡ false → Some parent
    ≡ visible_of dir token (drop 1 dn.rdns)
    → rdn ≡ first_part dn.rdns → below_judged dir token parent rdn a s.sd_flags ≡ verdict_of dir token (AddOf a) s
add_below dir token a s dn parent rdn read parts other some first =
    let is = parts_read a.dn dn read in
    let named = parent_is dir token a dn parent read some in
    ap (λ (p : ℕ). below_judged dir token p rdn a s.sd_flags) (ap (λ (o : Option ℕ). unwrap_or o 0) named)
    ∙ ap (λ (r : Rdn). below_judged dir token (parent_number dir token a) r a s.sd_flags) (first ∙ ap first_part is)
    ∙ to_behind dir token a s (subst (λ (r : List Rdn). not (length r == 0) ≡ true) is (has_part dn.rdns parts))
    (subst (λ (r : List Rdn). option_map_or (λ (number : ℕ). number == root) (found dir r) false ≡ false) is other)
    (sym (ap (λ (o : Option ℕ). is_some o) named))

-- ---- needs

pub audits_not : (dir : Directory) (token : Token) (parent : ℕ) (sacl : Bool) → sacl ≡ false → None
    ≡ refusal_of (all_met dir token (sacl_needs parent sacl))
unfolding refusal_of first_failing
audits_not dir token parent sacl is = rw is refl

pub child_not : (dir : Directory) (token : Token) (parent class : ℕ) (create : Alternative) (sd : Option SdParts)
    (verdict : Verdict) → create ≡ needs parent create_child (class_path dir.schema class)
    → Some verdict ≡ refusal_of (all_met dir token ((create ∷ []) ∷ [])) → Some verdict
    ≡ refusal_of (all_met dir token (add_needs dir parent class sd))
child_not dir token parent class create sd verdict is refused =
    needs_stop dir token ((needs parent create_child (class_path dir.schema class) ∷ []) ∷ [])
    (sacl_needs parent (brings_sacl sd)) verdict
    (refused ∙ ap (λ (a : Alternative). refusal_of (all_met dir token ((a ∷ []) ∷ []))) is)

pub child_so : (dir : Directory) (token : Token) (parent class : ℕ) (create : Alternative) (sd : Option SdParts)
    (brings : Bool) (found' : Option Verdict) → create ≡ needs parent create_child (class_path dir.schema class)
    → None ≡ refusal_of (all_met dir token ((create ∷ []) ∷ [])) → brings ≡ brings_sacl sd
    → found' ≡ refusal_of (all_met dir token (sacl_needs parent brings)) → found'
    ≡ refusal_of (all_met dir token (add_needs dir parent class sd))
child_so dir token parent class create sd brings found' is none same rest =
    needs_go_on dir token ((needs parent create_child (class_path dir.schema class) ∷ []) ∷ [])
    (sacl_needs parent (brings_sacl sd)) found'
    (none ∙ ap (λ (a : Alternative). refusal_of (all_met dir token ((a ∷ []) ∷ []))) is)
    (rest ∙ ap (λ (b : Bool). refusal_of (all_met dir token (sacl_needs parent b))) same)

-- ---- the class

pub class_in_range : (dir : Directory) (a : Add) (class : ℕ) → Some class ≡ new_class dir a → class
    < length (classes_of dir.schema)
unfolding new_class class_by_names if_structural is_structural
class_in_range dir a class some =
    option_and_then_some (if_structural dir.schema)
    (option_and_then (lowest_of dir.schema)
    (classes_named dir.schema (unwrap_or (sent a (codes "objectClass")) []))) class (sym some)
    (λ (k : ℕ) first structural.
    let parts = cond_some (is_structural dir.schema k) k class structural in
    subst (λ (n : ℕ). n < length (classes_of dir.schema)) parts.1 (within dir.schema k parts.0))
  where
    within : (schema : List SchemaRecord) (k : ℕ) → is_structural schema k ≡ true → k < length (classes_of schema)
    within schema k is = by (slice_get (classes_of schema) k) refl is
      where
        by : (o : Option ClassInfo) → slice_get (classes_of schema) k ≡ o
            → option_map_or (λ (info : ClassInfo). not (info.category == 2) && not (info.category == 3)) o false
            ≡ true → k < length (classes_of schema)
        by None e t = absurd (false≢true t)
        by (Some info) e t = slice_get_within (classes_of schema) k info e

pub class_ranges : (dir : Directory) (a : Add) (class : Option ClassId)
    → option_map (λ (id : ClassId). id.0) class ≡ class_by_names dir.schema
    (unwrap_or (sent a (codes "objectClass")) [])
    → IfSome class (λ id. id.0 < length (classes_of dir.schema))
unfolding new_class
class_ranges dir a None is = tt
class_ranges dir a (Some id) is = class_in_range dir a id.0 is

-- ---- by what the code has in hand

pub lawful_at : (dir : Directory) (a : Add) (rdn : Rdn) (class : ℕ) (schema : List SchemaRecord) (value : List ℕ)
    (attrs : List (List ℕ × List (List ℕ))) → schema ≡ dir.schema
    → value ≡ rdn.value → attrs ≡ a.attrs
    → refusal_of (flat_map (own_checks schema class value) (filter_map (ordinary schema) attrs))
    ≡ refusal_of (flat_map (own_checks dir.schema class rdn.value) (all_ordinary dir.schema a))
unfolding all_ordinary
lawful_at dir a rdn class schema value attrs one two three =
    ap (λ (t : List SchemaRecord). refusal_of (flat_map (own_checks t class value) (filter_map (ordinary t) attrs))) one
    ∙ ap (λ (v : List ℕ). refusal_of (flat_map (own_checks dir.schema class v)
    (filter_map (ordinary dir.schema) attrs))) two
    ∙ ap (λ (all : List (List ℕ × List (List ℕ))). refusal_of
    (flat_map (own_checks dir.schema class rdn.value) (filter_map (ordinary dir.schema) all))) three

pub named_at : (dir : Directory) (a : Add) (schema : List SchemaRecord) (attrs : List (List ℕ × List (List ℕ)))
    → schema ≡ dir.schema → attrs ≡ a.attrs
    → refusal_of (all_naming_checks schema [] attrs) ≡ refusal_of (all_naming_checks dir.schema [] a.attrs)
named_at dir a schema attrs one two =
    ap (λ (t : List SchemaRecord). refusal_of (all_naming_checks t [] attrs)) one
    ∙ ap (λ (all : List (List ℕ × List (List ℕ))). refusal_of (all_naming_checks dir.schema [] all)) two

pub act_at : (dir : Directory) (parent : ℕ) (rdn : Rdn) (class : ClassId) (a : Add) (flags : ℕ)
    (schema : List SchemaRecord) (values : List (AttrId × List (List ℕ))) (sd new : Option SdParts)
    → schema ≡ dir.schema → values ≡ new_values schema class.0 a → Some sd ≡ sd_sent a → new
    ≡ option_map (asked_parts flags) sd
    → Granted (act.Add parent class rdn.value values new) ≡ Granted (act_of dir parent rdn class.0 a flags)
act_at dir parent rdn class a flags schema values sd new one two some is =
    ap (λ (v : List (AttrId × List (List ℕ))). Granted (act.Add parent class rdn.value v new))
    (two ∙ ap (λ (t : List SchemaRecord). new_values t class.0 a) one)
    ∙ ap (λ (x : Option SdParts). Granted (act.Add parent class rdn.value (new_values dir.schema class.0 a) x))
    (sd_is_new a flags sd new some is)
