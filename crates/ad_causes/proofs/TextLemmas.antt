-- The texts of causes.
use Rattle.std.proofs.Common.{◌≡◌, ◌∙◌, ◌+◌, ◌<◌, ◌++◌, ◌∷◌, [], length, take, get_or, ℕ, Bool, true, false, List, map, codes, refl, sym, ap, append_assoc}
use Rattle.std.specs.Prelude.{if◌then◌else◌}
use Rattle.std.specs.List.{flat_map}
use Rattle.std.proofs.lemmas.List.{append-nil, take_more, flat_map_more}
use Rattle.std.proofs.lemmas.Grind.{flat_map-append}
use Rattle.std.specs.Str.{bytes_eq}
use Rattle.ad_bytes.specs.Puts.{labelled}
use Rattle.ad_ids.specs.SidValue.{same_sid}
use Rattle.ad_sd.specs.declared.parts.Sd.{Sd}
use Rattle.ad_dn.specs.declared.rdn.Dn.{Dn}
use Rattle.ad_dn.specs.Text.{dn_text}
use Rattle.ad_schema.specs.declared.line.SchemaRecord.{SchemaRecord}
use Rattle.ad_dir_model.specs.Directory.{Directory}
use Rattle.ad_dir_model.specs.Objects.{sd_at}
use Rattle.ad_both.specs.declared.both.Both.{Both}
use Rattle.ad_causes.specs.Extra.{extra}
use Rattle.ad_causes.specs.Cause.{Cause, owner, protection, order, entry, class, primary, history, cause_line, causes_text, name_at}
use Rattle.ad_causes.specs.Descriptors.{owner_causes, differ, protection_causes, entry_texts, is_reordered, order_causes}
use Rattle.ad_causes.specs.Descriptors.{entry_causes, list_causes, descriptor_causes}
use Rattle.ad_causes.specs.Members.{members_of, members_there, member_causes, membership_causes}
use Rattle.ad_causes.specs.Schema.{record_text, record_key, new_causes, gone_causes, schema_causes}
use Rattle.ad_causes.specs.Causes.{class_name, primary_text, history_texts, if_changed, are_same, history_causes}
use Rattle.ad_causes.specs.Causes.{object_causes, all_alone, all_objects, causes}
use Rattle.ad_causes.specs.Steps.{owner_text, protection_text, order_text, entry_line, entries_text, lists_text}
use Rattle.ad_causes.specs.Steps.{descriptors_text, changed_text, history_text, object_text, member_text, group_text}
use Rattle.ad_causes.specs.Steps.{new_line, gone_line}

-- ---- lists

pub text_of_each : {A : Type 0} (f : A → List Cause) (all : List A)
    → causes_text (flat_map f all) ≡ flat_map (λ (a : A). causes_text (f a)) all
text_of_each f [] = refl
text_of_each f (a ∷ all) = flat_map-append cause_line (f a) (flat_map f all)
    ∙ ap (λ (t : List ℕ). causes_text (f a) ++ t) (text_of_each f all)

text_of_map : {A : Type 0} (f : A → Cause) (all : List A)
    → causes_text (map f all) ≡ flat_map (λ (a : A). cause_line (f a)) all
text_of_map f [] = refl
text_of_map f (a ∷ all) = ap (λ (t : List ℕ). cause_line (f a) ++ t) (text_of_map f all)

pub text_both : (a b : List Cause) → causes_text (a ++ b) ≡ causes_text a ++ causes_text b
text_both a b = flat_map-append cause_line a b

text_if : (t : Bool) (cause : Cause)
    → causes_text (if t then cause ∷ [] else []) ≡ (if t then cause_line cause else [])
text_if true cause = append-nil (cause_line cause)
text_if false cause = refl

text_unless : (t : Bool) (cause : Cause)
    → causes_text (if t then [] else cause ∷ []) ≡ (if t then [] else cause_line cause)
text_unless true cause = refl
text_unless false cause = append-nil (cause_line cause)

two : (a b c d : List ℕ) → a ≡ c → b ≡ d → a ++ b ≡ c ++ d
two a b c d p q = ap (λ (t : List ℕ). t ++ b) p ∙ ap (λ (t : List ℕ). c ++ t) q

-- ---- descriptors

owner_is : (name : Dn) (was is : Sd) → causes_text (owner_causes name was is) ≡ owner_text (dn_text name) was is
unfolding owner_causes
owner_is name was is = text_unless (same_sid was.owner is.owner) (owner name is.owner)

protection_is : (name : Dn) (was is : Sd)
    → causes_text (protection_causes name was is) ≡ protection_text (dn_text name) was is
unfolding protection_causes
protection_is name was is = text_if (differ was.dacl.protected is.dacl.protected) (protection name)

lists_is : (name : Dn) (was is : List (List ℕ))
    → causes_text (list_causes name was is) ≡ lists_text (dn_text name) was is
unfolding list_causes
lists_is name was is =
    let more = entry_causes true name is was in
    let less = entry_causes false name was is in
    text_both (order_causes name was is) (more ++ less)
    ∙ two (causes_text (order_causes name was is)) (causes_text (more ++ less)) (order_text (dn_text name) was is)
    (entries_text true (dn_text name) (extra is was) ++ entries_text false (dn_text name) (extra was is))
    (text_if (is_reordered was is) (order name))
    (text_both more less
    ∙ two (causes_text more) (causes_text less) (entries_text true (dn_text name) (extra is was))
    (entries_text false (dn_text name) (extra was is)) (text_of_map (entry true name) (extra is was))
    (text_of_map (entry false name) (extra was is)))

descriptors_is : (name : Dn) (was is : Sd)
    → causes_text (descriptor_causes name was is) ≡ descriptors_text (dn_text name) was is
unfolding descriptor_causes
descriptors_is name was is =
    let lists = list_causes name (entry_texts was) (entry_texts is) in
    let protections = protection_causes name was is in
    text_both (owner_causes name was is) (protections ++ lists)
    ∙ two (causes_text (owner_causes name was is)) (causes_text (protections ++ lists)) (owner_text (dn_text name) was is)
    (protection_text (dn_text name) was is ++ lists_text (dn_text name) (entry_texts was) (entry_texts is))
    (owner_is name was is)
    (text_both protections lists
    ∙ two (causes_text protections) (causes_text lists) (protection_text (dn_text name) was is)
    (lists_text (dn_text name) (entry_texts was) (entry_texts is)) (protection_is name was is)
    (lists_is name (entry_texts was) (entry_texts is)))

-- ---- objects

changed_is : (label : List ℕ) (cause : Cause) (name was is : List ℕ) → cause_line cause ≡ labelled label name
    → causes_text (if_changed cause was is) ≡ changed_text label name was is
changed_is label cause name was is same =
    text_unless (bytes_eq was is) cause ∙ ap (λ (t : List ℕ). if bytes_eq was is then [] else t) same

pub object_is : (before after : Directory) (o : Both)
    → object_text before after o
    ≡ descriptors_text (dn_text (name_at after o.after)) (sd_at before.objects o.before) (sd_at after.objects o.after)
    ++ (changed_text (codes "class ") (dn_text (name_at after o.after)) (class_name before o.before)
    (class_name after o.after)
    ++ (changed_text (codes "primary ") (dn_text (name_at after o.after)) (primary_text before o.before)
    (primary_text after o.after)
    ++ history_text (dn_text (name_at after o.after)) (history_texts before o.before) (history_texts after o.after)))
unfolding object_causes
object_is before after o =
    let name = name_at after o.after in
    let a = descriptor_causes name (sd_at before.objects o.before) (sd_at after.objects o.after) in
    let b = if_changed (class name) (class_name before o.before) (class_name after o.after) in
    let c = if_changed (primary name) (primary_text before o.before) (primary_text after o.after) in
    let d = history_causes name (history_texts before o.before) (history_texts after o.after) in
    text_both a (b ++ (c ++ d))
    ∙ two (causes_text a) (causes_text (b ++ (c ++ d))) _ _
    (descriptors_is name (sd_at before.objects o.before) (sd_at after.objects o.after))
    (text_both b (c ++ d)
    ∙ two (causes_text b) (causes_text (c ++ d)) _ _
    (changed_is (codes "class ") (class name) (dn_text name) (class_name before o.before) (class_name after o.after) refl)
    (text_both c d
    ∙ two (causes_text c) (causes_text d) _ _
    (changed_is (codes "primary ") (primary name) (dn_text name) (primary_text before o.before)
    (primary_text after o.after) refl)
    (text_unless (are_same (history_texts before o.before) (history_texts after o.after)) (history name))))

-- ---- members and schemas

pub group_is : (more : Bool) (dir other : Directory) (group : ℕ)
    → group_text more dir other group
    ≡ flat_map (member_text more dir other (members_there dir other group) group) (members_of dir group)
group_is more dir other group =
    text_of_each (member_causes more dir other (members_there dir other group) group) (members_of dir group)

pub schemas_is : (was is : List SchemaRecord) → causes_text (schema_causes was is)
    ≡ flat_map (new_line (map record_text was)) is ++ flat_map (gone_line (map record_key is)) was
unfolding schema_causes
schemas_is was is =
    let news = flat_map (new_causes (map record_text was)) is in
    let gone = flat_map (gone_causes (map record_key is)) was in
    text_both news gone
    ∙ two (causes_text news) (causes_text gone) _ _ (text_of_each (new_causes (map record_text was)) is)
    (text_of_each (gone_causes (map record_key is)) was)

-- ---- pieces that are put one after the other

pub joins : (old new a rest final : List ℕ) → new ≡ old ++ a → final ≡ new ++ rest → final ≡ old ++ (a ++ rest)
joins old new a rest final p q = q ∙ ap (λ (t : List ℕ). t ++ rest) p ∙ append_assoc old a rest

pub causes_is : (before after : Directory) → causes_text (causes before after)
    ≡ causes_text (all_alone true after before)
    ++ (causes_text (all_alone false before after)
    ++ (causes_text (all_objects before after)
    ++ (causes_text (membership_causes true after before)
    ++ (causes_text (membership_causes false before after) ++ causes_text (schema_causes before.schema after.schema)))))
unfolding causes
causes_is before after =
    let a = all_alone true after before in
    let b = all_alone false before after in
    let c = all_objects before after in
    let d = membership_causes true after before in
    let e = membership_causes false before after in
    let f = schema_causes before.schema after.schema in
    text_both a (b ++ (c ++ (d ++ (e ++ f))))
    ∙ ap (λ (t : List ℕ). causes_text a ++ t) (text_both b (c ++ (d ++ (e ++ f)))
    ∙ ap (λ (t : List ℕ). causes_text b ++ t) (text_both c (d ++ (e ++ f))
    ∙ ap (λ (t : List ℕ). causes_text c ++ t) (text_both d (e ++ f)
    ∙ ap (λ (t : List ℕ). causes_text d ++ t) (text_both e f))))

-- one more line in a loop
pub lines_more : {A : Type 0} (f : A → List ℕ) (before mid after : List ℕ) (all : List A) (i : ℕ) (a : A)
    → i < length all → a ≡ get_or all i a → mid ≡ before ++ flat_map f (take i all) → after ≡ mid ++ f a
    → after ≡ before ++ flat_map f (take (i + 1) all)
lines_more f before mid after all i a lt at is next =
    next ∙ ap (λ (t : List ℕ). t ++ f a) is
    ∙ flat_map_more f before (take i all) a
    ∙ ap (λ x. before ++ flat_map f (take i all ++ (x ∷ []))) at
    ∙ ap (λ l. before ++ flat_map f l) (sym (take_more all i a lt))
