-- The lines of the causes of two directories have their form.
use Rattle.std.proofs.Common.{Bool, ◌≡◌, ℕ, true, false, if◌then◌else◌, Option, Some, None, List, [], ◌∷◌, ◌++◌}
use Rattle.std.proofs.Common.{codes, refl, map, suc, arith}
use Rattle.std.specs.Prelude.{All, is_some}
use Rattle.std.specs.List.{AllByRecursion, flat_map}
use Rattle.std.specs.Str.{bytes_eq}
use Rattle.ad_ids.specs.declared.guid.Guid.{Guid}
use Rattle.ad_ids.specs.SidValue.{SidValue, same_sid}
use Rattle.ad_ids.specs.Sid.{IsSid}
use Rattle.ad_ids.specs.SidText.{sid_text}
use Rattle.ad_acl.specs.declared.kind.AceKind.{AceKind}
use Rattle.ad_acl.specs.declared.kind.AceKind.TheVariants.{Allow, Deny, Audit}
use Rattle.ad_acl.specs.Codes.{flag_codes, right_codes}
use Rattle.ad_acl.specs.Entry.{Entry}
use Rattle.ad_acl.specs.Writing.{has_guid}
use Rattle.ad_sd.specs.declared.parts.Sd.{Sd}
use Rattle.ad_sddl.specs.Grammar.{type_text}
use Rattle.ad_sddl.specs.Canonical.{codes_text, rights_text, guid_text_if, entry_text}
use Rattle.ad_inherit.specs.Whole.{is_explicit, explicit_entries}
use Rattle.ad_dn.specs.declared.rdn.Dn.{Dn}
use Rattle.ad_dn.specs.Value.{AreRdns}
use Rattle.ad_schema.specs.declared.line.SchemaRecord.{SchemaRecord}
use Rattle.ad_dir_model.specs.Directory.{Directory}
use Rattle.ad_dir_model.specs.Objects.{is_live, numbers, sd_at}
use Rattle.ad_dir_model.proofs.Counting.{all_numbers}
use Rattle.ad_both.specs.declared.both.Both.{Both}
use Rattle.ad_both.specs.Both.{counterpart, objects_of_both, IsLiveBoth}
use Rattle.ad_both.proofs.Live.{all_live}
use Rattle.ad_causes.specs.Extra.{has_text, taken, extra}
use Rattle.ad_causes.specs.Cause.{Cause, object, owner, protection, order, entry, class, primary, history, member, schema}
use Rattle.ad_causes.specs.Cause.{name_at}
use Rattle.ad_causes.specs.Descriptors.{owner_causes, differ, protection_causes, entry_texts, is_reordered, order_causes}
use Rattle.ad_causes.specs.Descriptors.{entry_causes, list_causes, descriptor_causes}
use Rattle.ad_causes.specs.Members.{members_of, members_there, is_there, member_causes, group_causes, membership_causes}
use Rattle.ad_causes.specs.Schema.{record_text, record_key, record_title, title_info, told_unless, new_causes, gone_causes}
use Rattle.ad_causes.specs.Schema.{schema_causes}
use Rattle.ad_causes.specs.Causes.{alone_causes, all_alone, class_name, primary_text, history_texts, if_changed, are_same}
use Rattle.ad_causes.specs.Causes.{history_causes, object_causes, all_objects, causes}
use Rattle.ad_causes.proofs.MemberLemmas.{AreLive, live_by_recursion}
use Rattle.ad_text_laws.specs.Lines.{is_line, is_word}
use Rattle.ad_text_laws.specs.CauseLines.{IsCauseLine}
use Rattle.ad_text_laws.specs.DiffTold.{HasSids, IsTellable}
use Rattle.ad_text_laws.proofs.LineLaws.{two_words, word_is_line}
use Rattle.ad_text_laws.proofs.WordLaws.{sid_word}
use Rattle.ad_text_laws.proofs.EventLaws.{guid_word}
use Rattle.ad_text_laws.proofs.CodeWords.{codes_word, right_letters, flag_letters, rights_text_word, title_word}

abbrev AreForms : List Cause → Type 0
AreForms cs = AllByRecursion IsCauseLine cs

-- ---- lists

both_forms : (a b : List Cause) → AreForms a → AreForms b → AreForms (a ++ b)
both_forms [] b p q = q
both_forms (x ∷ a) b p q = (p.0, both_forms a b p.1 q)

each_forms : {A : Type 0} (f : A → List Cause) (all : List A) → AllByRecursion (λ (a : A). AreForms (f a)) all
    → AreForms (flat_map f all)
each_forms f [] is = tt
each_forms f (a ∷ all) is = both_forms (f a) (flat_map f all) is.0 (each_forms f all is.1)

unless_form : (t : Bool) (c : Cause) → IsCauseLine c → AreForms (if t then [] else c ∷ [])
unless_form true c is = tt
unless_form false c is = (is, tt)

if_form : (t : Bool) (c : Cause) → IsCauseLine c → AreForms (if t then c ∷ [] else [])
if_form true c is = (is, tt)
if_form false c is = tt

-- ---- entries

guid_if_word : (guid : Option Guid) → is_word (guid_text_if guid) ≡ true
guid_if_word None = refl
guid_if_word (Some guid) = guid_word guid

type_word : (t : Bool) (kind : AceKind) → is_word (type_text t kind) ≡ true
type_word true Allow = refl
type_word true Deny = refl
type_word true Audit = refl
type_word false Allow = refl
type_word false Deny = refl
type_word false Audit = refl

entry_word : (e : Entry) → IsSid e.sid → is_word (entry_text e) ≡ true
entry_word e is =
    let kind = type_text (has_guid e.object e.inherited) e.kind in
    let flags = codes_text flag_codes e.flags in
    let rights = rights_text e.mask in
    let thing = guid_text_if e.object in
    let heirs = guid_text_if e.inherited in
    let sid = sid_text e.sid in
    let semi = codes ";" in
    let last = sid ++ codes ")" in
    let a = heirs ++ (semi ++ last) in
    let b = thing ++ (semi ++ a) in
    let c = rights ++ (semi ++ b) in
    let d = flags ++ (semi ++ c) in
    two_words (codes "(") (kind ++ (semi ++ d)) refl
    (two_words kind (semi ++ d) (type_word (has_guid e.object e.inherited) e.kind) (two_words semi d refl
    (two_words flags (semi ++ c) (codes_word flag_codes e.flags flag_letters) (two_words semi c refl
    (two_words rights (semi ++ b) (rights_text_word e.mask) (two_words semi b refl
    (two_words thing (semi ++ a) (guid_if_word e.object) (two_words semi a refl
    (two_words heirs (semi ++ last) (guid_if_word e.inherited) (two_words semi last refl
    (two_words sid (codes ")") (sid_word e.sid is) refl)))))))))))

abbrev AreLines : List (List ℕ) → Type 0
AreLines texts = AllByRecursion (λ (text : List ℕ). is_line text ≡ true) texts

explicit_lines : (es : List Entry) → AllByRecursion (λ (e : Entry). IsSid e.sid) es
    → AreLines (map entry_text (explicit_entries es))
explicit_lines [] all = tt
explicit_lines (e ∷ es) all = by (is_explicit e) (explicit_lines es all.1)
  where
    by : (t : Bool) → AreLines (map entry_text (explicit_entries es))
        → AreLines (map entry_text (if t then e ∷ explicit_entries es else explicit_entries es))
    by true rest = (word_is_line (entry_text e) (entry_word e all.0), rest)
    by false rest = rest

extra_lines : (all others : List (List ℕ)) → AreLines all → AreLines (extra all others)
unfolding extra
extra_lines [] others are = tt
extra_lines (text ∷ all) others are =
    by (has_text others text) (extra_lines all (taken text others) are.1) (extra_lines all others are.1)
  where
    by : (t : Bool) → AreLines (extra all (taken text others)) → AreLines (extra all others)
        → AreLines (if t then extra all (taken text others) else text ∷ extra all others)
    by true less more = less
    by false less more = (are.0, more)

entry_forms : (more : Bool) (name : Dn) (all : List (List ℕ)) → AreRdns name.rdns → AreLines all
    → AreForms (map (entry more name) all)
entry_forms more name [] is are = tt
entry_forms more name (text ∷ all) is are = ((is, are.0), entry_forms more name all is are.1)

-- ---- descriptors

descriptor_forms : (name : Dn) (was is : Sd) → AreRdns name.rdns → HasSids was → HasSids is
    → AreForms (descriptor_causes name was is)
unfolding descriptor_causes owner_causes protection_causes list_causes
descriptor_forms name was is are had has =
    let first = entry_texts was in
    let second = entry_texts is in
    both_forms (owner_causes name was is) _ (unless_form (same_sid was.owner is.owner) (owner name is.owner) (are, has.owner))
    (both_forms (protection_causes name was is) _
    (if_form (differ was.dacl.protected is.dacl.protected) (protection name) are)
    (both_forms (order_causes name first second) _ (if_form (is_reordered first second) (order name) are)
    (both_forms (entry_causes true name second first) (entry_causes false name first second)
    (entry_forms true name (extra second first) are
    (extra_lines second first (explicit_lines is.dacl.entries has.entries)))
    (entry_forms false name (extra first second) are
    (extra_lines first second (explicit_lines was.dacl.entries had.entries))))))

-- ---- one directory

module _ (dir other : Directory) (tellable : IsTellable dir) where
  name_form : (n : ℕ) → is_live dir.objects n ≡ true → AreRdns (name_at dir n).rdns
  name_form n live = tellable.forms.names n live

  alone_forms : (more : Bool) → AreForms (all_alone more dir other)
  unfolding all_alone
  alone_forms more = each_forms (alone_causes more dir other) (numbers dir.objects)
      (all_numbers (λ (n : ℕ). AreForms (alone_causes more dir other n)) dir.objects (λ n live.
      unless_form (is_some (counterpart dir other n)) (object more (name_at dir n)) (name_form n live)))

  members_forms : (more : Bool) (others : List ℕ) (group : ℕ) (ms : List ℕ) → is_live dir.objects group ≡ true
      → AreLive dir ms → AllByRecursion (λ (m : ℕ). AreForms (member_causes more dir other others group m)) ms
  members_forms more others group [] live all = tt
  members_forms more others group (m ∷ ms) live all = (
    unless_form (is_there dir other others m) (member more (name_at dir group) (name_at dir m))
        (name_form group live, name_form m all.0),
    members_forms more others group ms live all.1,
  )

  membership_forms : (more : Bool) → AreForms (membership_causes more dir other)
  unfolding membership_causes
  membership_forms more = each_forms (group_causes more dir other) (numbers dir.objects)
      (all_numbers (λ (n : ℕ). AreForms (group_causes more dir other n)) dir.objects (λ group live.
      each_forms (member_causes more dir other (members_there dir other group) group) (members_of dir group)
      (members_forms more (members_there dir other group) group (members_of dir group) live
      (live_by_recursion dir group))))

-- ---- schemas

told_forms : (key : SchemaRecord → List ℕ) (texts : List (List ℕ)) (all : List SchemaRecord)
    → AreForms (flat_map (λ (r : SchemaRecord). told_unless texts (key r) r) all)
told_forms key texts [] = tt
told_forms key texts (r ∷ all) =
    both_forms (told_unless texts (key r) r) _
    (unless_form (has_text texts (key r)) (schema (record_title r))
    (word_is_line (record_title r) (title_word (title_info r))))
    (told_forms key texts all)

schema_forms : (was is : List SchemaRecord) → AreForms (schema_causes was is)
unfolding schema_causes
schema_forms was is = both_forms (flat_map (new_causes (map record_text was)) is) _
    (told_forms record_text (map record_text was) is) (told_forms record_key (map record_key is) was)

-- ---- two directories

module _ (before after : Directory) (first : IsTellable before) (second : IsTellable after) where
  object_forms : (o : Both) → IsLiveBoth before after o → AreForms (object_causes before after o)
  unfolding object_causes
  object_forms o live =
      let name = name_at after o.after in
      let are = second.forms.names o.after live.second in
      both_forms (descriptor_causes name (sd_at before.objects o.before) (sd_at after.objects o.after)) _
      (descriptor_forms name (sd_at before.objects o.before) (sd_at after.objects o.after) are
      (first.descriptors o.before live.first) (second.descriptors o.after live.second))
      (both_forms (if_changed (class name) (class_name before o.before) (class_name after o.after)) _
      (unless_form (bytes_eq (class_name before o.before) (class_name after o.after)) (class name) are)
      (both_forms (if_changed (primary name) (primary_text before o.before) (primary_text after o.after)) _
      (unless_form (bytes_eq (primary_text before o.before) (primary_text after o.after)) (primary name) are)
      (unless_form (are_same (history_texts before o.before) (history_texts after o.after)) (history name) are)))

  live_forms : (os : List Both) → All (IsLiveBoth before after) os
      → AreForms (flat_map (object_causes before after) os)
  live_forms [] live = tt
  live_forms (o ∷ os) live = both_forms (object_causes before after o) (flat_map (object_causes before after) os)
      (object_forms o (live 0 o (omega arith))) (live_forms os (λ i d lt. live (suc i) d (omega (arith, lt))))

  pub causes_form : AreForms (causes before after)
  unfolding causes all_objects
  causes_form =
      both_forms (all_alone true after before) _ (alone_forms after before second true)
      (both_forms (all_alone false before after) _ (alone_forms before after first false)
      (both_forms (all_objects before after) _
      (live_forms (objects_of_both before after) (all_live before after second.rise))
      (both_forms (membership_causes true after before) _ (membership_forms after before second true)
      (both_forms (membership_causes false before after) _ (membership_forms before after first false)
      (schema_forms before.schema after.schema)))))
