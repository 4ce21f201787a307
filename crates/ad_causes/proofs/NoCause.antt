-- From a directory to itself there is no cause.
use Rattle.std.proofs.Common.{◌≡◌, ◌∙◌, ◌++◌, ◌∷◌, [], ℕ, Bool, true, false, Option, Some, None, List, map, refl, sym, ap}
use Rattle.std.specs.Prelude.{◌==◌, ◌||◌, ◌&&◌, not, is_some, if◌then◌else◌}
use Rattle.std.specs.List.{AllByRecursion, flat_map}
use Rattle.std.specs.Option.{option_map_or}
use Rattle.std.specs.Str.{bytes_eq}
use Rattle.std.proofs.lemmas.Bool.{or_left, or_right}
use Rattle.std.proofs.lemmas.Bool.Decides.{Decides-eqb}
use Rattle.std.proofs.lemmas.Grind.{flat_map-append}
use Rattle.ad_ids.specs.SidValue.{same_sid}
use Rattle.ad_ids.proofs.SidLaws.{same_sid-Decides}
use Rattle.ad_sd.specs.declared.parts.Sd.{Sd}
use Rattle.ad_dn.specs.declared.rdn.Dn.{Dn}
use Rattle.ad_schema.specs.declared.line.SchemaRecord.{SchemaRecord}
use Rattle.ad_dir_model.specs.Directory.{Directory}
use Rattle.ad_dir_model.specs.Objects.{is_live, numbers, sd_at}
use Rattle.ad_dir_model.specs.Protection.{has}
use Rattle.ad_dir_model.specs.Soundness.{IsSound}
use Rattle.ad_dir_model.proofs.Counting.{all_numbers}
use Rattle.ad_both.specs.declared.both.Both.{Both}
use Rattle.ad_both.specs.Both.{counterpart, both, with_other, both_among, objects_of_both}
use Rattle.ad_both.proofs.Itself.{itself}
use Rattle.ad_causes.specs.Extra.{has_text, extra, is_none}
use Rattle.ad_causes.specs.Cause.{Cause, object, owner, protection, order, entry, class, primary, history, member, name_at}
use Rattle.ad_causes.specs.Descriptors.{owner_causes, differ, protection_causes, entry_texts, joined, is_reordered}
use Rattle.ad_causes.specs.Descriptors.{order_causes, entry_causes, list_causes, descriptor_causes}
use Rattle.ad_causes.specs.Members.{members_of, members_there, is_there, member_causes, group_causes, membership_causes}
use Rattle.ad_causes.specs.Schema.{record_text, record_key, told_unless, schema_causes, record_title}
use Rattle.ad_causes.specs.Schema.{new_causes, gone_causes}
use Rattle.ad_causes.specs.Cause.{schema}
use Rattle.ad_causes.specs.Causes.{alone_causes, all_alone, class_name, primary_text, history_texts, if_changed, are_same}
use Rattle.ad_causes.specs.Causes.{history_causes, object_causes, all_objects, causes}
use Rattle.ad_causes.proofs.CountLemmas.{same_bytes, extra_self}
use Rattle.ad_causes.proofs.MemberLemmas.{AreLive, live_by_recursion}

-- ---- lists

none_each : {A : Type 0} (f : A → List Cause) (all : List A) → AllByRecursion (λ (a : A). f a ≡ []) all
    → flat_map f all ≡ []
none_each f [] none = refl
none_each f (a ∷ all) none = ap (λ (t : List Cause). t ++ flat_map f all) none.0 ∙ none_each f all none.1

none_of_numbers : (dir : Directory) (f : ℕ → List Cause) → ((n : ℕ) → is_live dir.objects n ≡ true → f n ≡ [])
    → flat_map f (numbers dir.objects) ≡ []
none_of_numbers dir f none = none_each f (numbers dir.objects) (all_numbers (λ (n : ℕ). f n ≡ []) dir.objects none)

two_none : (a b : List Cause) → a ≡ [] → b ≡ [] → a ++ b ≡ []
two_none a b p q = ap (λ (t : List Cause). t ++ b) p ∙ q

-- ---- descriptors

differ_self : (t : Bool) → differ t t ≡ false
differ_self true = refl
differ_self false = refl

and_false : (a b : Bool) → (a && (b && false)) ≡ false
and_false true true = refl
and_false true false = refl
and_false false b = refl

no_owner : (name : Dn) (sd : Sd) → owner_causes name sd sd ≡ []
unfolding owner_causes
no_owner name sd = ap (λ (t : Bool). if t then [] else owner name sd.owner ∷ [])
    ((same_sid-Decides sd.owner sd.owner).1 refl)

no_protection : (name : Dn) (sd : Sd) → protection_causes name sd sd ≡ []
unfolding protection_causes
no_protection name sd = ap (λ (t : Bool). if t then protection name ∷ [] else []) (differ_self sd.dacl.protected)

no_order : (name : Dn) (all : List (List ℕ)) → order_causes name all all ≡ []
no_order name all =
    let none = is_none (extra all all) in
    ap (λ (t : Bool). if t then order name ∷ [] else [])
    (ap (λ (t : Bool). none && (none && not t)) (same_bytes (joined all)) ∙ and_false none none)

no_lists : (name : Dn) (all : List (List ℕ)) → list_causes name all all ≡ []
unfolding list_causes
no_lists name all = two_none (order_causes name all all) _ (no_order name all)
    (two_none (entry_causes true name all all) (entry_causes false name all all)
    (ap (map (entry true name)) (extra_self all)) (ap (map (entry false name)) (extra_self all)))

no_descriptors : (name : Dn) (sd : Sd) → descriptor_causes name sd sd ≡ []
unfolding descriptor_causes
no_descriptors name sd = two_none (owner_causes name sd sd) _ (no_owner name sd)
    (two_none (protection_causes name sd sd) _ (no_protection name sd) (no_lists name (entry_texts sd)))

-- ---- objects

no_change : (cause : Cause) (text : List ℕ) → if_changed cause text text ≡ []
no_change cause text = ap (λ (t : Bool). if t then [] else cause ∷ []) (same_bytes text)

no_history : (name : Dn) (all : List (List ℕ)) → history_causes name all all ≡ []
no_history name all = ap (λ (e : List (List ℕ)). if is_none e && is_none e then [] else history name ∷ [])
    (extra_self all)

no_object_causes : (dir : Directory) (n : ℕ) → object_causes dir dir (both n n) ≡ []
unfolding object_causes
no_object_causes dir n =
    let name = name_at dir n in
    two_none (descriptor_causes name (sd_at dir.objects n) (sd_at dir.objects n)) _
    (no_descriptors name (sd_at dir.objects n))
    (two_none (if_changed (class name) (class_name dir n) (class_name dir n)) _
    (no_change (class name) (class_name dir n))
    (two_none (if_changed (primary name) (primary_text dir n) (primary_text dir n)) _
    (no_change (primary name) (primary_text dir n)) (no_history name (history_texts dir n))))

module _ (dir : Directory) (sound : IsSound dir) where
  no_alone : (more : Bool) → all_alone more dir dir ≡ []
  unfolding all_alone
  no_alone more = none_of_numbers dir (alone_causes more dir dir) (λ n live.
      ap (λ (o : Option ℕ). if is_some o then [] else object more (name_at dir n) ∷ []) (itself dir n sound live))

  among : (ns : List ℕ) → AreLive dir ns → flat_map (object_causes dir dir) (both_among dir dir ns) ≡ []
  among [] live = refl
  among (n ∷ ns) live =
      flat_map-append (object_causes dir dir) (with_other n (counterpart dir dir n)) (both_among dir dir ns)
      ∙ two_none (flat_map (object_causes dir dir) (with_other n (counterpart dir dir n))) _
      (ap (λ (o : Option ℕ). flat_map (object_causes dir dir) (with_other n o)) (itself dir n sound live.0)
      ∙ two_none (object_causes dir dir (both n n)) [] (no_object_causes dir n) refl)
      (among ns live.1)

  no_objects : all_objects dir dir ≡ []
  unfolding all_objects
  no_objects = among (numbers dir.objects)
      (all_numbers (λ (n : ℕ). is_live dir.objects n ≡ true) dir.objects (λ n live. live))

  -- ---- members

  there_itself : (group : ℕ) → is_live dir.objects group ≡ true → members_there dir dir group ≡ members_of dir group
  unfolding members_there
  there_itself group live = ap (λ (o : Option ℕ). option_map_or (members_of dir) o []) (itself dir group sound live)

  each_there : (more : Bool) (group : ℕ) (others ms : List ℕ) → AreLive dir ms
      → ((m : ℕ) → has ms m ≡ true → has others m ≡ true)
      → flat_map (member_causes more dir dir others group) ms ≡ []
  each_there more group others [] live within = refl
  each_there more group others (m ∷ ms) live within =
      two_none (member_causes more dir dir others group m) _
      (ap (λ (o : Option ℕ). if option_map_or (has others) o false then []
      else member more (name_at dir group) (name_at dir m) ∷ []) (itself dir m sound live.0)
      ∙ ap (λ (t : Bool). if t then [] else member more (name_at dir group) (name_at dir m) ∷ [])
      (within m (or_left (m == m) (has ms m) ((Decides-eqb m m).1 refl))))
      (each_there more group others ms live.1 (λ k is. within k (or_right (m == k) (has ms k) is)))

  no_group : (more : Bool) (group : ℕ) → is_live dir.objects group ≡ true → group_causes more dir dir group ≡ []
  no_group more group live =
      ap (λ (others : List ℕ). flat_map (member_causes more dir dir others group) (members_of dir group))
      (there_itself group live)
      ∙ each_there more group (members_of dir group) (members_of dir group) (live_by_recursion dir group) (λ m is. is)

  no_memberships : (more : Bool) → membership_causes more dir dir ≡ []
  unfolding membership_causes
  no_memberships more = none_of_numbers dir (group_causes more dir dir) (no_group more)

-- ---- schemas

none_told : (key : SchemaRecord → List ℕ) (texts : List (List ℕ)) (all : List SchemaRecord)
    → ((t : List ℕ) → has_text (map key all) t ≡ true → has_text texts t ≡ true)
    → flat_map (λ (r : SchemaRecord). told_unless texts (key r) r) all ≡ []
none_told key texts [] within = refl
none_told key texts (r ∷ all) within =
    two_none (told_unless texts (key r) r) _
    (ap (λ (t : Bool). if t then [] else schema (record_title r) ∷ [])
    (within (key r) (or_left (bytes_eq (key r) (key r)) (has_text (map key all) (key r)) (same_bytes (key r)))))
    (none_told key texts all (λ t is. within t (or_right (bytes_eq t (key r)) (has_text (map key all) t) is)))

no_schemas : (all : List SchemaRecord) → schema_causes all all ≡ []
unfolding schema_causes
no_schemas all = two_none (flat_map (new_causes (map record_text all)) all) _
    (none_told record_text (map record_text all) all (λ t is. is))
    (none_told record_key (map record_key all) all (λ t is. is))

-- ---- all

pub no_cause : (dir : Directory) → IsSound dir → causes dir dir ≡ []
unfolding causes
no_cause dir sound =
    two_none (all_alone true dir dir) _ (no_alone dir sound true)
    (two_none (all_alone false dir dir) _ (no_alone dir sound false)
    (two_none (all_objects dir dir) _ (no_objects dir sound)
    (two_none (membership_causes true dir dir) _ (no_memberships dir sound true)
    (two_none (membership_causes false dir dir) _ (no_memberships dir sound false) (no_schemas dir.schema)))))
