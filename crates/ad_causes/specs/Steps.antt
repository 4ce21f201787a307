-- Only for private contracts, invariants and proofs: the text of the causes of one object, one group, one record.
use Rattle.std.specs.Prelude.{◌≡◌, ℕ, nat_eq, Bool, true, false, if◌then◌else◌, unwrap_or, find, List, [], ◌++◌, codes}
use Rattle.std.specs.List.{flat_map}
use Rattle.std.specs.Option.{option_map}
use Rattle.indexmap.specs.IndexSet.{IndexSet, contains}
use Rattle.ad_schema_classes.specs.Names.{same_name}
use Rattle.ad_schema.specs.declared.line.Line.{Line}
use Rattle.ad_dir_model.specs.Protection.{has}
use Rattle.std.specs.Str.{bytes_eq}
use Rattle.ad_bytes.specs.Puts.{labelled}
use Rattle.ad_ids.specs.SidValue.{same_sid}
use Rattle.ad_ids.specs.SidText.{sid_text}
use Rattle.ad_sd.specs.declared.parts.Sd.{Sd}
use Rattle.ad_dir_model.specs.Directory.{Directory}
use Rattle.ad_both.specs.declared.both.Both.{Both}
use Rattle.ad_schema.specs.declared.line.SchemaRecord.{SchemaRecord}
use Rattle.ad_causes.specs.Extra.{extra}
use Rattle.ad_causes.specs.Cause.{sign, divided, causes_text}
use Rattle.ad_causes.specs.Descriptors.{differ, entry_texts, is_reordered}
use Rattle.ad_causes.specs.Members.{member_causes, group_causes}
use Rattle.ad_causes.specs.Schema.{record_text, record_key, told_unless}
use Rattle.ad_causes.specs.Causes.{alone_causes, are_same, object_causes}

-- ---- objects of one directory

abbrev pub alone_text : Bool → Directory → Directory → ℕ → List ℕ
alone_text more dir other number = causes_text (alone_causes more dir other number)

-- ---- descriptors, of an object of this name

abbrev pub owner_text : List ℕ → Sd → Sd → List ℕ
owner_text name was is =
    if same_sid was.owner is.owner then [] else labelled (codes "owner ") (divided name (sid_text is.owner))

abbrev pub protection_text : List ℕ → Sd → Sd → List ℕ
protection_text name was is =
    if differ was.dacl.protected is.dacl.protected then labelled (codes "protected ") name else []

abbrev pub order_text : List ℕ → List (List ℕ) → List (List ℕ) → List ℕ
order_text name was is = if is_reordered was is then labelled (codes "order ") name else []

abbrev pub entry_line : Bool → List ℕ → List ℕ → List ℕ
entry_line more name text = labelled (codes "entry ") (sign more ++ divided name text)

abbrev pub entries_text : Bool → List ℕ → List (List ℕ) → List ℕ
entries_text more name all = flat_map (entry_line more name) all

abbrev pub lists_text : List ℕ → List (List ℕ) → List (List ℕ) → List ℕ
lists_text name was is =
    order_text name was is ++ (entries_text true name (extra is was) ++ entries_text false name (extra was is))

abbrev pub descriptors_text : List ℕ → Sd → Sd → List ℕ
descriptors_text name was is =
    owner_text name was is
    ++ (protection_text name was is ++ lists_text name (entry_texts was) (entry_texts is))

-- ---- objects of both

abbrev pub changed_text : List ℕ → List ℕ → List ℕ → List ℕ → List ℕ
changed_text label name was is = if bytes_eq was is then [] else labelled label name

abbrev pub history_text : List ℕ → List (List ℕ) → List (List ℕ) → List ℕ
history_text name was is = if are_same was is then [] else labelled (codes "history ") name

abbrev pub object_text : Directory → Directory → Both → List ℕ
object_text before after o = causes_text (object_causes before after o)

-- ---- members

-- the set has these
abbrev pub IsSetOf : {S : Type 0} → List ℕ → IndexSet ℕ S → Type 0
IsSetOf numbers set = (n : ℕ) → contains nat_eq set n ≡ has numbers n

abbrev pub member_text : Bool → Directory → Directory → List ℕ → ℕ → ℕ → List ℕ
member_text more dir other others group number = causes_text (member_causes more dir other others group number)

abbrev pub group_text : Bool → Directory → Directory → ℕ → List ℕ
group_text more dir other group = causes_text (group_causes more dir other group)

-- ---- records

abbrev pub record_line : List (List ℕ) → List ℕ → SchemaRecord → List ℕ
record_line texts text r = causes_text (told_unless texts text r)

abbrev pub new_line : List (List ℕ) → SchemaRecord → List ℕ
new_line texts r = record_line texts (record_text r) r

abbrev pub gone_line : List (List ℕ) → SchemaRecord → List ℕ
gone_line keys r = record_line keys (record_key r) r

-- the value of the first line of a name
abbrev pub field_text : List ℕ → List Line → List ℕ
field_text name lines =
    unwrap_or (option_map (λ (line : Line). line.value) (find (λ (line : Line). same_name line.name name) lines)) []
