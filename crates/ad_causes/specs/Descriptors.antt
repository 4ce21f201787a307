-- What differs in the descriptors of an object: the owner, and of the DACL the protection and the explicit entries. Entries
-- that came from a parent follow from those.
use Rattle.std.specs.Prelude.{ℕ, Bool, true, false, not, ◌&&◌, if◌then◌else◌, List, [], ◌∷◌, ◌++◌, map}
use Rattle.std.specs.List.{flat_map}
use Rattle.std.specs.Str.{bytes_eq}
use Rattle.ad_ids.specs.SidValue.{same_sid}
use Rattle.ad_sd.specs.declared.parts.Sd.{Sd}
use Rattle.ad_dn.specs.declared.rdn.Dn.{Dn}
use Rattle.ad_sddl.specs.Canonical.{entry_text}
use Rattle.ad_inherit.specs.Whole.{explicit_entries}
use Rattle.ad_causes.specs.Extra.{extra, is_none}
use Rattle.ad_causes.specs.Cause.{Cause, owner, protection, order, entry}

-- ---- owner and protection

unfoldable pub owner_causes : Dn → Sd → Sd → List Cause
owner_causes name was is = if same_sid was.owner is.owner then [] else owner name is.owner ∷ []

abbrev pub differ : Bool → Bool → Bool
differ true is = not is
differ false is = is

unfoldable pub protection_causes : Dn → Sd → Sd → List Cause
protection_causes name was is = if differ was.dacl.protected is.dacl.protected then protection name ∷ [] else []

-- ---- entries

-- each explicit entry of the DACL as SDDL writes it, in their order
abbrev pub entry_texts : Sd → List (List ℕ)
entry_texts sd = map entry_text (explicit_entries sd.dacl.entries)

abbrev pub joined : List (List ℕ) → List ℕ
joined texts = flat_map (λ (text : List ℕ). text) texts

-- each entry as often, and another list
abbrev pub is_reordered : List (List ℕ) → List (List ℕ) → Bool
is_reordered was is = is_none (extra is was) && (is_none (extra was is) && not (bytes_eq (joined was) (joined is)))

abbrev pub order_causes : Dn → List (List ℕ) → List (List ℕ) → List Cause
order_causes name was is = if is_reordered was is then order name ∷ [] else []

-- an entry is told as often as the one list has it more than the other
abbrev pub entry_causes : Bool → Dn → List (List ℕ) → List (List ℕ) → List Cause
entry_causes more name all others = map (entry more name) (extra all others)

unfoldable pub list_causes : Dn → List (List ℕ) → List (List ℕ) → List Cause
list_causes name was is =
    order_causes name was is ++ (entry_causes true name is was ++ entry_causes false name was is)

-- ---- all

unfoldable pub descriptor_causes : Dn → Sd → Sd → List Cause
descriptor_causes name was is =
    owner_causes name was is
    ++ (protection_causes name was is ++ list_causes name (entry_texts was) (entry_texts is))
