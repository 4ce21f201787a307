-- What a line asks for: an entry for a list, or an identifier whose entries are taken out.
use Rattle.std.specs.Prelude.{ℕ, ◌==◌, ◌&&◌, Bool, true, false, if◌then◌else◌, Option, Some, None, List, [], ◌∷◌}
use Rattle.std.specs.Prelude.{◌++◌, codes, Result, Ok, Err}
use Rattle.std.specs.Option.{option_map, option_and_then}
use Rattle.ad_ids.specs.SidValue.{SidValue}
use Rattle.ad_acl.specs.declared.kind.AceKind.{AceKind}
use Rattle.ad_acl.specs.declared.kind.AceKind.TheVariants.{Allow, Deny as Denies, Audit}
use Rattle.ad_acl.specs.Entry.{Entry}
use Rattle.ad_sd.specs.declared.parts.AceList.{AceList}
use Rattle.ad_sd.specs.declared.parts.SdParts.{SdParts}
use Rattle.ad_sddl.specs.declared.fault.SddlFault.{SddlFault}
use Rattle.ad_sddl.specs.Reading.{read_of}
use Rattle.ad_inherit.specs.Whole.{is_explicit}
use Rattle.ad_ldifmod.specs.declared.lines.Verb.{Verb}
use Rattle.ad_ldifmod.specs.declared.lines.Verb.TheVariants.{Grant, Deny, Revoke}
use Rattle.ad_ldifmod.specs.declared.change.Change.{Change}
use Rattle.ad_ldifmod.specs.declared.change.Change.TheVariants.{Behind, Front, Without}

-- ---- one entry, and one identifier, as SDDL writes them

-- the parts of a descriptor that a text encodes; none where it encodes none
abbrev pub if_read : Result SdParts SddlFault → Option SdParts
if_read (Ok parts) = Some parts
if_read (Err fault) = None

abbrev pub sole : List Entry → Option Entry
sole [] = None
sole (entry ∷ []) = Some entry
sole (entry ∷ other ∷ others) = None

-- the entry of a descriptor that has one entry in its list and nothing else
abbrev pub sole_entry : SdParts → Option Entry
sole_entry parts = by parts.owner parts.group parts.dacl parts.sacl
  where
    by : Option SidValue → Option SidValue → Option AceList → Option AceList → Option Entry
    by None None (Some list) None = sole list.entries
    by owner group dacl sacl = None

-- the owner of a descriptor that has nothing else
abbrev pub sole_owner : SdParts → Option SidValue
sole_owner parts = by parts.owner parts.group parts.dacl parts.sacl
  where
    by : Option SidValue → Option SidValue → Option AceList → Option AceList → Option SidValue
    by (Some owner) None None None = Some owner
    by owner group dacl sacl = None

abbrev pub begins_entry : List ℕ → Bool
begins_entry [] = false
begins_entry (b ∷ text) = b == 40

-- The entry that a text encodes, all of it: after `D:` it is the text of a list with this entry, and it begins with
-- its parenthesis. Aliases stand below the domain.
unfoldable pub entry_of : Option SidValue → List ℕ → Option Entry
entry_of domain text = if begins_entry text then option_and_then sole_entry
    (if_read (read_of domain (codes "D:" ++ text))) else None

-- the identifier that a text encodes, all of it: after `O:` it is the text of an owner
unfoldable pub sid_of : Option SidValue → List ℕ → Option SidValue
sid_of domain text = option_and_then sole_owner (if_read (read_of domain (codes "O:" ++ text)))

-- ---- what a line asks for

abbrev pub is_kind : AceKind → AceKind → Bool
is_kind Allow Allow = true
is_kind Denies Denies = true
is_kind Audit Audit = true
is_kind _ _ = false

-- the entry, where it is of this kind and doesn't say that it was inherited
abbrev pub if_own : AceKind → Entry → Option Entry
if_own kind entry = if is_kind entry.kind kind && is_explicit entry then Some entry else None

abbrev pub own_entry : AceKind → Option SidValue → List ℕ → Option Entry
own_entry kind domain text = option_and_then (if_own kind) (entry_of domain text)

-- A grant puts an entry that allows after a list, a denial one that denies before it, and a revocation takes out
-- those of an identifier.
abbrev pub change_of : Option SidValue → Verb → List ℕ → Option Change
change_of domain Grant text = option_map Behind (own_entry Allow domain text)
change_of domain Deny text = option_map Front (own_entry Denies domain text)
change_of domain Revoke text = option_map Without (sid_of domain text)
