-- Only for private contracts, invariants and proofs: steps of the code.
use Rattle.std.specs.Prelude.{◌≡◌, ◌≢◌, ℕ, ◌<◌, Bool, true, false, List, ◌∷◌, length}
use Rattle.ad_acl.specs.declared.write_fault.AclWriteFault.{AclWriteFault}
use Rattle.ad_acl.specs.declared.write_fault.AclWriteFault.TheVariants as acl
use Rattle.ad_dir_model.specs.Directory.{Directory}
use Rattle.ad_ldifmod.specs.declared.lines.PartsIn.{PartsIn}
use Rattle.ad_ldifmod.specs.declared.change.Change.{Change}
use Rattle.ad_ldifmod.specs.declared.fault.GrantKind.TheVariants as kind
use Rattle.ad_ldifmod.specs.declared.fault.Refusal.{Refusal}
use Rattle.ad_ldifmod.specs.declared.fault.Refusal.TheVariants as refusal
use Rattle.ad_ldifmod.specs.Lines.{Parts, lines_of}
use Rattle.ad_ldifmod.specs.Lists.{changed_list}
use Rattle.ad_ldifmod.specs.Taken.{ListCache, lists_in}

abbrev pub is_memory_refusal : Refusal → Bool
is_memory_refusal (refusal.Bad kind) = false
is_memory_refusal refusal.Memory = true

-- the parts of a line, as they stand in it
abbrev pub parts_seen : PartsIn → Parts
parts_seen parts = record { verb = parts.verb; what = parts.what.now; name = parts.name.now }

-- a text is its first line and the text after it
pub record IsFirstLine (text line behind : List ℕ) : Type 0 where
  pub lines : lines_of text ≡ line ∷ lines_of behind
  pub shorter : length behind < length text

-- how a list that isn't written ends a line
abbrev pub of_list : AclWriteFault → Refusal
of_list acl.TooLong = refusal.Bad kind.TooLong
of_list acl.Memory = refusal.Memory

-- The list of one object was changed, and no other.
pub record IsChanged (dir : Directory) (old new : ListCache) (number : ℕ) (change : Change) : Type 0 where
  pub here : lists_in dir new number ≡ changed_list change (lists_in dir old number)
  pub others : (n : ℕ) → n ≢ number → lists_in dir new n ≡ lists_in dir old n
