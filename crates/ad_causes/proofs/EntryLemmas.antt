-- The text of one entry.
use Rattle.std.proofs.Common.{◌≡◌, ◌∙◌, ◌++◌, ◌∷◌, [], List, ℕ, drop, None, Some, false, ap}
use Rattle.std.proofs.lemmas.List.{append-nil}
use Rattle.ad_acl.specs.Entry.{Entry}
use Rattle.ad_sd.specs.declared.parts.SdParts.{SdParts}
use Rattle.ad_sddl.specs.Canonical.{entry_text, canonical}

-- a list that has it alone, and nothing else
abbrev pub alone : Entry → SdParts
alone e = record {
  owner = None;
  group = None;
  dacl = Some (record { protected = false; entries = e ∷ [] });
  sacl = None;
}

pub alone_text : (e : Entry) → drop 2 (canonical (alone e)) ≡ entry_text e
unfolding canonical
alone_text e = append-nil (entry_text e ++ []) ∙ append-nil (entry_text e)
