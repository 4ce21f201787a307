-- What is told: the differences, or the line that says why there are none.
use Rattle.std.specs.Prelude.{◌≡◌, ℕ, Bool, true, false, List, [], codes}
use Rattle.ad_bytes.specs.Puts.{labelled}
use Rattle.ad_dir_model.specs.Directory.{Directory}
use Rattle.ad_dir_model.specs.Names.{name_text}
use Rattle.ad_diff_rights.specs.declared.tokens.DiffFault.{DiffFault}
use Rattle.ad_diff_rights.specs.declared.tokens.DiffFault.TheVariants.{Before, After, Memory}
use Rattle.ad_diff_rights.specs.Both.{principals_of_both}
use Rattle.ad_diff_rights.specs.Parties.{IsRefused}
use Rattle.ad_diff.specs.Text.{IsDiffText}

-- the line of a fault; want of memory has none
abbrev pub fault_line : Directory → Directory → DiffFault → List ℕ
fault_line before after (Before number) = labelled (codes "too many groups before ") (name_text before number)
fault_line before after (After number) = labelled (codes "too many groups after ") (name_text after number)
fault_line before after Memory = []

-- the line of the first fault
abbrev pub IsRefusal : Directory → Directory → List ℕ → Type 0
IsRefusal before after line = (fault : DiffFault) × IsRefused before after (principals_of_both before after) fault
    × (line ≡ fault_line before after fault)

-- the differences, or the line that says why there are none
abbrev pub DiffTold : Directory → Directory → Bool → List ℕ → Type 0
DiffTold before after true text = IsDiffText before after text
DiffTold before after false text = IsRefusal before after text
