-- Only for private contracts and proofs: what an input was judged to be.
use Rattle.std.specs.Prelude.{◌≡◌, ◌≤◌, ℕ, List, [], length, Option, Err}
use Rattle.site_io.specs.Told.{BothTold}
use Rattle.ad_dir_model.specs.Directory.{Directory}
use Rattle.ad_ldifmod.specs.declared.fault.GrantKind.{GrantKind}
use Rattle.ad_ldifmod.specs.declared.fault.GrantKind.TheVariants.{TooLong}
use Rattle.ad_ldifmod.specs.declared.fault.GrantFault.TheVariants.{Bad}
use Rattle.ad_ldifmod.specs.Grants.{messages_of}
use Rattle.ad_ldifmod.specs.Taken.{GivesSome}
use Rattle.cmd_grants.specs.declared.judging.Judged.{Judged}
use Rattle.cmd_grants.specs.declared.judging.Judged.TheVariants.{Good, Wrong}
use Rattle.cmd_grants.specs.Lines.{grant_line}
use Rattle.cmd_grants.specs.Given.{GoesWrong}

-- it is the line of a text above its limit
abbrev pub IsTooLong : Judged → Type 0
IsTooLong (Good text) = ⊥
IsTooLong (Wrong line) = line.items ≡ grant_line (Bad 0 TooLong)

-- no line goes wrong, or this is the line of the first that does
abbrev pub IsJudgedText : Directory → List ℕ → Judged → Type 0
IsJudgedText dir given (Good text) = (text.items ≡ given) × GivesSome dir given
IsJudgedText dir given (Wrong line) = (n : ℕ) × (kind : GrantKind) × (messages_of dir given ≡ Err (Bad n kind))
    × (line.items ≡ grant_line (Bad n kind))

-- the same of an input, which was read to its end where no line goes wrong
abbrev pub IsJudged : Directory → Option (List ℕ) → Option (List ℕ) → Judged → Type 0
IsJudged dir rest left (Good text) = (length text.items ≤ 1048576) × GivesSome dir text.items
    × BothTold rest left (λ input behind. (input ≡ text.items) × (behind ≡ []))
IsJudged dir rest left (Wrong line) = (n : ℕ) × (kind : GrantKind) × GoesWrong dir rest left n kind
    × (line.items ≡ grant_line (Bad n kind))
