-- What an input gives a directory.
use Rattle.std.specs.Prelude.{◌≡◌, ℕ, List, [], Option, Result, Ok, Err}
use Rattle.site_io.specs.Told.{BothTold}
use Rattle.ad_ldap.specs.declared.requests.Message.{Message}
use Rattle.ad_dir_model.specs.Directory.{Directory}
use Rattle.ad_ldifmod.specs.declared.fault.GrantKind.{GrantKind}
use Rattle.ad_ldifmod.specs.declared.fault.GrantFault.{GrantFault}
use Rattle.ad_ldifmod.specs.declared.fault.GrantFault.TheVariants.{Bad, Memory}
use Rattle.cmd_call.specs.declared.outcome.Outcome.{Outcome}
use Rattle.cmd_grants.specs.Lines.{given_by, text_for, outcome_for}

-- the whole input, which was read to its end, gives these messages
abbrev pub GivesMessages : Directory → Option (List ℕ) → Option (List ℕ) → List Message → Type 0
GivesMessages dir rest left messages = BothTold rest left
    (λ input behind. (behind ≡ []) × (given_by dir input ≡ Ok messages))

-- it goes wrong at this line; of a text above its limit some of the input may be left
abbrev pub GoesWrong : Directory → Option (List ℕ) → Option (List ℕ) → ℕ → GrantKind → Type 0
GoesWrong dir rest left line kind = BothTold rest left (λ input behind. given_by dir input ≡ Err (Bad line kind))

-- ---- steps of the command

-- what an input gave
abbrev pub Gave : Directory → Option (List ℕ) → Option (List ℕ) → Result (List Message) GrantFault → Type 0
Gave dir rest left (Ok messages) = GivesMessages dir rest left messages
Gave dir rest left (Err (Bad line kind)) = GoesWrong dir rest left line kind
Gave dir rest left (Err Memory) = ⊥

-- the text for an input, and how the command ends with it
pub record IsTextOf (dir : Directory) (rest left : Option (List ℕ)) (text : List ℕ) (next : Outcome) : Type 0 where
  pub given : Result (List Message) GrantFault
  pub gave : Gave dir rest left given
  pub text_is : text ≡ text_for given
  pub next_is : next ≡ outcome_for given
