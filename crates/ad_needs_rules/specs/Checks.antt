-- The checks of an operation. They stand in a list, in the order in which they are asked; the first that fails is
-- the answer.
use Rattle.std.specs.Prelude.{ℕ, Bool, if◌then◌else◌, Option, Some, None, List, [], ◌∷◌, map}
use Rattle.ad_ids.specs.declared.token.Token.{Token}
use Rattle.ad_dn.specs.declared.rdn.Rdn.{Rdn}
use Rattle.ad_dir_model.specs.Directory.{Directory}
use Rattle.ad_dir_objects.specs.declared.act.Act.{Act}
use Rattle.ad_needs_rules.specs.declared.need.Need.{Need}
use Rattle.ad_needs_rules.specs.declared.outcome.Verdict.{Verdict}
use Rattle.ad_needs_rules.specs.declared.outcome.Verdict.TheVariants.{Granted, Refused, Hidden, Missing}
use Rattle.ad_needs_rules.specs.Needs.{Alternative, is_met, need_of}

-- A code of RFC 4511; 32 with the parts of the name that is told, which is there; or 50 with what is missing.
pub data Refusal : Type 0 where
  code : ℕ → Refusal
  hidden : List Rdn → Refusal
  missing : Need → Refusal

pub record Check : Type 0 where
  pub holds : Bool
  pub refusal : Refusal

-- this holds, or else it is the code
abbrev pub or_code : Bool → ℕ → Check
or_code holds number = record { holds = holds; refusal = code number }

unfoldable pub first_failing : List Check → Option Refusal
first_failing [] = None
first_failing (check ∷ checks) = if check.holds then first_failing checks else Some check.refusal

-- one of the alternatives is granted, or else the requirement is missing
abbrev pub or_missing : Directory → Token → List Alternative → Check
or_missing dir token requirement = record {
  holds = is_met dir token requirement;
  refusal
      = missing (need_of requirement);
}

-- the requirements as checks, in their order
abbrev pub all_met : Directory → Token → List (List Alternative) → List Check
all_met dir token requirements = map (or_missing dir token) requirements

-- ---- as a verdict

abbrev pub refused : Refusal → Verdict
refused (code number) = Refused number
refused (hidden rdns) = Hidden (record { rdns = rdns })
refused (missing need) = Missing need

-- the first check that fails, or else what is asked for
abbrev pub by_checks : Option Refusal → Act → Verdict
by_checks None act = Granted act
by_checks (Some refusal) act = refused refusal
