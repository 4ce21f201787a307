-- How a command ends that answers a question, or says why there is no answer.
use Rattle.std.specs.Prelude.{Bool, true, false}
use Rattle.cmd_call.specs.declared.outcome.Outcome.{Outcome}
use Rattle.cmd_call.specs.declared.outcome.Outcome.TheVariants.{Done, NoObject}

abbrev pub outcome_of : Bool → Outcome
outcome_of true = Done
outcome_of false = NoObject
