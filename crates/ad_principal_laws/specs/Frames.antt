-- Frames that leave what tokens depend on.
use Rattle.std.specs.Prelude.{IfOk}
use Rattle.ad_ldap.specs.MessageValue.{OpValue, ModifyOf, AddOf, DeleteOf}
use Rattle.ad_ldap.specs.MessageReading.{message_of}
use Rattle.ad_frames.specs.declared.frame.FrameBody.{FrameBody}
use Rattle.ad_frames.specs.declared.frame.FrameBody.TheVariants as body
use Rattle.ad_dir_model.specs.Directory.{Directory}
use Rattle.ad_needs_rules.specs.Modifying.{act_items}
use Rattle.ad_principal_laws.specs.Agreeing.{NamesNone}

-- no addition, no deletion, and no Modify that names one of the five attributes
abbrev pub LeavesValues : Directory → OpValue → Type 0
LeavesValues dir (AddOf a) = ⊥
LeavesValues dir (DeleteOf dn) = ⊥
LeavesValues dir (ModifyOf m) = NamesNone dir.schema (act_items dir.schema m.items)
LeavesValues dir _ = Unit {0}

-- a token, steps, a protection run, and a message that is none of these
abbrev pub LeavesTokens : Directory → FrameBody → Type 0
LeavesTokens dir (body.Token token) = Unit {0}
LeavesTokens dir (body.Message bytes) = IfOk (message_of bytes) (λ m. LeavesValues dir m.op)
LeavesTokens dir (body.Steps n) = Unit {0}
LeavesTokens dir body.Run = Unit {0}
