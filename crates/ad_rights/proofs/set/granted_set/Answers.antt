use Rattle.std.proofs.Common.{◌≡◌, ◌∙◌}
use Rattle.std.specs.Option.{option_copied}
use Rattle.std.proofs.lemmas.Result.{IfOk-weaker}
use Rattle.ad_sd.specs.Seen.{seen}
use Rattle.ad_rights.proofs.Granting.{audited}
use Rattle.ad_rights.proofs.set.granted_set.Goals as goal

pub returns-then-bit-eq-ACCESS_SYSTEM_SECURITY : goal.returns-then-bit-eq-ACCESS_SYSTEM_SECURITY
returns-then-bit-eq-ACCESS_SYSTEM_SECURITY c =
    IfOk-weaker c.copy_of.result _ _ (λ set copied tokens index bare.
    audited (seen c.args.view.now) tokens (option_copied c.args.self_sid) c.args.path.now c.args.bit set.items
    c.if-bit-eq-ACCESS_SYSTEM_SECURITY.true (copied ∙ c.auditors.ensures ∙ index.auditors)) c.copy_of.ensures
