use Rattle.std.proofs.Common.{sym, ◌∙◌}
use Rattle.ad_constructed_dir.proofs.ChangingLaws.{no_parts, parts_by}
use Rattle.ad_constructed_dir.proofs.object_rights.ObjectRightsRights.sd_parts.Goals as goal

pub returns-then-not-is_live : goal.returns-then-not-is_live
returns-then-not-is_live c =
    let rights = c.args.self.now in
    no_parts rights.dir.now rights.token.now rights.number rights.written.now c.if-not-is_live.ensures

pub returns : goal.returns
returns c =
    let rights = c.args.self.now in
    c.parts_written.ensures ∙ sym (parts_by rights.dir.now rights.token.now rights.number
    (sym c.if-not-is_live.ensures) rights.written.now)
