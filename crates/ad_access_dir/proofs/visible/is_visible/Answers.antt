use Rattle.ad_sd.specs.Seen.{seen}
use Rattle.ad_access_dir.proofs.SightLaws.{root_visible, visible_by}
use Rattle.ad_access_dir.proofs.visible.is_visible.Goals as goal

pub returns-then-number-eq-ROOT : goal.returns-then-number-eq-ROOT
returns-then-number-eq-ROOT c = root_visible c.args.dir.now c.args.token.now c.args.number c.if-number-eq-ROOT.true

pub returns : goal.returns
returns c =
    visible_by c.args.dir.now c.args.token.now c.args.number c.parent_of-parent.result c.args.list_mode
    (seen c.live_sd.result) (seen c.live_sd-2.result) c.sees.result
    c.if-number-eq-ROOT.false c.parent_of-parent.ensures.parent c.requires.mode c.live_sd.ensures
    c.live_sd-2.ensures
    (rw (c.self_sid.ensures, c.self_sid-2.ensures) at c.sees.ensures)
