use Rattle.std.proofs.Common.{◌∙◌, ap, sym}
use Rattle.ad_dir_model.specs.Directory.{Meta}
use Rattle.ad_dir.proofs.NameLaws.{found_rootless, found_front, found_nowhere}
use Rattle.ad_dir.proofs.names.found.Goals as goal

pub returns-then-not-is_live : goal.returns-then-not-is_live
returns-then-not-is_live c = found_rootless c.args.dir.now c.args.dn.now.rdns
    (sym c.is_live.ensures ∙ c.if-not-is_live.true)

pub returns-in-Some : goal.returns-in-Some
returns-in-Some c =
    c.found_from_root.ensures
    ∙ found_front c.args.dir.now c.args.dn.now.rdns c.as_slice.result.now c.as_slice-2.result.now c.in-Some.front.now
    (sym c.is_live.ensures ∙ c.if-not-is_live.false) c.as_slice.ensures.same
    (c.as_slice-2.ensures.same ∙ ap (λ (m : Meta). m.suffix) c.meta.ensures) c.in-Some.ensures.0 c.in-Some.ensures.1

pub returns-in-None : goal.returns-in-None
returns-in-None c =
    found_nowhere c.args.dir.now c.args.dn.now.rdns c.as_slice.result.now c.as_slice-2.result.now
    (sym c.is_live.ensures ∙ c.if-not-is_live.false) c.as_slice.ensures.same
    (c.as_slice-2.ensures.same ∙ ap (λ (m : Meta). m.suffix) c.meta.ensures) c.in-None.ensures
