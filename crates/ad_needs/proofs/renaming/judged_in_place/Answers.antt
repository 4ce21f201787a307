use Rattle.std.proofs.Common.{◌∙◌, ap}
use Rattle.ad_dn.specs.declared.rdn.Dn.{Dn}
use Rattle.ad_dir.proofs.NameLaws.{if_ok}
use Rattle.ad_needs_rules.specs.declared.outcome.Verdict.TheVariants.{Hidden}
use Rattle.ad_needs.proofs.RenameLaws.{in_place_unseen, in_place_seen}
use Rattle.ad_needs.proofs.renaming.judged_in_place.Goals as goal

pub returns-in-Some : goal.returns-in-Some
returns-in-Some c =
    if_ok c.verdict_there.result
    (λ verdict is. is ∙ in_place_seen c.args.dir.now c.args.token.now c.args.dn.now.rdns c.args.rdn c.in-Some.number
    (rw c.in-Some.is at c.in_ok-number.ensures.found))
    c.verdict_there.ensures

pub returns-in_ok-matched-in-None : goal.returns-in_ok-matched-in-None
returns-in_ok-matched-in-None c =
    ap (λ (d : Dn). Hidden d) c.in_ok-matched-in-None.ensures
    ∙ in_place_unseen c.args.dir.now c.args.token.now c.args.dn.now.rdns c.args.rdn
    (rw c.in-None.is at c.in_ok-number.ensures.found)
