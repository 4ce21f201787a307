use Rattle.std.proofs.Common.{sym}
use Rattle.std.proofs.lemmas.Bool.{both_ways}
use Rattle.ad_dir_model.specs.Objects.{is_live}
use Rattle.ad_search.proofs.SightLaws.{other_seen}
use Rattle.ad_search.proofs.AboveLaws.{none_there, there_by}
use Rattle.ad_search.proofs.finding.is_there.Goals as goal

pub returns-then-not-is_live : goal.returns-then-not-is_live
returns-then-not-is_live c =
    none_there c.args.dir.now c.args.token.now c.args.rdns.now
    (other_seen c.args.dir.now c.args.token.now c.args.rdns.now c.args.number c.invariants.ensures c.requires.found
    (λ live. absurd (both_ways (is_live c.args.dir.now.objects c.args.number) (sym c.if-not-is_live.ensures) live)))

pub returns : goal.returns
returns c = rw (← there_by c.args.dir.now c.args.token.now c.args.rdns.now c.args.number c.invariants.ensures
    c.requires.found (sym c.if-not-is_live.ensures)) c.is_seen_as.ensures
