use Rattle.std.proofs.Common.{sym}
use Rattle.std.proofs.lemmas.Bool.{both_ways}
use Rattle.ad_dir_model.specs.Objects.{is_live}
use Rattle.ad_search.proofs.SightLaws.{none_seen, other_seen, it_is_seen}
use Rattle.ad_search.proofs.finding.seen_named.Goals as goal

pub returns-in_default-clause-found : goal.returns-in_default-clause-found
returns-in_default-clause-found c =
    sym (none_seen c.args.dir.now c.args.token.now c.args.dn.now.rdns c.invariants.ensures
    (sym (rw c.in_default.is at c.in_ok-number.ensures.found)))

pub returns-then-not-is_live-clause-found : goal.returns-then-not-is_live-clause-found
returns-then-not-is_live-clause-found c =
    sym (other_seen c.args.dir.now c.args.token.now c.args.dn.now.rdns c.in-Some.number c.invariants.ensures
    (sym (rw c.in-Some.is at c.in_ok-number.ensures.found))
    (λ live. absurd (both_ways (is_live c.args.dir.now.objects c.in-Some.number) (sym c.if-not-is_live.ensures) live)))

pub returns-then-branch-clause-found : goal.returns-then-branch-clause-found
returns-then-branch-clause-found c =
    sym (it_is_seen c.args.dir.now c.args.token.now c.args.dn.now.rdns c.in-Some.number c.invariants.ensures
    (sym c.if-not-is_live.ensures)
    (sym (rw (c.if-branch.true, c.as_slice.ensures.same) at c.in_ok-is_seen_as.ensures)))

pub returns-clause-found : goal.returns-clause-found
returns-clause-found c =
    sym (other_seen c.args.dir.now c.args.token.now c.args.dn.now.rdns c.in-Some.number c.invariants.ensures
    (sym (rw c.in-Some.is at c.in_ok-number.ensures.found))
    (λ live. sym (rw (c.if-branch.false, c.as_slice.ensures.same) at c.in_ok-is_seen_as.ensures)))
