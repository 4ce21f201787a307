use Rattle.std.proofs.Common.{sym}
use Rattle.ad_dir_model.proofs.Named.{found_live}
use Rattle.ad_needs_rules.proofs.SightLaws.{visible_some, visible_none, visible_lives}
use Rattle.ad_needs_rules.proofs.naming.visible.Goals as goal

pub if_visible-requires : goal.if_visible-requires
if_visible-requires c =
    found_live c.args.dir.now c.args.dn.now.rdns c.in-Some.number c.invariants.ensures.rise
    (sym (rw c.in-Some.is at c.in_ok-number.ensures.found))

pub returns-in-Some-clause-found : goal.returns-in-Some-clause-found
returns-in-Some-clause-found c =
    visible_some c.args.dir.now c.args.token.now c.args.dn.now.rdns c.in-Some.number c.if_visible.result
    (rw c.in-Some.is at c.in_ok-number.ensures.found) c.if_visible.ensures

pub returns-in-Some-clause-live : goal.returns-in-Some-clause-live
returns-in-Some-clause-live c =
    visible_lives c.args.dir.now c.args.token.now c.args.dn.now.rdns c.if_visible.result c.invariants.ensures.rise
    (visible_some c.args.dir.now c.args.token.now c.args.dn.now.rdns c.in-Some.number c.if_visible.result
    (rw c.in-Some.is at c.in_ok-number.ensures.found) c.if_visible.ensures)

pub returns-in-None-clause-found : goal.returns-in-None-clause-found
returns-in-None-clause-found c = visible_none c.args.dir.now c.args.token.now c.args.dn.now.rdns
    (rw c.in-None.is at c.in_ok-number.ensures.found)
