use Rattle.std.proofs.Common.{ℕ, List, subst}
use Rattle.ad_dir.specs.Conditions.{AreEdits}
use Rattle.ad_change.specs.Removing.{removal_edits}
use Rattle.ad_change.proofs.DeleteMay.{refuses, allows}
use Rattle.ad_change.proofs.Removals.{removal_is}
use Rattle.ad_change.proofs.Resolved.{deletion}
use Rattle.ad_change.proofs.deleting.delete_plan.Goals as goal

pub going_of-requires-clause-leaving : goal.going_of-requires-clause-leaving
going_of-requires-clause-leaving c = record {
  live = (deletion c.args.dir.now c.requires.resolved.0 c.args.target c.args.tree c.requires.sound
      c.requires.resolved.1).live;
  childless = c.stands_alone-alone.ensures;
}

pub going_of-requires-clause-below : goal.going_of-requires-clause-below
going_of-requires-clause-below c = (deletion c.args.dir.now c.requires.resolved.0 c.args.target c.args.tree
    c.requires.sound c.requires.resolved.1).below

pub removal-requires-clause-leaving : goal.removal-requires-clause-leaving
removal-requires-clause-leaving c = record {
  live = (deletion c.args.dir.now c.requires.resolved.0 c.args.target c.args.tree c.requires.sound
      c.requires.resolved.1).live;
  childless = c.stands_alone-alone.ensures;
}

pub returns-then-may_go : goal.returns-then-may_go
returns-then-may_go c = λ token.
    removal_is c.args.dir.now token c.args.target c.args.tree c.in_ok-going.going.items c.in_ok-edits.edits
    c.requires.sound
    (deletion c.args.dir.now c.requires.resolved.0 c.args.target c.args.tree c.requires.sound c.requires.resolved.1)
    c.in_ok-going.ensures
    (subst (λ (ns : List ℕ). AreEdits (removal_edits c.args.dir.now c.args.target ns) c.in_ok-edits.edits)
    c.as_slice.ensures.value c.in_ok-edits.ensures)
    (allows c.args.dir.now token c.args.target c.args.tree c.stands_alone-alone.result c.may_go.result
    c.stands_alone-alone.ensures c.may_go.ensures c.if-may_go.true)

pub returns : goal.returns
returns c = λ token. refuses c.args.dir.now token c.args.target c.args.tree c.stands_alone-alone.result
    c.may_go.result c.stands_alone-alone.ensures
    c.may_go.ensures c.if-may_go.false
