use Rattle.std.proofs.Common.{List, ◌∙◌, sym, subst}
use Rattle.std.proofs.lemmas.List.{nil_from_length}
use Rattle.ad_dir_objects.specs.declared.edit.Edit.{Edit as EditIn}
use Rattle.ad_engine_store.specs.Stepping.{IsMaking}
use Rattle.ad_engine_store.proofs.Making.{making_from, making_more, making_all}
use Rattle.ad_engine_store.proofs.stepping.make_all.Goals as goal

pub loop-edit-init : goal.loop-edit-init
loop-edit-init c = (
  tt,
  tt,
  subst (λ (rest : List EditIn). IsMaking c.args.edits.items rest c.args.dir.now c.args.dir.now c.args.batch.now
      c.args.batch.now)
      (sym c.into_iter-edit-iterator.ensures.into_iter_gives.0)
      (making_from c.args.edits.items c.args.dir.now c.args.batch.now c.requires),
)

pub loop-edit-preserved : goal.loop-edit-preserved
loop-edit-preserved c = (
  tt,
  tt,
  making_more c.args.edits.items c.loop-edit.edit-iterator.rest.items c.next.new.self.rest.items c.in-Some.edit
      c.args.dir.now c.loop-edit.dir c.apply.new.self c.args.batch.now c.loop-edit.batch c.note.new.self
      c.loop-edit.invariant.2 c.in-Some.ensures.steps.0 c.in_ok-apply.ensures.ok c.in_ok-note.ensures.noted,
)

pub returns : goal.returns
returns c = making_all c.args.edits.items c.loop-edit.edit-iterator.rest.items c.args.dir.now c.loop-edit.dir
    c.args.batch.now c.loop-edit.batch c.loop-edit.invariant.2
    (nil_from_length c.loop-edit.edit-iterator.rest.items
    (sym c.loop-edit.edit-iterator.rest.ok.0 ∙ c.in-None.ensures.steps.0))
