use Rattle.std.proofs.Common.{ℕ, List, length, ◌≤◌, inl, sym, subst}
use Rattle.ad_ldifmod.specs.Taken.{GivesSome}
use Rattle.cmd_call.specs.declared.outcome.Outcome.TheVariants.{Done, NotOfForm}
use Rattle.cmd_call.specs.Store.{Says}
use Rattle.cmd_grants.specs.Frames.{frames_of}
use Rattle.cmd_grants.specs.Answering.{AnswersText}
use Rattle.cmd_grants.proofs.HoldSteps.{gives_by}
use Rattle.cmd_grants.proofs.Inputs.{text_of_good, text_of_wrong}
use Rattle.cmd_grants.proofs.giving.give_in.Goals as goal

pub give_frames-requires-clause-few : goal.give_frames-requires-clause-few
give_frames-requires-clause-few g c =
    let good = rw c.in-Ok-Good.field-0-is at c.in-Ok-Good.ensures.judged in
    subst (λ (text : List ℕ). length text ≤ 1048576) (sym c.deref.ensures.value) good.0

pub give_frames-requires-clause-some : goal.give_frames-requires-clause-some
give_frames-requires-clause-some g c =
    let good = rw c.in-Ok-Good.field-0-is at c.in-Ok-Good.ensures.judged in
    subst (GivesSome c.args.dir.now) (sym c.deref.ensures.value) good.1

pub returns-in-Ok-Good : goal.returns-in-Ok-Good
returns-in-Ok-Good g c =
    let s = g.S.Site in
    let good = rw c.in-Ok-Good.field-0-is at c.in-Ok-Good.ensures.judged in
    let dir = c.args.dir.now in
    let gave = subst (λ (text : List ℕ). AnswersText s dir text c.args.site.now c.give_frames.new.site
    c.give_frames.result) c.deref.ensures.value c.give_frames.ensures in
    inl (
      frames_of gave.0,
      Done,
      text_of_good dir (g.I.Source.rest c.args.source.now) (g.I.Source.rest c.judge_input.new.source)
          c.in-Ok-Good.text.items gave.0 good.0 gave.1 good.2,
      gave.2,
    )

pub returns-in-Ok-Wrong : goal.returns-in-Ok-Wrong
returns-in-Ok-Wrong g c =
    let s = g.S.Site in
    let wrong = rw c.in-Ok-Wrong.field-0-is at c.in-Ok-Wrong.ensures.judged in
    let said = subst (λ (text : List ℕ). Says s c.args.site.now c.say.new.site text NotOfForm c.say.result)
    c.deref-in-Ok-Wrong.ensures.value c.say.ensures in
    inl (
      c.in-Ok-Wrong.line.items,
      NotOfForm,
      text_of_wrong c.args.dir.now (g.I.Source.rest c.args.source.now) (g.I.Source.rest c.judge_input.new.source)
          wrong.0 wrong.1 c.in-Ok-Wrong.line.items wrong.2 wrong.3,
      gives_by s c.args.site.now c.say.new.site c.in-Ok-Wrong.line.items NotOfForm c.say.result said,
    )
