use Rattle.std.proofs.Common.{◌∙◌, List, sym, subst}
use Rattle.std.specs.List.{AllByRecursion}
use Rattle.std.proofs.lemmas.Bool.{false≢true}
use Rattle.std.proofs.lemmas.List.{take_all}
use Rattle.ad_dir_objects.specs.Seen.{objects_of}
use Rattle.ad_rows_sound.specs.Parts.{IsStanding}
use Rattle.ad_rows_sound.proofs.Finds.{Entry}
use Rattle.ad_rows_sound.proofs.Leasts.{every, least_here}
use Rattle.ad_rows_sound.proofs.soundness.first_astray.Goals as goal

pub returns-then-not-branch : goal.returns-then-not-branch
returns-then-not-branch c =
    least_here (IsStanding c.args.schema.now (objects_of c.args.objects.now) c.args.pending.now) c.args.objects.now
    c.loop-entry.entry-index c.entry-item.result c.requires c.loop-entry-test.true c.entry-item.is
    c.loop-entry.invariant
    (λ standing. false≢true (sym c.if-not-branch.true ∙ c.in_ok-stands.ensures.1 standing))

pub returns : goal.returns
returns c =
    every (IsStanding c.args.schema.now (objects_of c.args.objects.now) c.args.pending.now)
    (objects_of c.args.objects.now)
    (subst (λ (l : List Entry). AllByRecursion
    (IsStanding c.args.schema.now (objects_of c.args.objects.now) c.args.pending.now) (objects_of l))
    (take_all c.loop-entry.entry-index c.args.objects.now c.loop-entry-test.false) c.loop-entry.invariant)
