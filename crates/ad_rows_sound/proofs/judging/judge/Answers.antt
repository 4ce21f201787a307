use Rattle.std.proofs.Common.{◌∙◌, ◌<◌, Option, ℕ, length, refl, sym, subst, arith}
use Rattle.std.specs.Prelude.{MatchOption}
use Rattle.std.proofs.lemmas.Bool.{false≢true}
use Rattle.std.proofs.lemmas.List.{length-map}
use Rattle.ad_dir_objects.specs.Seen.{meta_seen, object_seen, objects_of}
use Rattle.ad_dir_model.specs.Opening.{IsFirstBadPending}
use Rattle.ad_dir_model.specs.Soundness.{IsContent}
use Rattle.ad_rows_sound.specs.Least.{IsLeastObject}
use Rattle.ad_rows_sound.specs.Parts.{ArePending, dir_of}
use Rattle.ad_rows_sound.specs.Told.{IsSoundAmong, frame_fails, object_fails, entry_fails}
use Rattle.ad_rows_sound.proofs.Framed.{too_many}
use Rattle.ad_rows_sound.proofs.Judged.{all_sound}
use Rattle.ad_rows_sound.proofs.Leasts.{every}
use Rattle.ad_rows_sound.proofs.judging.judge.Goals as goal

pub returns-then-objects-gt-MAX_OBJECTS-clause-told : goal.returns-then-objects-gt-MAX_OBJECTS-clause-told
returns-then-objects-gt-MAX_OBJECTS-clause-told c = λ _.
    let objects = objects_of c.args.objects.now in
    let more = c.if-objects-gt-MAX_OBJECTS.true in
    let count = length-map c.args.objects.now (λ entry. object_seen entry.0 entry.1) in
    let many : 65536 < length objects = omega (arith, count, more) in
    frame_fails refl (too_many c.args.schema.now objects c.args.pending.now (meta_seen c.args.meta.now) many)

pub returns-then-not-branch-clause-told : goal.returns-then-not-branch-clause-told
returns-then-not-branch-clause-told c = λ _.
    frame_fails refl (λ sound. false≢true (sym c.if-not-branch.true ∙ (c.in_ok-is_frame.ensures c.args.pending.now).1
    sound))

pub returns-in-Some-clause-told : goal.returns-in-Some-clause-told
returns-in-Some-clause-told c = λ is_bad.
    let objects = objects_of c.args.objects.now in
    let meta = meta_seen c.args.meta.now in
    object_fails ((c.in_ok-is_frame.ensures c.args.pending.now).0 c.if-not-branch.false)
    (subst (IsLeastObject (IsSoundAmong (dir_of c.args.schema.now objects c.args.pending.now meta)) objects)
    c.in-Some.is (c.in_ok-number.ensures.least is_bad meta))

pub returns-in-Some-2-clause-told : goal.returns-in-Some-2-clause-told
returns-in-Some-2-clause-told c = λ is_bad.
    let schema = c.args.schema.now in
    let objects = objects_of c.args.objects.now in
    let pending = c.args.pending.now in
    let meta = meta_seen c.args.meta.now in
    entry_fails ((c.in_ok-is_frame.ensures pending).0 c.if-not-branch.false)
    (subst (IsLeastObject (IsSoundAmong (dir_of schema objects pending meta)) objects) c.in_default.is
    (c.in_ok-number.ensures.least is_bad meta))
    (subst (λ (found : Option ℕ). MatchOption found (ArePending objects pending)
    (IsFirstBadPending (dir_of schema objects pending meta))) c.in-Some-2.is (c.in_ok-parent.ensures schema meta))

pub returns-clause-sound : goal.returns-clause-sound
returns-clause-sound c =
    let schema = c.args.schema.now in
    let objects = objects_of c.args.objects.now in
    let pending = c.args.pending.now in
    let meta = meta_seen c.args.meta.now in
    let good = c.in_ok-number.ensures.bad c.in_default.is in
    let is_bad = subst (IsLeastObject (IsContent schema) objects) (sym good)
    (every (IsContent schema) objects (c.requires.content good)) in
    all_sound schema objects pending meta c.requires.rise ((c.in_ok-is_frame.ensures pending).0 c.if-not-branch.false)
    (subst (IsLeastObject (IsSoundAmong (dir_of schema objects pending meta)) objects) c.in_default.is
    (c.in_ok-number.ensures.least is_bad meta))
    (subst (λ (found : Option ℕ). MatchOption found (ArePending objects pending)
    (IsFirstBadPending (dir_of schema objects pending meta))) c.in_default-2.is
    (c.in_ok-parent.ensures schema meta))
