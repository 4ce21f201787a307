use Rattle.std.proofs.Common.{◌≡◌, ◌⊎◌, inl, inr, ⊎_elim, List, ℕ, Some, sym, ◌∙◌, rules, arith, length, ◌∷◌, []}
use Rattle.std.specs.Result.{IsErrOf}
use Rattle.site_io.specs.Disk.{Images, images_of}
use Rattle.site_io.specs.MemDisk.{held_in, left_in}
use Rattle.gate_log.specs.Reading.{bodies_of}
use Rattle.gate_log.specs.Store.{HasBodies}
use Rattle.gate_log.specs.declared.fault.LogFault.TheVariants.{Empty, Broken}
use Rattle.tests_store.proofs.Crashes.{left_so, told_so}
use Rattle.tests_store.proofs.story.old_or_new.Goals as goal

pub returns-clause-bodies : goal.returns-clause-bodies
returns-clause-bodies c =
    let old = c.args.old.now in
    let new = c.args.new.now in
    let made = c.create.new.site.disk in
    let added = c.append.new.site.disk in
    let crash = c.in_ok-crash.crash in
    let images = images_of crash.a.items crash.b.items in
    let has = left_so old new (length made.done.items) (length added.done.items) c.min-at.result (left_in made)
    (left_in added) images crash.out.items c.in_ok-log.ensures.every_crash
    (c.in_ok-append.ensures.any_moment (old ∷ []) c.in_ok-log.ensures.created)
    (omega (
      arith,
      c.calls-made.ensures,
      c.saturating_add.ensures,
      c.min-at.ensures,
      c.calls.ensures,
      (c.in_ok-append.ensures.any_moment (old ∷ []) c.in_ok-log.ensures.created).moments.later,
    ))
    c.in_ok-crash.ensures.left in
    ⊎_elim (λ one. inl (sym one)) (λ two. inr (sym two))
    (told_so old new (Some (held_in c.in_ok-left.left.disk)) images (search rules) has
    (λ bodies. bodies ≡ bodies_of c.in_ok-bodies.bodies.items) c.in_ok-bodies.ensures.only)

pub returns-in_err-bodies-clause-opens : goal.returns-in_err-bodies-clause-opens
returns-in_err-bodies-clause-opens c =
    let old = c.args.old.now in
    let new = c.args.new.now in
    let made = c.create.new.site.disk in
    let added = c.append.new.site.disk in
    let crash = c.in_ok-crash.crash in
    let images = images_of crash.a.items crash.b.items in
    let has = left_so old new (length made.done.items) (length added.done.items) c.min-at.result (left_in made)
    (left_in added) images crash.out.items c.in_ok-log.ensures.every_crash
    (c.in_ok-append.ensures.any_moment (old ∷ []) c.in_ok-log.ensures.created)
    (omega (
      arith,
      c.calls-made.ensures,
      c.saturating_add.ensures,
      c.min-at.ensures,
      c.calls.ensures,
      (c.in_ok-append.ensures.any_moment (old ∷ []) c.in_ok-log.ensures.created).moments.later,
    ))
    c.in_ok-crash.ensures.left in
    let never : (IsErrOf c.resume.result Empty → ⊥) × (IsErrOf c.resume.result Broken → ⊥)
    = ⊎_elim (λ one. one) (λ two. two)
    (told_so old new (Some (held_in c.in_ok-left.left.disk)) images (search rules) has
    (λ bodies. (IsErrOf c.resume.result Empty → ⊥) × (IsErrOf c.resume.result Broken → ⊥))
    c.resume.ensures.complete) in
    (λ empty. never.0 (search rules), λ broken. never.1 (search rules))
