use Rattle.std.proofs.Common.{Ok, sym, ap, subst, ◌∙◌}
use Rattle.std.proofs.lemmas.Result.{err_from_is_err_and}
use Rattle.ad_dir_model.specs.Directory.{Directory}
use Rattle.ad_dir_model.specs.Soundness.{IsSound}
use Rattle.ad_dir_model.proofs.ScratchLaws.{settled_scratch}
use Rattle.ad_load.proofs.directory.directory_with.Goals as goal

pub returns-in_err-parts-clause-loaded : goal.returns-in_err-parts-clause-loaded
returns-in_err-parts-clause-loaded c =
    let p = err_from_is_err_and c.from_residual.result c.from_residual.ensures.1 in
    rw (p.1, p.2) (λ text read m. c.in_err-parts.ensures.loaded text read m)

pub returns-clause-loaded : goal.returns-clause-loaded
returns-clause-loaded c = λ text read. c.in_ok-parts.ensures.loaded text read ∙ ap (λ (dir : Directory). Ok dir)
    (sym c.in_ok-into_dir.ensures)

pub returns-clause-scratch : goal.returns-clause-scratch
returns-clause-scratch c = λ number live. settled_scratch c.in_ok-into_dir.field-0
    (subst IsSound (sym c.in_ok-into_dir.ensures) c.in_ok-parts.ensures.sound)
    (ap (λ (dir : Directory). dir.pending) c.in_ok-into_dir.ensures ∙ c.in_ok-parts.ensures.empty) number live
