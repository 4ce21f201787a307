use Rattle.std.proofs.Common.{◌≡◌, ◌<◌, ◌^◌, ℕ, List, true, length, ap, sym, subst, ◌∙◌, arith}
use Rattle.std.specs.List.{AllByRecursion}
use Rattle.ad_dir_model.specs.Objects.{is_live}
use Rattle.ad_dir_model.specs.Protection.{protected}
use Rattle.ad_dir_model.proofs.Running.{protected_live}
use Rattle.ad_protect.specs.Putting.{sd_given}
use Rattle.ad_protect.proofs.Runs.{holder_live, protected_fits, changed_fits, made_by}
use Rattle.ad_protect.proofs.run.held_by.Goals as goal

pub given_by-requires : goal.given_by-requires
given_by-requires c = holder_live c.args.dir.now c.args.holder c.requires.sound.rise c.requires.holder

pub edits_of-requires-clause-live : goal.edits_of-requires-clause-live
edits_of-requires-clause-live c =
    subst (AllByRecursion (λ (n : ℕ). is_live c.args.dir.now.objects n ≡ true))
    (sym (c.as_slice.ensures.value ∙ c.in_ok-numbers.ensures))
    (protected_live c.args.dir.now c.requires.sound.rise)

pub overflow_cast-result : goal.overflow_cast-result
overflow_cast-result c =
    let fits : c.in_ok-edits.changed < 2 ^ 32 = changed_fits c.args.dir.now (sd_given c.in_ok-given.given)
    c.as_slice.result.now c.in_ok-edits.edits.items c.in_ok-edits.changed
    c.requires.sound (c.as_slice.ensures.value ∙ c.in_ok-numbers.ensures) c.in_ok-edits.ensures in
    omega (arith, fits)

pub overflow_cast-result-2 : goal.overflow_cast-result-2
overflow_cast-result-2 c =
    let fits : length (protected c.args.dir.now) < 2 ^ 32 = protected_fits c.args.dir.now c.requires.sound in
    let many : length c.as_slice-2.result.now ≡ length (protected c.args.dir.now) = ap (λ (ns : List ℕ). length ns)
    (c.as_slice-2.ensures.value ∙ c.in_ok-numbers.ensures) in
    omega (arith, fits, many)

pub returns : goal.returns
returns c =
    let those = c.as_slice.ensures.value ∙ c.in_ok-numbers.ensures in
    made_by c.args.dir.now c.args.holder (sd_given c.in_ok-given.given) c.as_slice.result.now
    c.in_ok-edits.edits.items c.in_ok-edits.changed (length c.as_slice-2.result.now)
    c.requires.sound c.requires.holder c.in_ok-given.ensures.sd those
    (ap (λ (ns : List ℕ). length ns) (c.as_slice-2.ensures.value ∙ sym c.as_slice.ensures.value)) c.in_ok-edits.ensures
