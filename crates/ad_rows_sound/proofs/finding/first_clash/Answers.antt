use Rattle.std.proofs.Common.{◌≡◌, ◌∙◌, ◌++◌, ◌∷◌, [], List, ℕ, sym, ap, subst}
use Rattle.ad_schema_classes.specs.declared.names.Case.TheVariants.{Kept}
use Rattle.ad_schema_classes.specs.Hashes.{place_by}
use Rattle.ad_rows_sound.specs.Least.{IsLeast, lesser}
use Rattle.ad_rows_sound.specs.Parts.{IsLast}
use Rattle.ad_rows_sound.proofs.Leasts.{clash_push}
use Rattle.ad_rows_sound.proofs.finding.first_clash.Goals as goal

pub loop-key-preserved : goal.loop-key-preserved
loop-key-preserved c =
    let so_far = c.loop-key.invariant in
    let key = c.in-Some.key in
    let place : place_by Kept c.loop-key.yielded key ≡ c.find_exact.result
    = (λ i. place_by Kept (sym so_far.0 i) (sym c.as_slice.ensures i)) ∙ sym c.find_exact.ensures in (
      c.in_ok-push.ensures.ok ∙ ap (λ (l : List (List ℕ)). l ++ key ∷ []) so_far.0,
      subst (IsLeast (IsLast (c.loop-key.yielded ++ key ∷ [])))
          (ap (lesser c.loop-key.clash) place ∙ sym c.lesser-clash.ensures)
          (clash_push c.loop-key.yielded key c.loop-key.clash so_far.1),
    )
