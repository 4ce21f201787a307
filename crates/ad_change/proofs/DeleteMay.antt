-- The check of a Delete, and what it makes.
use Rattle.std.proofs.Common.{◌≡◌, ℕ, Bool, true, false, None, Some, refl, sym, ap, ◌∙◌}
use Rattle.std.specs.Prelude.{is_none, ◌||◌}
use Rattle.ad_ids.specs.declared.token.Token.{Token}
use Rattle.ad_dir_objects.specs.declared.act.Act.TheVariants as act
use Rattle.ad_dir_model.specs.Objects.{next_child}
use Rattle.ad_dir_model.specs.Directory.{Directory}
use Rattle.ad_needs_rules.specs.Checks.{code, first_failing}
use Rattle.ad_change.specs.Deleting.{delete_later}
use Rattle.ad_change.specs.Effects.{later_checks}

pub refuses : (dir : Directory) (token : Token) (target : ℕ) (tree alone may : Bool) → alone
    ≡ is_none (next_child dir.objects target 0)
    → may ≡ (tree || alone) → may ≡ false → first_failing (later_checks dir token (act.Delete target tree))
    ≡ Some (code 66)
unfolding later_checks delete_later first_failing
refuses dir token target tree alone may childless is no_way =
    let e : (tree || is_none (next_child dir.objects target 0)) ≡ false = ap (λ (b : Bool). tree || b) (sym childless)
    ∙ sym is ∙ no_way in
    rw e refl

pub allows : (dir : Directory) (token : Token) (target : ℕ) (tree alone may : Bool) → alone
    ≡ is_none (next_child dir.objects target 0)
    → may ≡ (tree || alone) → may ≡ true → first_failing (later_checks dir token (act.Delete target tree)) ≡ None
unfolding later_checks delete_later first_failing
allows dir token target tree alone may childless is way =
    let e : (tree || is_none (next_child dir.objects target 0)) ≡ true = ap (λ (b : Bool). tree || b) (sym childless)
    ∙ sym is ∙ way in
    rw e refl
