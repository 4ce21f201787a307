-- No question is both answered and refused.
use Rattle.std.proofs.Common.{◌≡◌, ◌∙◌, ℕ, inl, inr, Option, None, Some, List, Result, Ok, Err, sym}
use Rattle.std.proofs.lemmas.Option.{none-some}
use Rattle.ad_dir_model.specs.Directory.{Directory}
use Rattle.ad_rights_dir.specs.Rights.{IsRightsText, IsRightsRefusal}

apart : {A E : Type 0} (value : A) (fault : E) → (λ (r : Result A E). r) (Ok value) ≡ Err fault → ⊥
apart value fault is = absurd cc

pub rights_either : (dir : Directory) (right : List ℕ) (base : Option (List ℕ)) (answer line : List ℕ)
    → IsRightsText dir right base answer → IsRightsRefusal dir right base line → ⊥
rights_either dir right base answer line is (inl none) =
    none-some is.question (sym none.0 ∙ is.is_question)
rights_either dir right base answer line is (inr other) =
    apart is.from other.1 (sym is.is_base ∙ other.3)
