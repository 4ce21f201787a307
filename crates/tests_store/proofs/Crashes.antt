-- What a crash leaves of a store that was made and added to.
use Rattle.std.proofs.Common.{◌≡◌, ◌⊎◌, inl, inr, ⊎_elim, ℕ, ◌≤◌, List, [], ◌∷◌, Option, Some, sym, subst}
use Rattle.std.specs.Option.{IfSome}
use Rattle.site_io.specs.Disk.{Images}
use Rattle.gate_log.specs.Moments.{Leaves, Began}
use Rattle.gate_log.specs.Store.{HasBodies, OldOrNew}

pub left_so : (old new : List ℕ) (n0 n1 at : ℕ) (l0 l1 : ℕ → Images → List ℕ → Type 0) (images : Images)
    (out : List ℕ) → ((images : Images) (out : List ℕ) → l0 n0 images out → HasBodies images (old ∷ []))
    → Leaves n0 n1 l0 l1 (λ images. Began n0 l0 images ⊎ OldOrNew (old ∷ []) new images) → n0 ≤ at → l1 at images out
    → HasBodies images (old ∷ []) ⊎ HasBodies images (old ∷ new ∷ [])
left_so old new n0 n1 at l0 l1 images out made leaves later left = ⊎_elim (λ began. inl (made images began.0 began.1))
    (λ x. x) (leaves.each at images out later left)

-- in what a read gives
pub told_so : (old new : List ℕ) (reads : Option Images) (images : Images) → reads ≡ Some images
    → HasBodies images (old ∷ []) ⊎ HasBodies images (old ∷ new ∷ [])
    → (P : List (List ℕ) → Type 0) → IfSome reads (λ held. (bodies : List (List ℕ)) → HasBodies held bodies
    → P bodies) → P (old ∷ []) ⊎ P (old ∷ new ∷ [])
told_so old new reads images is has P all =
    let each : (bodies : List (List ℕ)) → HasBodies images bodies → P bodies
    = subst (λ r. IfSome r (λ held. (bodies : List (List ℕ)) → HasBodies held bodies → P bodies)) is all in
    ⊎_elim (λ one. inl (each (old ∷ []) one)) (λ two. inr (each (old ∷ new ∷ []) two)) has
