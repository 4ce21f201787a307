-- Normal bytes as they are put one after the other.
use Rattle.std.proofs.Common.{◌≡◌, ℕ, List, [], ◌∷◌, ◌++◌, refl, ◌∙◌, append_assoc}
use Rattle.ad_ids.specs.Sid.{sid_bytes}
use Rattle.ad_sd.specs.declared.parts.Sd.{Sd}
use Rattle.ad_sd.specs.Normal.{marks_of, entries_bytes, normal_bytes}

-- the pieces that were put are the normal bytes
pub normal_put : (sd : Sd) (now old : List ℕ) (marks : ℕ) → old ≡ [] → marks ≡ marks_of sd.dacl.protected
    sd.sacl.protected
    → now ≡ ((((old ++ marks ∷ []) ++ sid_bytes sd.owner) ++ sid_bytes sd.group) ++ entries_bytes sd.dacl.entries)
    ++ entries_bytes sd.sacl.entries
    → now ≡ normal_bytes sd
unfolding normal_bytes
normal_put sd now old marks empty m put =
    let o = sid_bytes sd.owner in
    let g = sid_bytes sd.group in
    let d = entries_bytes sd.dacl.entries in
    let c = entries_bytes sd.sacl.entries in
    let emptied : ((((old ++ marks ∷ []) ++ o) ++ g) ++ d) ++ c
    ≡ ((((marks_of sd.dacl.protected sd.sacl.protected ∷ []) ++ o) ++ g) ++ d) ++ c = rw (empty, m) refl in
    put ∙ emptied ∙ regroup (marks_of sd.dacl.protected sd.sacl.protected ∷ []) o g d c
  where
    regroup : (m o g d c : List ℕ) → (((m ++ o) ++ g) ++ d) ++ c ≡ m ++ (o ++ (g ++ (d ++ c)))
    regroup m o g d c = simp append_assoc
