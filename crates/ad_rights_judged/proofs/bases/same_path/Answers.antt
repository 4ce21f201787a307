use Rattle.std.proofs.Common.{◌≡◌, ◌∙◌, ℕ, List, sym, ap}
use Rattle.std.specs.Bool.{Decides}
use Rattle.std.specs.Str.{bytes_eq}
use Rattle.std.proofs.lemmas.Slice.Eq.{slice_eq-Decides, bytes_eq-Decides}
use Rattle.ad_ids.specs.declared.guid.Guid.{Guid}
use Rattle.ad_rights_judged.proofs.bases.same_path.Goals as goal

guids : (a b : Guid) → Decides (bytes_eq a.bytes b.bytes) (a ≡ b)
guids a b = (
  λ is. ap (λ (l : List ℕ). record { bytes = l }) ((bytes_eq-Decides a.bytes b.bytes).0 is),
  λ same. (bytes_eq-Decides a.bytes b.bytes).1 (ap (λ (g : Guid). g.bytes) same),
)

pub returns : goal.returns
returns c = λ is.
    sym c.guids.ensures ∙ (slice_eq-Decides guids c.guids.result.now c.guids-2.result.now _ c.eq.ensures).0 is
    ∙ c.guids-2.ensures
