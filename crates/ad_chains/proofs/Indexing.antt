-- The index of the edges, row by row.
use Rattle.std.proofs.Common.{◌≡◌, ◌∙◌, ℕ, ◌+◌, ◌<◌, ◌≤◌, ◌⊎◌, inl, inr, Some, List, [], ◌∷◌, length}
use Rattle.std.proofs.Common.{refl, sym, ap, subst, arith, length-append}
use Rattle.std.specs.Prelude.{slice_get, slice_index}
use Rattle.std.specs.Global.{Vec}
use Rattle.std.proofs.Math.ListN.{get_or-append}
use Rattle.std.proofs.Math.Seq.{get_or-append_seam}
use Rattle.std.proofs.lemmas.Bool.{cases_eq, cases_lt}
use Rattle.std.proofs.lemmas.Option.{same_Some, slice_get_within}
use Rattle.ad_chains.specs.declared.edge.Edge.{Edge}
use Rattle.ad_chains.specs.Work.{listed, AreWithin, Puts, IsIndexSoFar}

-- no edge yet
pub index_starts : (edges : List Edge) (rows : List (Vec ℕ)) → ((y : ℕ) → listed rows y ≡ []) → IsIndexSoFar edges 0
    rows
index_starts edges rows empty = record {
  only = λ y at lt.
      let none : length (listed rows y) ≡ 0 = ap (λ (l : List ℕ). length l) (empty y) in
      absurd (omega (arith, none, lt));
  all = λ place edge lt is. absurd (omega (arith, lt));
}

-- one edge more
pub index_more : (edges : List Edge) (n : ℕ) (edge : Edge) (rows new : List (Vec ℕ)) → slice_get edges n ≡ Some edge
    → IsIndexSoFar edges n rows → Puts rows edge.to n new → IsIndexSoFar edges (n + 1) new
index_more edges n edge rows new is index puts = record {
  only = λ y at lt. only y at lt (cases_eq y edge.to);
  all = λ place other lt at. all place other at (cases_lt place n) lt;
}
  where
    long : length (listed new edge.to) ≡ length (listed rows edge.to) + 1
    long = ap (λ (l : List ℕ). length l) puts.here ∙ length-append (listed rows edge.to) (n ∷ [])

    frontier : (at : ℕ) → at < length (listed rows edge.to) → slice_index (listed new edge.to) at
        ≡ slice_index (listed rows edge.to) at
    frontier at lt =
        ap (λ (l : List ℕ). slice_index l at) puts.here ∙ get_or-append (listed rows edge.to) (n ∷ []) 0 at lt

    seam : slice_index (listed new edge.to) (length (listed rows edge.to)) ≡ n
    seam = ap (λ (l : List ℕ). slice_index l (length (listed rows edge.to))) puts.here
        ∙ get_or-append_seam (listed rows edge.to) n [] 0

    here : (at : ℕ) → at < length (listed new edge.to) → (at < length (listed rows edge.to))
        ⊎ (length (listed rows edge.to) ≤ at) → (found : Edge)
        × (slice_get edges (slice_index (listed new edge.to) at) ≡ Some found) × (found.to ≡ edge.to)
    here at lt (inl low) =
        let e = index.only edge.to at low in (e.0, ap (slice_get edges) (frontier at low) ∙ e.1, e.2)
    here at lt (inr high) =
        let last : at ≡ length (listed rows edge.to) = omega (arith, lt, high, long) in
        (edge, ap (slice_get edges) (ap (slice_index (listed new edge.to)) last ∙ seam) ∙ is, refl)

    only : (y at : ℕ) → at < length (listed new y) → (y ≡ edge.to) ⊎ (y ≡ edge.to → ⊥) → (found : Edge)
        × (slice_get edges (slice_index (listed new y) at) ≡ Some found) × (found.to ≡ y)
    only y at lt (inl e) =
        let low : at < length (listed new edge.to) = subst (λ (k : ℕ). at < length (listed new k)) e lt in
        subst (λ (k : ℕ). (found : Edge) × (slice_get edges (slice_index (listed new k) at) ≡ Some found)
        × (found.to ≡ k)) (sym e) (here at low (cases_lt at (length (listed rows edge.to))))
    only y at lt (inr apart) =
        let same : listed new y ≡ listed rows y = puts.other y apart in
        let low : at < length (listed rows y) = subst (λ (l : List ℕ). at < length l) same lt in
        subst (λ (l : List ℕ). (found : Edge) × (slice_get edges (slice_index l at) ≡ Some found) × (found.to ≡ y))
        (sym same) (index.only y at low)

    behind : (place : ℕ) (other : Edge) → (at : ℕ) × (at < length (listed rows other.to))
        × (slice_index (listed rows other.to) at ≡ place) → (other.to ≡ edge.to) ⊎ (other.to ≡ edge.to → ⊥) → (at : ℕ)
        × (at < length (listed new other.to)) × (slice_index (listed new other.to) at ≡ place)
    behind place other found (inl e) =
        let low : found.0 < length (listed rows edge.to)
        = subst (λ (k : ℕ). found.0 < length (listed rows k)) e found.1 in
        let there : slice_index (listed rows edge.to) found.0 ≡ place
        = subst (λ (k : ℕ). slice_index (listed rows k) found.0 ≡ place) e found.2 in
        subst (λ (k : ℕ). (at : ℕ) × (at < length (listed new k)) × (slice_index (listed new k) at ≡ place)) (sym e)
        (found.0, omega (arith, low, long), frontier found.0 low ∙ there)
    behind place other found (inr apart) =
        subst (λ (l : List ℕ). (at : ℕ) × (at < length l) × (slice_index l at ≡ place))
        (sym (puts.other other.to apart)) found

    all : (place : ℕ) (other : Edge) → slice_get edges place ≡ Some other → (place < n) ⊎ (n ≤ place)
        → place < n + 1 → (at : ℕ) × (at < length (listed new other.to))
        × (slice_index (listed new other.to) at ≡ place)
    all place other at (inl low) lt = behind place other (index.all place other low at) (cases_eq other.to edge.to)
    all place other at (inr high) lt =
        let last : n ≡ place = omega (arith, high, lt) in
        let same : edge ≡ other = same_Some edge other (sym is ∙ ap (slice_get edges) last ∙ at) in
        subst (λ (e : Edge). (at : ℕ) × (at < length (listed new e.to)) × (slice_index (listed new e.to) at ≡ place))
        same
        (length (listed rows edge.to), omega (arith, long), seam ∙ last)

-- ---- what the index lists

pub places_within : (edges : List Edge) (n : ℕ) (rows : List (Vec ℕ)) (y : ℕ) → IsIndexSoFar edges n rows
    → AreWithin (length edges) (listed rows y)
places_within edges n rows y index at lt =
    let e = index.only y at lt in slice_get_within edges (slice_index (listed rows y) at) e.0 e.1
