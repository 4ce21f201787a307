-- Whether the input goes on after the last frame that may be.
use Rattle.std.proofs.Common.{◌≡◌, ◌∙◌, ℕ, ◌<◌, ◌≤◌, List, [], ◌++◌, length, take, Option, Some, None, sym, ap}
use Rattle.std.proofs.Common.{length-append, arith}
use Rattle.std.proofs.lemmas.List.{length-take-le}
use Rattle.site_io.specs.Told.{BothTold, StaysTold, Took}

-- nothing came into a place for some
pub took_none : (r0 r1 : Option (List ℕ)) (n : ℕ) (into : List ℕ) → n ≡ 0 → 0 < length into → Took r0 r1 n into
    → BothTold r0 r1 (λ input behind. (input ≡ []) × (behind ≡ []))
took_none None None n into none room took = tt
took_none (Some input) (Some behind) n into none room took =
    let ends : behind ≡ [] = took.1 none room in
    (took.0 ∙ ap (λ k. take k into ++ behind) none ∙ ends, ends)
took_none None (Some behind) n into none room took = absurd took
took_none (Some input) None n into none room took = absurd took

-- something came
pub took_some : (r0 r1 : Option (List ℕ)) (n : ℕ) (into : List ℕ) → 0 < n → n ≤ length into → Took r0 r1 n into
    → BothTold r0 r1 (λ input behind. input ≡ [] → ⊥)
took_some None None n into some within took = tt
took_some (Some input) (Some behind) n into some within took = λ none.
    let long : length input ≡ length (take n into ++ behind) = ap length took.0 in
    let nothing : length input ≡ 0 = ap length none in
    omega (arith, some, long, nothing, length-append (take n into) behind, length-take-le n into within)
took_some None (Some behind) n into some within took = absurd took
took_some (Some input) None n into some within took = absurd took

-- the take failed
pub took_not : (r0 r1 : Option (List ℕ)) → StaysTold r0 r1 → BothTold r0 r1 (λ input behind. input ≡ behind)
took_not None None same = tt
took_not (Some input) (Some behind) same = sym same
took_not None (Some behind) same = absurd same
took_not (Some input) None same = absurd same
