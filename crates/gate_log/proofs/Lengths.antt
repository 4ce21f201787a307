-- How long the bodies of a log are, with one more.
use Rattle.std.proofs.Common.{◌≡◌, ℕ, ◌+◌, List, [], ◌∷◌, ◌++◌, length, Option, Some, arith}
use Rattle.gate_log.specs.Counts.{total_length, Counts}

total_push : (bodies : List (List ℕ)) (body : List ℕ) → total_length (bodies ++ body ∷ []) ≡ total_length bodies
    + length body
total_push [] body = omega arith
total_push (first ∷ bodies) body = omega (arith, total_push bodies body)

pub counts_push : (bodies : List (List ℕ)) (body : List ℕ) (first : Option ℕ) (known behind more : ℕ) → first
    ≡ Some known → more ≡ length body → Counts first behind bodies → Counts first (behind + more)
    (bodies ++ body ∷ [])
counts_push [] body first known behind more is same counts = cc (is, counts.0)
counts_push (b ∷ bodies) body first known behind more is same counts
    = (counts.0, omega (arith, counts.1, same, total_push bodies body))
