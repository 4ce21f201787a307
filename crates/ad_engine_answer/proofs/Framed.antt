-- The pieces of an output frame, put one after the other.
use Rattle.std.proofs.Common.{◌≡◌, ◌∙◌, ℕ, List, [], ◌∷◌, ◌++◌, ap, append_assoc}

pub framed : (kind : ℕ) (connection len body b0 b1 b2 b3 b4 : List ℕ) → b0 ≡ [] → b1 ≡ b0 ++ kind ∷ [] → b2 ≡ b1
    ++ connection → b3 ≡ b2 ++ len
    → b4 ≡ b3 ++ body → b4 ≡ kind ∷ (connection ++ (len ++ body))
framed kind connection len body b0 b1 b2 b3 b4 e0 e1 e2 e3 e4 =
    e4 ∙ ap (λ (b : List ℕ). b ++ body) e3 ∙ ap (λ (b : List ℕ). (b ++ len) ++ body) e2
    ∙ ap (λ (b : List ℕ). ((b ++ connection) ++ len) ++ body) e1
    ∙ ap (λ (b : List ℕ). (((b ++ kind ∷ []) ++ connection) ++ len) ++ body) e0 ∙ ap (λ (b : List ℕ). kind ∷ b)
    (append_assoc connection len body)
