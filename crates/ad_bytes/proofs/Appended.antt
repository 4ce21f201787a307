-- What is put at the end, piece by piece.
use Rattle.std.proofs.Common.{◌≡◌, ℕ, List, [], ◌++◌, Result, Ok, Err, OnOk, ap, sym, ◌∙◌, append_assoc}
use Rattle.std.proofs.lemmas.List.{append-nil}
use Rattle.ad_bytes.specs.Puts.{Puts}

-- a piece, and then the others
pub then : {before mid after piece others : List ℕ} → Puts before mid piece → Puts mid after others
    → Puts before after (piece ++ others)
then {before} {mid} {after} {piece} {others} p q
    = record { is = q.is ∙ ap (λ (x : List ℕ). x ++ others) p.is ∙ append_assoc before piece others }

-- the piece that it is
pub called : {before after piece other : List ℕ} → piece ≡ other → Puts before after piece → Puts before after other
called {before} {after} {piece} {other} e p = record { is = p.is ∙ ap (λ (x : List ℕ). before ++ x) e }

pub nothing : (text : List ℕ) → Puts text text []
nothing text = record { is = sym (append-nil text) }

-- all, where the call that puts the last piece succeeds
pub onward : {A E : Type 0} (r : Result A E) (mid after last before all : List ℕ)
    → (Puts mid after last → Puts before after all) → OnOk r (Puts mid after last) → OnOk r (Puts before after all)
onward (Ok x) mid after last before all f p = f p
onward (Err e) mid after last before all f p = tt
