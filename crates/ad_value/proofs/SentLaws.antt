-- The keys of pieces, piece by piece.
use Rattle.std.proofs.Common.{◌≡◌, ℕ, ◌+◌, ◌<◌, ◌≤◌, Result, Ok, Err, List, [], ◌∷◌, ◌++◌, suc, length, get_or, drop}
use Rattle.std.proofs.Common.{drop-cons, add-one, refl, sym, ap, ◌∙◌, append_assoc}
use Rattle.std.proofs.lemmas.List.{append-nil, drop_all}
use Rattle.ad_bytes.specs.Reading.{◌>>=◌}
use Rattle.ad_value.specs.declared.syntax.Syntax.{Syntax}
use Rattle.ad_value.specs.declared.fault.ValueFault.{ValueFault}
use Rattle.ad_value.specs.Sent.{piece_key, piece_keys}

-- the keys so far, and those of the pieces that are left
abbrev pub with_rest : Syntax → List (List ℕ) → List (List ℕ) → Result (List (List ℕ)) ValueFault
with_rest s keys pieces = piece_keys s pieces >>= λ others. Ok (keys ++ others)

pub all_left : (s : Syntax) (pieces : List (List ℕ)) → piece_keys s pieces ≡ with_rest s [] pieces
all_left s pieces = by (piece_keys s pieces) where
  by : (r : Result (List (List ℕ)) ValueFault) → r ≡ (r >>= λ others. Ok ([] ++ others))
  by (Ok x) = refl
  by (Err e) = refl

cut : (pieces : List (List ℕ)) (i : ℕ) (piece : List ℕ) → i < length pieces → get_or pieces i piece ≡ piece
    → drop i pieces ≡ piece ∷ drop (i + 1) pieces
cut pieces i piece lt is = drop-cons pieces i piece lt ∙ ap (λ p. p ∷ drop (suc i) pieces) is
    ∙ ap (λ n. piece ∷ drop n pieces) (sym (add-one i))

first_read : (s : Syntax) (keys : List (List ℕ)) (piece key : List ℕ) (rest : List (List ℕ)) → piece_key s piece
    ≡ Ok key → with_rest s keys (piece ∷ rest) ≡ with_rest s (keys ++ key ∷ []) rest
unfolding piece_keys
first_read s keys piece key rest e =
    ap (λ (r : Result (List ℕ) ValueFault). (r >>= λ first. piece_keys s rest >>= λ others. Ok (first ∷ others))
    >>= λ others. Ok (keys ++ others)) e
    ∙ by (piece_keys s rest)
  where
    by : (r : Result (List (List ℕ)) ValueFault)
        → ((r >>= λ others. Ok (key ∷ others)) >>= λ others. Ok (keys ++ others))
        ≡ (r >>= λ others. Ok ((keys ++ key ∷ []) ++ others))
    by (Ok x) = ap (λ (t : List (List ℕ)). Ok t) (sym (append_assoc keys (key ∷ []) x))
    by (Err f) = refl

first_fails : (s : Syntax) (keys : List (List ℕ)) (piece : List ℕ) (rest : List (List ℕ)) (f : ValueFault)
    → piece_key s piece ≡ Err f → with_rest s keys (piece ∷ rest) ≡ Err f
unfolding piece_keys
first_fails s keys piece rest f e =
    ap (λ (r : Result (List ℕ) ValueFault). (r >>= λ first. piece_keys s rest >>= λ others. Ok (first ∷ others))
    >>= λ others. Ok (keys ++ others)) e

pub next_read : (s : Syntax) (keys : List (List ℕ)) (pieces : List (List ℕ)) (i : ℕ) (piece key : List ℕ) → i
    < length pieces → get_or pieces i piece ≡ piece → piece_key s piece ≡ Ok key
    → with_rest s keys (drop i pieces) ≡ with_rest s (keys ++ key ∷ []) (drop (i + 1) pieces)
next_read s keys pieces i piece key lt is e = ap (with_rest s keys) (cut pieces i piece lt is)
    ∙ first_read s keys piece key (drop (i + 1) pieces) e

pub next_fails : (s : Syntax) (keys : List (List ℕ)) (pieces : List (List ℕ)) (i : ℕ) (piece : List ℕ)
    (f : ValueFault) → i < length pieces → get_or pieces i piece ≡ piece → piece_key s piece ≡ Err f
    → with_rest s keys (drop i pieces) ≡ Err f
next_fails s keys pieces i piece f lt is e = ap (with_rest s keys) (cut pieces i piece lt is)
    ∙ first_fails s keys piece (drop (i + 1) pieces) f e

pub none_left : (s : Syntax) (keys : List (List ℕ)) (pieces : List (List ℕ)) (i : ℕ) → length pieces ≤ i
    → with_rest s keys (drop i pieces) ≡ Ok keys
unfolding piece_keys
none_left s keys pieces i le = ap (with_rest s keys) (drop_all i pieces le) ∙ ap (λ (t : List (List ℕ)). Ok t)
    (append-nil keys)
