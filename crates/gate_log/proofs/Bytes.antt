-- What a write, torn or whole, leaves of a list of bytes.
use Rattle.std.proofs.Common.{◌≡◌, inl, inr, ℕ, ◌+◌, ◌-◌, ◌<◌, ◌≤◌, List, [], ◌∷◌, ◌++◌, length, get_or, take, drop}
use Rattle.std.proofs.Common.{sym, ◌∙◌, ap, arith, append_assoc, length-append, length-drop, take-append-drop}
use Rattle.std.proofs.lemmas.List.{ext_get_or, take_at, drop_at, drop_more, length-take, get_or-take, get_or-drop}
use Rattle.site_io.specs.Disk.{Torn, put}

pub front_stays : (at n : ℕ) (old new : List ℕ) → Torn at n old new → at ≤ length old → take at new ≡ take at old
front_stays at n old new torn within =
    let same_length : length (take at new) ≡ length (take at old)
    = omega (arith, length-take at new, length-take at old, torn.no_shorter) in
    ext_get_or 0 (take at new) (take at old) same_length (λ i lt.
    let before : i < at = omega (arith, lt, length-take at new) in
    get_or-take at new i 0 before ∙ torn.stays i (omega arith) (inl before) ∙ sym (get_or-take at old i 0 before))

-- what stands after the range stays, and anything may stand after that
pub behind_stays : (at n : ℕ) (old new : List ℕ) → Torn at n old new → at + n ≤ length old → (extra : List ℕ)
    × (drop (at + n) new ≡ drop (at + n) old ++ extra)
behind_stays at n old new torn within =
    let k = at + n in
    let m = length old - k in
    let front : take m (drop k new) ≡ drop k old =
    ext_get_or 0 (take m (drop k new)) (drop k old)
    (omega (arith, length-take m (drop k new), length-drop k new, length-drop k old, torn.no_shorter)) (λ i lt.
    let before : i < m = omega (arith, lt, length-take m (drop k new)) in
    get_or-take m (drop k new) i 0 before ∙ get_or-drop k new i 0 ∙ torn.stays (k + i) (omega arith)
    (inr (omega arith)) ∙ sym (get_or-drop k old i 0)) in
    (drop m (drop k new), sym (take-append-drop m (drop k new)) ∙ ap (λ (l : List ℕ). l ++ drop m (drop k new)) front)

-- A torn write after a prefix leaves the prefix.
pub torn_behind : (front junk new : List ℕ) (at n : ℕ) → at ≡ length front → Torn at n (front ++ junk) new
    → (rest : List ℕ) × (new ≡ front ++ rest)
torn_behind front junk new at n here torn =
    let kept : take at new ≡ front = front_stays at n (front ++ junk) new torn
    (omega (arith, length-append front junk)) ∙ take_at front junk at (sym here) in
    (drop at new, sym (take-append-drop at new) ∙ ap (λ (l : List ℕ). l ++ drop at new) kept)

-- A whole write after a prefix leaves the prefix and the bytes.
pub put_behind : (front bytes junk : List ℕ) (at : ℕ) → at ≡ length front → (rest : List ℕ)
    × (put at bytes (front ++ junk) ≡ front ++ bytes ++ rest)
put_behind front bytes junk at here = (
  drop (at + length bytes) (front ++ junk),
  ap
      (λ (l : List ℕ). l ++ bytes ++ drop (at + length bytes) (front ++ junk)) (take_at front junk at (sym here)),
)

-- A torn write of one byte leaves all else, and anything after the old end.
pub torn_gate : (front rest new : List ℕ) (gate at : ℕ) → at ≡ length front → Torn at 1 (front ++ gate ∷ rest) new
    → (g : ℕ) × (extra : List ℕ) × (new ≡ front ++ g ∷ rest ++ extra)
torn_gate front rest new gate at here torn =
    let old = front ++ gate ∷ rest in
    let long : length old ≡ at + 1 + length rest = omega (arith, length-append front (gate ∷ rest)) in
    let kept : take at new ≡ front = front_stays at 1 old new torn (omega arith) ∙ take_at front (gate ∷ rest) at
    (sym here) in
    let back = behind_stays at 1 old new torn (omega arith) in
    let rest_is : drop (at + 1) old ≡ rest = ap (λ (l : List ℕ). drop (at + 1) l)
    (sym (append_assoc front (gate ∷ []) rest)) ∙ drop_at (front ++ gate ∷ []) rest (at + 1)
    (omega (arith, length-append front (gate ∷ []))) in
    let g = get_or new at 0 in
    let split : drop at new ≡ g ∷ drop (at + 1) new = drop_more new at 0 (omega (arith, torn.no_shorter)) in (
      g,
      back.0,
      sym (take-append-drop at new)
          ∙ ap (λ (l : List ℕ). l ++ drop at new) kept
          ∙ ap (λ (l : List ℕ). front ++ l)
          (split ∙ ap (λ (l : List ℕ). g ∷ l) (back.1 ∙ ap (λ (l : List ℕ). l ++ back.0) rest_is))
          ∙ sym (append_assoc front (g ∷ rest) back.0),
    )

-- A whole write of one byte leaves all else.
pub put_gate : (front rest : List ℕ) (gate g at : ℕ) → at ≡ length front → put at (g ∷ []) (front ++ gate ∷ rest)
    ≡ front ++ g ∷ rest
put_gate front rest gate g at here =
    let rest_is : drop (at + 1) (front ++ gate ∷ rest) ≡ rest = ap (λ (l : List ℕ). drop (at + 1) l)
    (sym (append_assoc front (gate ∷ []) rest)) ∙ drop_at (front ++ gate ∷ []) rest (at + 1)
    (omega (arith, length-append front (gate ∷ []))) in
    (λ i. take_at front (gate ∷ rest) at (sym here) i ++ (g ∷ []) ++ rest_is i) ∙ append_assoc front (g ∷ []) rest

pub put_length : (at : ℕ) (bytes old : List ℕ) → at ≤ length old → at ≤ length (put at bytes old)
put_length at bytes old within =
    omega (
      arith,
      length-append (take at old ++ bytes) (drop (at + length bytes) old),
      length-append (take at old)
          bytes,
      length-take at old,
    )
