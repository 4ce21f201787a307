-- Values in a row, one after the other as a loop reads them.
use Rattle.std.proofs.Common.{◌≡◌, ℕ, zero, suc, ◌-◌, ◌+◌, ◌≤◌, ◌<◌, List, [], ◌∷◌, ◌++◌, length, Ok, Err, refl, sym}
use Rattle.std.proofs.Common.{ap, subst, ◌∙◌, append_assoc, arith}
use Rattle.std.proofs.lemmas.List.{append-nil, append_cancel_right}
use Rattle.ad_bytes.specs.Reading.{IsBytes, Reading, ◌>>=◌, many_at, TakesFront, IsReaderOf, SpellsMany}
use Rattle.ad_bytes.proofs.Steps.{from_bind, from_ok}
use Rattle.ad_bytes.proofs.Codec.{rest_fits}

-- ---- the format

many_takes : {A E : Type 0} (Spells : A → List ℕ → Type 0) (read : List ℕ → Reading A E) → IsReaderOf Spells read
    → (n : ℕ) (bytes : List ℕ) (xs : List A) (rest : List ℕ) → IsBytes bytes → many_at read n bytes ≡ Ok (xs, rest)
    → TakesFront (SpellsMany Spells n) bytes xs rest
unfolding many_at
many_takes {A = A} {E = E} Spells read reader zero bytes xs rest fits e =
    let same : ([], bytes) ≡ (xs, rest) = from_ok {E = E} ([], bytes) (xs, rest) e in
    subst (λ (p : List A × List ℕ). TakesFront (SpellsMany Spells 0) bytes p.0 p.1) same
    (record { text = []; parts = refl; spelled = (refl, refl) })
many_takes {A = A} {E = E} Spells read reader (suc n) bytes xs rest fits e =
    from_bind (read bytes) _ (xs, rest) e
    (λ (first : A × List ℕ) (e1 : read bytes ≡ Ok first)
    (e2 : (many_at read n first.1 >>= λ others. Ok (first.0 ∷ others.0, others.1)) ≡ Ok (xs, rest)).
    from_bind (many_at read n first.1) _ (xs, rest) e2
    (λ (others : List A × List ℕ) (e3 : many_at read n first.1 ≡ Ok others)
    (e4 : Ok (first.0 ∷ others.0, others.1) ≡ Ok (xs, rest)).
    let t1 : TakesFront Spells bytes first.0 first.1 = reader.takes bytes first.0 first.1 fits e1 in
    let t2 : TakesFront (SpellsMany Spells n) first.1 others.0 others.1 = many_takes Spells read reader n first.1
    others.0 others.1 (rest_fits Spells bytes first.0 first.1 fits t1) e3 in
    let same : (first.0 ∷ others.0, others.1) ≡ (xs, rest) = from_ok {E = E} (first.0 ∷ others.0, others.1) (xs, rest)
    e4 in
    subst (λ (p : List A × List ℕ). TakesFront (SpellsMany Spells (suc n)) bytes p.0 p.1) same
    (record {
      text = t1.text ++ t2.text;
      parts = t1.parts ∙ ap (λ (r : List ℕ). t1.text ++ r) t2.parts ∙ sym (append_assoc t1.text t2.text others.1);
      spelled = (
        ap suc t2.spelled.0,
        record {
          front = t1.text;
          behind = t2.text;
          parts = refl;
          spelled
              = t1.spelled;
          follows = t2.spelled.1;
        },
      );
    })))

many_again : {A E : Type 0} (Spells : A → List ℕ → Type 0) (read : List ℕ → Reading A E) → IsReaderOf Spells read
    → (n : ℕ) (xs : List A) (text rest : List ℕ) → SpellsMany Spells n xs text → many_at read n (text ++ rest)
    ≡ Ok (xs, rest)
unfolding many_at
many_again Spells read reader zero [] text rest s = rw s.1 refl
many_again Spells read reader zero (x ∷ xs) text rest s = absurd (omega (arith, s.0))
many_again Spells read reader (suc n) [] text rest s = absurd (omega (arith, s.0))
many_again Spells read reader (suc n) (x ∷ xs) text rest s =
    let f = s.1 in
    let regrouped : text ++ rest ≡ f.front ++ (f.behind ++ rest) = ap (λ (t : List ℕ). t ++ rest) f.parts
    ∙ append_assoc f.front f.behind rest in
    let len : length xs ≡ n = omega (arith, s.0) in
    ap (many_at read (suc n)) regrouped
    ∙ rw (
      reader.again x f.front (f.behind ++ rest) f.spelled,
      many_again Spells read reader n xs f.behind rest
          (len, f.follows),
    ) refl

pub many_reader : {A E : Type 0} (Spells : A → List ℕ → Type 0) (read : List ℕ → Reading A E) → IsReaderOf Spells read
    → (n : ℕ) → IsReaderOf (SpellsMany Spells n) (many_at read n)
many_reader Spells read reader n = record {
  takes = many_takes Spells read reader n;
  again
      = many_again Spells read reader n;
}

-- no encoding of a format that has a reader begins another
pub spellings_apart : {A E : Type 0} (Spells : A → List ℕ → Type 0) (read : List ℕ → Reading A E)
    → IsReaderOf Spells read
    → (a b : A) (x y r s : List ℕ) → Spells a x → Spells b y → x ++ r ≡ y ++ s → (a ≡ b) × (x ≡ y) × (r ≡ s)
spellings_apart {A = A} {E = E} Spells read reader a b x y r s sa sb e =
    let same : (a, r) ≡ (b, s) = from_ok {E = E} (a, r) (b, s)
    (sym (reader.again a x r sa) ∙ ap read e ∙ reader.again b y s sb) in
    let rest : r ≡ s = ap (λ (p : A × List ℕ). p.1) same in
    (ap (λ (p : A × List ℕ). p.0) same, append_cancel_right x y s (ap (λ (t : List ℕ). x ++ t) (sym rest) ∙ e), rest)

-- ---- the loop

-- what was read before, and what is still read
abbrev pub with_front : {A E : Type 0} → List A → Reading (List A) E → Reading (List A) E
with_front front read = read >>= λ x. Ok (front ++ x.0, x.1)

regroup : {A E : Type 0} (front : List A) (x : A) (read : Reading (List A) E)
    → with_front front (read >>= λ y. Ok (x ∷ y.0, y.1)) ≡ with_front (front ++ x ∷ []) read
regroup front x (Ok y) = ap (λ (xs : List _). Ok (xs, y.1)) (simp append_assoc)
regroup front x (Err f) = refl

-- at the start nothing was read
pub starts : {A E : Type 0} (read : Reading (List A) E) → with_front [] read ≡ read
starts (Ok x) = refl
starts (Err e) = refl

-- one more value is read
pub goes_on : {A E : Type 0} (read : List ℕ → Reading A E) (front : List A) (count i : ℕ) (bytes : List ℕ) (x : A)
    (after : List ℕ) (total : Reading (List A) E) → i < count → read bytes ≡ Ok (x, after)
    → with_front front (many_at read (count - i) bytes) ≡ total → with_front (front ++ x ∷ [])
    (many_at read (count - (i + 1)) after) ≡ total
unfolding many_at
goes_on read front count i bytes x after total lt h so_far =
    let k : count - i ≡ suc (count - (i + 1)) = omega arith in
    let one : with_front front (many_at read (count - i) bytes) ≡ with_front (front ++ x ∷ [])
    (many_at read (count - (i + 1)) after) = rw (k, h) (regroup front x (many_at read (count - (i + 1)) after)) in
    sym one ∙ so_far

-- a fault of one value is that of all
pub ends : {A E : Type 0} (read : List ℕ → Reading A E) (e : E) (front : List A) (count i : ℕ) (bytes : List ℕ)
    (total : Reading (List A) E) → i < count → read bytes ≡ Err e
    → with_front front (many_at read (count - i) bytes) ≡ total → total ≡ Err e
unfolding many_at
ends read e front count i bytes total lt h so_far =
    let k : count - i ≡ suc (count - (i + 1)) = omega arith in
    let one : with_front front (many_at read (count - i) bytes) ≡ Err e = rw (k, h) refl in
    sym so_far ∙ one

-- all values were read
pub is_done : {A E : Type 0} (read : List ℕ → Reading A E) (front : List A) (count i : ℕ) (bytes : List ℕ)
    (total : Reading (List A) E) → count ≤ i
    → with_front front (many_at read (count - i) bytes) ≡ total → total ≡ Ok (front, bytes)
unfolding many_at
is_done read front count i bytes total le so_far =
    let k : count - i ≡ 0 = omega arith in
    let one : with_front front (many_at read (count - i) bytes) ≡ Ok (front, bytes)
    = rw k (ap (λ (xs : List _). Ok (xs, bytes)) (append-nil front)) in
    sym so_far ∙ one
