-- Values in a row up to the end of the bytes, as a loop reads them.
use Rattle.std.proofs.Common.{◌≡◌, ℕ, zero, suc, ◌≤◌, ◌<◌, true, false, List, [], ◌∷◌, ◌++◌, length, Result, Ok, Err}
use Rattle.std.proofs.Common.{refl, sym, ap, ◌∙◌, append_assoc, arith}
use Rattle.std.proofs.lemmas.List.{append-nil}
use Rattle.ad_bytes.specs.Reading.{Reading, ◌>>=◌}
use Rattle.ad_bytes.proofs.Many.{with_front}
use Rattle.ad_ldap.specs.declared.fault.LdapFault.{LdapFault}
use Rattle.ad_ldap.specs.Reading.{begins, body_at, each_within}
use Rattle.ad_ldap.specs.FilterReading.{middle_within, middle_of}

-- what was read before, and what is still read
abbrev behind : {A : Type 0} → List A → Result (List A) LdapFault → Result (List A) LdapFault
behind front read = read >>= λ xs. Ok (front ++ xs)

regroup : {A : Type 0} (front : List A) (x : A) (read : Result (List A) LdapFault)
    → behind front (read >>= λ xs. Ok (x ∷ xs)) ≡ behind (front ++ x ∷ []) read
regroup front x (Ok xs) = ap (λ (ys : List _). Ok ys) (sym (append_assoc front (x ∷ []) xs))
regroup front x (Err d) = refl

-- What was read so far, and what the other bytes give, is the whole. No value has no bytes: so `left` need only be
-- no smaller than the number of bytes.
pub record IsReading {A : Type 0} (read : List ℕ → Reading A LdapFault) (front : List A) (bytes : List ℕ)
    (total : Result (List A) LdapFault) : Type 0 where
  pub left : ℕ
  pub enough : length bytes ≤ left
  pub so_far : behind front (each_within left read bytes) ≡ total

bare : {A : Type 0} (read : Result (List A) LdapFault) → behind [] read ≡ read
bare (Ok xs) = refl
bare (Err d) = refl

pub each_starts : {A : Type 0} (read : List ℕ → Reading A LdapFault) (bytes : List ℕ) → IsReading read [] bytes
    (each_within (length bytes) read bytes)
each_starts read bytes = record {
  left = length bytes;
  enough = omega arith;
  so_far
      = bare (each_within (length bytes) read bytes);
}

goes_on : {A : Type 0} (read : List ℕ → Reading A LdapFault) (front : List A) (n : ℕ) (bytes : List ℕ) (x : A)
    (rest : List ℕ) (total : Result (List A) LdapFault) → 0 < length bytes → length bytes ≤ n → read bytes
    ≡ Ok (x, rest) → length rest < length bytes
    → behind front (each_within n read bytes) ≡ total → IsReading read (front ++ x ∷ []) rest total
unfolding each_within
goes_on read front n [] x rest total some enough h less so_far = absurd (omega arith)
goes_on read front zero (b ∷ bytes) x rest total some enough h less so_far = absurd (omega arith)
goes_on read front (suc n) (b ∷ bytes) x rest total some enough h less so_far =
    let one : behind front (each_within (suc n) read (b ∷ bytes)) ≡ behind (front ++ x ∷ []) (each_within n read rest)
    = rw h (regroup front x (each_within n read rest)) in
    record { left = n; enough = omega arith; so_far = sym one ∙ so_far }

pub each_goes_on : {A : Type 0} (read : List ℕ → Reading A LdapFault) (front : List A) (bytes : List ℕ) (x : A)
    (rest : List ℕ) (total : Result (List A) LdapFault) → (length bytes ≡ 0 → ⊥) → read bytes ≡ Ok (x, rest)
    → length rest < length bytes
    → IsReading read front bytes total → IsReading read (front ++ x ∷ []) rest total
each_goes_on read front bytes x rest total some h less r = goes_on read front r.left bytes x rest total
    (omega (arith, some)) r.enough h less r.so_far

stops : {A : Type 0} (read : List ℕ → Reading A LdapFault) (front : List A) (n : ℕ) (bytes : List ℕ) (d : LdapFault)
    (total : Result (List A) LdapFault) → 0 < length bytes → length bytes ≤ n → read bytes ≡ Err d
    → behind front (each_within n read bytes) ≡ total → total ≡ Err d
unfolding each_within
stops read front n [] d total some enough h so_far = absurd (omega arith)
stops read front zero (b ∷ bytes) d total some enough h so_far = absurd (omega arith)
stops read front (suc n) (b ∷ bytes) d total some enough h so_far =
    let one : behind front (each_within (suc n) read (b ∷ bytes)) ≡ Err d = rw h refl in
    sym so_far ∙ one

pub each_stops : {A : Type 0} (read : List ℕ → Reading A LdapFault) (front : List A) (bytes : List ℕ) (d : LdapFault)
    (total : Result (List A) LdapFault) → (length bytes ≡ 0 → ⊥) → read bytes ≡ Err d
    → IsReading read front bytes total → total ≡ Err d
each_stops read front bytes d total some h r = stops read front r.left bytes d total (omega (arith, some)) r.enough h
    r.so_far

done : {A : Type 0} (read : List ℕ → Reading A LdapFault) (front : List A) (n : ℕ) (bytes : List ℕ)
    (total : Result (List A) LdapFault) → length bytes ≡ 0 → behind front (each_within n read bytes) ≡ total → total
    ≡ Ok front
unfolding each_within
done read front zero [] total none so_far = sym so_far ∙ ap (λ (xs : List _). Ok xs) (append-nil front)
done read front (suc n) [] total none so_far = sym so_far ∙ ap (λ (xs : List _). Ok xs) (append-nil front)
done read front n (b ∷ bytes) total none so_far = absurd (omega arith)

pub each_done : {A : Type 0} (read : List ℕ → Reading A LdapFault) (front : List A) (bytes : List ℕ)
    (total : Result (List A) LdapFault) → length bytes ≡ 0 → IsReading read front bytes total → total ≡ Ok front
each_done read front bytes total none r = done read front r.left bytes total none r.so_far

-- ---- the middle pieces of a pattern

pub record IsMiddle (end : ℕ) (front : List (List ℕ)) (bytes : List ℕ) (total : Reading (List (List ℕ)) LdapFault)
    : Type 0 where
  pub left : ℕ
  pub enough : length bytes ≤ left
  pub so_far : with_front front (middle_within left end bytes) ≡ total

bare_front : (read : Reading (List (List ℕ)) LdapFault) → with_front [] read ≡ read
bare_front (Ok x) = refl
bare_front (Err d) = refl

pub middle_starts : (end : ℕ) (bytes : List ℕ) → IsMiddle end [] bytes (middle_of end bytes)
unfolding middle_of
middle_starts end bytes = record {
  left = length bytes;
  enough = omega arith;
  so_far
      = bare_front (middle_within (length bytes) end bytes);
}

regroup_front : (front : List (List ℕ)) (x : List ℕ) (read : Reading (List (List ℕ)) LdapFault)
    → with_front front (read >>= λ y. Ok (x ∷ y.0, y.1)) ≡ with_front (front ++ x ∷ []) read
regroup_front front x (Ok y) = ap (λ (xs : List (List ℕ)). Ok (xs, y.1)) (sym (append_assoc front (x ∷ []) y.0))
regroup_front front x (Err d) = refl

begun : (tag : ℕ) (bytes : List ℕ) → begins tag bytes ≡ true → 0 < length bytes
begun tag [] e = absurd cc
begun tag (b ∷ bytes) e = omega arith

on : (end : ℕ) (front : List (List ℕ)) (n : ℕ) (bytes x rest : List ℕ) (total : Reading (List (List ℕ)) LdapFault)
    → begins 129 bytes ≡ true → 0 < length bytes → length bytes ≤ n → body_at 129 end bytes ≡ Ok (x, rest)
    → length rest < length bytes
    → with_front front (middle_within n end bytes) ≡ total → IsMiddle end (front ++ x ∷ []) rest total
unfolding middle_within
on end front zero bytes x rest total here some enough h less so_far = absurd (omega arith)
on end front (suc n) bytes x rest total here some enough h less so_far =
    let one : with_front front (middle_within (suc n) end bytes) ≡ with_front (front ++ x ∷ [])
    (middle_within n end rest) = rw (here, h) (regroup_front front x (middle_within n end rest)) in
    record { left = n; enough = omega arith; so_far = sym one ∙ so_far }

pub middle_goes_on : (end : ℕ) (front : List (List ℕ)) (bytes x rest : List ℕ)
    (total : Reading (List (List ℕ)) LdapFault) → begins 129 bytes ≡ true → body_at 129 end bytes ≡ Ok (x, rest)
    → length rest < length bytes
    → IsMiddle end front bytes total → IsMiddle end (front ++ x ∷ []) rest total
middle_goes_on end front bytes x rest total here h less m = on end front m.left bytes x rest total here
    (begun 129 bytes here) m.enough h less m.so_far

halts : (end : ℕ) (front : List (List ℕ)) (n : ℕ) (bytes : List ℕ) (d : LdapFault)
    (total : Reading (List (List ℕ)) LdapFault) → begins 129 bytes ≡ true → 0 < length bytes → length bytes ≤ n
    → body_at 129 end bytes ≡ Err d
    → with_front front (middle_within n end bytes) ≡ total → total ≡ Err d
unfolding middle_within
halts end front zero bytes d total here some enough h so_far = absurd (omega arith)
halts end front (suc n) bytes d total here some enough h so_far =
    let one : with_front front (middle_within (suc n) end bytes) ≡ Err d = rw (here, h) refl in
    sym so_far ∙ one

pub middle_stops : (end : ℕ) (front : List (List ℕ)) (bytes : List ℕ) (d : LdapFault)
    (total : Reading (List (List ℕ)) LdapFault) → begins 129 bytes ≡ true → body_at 129 end bytes ≡ Err d
    → IsMiddle end front bytes total → total ≡ Err d
middle_stops end front bytes d total here h m = halts end front m.left bytes d total here (begun 129 bytes here)
    m.enough h m.so_far

finished : (end : ℕ) (front : List (List ℕ)) (n : ℕ) (bytes : List ℕ) (total : Reading (List (List ℕ)) LdapFault)
    → begins 129 bytes ≡ false → with_front front (middle_within n end bytes) ≡ total → total ≡ Ok (front, bytes)
unfolding middle_within
finished end front zero bytes total away so_far = sym so_far ∙ ap (λ (xs : List (List ℕ)). Ok (xs, bytes))
    (append-nil front)
finished end front (suc n) bytes total away so_far =
    let one : with_front front (middle_within (suc n) end bytes) ≡ Ok (front, bytes)
    = rw away (ap (λ (xs : List (List ℕ)). Ok (xs, bytes)) (append-nil front)) in
    sym so_far ∙ one

pub middle_done : (end : ℕ) (front : List (List ℕ)) (bytes : List ℕ) (total : Reading (List (List ℕ)) LdapFault)
    → begins 129 bytes ≡ false → IsMiddle end front bytes total → total ≡ Ok (front, bytes)
middle_done end front bytes total away m = finished end front m.left bytes total away m.so_far
