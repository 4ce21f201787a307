-- The tests of pieces are true where a text has the pieces.
use Rattle.std.proofs.Common.{◌≡◌, ◌↔◌, ℕ, ◌-◌, Bool, true, false, inl, inr, List, [], ◌∷◌, ◌++◌, length, take, drop}
use Rattle.std.proofs.Common.{refl, sym, ap, ◌∙◌, arith, length-append}
use Rattle.std.specs.Prelude.{◌||◌, unwrap_or, IsTrue, Some}
use Rattle.std.specs.Str.{bytes_eq}
use Rattle.std.proofs.lemmas.Bool.{and_parts, and_from, cases_Bool}
use Rattle.std.proofs.lemmas.Slice.Eq.{bytes_eq-Decides}
use Rattle.std.proofs.lemmas.List.{take-append-drop}
use Rattle.std.proofs.Math.Seq.{drop-append_seam, take-append_seam}
use Rattle.ad_value.specs.declared.value.Key.{Key}
use Rattle.ad_value.specs.declared.value.Key.TheVariants as key
use Rattle.ad_value.specs.declared.pattern.Pattern.{Pattern}
use Rattle.ad_value.specs.Value.{bytes_in}
use Rattle.ad_value.specs.Pieces.{Stand, FitsText, begins_before, some_end, stands_in, ends_after, fits_text}

-- a piece at the beginning
pub record IsPrefix (piece : List ℕ) (test : List ℕ → Bool) (text : List ℕ) : Type 0 where
  pub rest : List ℕ
  pub parts : text ≡ piece ++ rest
  pub passes : test rest ≡ true

begins_takes : (piece : List ℕ) (test : List ℕ → Bool) (text : List ℕ) → begins_before piece test text ≡ true
    → IsPrefix piece test text
begins_takes piece test text e =
    let both = and_parts (bytes_eq (take (length piece) text) piece) (test (drop (length piece) text)) e in
    record {
      rest = drop (length piece) text;
      parts = sym (take-append-drop (length piece) text) ∙ ap (λ t. t ++ drop (length piece) text)
          ((bytes_eq-Decides (take (length piece) text) piece).0 both.0);
      passes = both.1;
    }

begins_again : (piece : List ℕ) (test : List ℕ → Bool) (rest : List ℕ) → test rest ≡ true → begins_before piece test
    (piece ++ rest) ≡ true
begins_again piece test rest e =
    and_from (bytes_eq (take (length piece) (piece ++ rest)) piece) (test (drop (length piece) (piece ++ rest)))
    ((bytes_eq-Decides (take (length piece) (piece ++ rest)) piece).1 (take-append_seam piece rest))
    (ap test (drop-append_seam piece rest) ∙ e)

-- a piece at the end
pub record IsBack (piece : List ℕ) (test : List ℕ → Bool) (text : List ℕ) : Type 0 where
  pub prefix : List ℕ
  pub parts : text ≡ prefix ++ piece
  pub passes : test prefix ≡ true

ends_takes : (piece : List ℕ) (test : List ℕ → Bool) (text : List ℕ) → ends_after piece test text ≡ true
    → IsBack piece test text
ends_takes piece test text e =
    let n : ℕ = length text - length piece in
    let both = and_parts (bytes_eq (drop (length text - length piece) text) piece)
    (test (take (length text - length piece) text)) e in
    record {
      prefix = take n text;
      parts = sym (take-append-drop n text) ∙ ap (λ t. take n text ++ t)
          ((bytes_eq-Decides (drop n text) piece).0 both.0);
      passes = both.1;
    }

ends_again : (piece : List ℕ) (test : List ℕ → Bool) (prefix : List ℕ) → test prefix ≡ true
    → ends_after piece test (prefix ++ piece) ≡ true
ends_again piece test prefix e =
    let whole = prefix ++ piece in
    let offset : length whole - length piece ≡ length prefix = omega (arith, length-append prefix piece) in
    let after : drop (length whole - length piece) whole ≡ piece = ap (λ n. drop n whole) offset
    ∙ drop-append_seam prefix piece in
    let before : take (length whole - length piece) whole ≡ prefix = ap (λ n. take n whole) offset
    ∙ take-append_seam prefix piece in
    and_from (bytes_eq (drop (length whole - length piece) whole) piece)
    (test (take (length whole - length piece) whole))
    ((bytes_eq-Decides (drop (length whole - length piece) whole) piece).1 after)
    (ap test before ∙ e)

-- some end of a text
pub record IsEnd (test : List ℕ → Bool) (text : List ℕ) : Type 0 where
  pub before : List ℕ
  pub rest : List ℕ
  pub parts : text ≡ before ++ rest
  pub passes : test rest ≡ true

some_end_by : (s t : Bool) → (s || t) ≡ true → s ≡ false → t ≡ true
some_end_by true t e f = absurd cc
some_end_by false t e f = e

some_end_takes : (test : List ℕ → Bool) (text : List ℕ) → some_end test text ≡ true → IsEnd test text
some_end_takes test [] e = record { before = []; rest = []; parts = refl; passes = e }
some_end_takes test (b ∷ bytes) e = elim (cases_Bool (test (b ∷ bytes))) [
  | inl here ↦ record { before = []; rest = b ∷ bytes; parts = refl; passes = here }
  | inr other ↦
      let later = some_end_takes test bytes (some_end_by (test (b ∷ bytes)) (some_end test bytes) e other) in
      record {
        before = b ∷ later.before;
        rest = later.rest;
        parts = ap (λ t. b ∷ t) later.parts;
        passes
            = later.passes;
      }
]

or_left : (s t : Bool) → s ≡ true → (s || t) ≡ true
or_left true t e = refl
or_left false t e = absurd cc

or_right : (s t : Bool) → t ≡ true → (s || t) ≡ true
or_right true t e = refl
or_right false t e = e

some_end_here : (test : List ℕ → Bool) (text : List ℕ) → test text ≡ true → some_end test text ≡ true
some_end_here test [] e = e
some_end_here test (b ∷ bytes) e = or_left (test (b ∷ bytes)) (some_end test bytes) e

some_end_again : (test : List ℕ → Bool) (before rest : List ℕ) → test rest ≡ true → some_end test (before ++ rest)
    ≡ true
some_end_again test [] rest e = some_end_here test rest e
some_end_again test (b ∷ before) rest e = or_right (test (b ∷ (before ++ rest))) (some_end test (before ++ rest))
    (some_end_again test before rest e)

-- the middle pieces
stands_takes : (pieces : List (List ℕ)) (text : List ℕ) → stands_in pieces text ≡ true → Stand pieces text
unfolding stands_in
stands_takes [] text e = tt
stands_takes (piece ∷ pieces) text e =
    let offset = some_end_takes (begins_before piece (stands_in pieces)) text e in
    let prefix = begins_takes piece (stands_in pieces) offset.rest offset.passes in
    record {
      before = offset.before;
      after = prefix.rest;
      parts = offset.parts ∙ ap (λ t. offset.before ++ t)
          prefix.parts;
      follows = stands_takes pieces prefix.rest prefix.passes;
    }

stands_again : (pieces : List (List ℕ)) (text : List ℕ) → Stand pieces text → stands_in pieces text ≡ true
unfolding stands_in
stands_again [] text s = refl
stands_again (piece ∷ pieces) text s =
    ap (some_end (begins_before piece (stands_in pieces))) s.parts
    ∙ some_end_again (begins_before piece (stands_in pieces)) s.before (piece ++ s.after)
    (begins_again piece (stands_in pieces) s.after (stands_again pieces s.after s.follows))

fits_takes : (parts : Pattern) (text : List ℕ) → fits_text parts text ≡ true → FitsText parts text
unfolding fits_text
fits_takes parts text e =
    let first = unwrap_or parts.first [] in
    let last = unwrap_or parts.last [] in
    let prefix = begins_takes first (ends_after last (stands_in parts.middle)) text e in
    let back = ends_takes last (stands_in parts.middle) prefix.rest prefix.passes in
    record {
      middle = back.prefix;
      parts_are = prefix.parts ∙ ap (λ t. first ++ t) back.parts;
      stand
          = stands_takes parts.middle back.prefix back.passes;
    }

fits_again : (parts : Pattern) (text : List ℕ) → FitsText parts text → fits_text parts text ≡ true
unfolding fits_text
fits_again parts text f =
    let first = unwrap_or parts.first [] in
    let last = unwrap_or parts.last [] in
    let test = ends_after last (stands_in parts.middle) in
    ap (begins_before first test) f.parts_are
    ∙ begins_again first test (f.middle ++ last)
    (ends_again last (stands_in parts.middle) f.middle (stands_again parts.middle f.middle f.stand))

both_ways : (s t : Bool) → (s ≡ true → t ≡ true) → (t ≡ true → s ≡ true) → s ≡ t
both_ways true t f g = sym (f refl)
both_ways false true f g = g refl
both_ways false false f g = refl

-- what is true exactly where a text fits is the test
pub text_decided : (r : Bool) (parts : Pattern) (text : List ℕ) → IsTrue r ↔ FitsText parts text → r
    ≡ fits_text parts text
text_decided r parts text h = both_ways r (fits_text parts text) (λ e. fits_again parts text (h.0 e))
    (λ e. h.1 (fits_takes parts text e))

-- a key is the bytes that it is said to be
pub key_of_bytes : (k : Key) (text : List ℕ) → Some text ≡ bytes_in k → key.Bytes text ≡ k
key_of_bytes (key.Bytes bytes) text e = cc
key_of_bytes (key.Number n) text e = absurd cc
