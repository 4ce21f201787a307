-- A text character by character, and the bytes after case folding: their hash, and how they compare with others.
use Rattle.std.proofs.Common.{◌≡◌, ℕ, ◌+◌, ◌<◌, ◌≤◌, Bool, true, false, List, [], ◌∷◌, ◌++◌, length, drop, get_or}
use Rattle.std.proofs.Common.{refl, sym, ap, ◌∙◌, arith}
use Rattle.std.specs.Prelude.{chars, encode_utf8_all, nat_eq}
use Rattle.std.proofs.Math.Utf8.{encode, encodes, scalars}
use Rattle.std.specs.Str.{bytes_eq, IsUtf8}
use Rattle.std.specs.declared.hash.DefaultHasher.{DefaultHasher}
use Rattle.std.proofs.lemmas.Bool.{and_parts, ne_eqb}
use Rattle.std.proofs.lemmas.List.{drop_at, at_drop_more, at_drop_all}
use Rattle.std.proofs.lemmas.Str.{chars-nil, chars_past_char, encodes-append, encodes-chars, scalars-chars}
use Rattle.ucd_case.specs.CaseFolding.{full_fold}
use Rattle.caseless.specs.Caseless.{default_case_fold}
use Rattle.ad_dn.specs.Fold.{folded}
use Rattle.ad_dir_table.specs.Hashes.{with_byte, with_all}

-- ---- a text behind its first character

pub utf8_past : (bytes rest : List ℕ) (c : ℕ) → IsUtf8 bytes → bytes ≡ encode c ++ rest → IsUtf8 rest
utf8_past bytes rest c utf8 is =
    let front : chars bytes ≡ c ∷ chars rest = chars_past_char bytes rest c utf8 is in
    let whole : encode c ++ encodes (chars rest) ≡ encode c ++ rest = sym (ap encodes front)
    ∙ encodes-chars bytes utf8 ∙ is in
    let same : encodes (chars rest) ≡ rest = sym (drop_at (encode c) (encodes (chars rest)) (length (encode c)) refl)
    ∙ ap (drop (length (encode c))) whole ∙ drop_at (encode c) rest (length (encode c)) refl in
    let good : scalars (c ∷ chars rest) ≡ true = ap scalars (sym front) ∙ scalars-chars bytes utf8 in
    (chars rest, ((and_parts _ (scalars (chars rest)) good).1, same))

pub no_chars : (bytes : List ℕ) → length bytes ≡ 0 → chars bytes ≡ []
no_chars [] none = chars-nil
no_chars (b ∷ bs) none = absurd (omega (arith, none))

pub fewer_chars : (rest more : List ℕ) (c : ℕ) → IsUtf8 rest → rest ≡ encode c ++ more → length (chars more)
    < length (chars rest)
fewer_chars rest more c utf8 is = let long = ap length (chars_past_char rest more c utf8 is) in omega (arith, long)

-- ---- what it is folded to

fold_more : (c : ℕ) (cs : List ℕ) → default_case_fold (c ∷ cs) ≡ full_fold c ++ default_case_fold cs
unfolding default_case_fold
fold_more c cs = refl

fold_none : default_case_fold [] ≡ []
unfolding default_case_fold
fold_none = refl

pub folded_more : (rest more : List ℕ) (c : ℕ) → IsUtf8 rest → rest ≡ encode c ++ more → folded rest
    ≡ encode_utf8_all (full_fold c) ++ folded more
unfolding folded
folded_more rest more c utf8 is =
    ap (λ (cs : List ℕ). encodes (default_case_fold cs)) (chars_past_char rest more c utf8 is)
    ∙ ap encodes (fold_more c (chars more))
    ∙ encodes-append (full_fold c) (default_case_fold (chars more))

pub folded_none : (rest : List ℕ) → length rest ≡ 0 → folded rest ≡ []
unfolding folded
folded_none rest none = ap (λ (cs : List ℕ). encodes (default_case_fold cs)) (no_chars rest none) ∙ ap encodes fold_none

-- ---- its hash

pub with_both : (state : DefaultHasher) (a b : List ℕ) → with_all state (a ++ b) ≡ with_all (with_all state a) b
unfolding with_all
with_both state [] b = refl
with_both state (x ∷ a) b = with_both (with_byte state x) a b

pub with_none : (state : DefaultHasher) → with_all state [] ≡ state
unfolding with_all
with_none state = refl

-- the steps of a walk over bytes
pub byte_more : (state new whole : DefaultHasher) (bytes : List ℕ) (i d : ℕ) → i < length bytes → new
    ≡ with_byte state (get_or bytes i d) → with_all state (drop i bytes) ≡ whole → with_all new (drop (i + 1) bytes)
    ≡ whole
unfolding with_all
byte_more state new whole bytes i d lt made so_far =
    ap (λ (s : DefaultHasher). with_all s (drop (i + 1) bytes)) made
    ∙ sym (at_drop_more (with_all state) bytes i d lt) ∙ so_far

pub bytes_done : (state whole : DefaultHasher) (bytes : List ℕ) (i : ℕ) → length bytes ≤ i
    → with_all state (drop i bytes) ≡ whole → state ≡ whole
unfolding with_all
bytes_done state whole bytes i le so_far = sym (at_drop_all (with_all state) bytes i le) ∙ so_far

-- those of a walk over characters
pub char_more : (state new whole : DefaultHasher) (cs : List ℕ) (i c : ℕ) → i < length cs → c ≡ get_or cs i c → new
    ≡ with_all state (encode c) → with_all state (encode_utf8_all (drop i cs)) ≡ whole
    → with_all new (encode_utf8_all (drop (i + 1) cs)) ≡ whole
char_more state new whole cs i c lt is made so_far =
    ap (λ (s : DefaultHasher). with_all s (encodes (drop (i + 1) cs)))
    (made ∙ ap (λ (x : ℕ). with_all state (encode x)) is)
    ∙ sym (with_both state (encode (get_or cs i c)) (encodes (drop (i + 1) cs)))
    ∙ sym (at_drop_more (λ (l : List ℕ). with_all state (encodes l)) cs i c lt) ∙ so_far

pub chars_done : (state whole : DefaultHasher) (cs : List ℕ) (i : ℕ) → length cs ≤ i
    → with_all state (encode_utf8_all (drop i cs)) ≡ whole → state ≡ whole
chars_done state whole cs i le so_far = sym (with_none state)
    ∙ sym (at_drop_all (λ (l : List ℕ). with_all state (encodes l)) cs i le) ∙ so_far

-- those of a walk over a text
pub text_more : (state new whole : DefaultHasher) (rest more : List ℕ) (c : ℕ) → IsUtf8 rest → rest ≡ encode c ++ more
    → new ≡ with_all state (encode_utf8_all (full_fold c)) → with_all state (folded rest) ≡ whole
    → (with_all new (folded more) ≡ whole) × IsUtf8 more
text_more state new whole rest more c utf8 is made so_far = (
  ap (λ (s : DefaultHasher). with_all s (folded more)) made
      ∙ sym (with_both state (encode_utf8_all (full_fold c)) (folded more))
      ∙ ap (with_all state) (sym (folded_more rest more c utf8 is)) ∙ so_far,
  utf8_past rest more c utf8 is,
)

pub text_done : (state whole : DefaultHasher) (rest : List ℕ) → length rest ≡ 0 → with_all state (folded rest) ≡ whole
    → state ≡ whole
text_done state whole rest none so_far = sym (with_none state) ∙ ap (with_all state) (sym (folded_none rest none))
    ∙ so_far

-- ---- how it compares

-- the steps of a walk over a text, of which the front of the other bytes was found or not
pub compared_more : (rest more left after : List ℕ) (c : ℕ) (whole : Bool) → IsUtf8 rest → rest ≡ encode c ++ more
    → bytes_eq (encode_utf8_all (full_fold c) ++ folded more) left ≡ bytes_eq (folded more) after
    → bytes_eq (folded rest) left ≡ whole → (bytes_eq (folded more) after ≡ whole) × IsUtf8 more
compared_more rest more left after c whole utf8 is found so_far = (
  sym found ∙ ap (λ (f : List ℕ). bytes_eq f left) (sym (folded_more rest more c utf8 is)) ∙ so_far,
  utf8_past rest more c utf8 is,
)

pub compared_other : (rest more left : List ℕ) (c : ℕ) (whole : Bool) → IsUtf8 rest → rest ≡ encode c ++ more
    → bytes_eq (encode_utf8_all (full_fold c) ++ folded more) left ≡ false → bytes_eq (folded rest) left ≡ whole
    → false ≡ whole
compared_other rest more left c whole utf8 is other so_far = sym other ∙ ap (λ (f : List ℕ). bytes_eq f left)
    (sym (folded_more rest more c utf8 is)) ∙ so_far

none_left : (left : List ℕ) → nat_eq (length left) 0 ≡ bytes_eq [] left
none_left [] = refl
none_left (x ∷ xs) = ne_eqb (length (x ∷ xs)) 0 (λ (e : length (x ∷ xs) ≡ 0). absurd (omega (arith, e)))

pub compared_all : (rest left : List ℕ) (empty whole : Bool) → length rest ≡ 0 → empty ≡ nat_eq (length left) 0
    → bytes_eq (folded rest) left ≡ whole → empty ≡ whole
compared_all rest left empty whole none is so_far = is ∙ none_left left ∙ ap (λ (f : List ℕ). bytes_eq f left)
    (sym (folded_none rest none)) ∙ so_far
