-- Pieces in a text, and the places where they are found.
use Rattle.std.proofs.Common.{◌≡◌, ◌↔◌, ℕ, true, false, Option, Some, unwrap_or, ◌+◌, ◌-◌, ◌<◌, ◌≤◌, List, [], ◌∷◌}
use Rattle.std.proofs.Common.{◌++◌, suc, add-one, get_or, drop-cons, ◌⊎◌, inl, inr, length, take, drop, drop-drop}
use Rattle.std.proofs.Common.{sym, ap, subst, ◌∙◌, append_assoc, arith, length-append}
use Rattle.std.proofs.lemmas.List.{take-append-drop, append_cancel_left, append_cancel_right}
use Rattle.std.proofs.lemmas.Bool.{cases_lt, true≢false}
use Rattle.std.proofs.lemmas.Slice.Eq.{bytes_eq-Decides}
use Rattle.std.specs.Str.{bytes_eq}
use Rattle.std.proofs.Math.Seq.{drop-append_seam, take-append_seam, drop-append-add}
use Rattle.memchr.specs.Find.{OccursAt, Nowhere}
use Rattle.memchr.proofs.lemmas.MatchLemmas.{OccursAt-split, OccursAt-from_part}
use Rattle.ad_value.specs.Pieces.{Stand, FitsText}
use Rattle.ad_value.specs.declared.pattern.Pattern.{Pattern}
use Rattle.ad_value.specs.Search.{IsLeftmost, IsNowhere}

-- a text of which the pieces stand in an end has them
pub stand_in_more : (pieces : List (List ℕ)) (more text : List ℕ) → Stand pieces text → Stand pieces (more ++ text)
stand_in_more [] more text s = tt
stand_in_more (piece ∷ pieces) more text s = record {
  before = more ++ s.before;
  after = s.after;
  parts = ap (λ t. more ++ t) s.parts ∙ sym (append_assoc more s.before (piece ++ s.after));
  follows = s.follows;
}

-- with its first piece as far to the left as it stands there
pub stand_leftmost : (piece text after : List ℕ) (pieces : List (List ℕ)) → IsLeftmost piece text after
    → Stand (piece ∷ pieces) text ↔ Stand pieces after
stand_leftmost piece text after pieces l = (
  λ s. let more = l.others s.before s.after s.parts in
      subst (λ (t : List ℕ). Stand pieces t) (sym more.1) (stand_in_more pieces more.0 s.after s.follows),
  λ s. record { before = l.before; after = after; parts = l.parts; follows = s },
)

-- the same of the pieces from one on
pub stand_next : (pieces : List (List ℕ)) (i : ℕ) (piece text after : List ℕ) → i < length pieces
    → get_or pieces i piece ≡ piece → IsLeftmost piece text after
    → Stand (drop i pieces) text ↔ Stand (drop (i + 1) pieces) after
stand_next pieces i piece text after lt is l =
    let cut : drop i pieces ≡ piece ∷ drop (i + 1) pieces = drop-cons pieces i piece lt
    ∙ ap (λ p. p ∷ drop (suc i) pieces) is ∙ ap (λ n. piece ∷ drop n pieces) (sym (add-one i)) in
    rw cut (stand_leftmost piece text after (drop (i + 1) pieces) l)

pub stand_nowhere : (piece text : List ℕ) (pieces : List (List ℕ)) → IsNowhere piece text
    → Stand (piece ∷ pieces) text → ⊥
stand_nowhere piece text pieces n s = n s.before s.after s.parts

-- ---- the first and the last piece

-- a piece of a pattern, which is empty where it isn't given
abbrev given : Option (List ℕ) → List ℕ
given o = unwrap_or o []

pub begins : (o : Option (List ℕ)) (piece text rest : List ℕ) → o ≡ Some piece → bytes_eq (take (length piece) text)
    piece ≡ true → rest ≡ drop (length piece) text → text ≡ given o ++ rest
begins o piece text rest is same r =
    sym (take-append-drop (length piece) text)
    ∙ ap (λ t. t ++ drop (length piece) text) ((bytes_eq-Decides (take (length piece) text) piece).0 same)
    ∙ ap (λ t. piece ++ t) (sym r)
    ∙ ap (λ p. given p ++ rest) (sym is)

pub begins_not : (o : Option (List ℕ)) (piece text rest : List ℕ) → o ≡ Some piece
    → bytes_eq (take (length piece) text) piece ≡ false → text ≡ given o ++ rest → ⊥
begins_not o piece text rest is other e =
    let prefix : take (length piece) text ≡ piece = ap (take (length piece)) (e ∙ ap (λ p. given p ++ rest) is)
    ∙ take-append_seam piece rest in
    true≢false (sym ((bytes_eq-Decides (take (length piece) text) piece).1 prefix) ∙ other)

pub ends : (o : Option (List ℕ)) (piece text prefix : List ℕ) → o ≡ Some piece
    → bytes_eq (drop (length text - length piece) text) piece ≡ true → prefix ≡ take (length text - length piece) text
    → text ≡ prefix ++ given o
ends o piece text prefix is same f =
    let n : ℕ = length text - length piece in
    sym (take-append-drop n text)
    ∙ ap (λ t. take n text ++ t) ((bytes_eq-Decides (drop n text) piece).0 same)
    ∙ ap (λ t. t ++ piece) (sym f)
    ∙ ap (λ p. prefix ++ given p) (sym is)

pub ends_not : (o : Option (List ℕ)) (piece text prefix : List ℕ) → o ≡ Some piece
    → bytes_eq (drop (length text - length piece) text) piece ≡ false → text ≡ prefix ++ given o → ⊥
ends_not o piece text prefix is other e =
    let whole : text ≡ prefix ++ piece = e ∙ ap (λ p. prefix ++ given p) is in
    let lengths : length text ≡ length prefix + length piece = ap length whole ∙ length-append prefix piece in
    let offset : length text - length piece ≡ length prefix = omega arith in
    let after : drop (length text - length piece) text ≡ piece = ap (λ n. drop n text) offset
    ∙ ap (drop (length prefix)) whole ∙ drop-append_seam prefix piece in
    true≢false (sym ((bytes_eq-Decides (drop (length text - length piece) text) piece).1 after) ∙ other)

-- a text has the pieces of a pattern where the middle ones stand between the first and the last
pub fits_between : (parts : Pattern) (text after middle : List ℕ) → text ≡ given parts.first ++ after → after ≡ middle
    ++ given parts.last → FitsText parts text ↔ Stand parts.middle middle
fits_between parts text after middle first last = (
  λ f. let cut : after ≡ f.middle ++ given parts.last = append_cancel_left (given parts.first) after
      (f.middle ++ given parts.last) (sym first ∙ f.parts_are) in
      let same : middle ≡ f.middle = append_cancel_right middle f.middle (given parts.last) (sym last ∙ cut) in
      subst (λ (t : List ℕ). Stand parts.middle t) (sym same) f.stand,
  λ s. record { middle = middle; parts_are = first ∙ ap (λ t. given parts.first ++ t) last; stand = s },
)

pub fits_not_first : (parts : Pattern) (text : List ℕ) → ((rest : List ℕ) → text ≡ given parts.first ++ rest → ⊥)
    → FitsText parts text → ⊥
fits_not_first parts text n f = n (f.middle ++ given parts.last) f.parts_are

pub fits_not_last : (parts : Pattern) (text after : List ℕ) → text ≡ given parts.first ++ after
    → ((prefix : List ℕ) → after ≡ prefix ++ given parts.last → ⊥) → FitsText parts text → ⊥
fits_not_last parts text after first n f = n f.middle
    (append_cancel_left (given parts.first) after (f.middle ++ given parts.last) (sym first ∙ f.parts_are))

-- ---- where a search finds a piece

-- a text in three parts has the middle one at the length of the first
occurs : (text piece prefix rest : List ℕ) → text ≡ prefix ++ (piece ++ rest) → OccursAt text piece (length prefix)
occurs text piece prefix rest e =
    let lengths : length text ≡ length prefix + (length piece + length rest) =
    ap length e ∙ length-append prefix (piece ++ rest) ∙ ap (λ n. length prefix + n) (length-append piece rest) in
    let after : drop (length prefix) text ≡ piece ++ rest = ap (drop (length prefix)) e ∙ drop-append_seam prefix
    (piece ++ rest) in
    OccursAt-from_part text piece (length prefix) (omega arith)
    (ap (take (length piece)) after ∙ take-append_seam piece rest)

-- what stands after a piece is an end of what is after a place that isn't further to the right
end_of : (text piece prefix rest : List ℕ) (k : ℕ) → text ≡ prefix ++ (piece ++ rest) → k ≤ length prefix
    → (more : List ℕ) × (drop (k + length piece) text ≡ more ++ rest)
end_of text piece prefix rest k e le =
    let n : ℕ = k + length piece in
    let j : ℕ = length prefix - k in
    let offset : n + j ≡ length prefix + length piece = omega arith in
    let rest_is : drop (length prefix + length piece) text ≡ rest =
    ap (drop (length prefix + length piece)) e ∙ drop-append-add prefix (piece ++ rest) (length piece)
    ∙ drop-append_seam piece rest in
    let after : drop j (drop n text) ≡ rest = drop-drop j n text ∙ ap (λ i. drop i text) offset ∙ rest_is in
    (take j (drop n text), sym (take-append-drop j (drop n text)) ∙ ap (λ t. take j (drop n text) ++ t) after)

-- the first place where a search finds a piece
pub found_leftmost : (text piece : List ℕ) (k : ℕ) → OccursAt text piece k → Nowhere (OccursAt text piece) 0 k
    → IsLeftmost piece text (drop (k + length piece) text)
found_leftmost text piece k o none = record {
  before = take k text;
  parts = sym (take-append-drop k text) ∙ ap (λ t. take k text ++ t) (OccursAt-split text piece k o);
  others = λ prefix rest e. end_of text piece prefix rest k e (not_before prefix rest e (cases_lt (length prefix) k));
} where
  not_before : (prefix rest : List ℕ) → text ≡ prefix ++ (piece ++ rest) → (length prefix < k) ⊎ (k ≤ length prefix)
      → k ≤ length prefix
  not_before prefix rest e (inl before) = absurd
      (none (length prefix) (omega arith) before (occurs text piece prefix rest e))
  not_before prefix rest e (inr le) = le

pub found_nowhere : (text piece : List ℕ) → Nowhere (OccursAt text piece) 0 (length text + 1) → IsNowhere piece text
found_nowhere text piece none prefix rest e =
    let o = occurs text piece prefix rest e in
    none (length prefix) (omega arith) (omega (arith, o.fits)) o
