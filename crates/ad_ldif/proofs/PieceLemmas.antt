-- A text that is cut after an empty line: its records are those of its two parts.
use Rattle.std.proofs.Common.{◌≡◌, ℕ, suc, ◌+◌, ◌-◌, ◌<◌, ◌≤◌, ◌==◌, ◌&&◌, ◌||◌, Bool, true, false, eqb, nat_eq, inl}
use Rattle.std.proofs.Common.{inr, refl, sym, ap, ◌∙◌, subst, arith}
use Rattle.std.proofs.Common.{List, [], ◌∷◌, ◌++◌, length, get_or, take, drop, length-append, drop-cons, add-one}
use Rattle.std.proofs.Math.Seq.{drop-append_seam}
use Rattle.std.proofs.lemmas.Bool.{cases_Bool, and_right, and_parts, or_right, eqb-true, eq-eqb}
use Rattle.std.proofs.lemmas.List.{append-nil, take-append-drop, length-take-le, get_or-take, get_or-append-add}
use Rattle.std.proofs.lemmas.List.{drop_all}
use Rattle.std.proofs.lemmas.Bool.Decides.{nat_tests}
use Rattle.std.specs.Prelude.{nat_le}
use Rattle.std.specs.Cmp.Lexicographic.{same_text, pointwise}
use Rattle.memchr.specs.Find.{Nowhere, Passes, is_byte}
use Rattle.ad_ldif.specs.Lines.{Line, Block, physical, continuation, logical, lines_from, lines_before_empty, blocks}
use Rattle.ad_ldif.specs.Lines.{begins_with, is_empty, lengthened}
use Rattle.ad_ldif.specs.Pieces.{EndsRecord, one_end, line_ends}
use Rattle.ad_ldif.proofs.CutLemmas.{physical_nil}
use Rattle.ad_ldif.proofs.LineLemmas.{parts, belongs}

-- ---- the lines of a text that ends so

-- A line or more, an empty one, and then the lines of what stands after the text.
record EndsLines (text : List ℕ) : Type 0 where
  first : List ℕ
  others : List (List ℕ)
  lines : (after : List ℕ) → physical (text ++ after) ≡ first ∷ (others ++ [] ∷ physical after)
  count : line_ends text ≡ length others + 2

no_text : EndsLines [] → ⊥
no_text ends = let none : [] ≡ ends.first ∷ (ends.others ++ [] ∷ physical []) = sym physical_nil ∙ ends.lines [] in cc

-- one byte before it: the CR of a CR LF, a LF, or another byte of the first line
is_cr : (b c : ℕ) (text : List ℕ) → (b == 13 && c == 10) ≡ true → EndsLines (c ∷ text) → EndsLines (b ∷ c ∷ text)
unfolding physical line_ends
is_cr b c text e ends =
    let is : b ≡ 13 = eqb-true b 13 (and_parts _ _ e).0 in
    let other : (b == 10) ≡ false = rw is refl in
    record {
      first = ends.first;
      others = ends.others;
      lines = λ after. rw e (ends.lines after);
      count = rw other (omega (arith, ends.count));
    }

is_lf : (b c : ℕ) (text : List ℕ) → (b == 13 && c == 10) ≡ false → (b == 10) ≡ true → EndsLines (c ∷ text)
    → EndsLines (b ∷ c ∷ text)
unfolding physical line_ends
is_lf b c text cr e ends = record {
  first = [];
  others = ends.first ∷ ends.others;
  lines = λ after. rw (cr, e) (ap (λ (lines : List (List ℕ)). [] ∷ lines) (ends.lines after));
  count = rw e (omega (arith, ends.count));
}

other_byte : (b c : ℕ) (text : List ℕ) → (b == 13 && c == 10) ≡ false → (b == 10) ≡ false → EndsLines (c ∷ text)
    → EndsLines (b ∷ c ∷ text)
unfolding physical line_ends
other_byte b c text cr lf ends = record {
  first = b ∷ ends.first;
  others = ends.others;
  lines = λ after. rw (cr, lf) (ap (lengthened b) (ends.lines after));
  count = rw lf (omega (arith, ends.count));
}

one_before : (b : ℕ) (text : List ℕ) → EndsLines text → EndsLines (b ∷ text)
one_before b [] ends = absurd (no_text ends)
one_before b (c ∷ text) ends = elim (cases_Bool (b == 13 && c == 10)) [
  | inl cr ↦ is_cr b c text cr ends
  | inr other ↦ elim (cases_Bool (b == 10)) [
    | inl lf ↦ is_lf b c text other lf ends
    | inr byte ↦ other_byte b c text other byte ends
  ]
]

before : (front text : List ℕ) → EndsLines text → EndsLines (front ++ text)
before [] text ends = ends
before (b ∷ front) text ends = one_before b (front ++ text) (before front text ends)

ends_lf : EndsLines (10 ∷ 10 ∷ [])
unfolding physical line_ends
ends_lf = record { first = []; others = []; lines = λ after. refl; count = refl }

ends_crlf : EndsLines (10 ∷ 13 ∷ 10 ∷ [])
unfolding physical line_ends
ends_crlf = record { first = []; others = []; lines = λ after. refl; count = refl }

ends_lines : (text : List ℕ) → EndsRecord text → EndsLines text
ends_lines text (inl ends) = subst EndsLines (sym ends.1) (before ends.0 (10 ∷ 10 ∷ []) ends_lf)
ends_lines text (inr ends) = subst EndsLines (sym ends.1) (before ends.0 (10 ∷ 13 ∷ 10 ∷ []) ends_crlf)

-- ---- lines that an empty one parts: `front` are those before it

-- a continuation, a comment, an empty line, and a text
passed : (open_line : Bool) (n : ℕ) (line : List ℕ) (lines : List (List ℕ)) → (open_line && begins_with 32 line)
    ≡ true → logical open_line n (line ∷ lines) ≡ logical true (n + 1) lines
unfolding logical
passed open_line n line lines e = rw e refl

comment : (open_line : Bool) (n : ℕ) (line : List ℕ) (lines : List (List ℕ)) → (open_line && begins_with 32 line)
    ≡ false → begins_with 35 line ≡ true
    → logical open_line n (line ∷ lines) ≡ logical true (n + 1) lines
unfolding logical
comment open_line n line lines other e = rw (other, e) refl

blank : (open_line : Bool) (n : ℕ) (lines : List (List ℕ)) → logical open_line n ([] ∷ lines)
    ≡ record { number = n; text = [] } ∷ logical false (n + 1) lines
unfolding logical
blank open_line n lines = rw (and_right open_line false refl) refl

text_line : (open_line : Bool) (n b : ℕ) (line : List ℕ) (lines : List (List ℕ)) → (open_line && b == 32) ≡ false
    → (b == 35) ≡ false
    → logical open_line n ((b ∷ line) ∷ lines) ≡ record { number = n; text = (b ∷ line) ++ continuation lines }
    ∷ logical true (n + 1) lines
unfolding logical
text_line open_line n b line lines other e = rw (other, e) refl

-- what continues a line stands before the empty one
same_continuation : (front lines : List (List ℕ)) → continuation (front ++ [] ∷ lines) ≡ continuation (front ++ [] ∷ [])
unfolding continuation
same_continuation [] lines = refl
same_continuation (line ∷ front) lines = rw (same_continuation front lines) refl

-- The lines of the record that is being read, and the records from there on, where an empty line comes and other
-- lines after it.
record Parts (inside : Bool) (all part : List Line) (others : List Block) : Type 0 where
  same : lines_before_empty all ≡ lines_before_empty part
  split : blocks inside all ≡ blocks inside part ++ others

as_parts : (inside : Bool) (all part all' part' : List Line) (others : List Block) → all ≡ all' → part ≡ part'
    → Parts inside all' part' others → Parts inside all part others
as_parts inside all part all' part' others x y p = rw (x, y) p

behind_blank : (inside : Bool) (line : Line) (all part : List Line) (others : List Block) → is_empty line.text ≡ true
    → Parts false all part others → Parts inside (line ∷ all) (line ∷ part) others
behind_blank inside line all part others e p = record {
  same = (parts line all e).0 ∙ sym (parts line part e).0;
  split = (parts line all e).1 inside ∙ p.split
      ∙ sym (ap (λ (bs : List Block). bs ++ others) ((parts line part e).1 inside));
}

behind_text : (inside : Bool) (line : Line) (all part : List Line) (others : List Block) → is_empty line.text ≡ false
    → Parts true all part others → Parts inside (line ∷ all) (line ∷ part) others
behind_text true line all part others e p = record {
  same = (belongs line all e).0 ∙ ap (λ (ls : List Line). line ∷ ls) p.same ∙ sym (belongs line part e).0;
  split = (belongs line all e).1 ∙ p.split ∙ sym (ap (λ (bs : List Block). bs ++ others) (belongs line part e).1);
}
behind_text false line all part others e p = record {
  same = (belongs line all e).0 ∙ ap (λ (ls : List Line). line ∷ ls) p.same ∙ sym (belongs line part e).0;
  split = (belongs line all e).2
      ∙ ap (λ (ls : List Line). record { first = line; others = ls } ∷ blocks true all) p.same
      ∙ ap (λ (bs : List Block). record { first = line; others = lines_before_empty part } ∷ bs) p.split
      ∙ sym (ap (λ (bs : List Block). bs ++ others) (belongs line part e).2);
}

-- the lines after the empty one, which has the number n + length prefix
abbrev Behind : ℕ → List (List ℕ) → List (List ℕ) → List Block
Behind n front lines = blocks false (logical false (n + length front + 1) lines)

abbrev Divided : Bool → Bool → ℕ → List (List ℕ) → List (List ℕ) → Type 0
Divided inside open_line n front lines =
    Parts inside (logical open_line n (front ++ [] ∷ lines)) (logical open_line n (front ++ [] ∷ []))
    (Behind n front lines)

nothing_behind : (inside open_line : Bool) (n : ℕ) (lines : List (List ℕ)) → Divided inside open_line n [] lines
unfolding logical blocks
nothing_behind inside open_line n lines =
    let line : Line = record { number = n; text = [] } in
    as_parts inside _ _ _ _ _ (blank open_line n lines) (blank open_line n [])
    (record {
      same = (parts line (logical false (n + 1) lines) refl).0 ∙ sym (parts line (logical false (n + 1) []) refl).0;
      split = (parts line (logical false (n + 1) lines) refl).1 inside
          ∙ ap (λ (k : ℕ). blocks false (logical false k lines)) (omega arith)
          ∙ sym (ap (λ (bs : List Block). bs ++ Behind n [] lines)
          ((parts line (logical false (n + 1) []) refl).1 inside));
    })

-- the same after a line more
next_number : (inside : Bool) (all part : List Line) (n : ℕ) (line : List ℕ) (front lines : List (List ℕ))
    → Parts inside all part (Behind (n + 1) front lines)
    → Parts inside all part (Behind n (line ∷ front) lines)
next_number inside all part n line front lines p =
    subst (λ (k : ℕ). Parts inside all part (blocks false (logical false k lines)))
    (let next : n + 1 + length front + 1 ≡ n + suc (length front) + 1 = omega arith in next) p

divides : (inside open_line : Bool) (n : ℕ) (front lines : List (List ℕ)) → Divided inside open_line n front lines
divides inside open_line n [] lines = nothing_behind inside open_line n lines
divides inside open_line n ([] ∷ front) lines =
    as_parts inside _ _ _ _ _ (blank open_line n (front ++ [] ∷ lines)) (blank open_line n (front ++ [] ∷ []))
    (behind_blank inside (record { number = n; text = [] }) _ _ _ refl
    (next_number false _ _ n [] front lines (divides false false (n + 1) front lines)))
divides inside open_line n ((b ∷ line) ∷ front) lines = elim (cases_Bool (open_line && b == 32)) [
  | inl e ↦ as_parts inside _ _ _ _ _ (passed open_line n (b ∷ line) (front ++ [] ∷ lines) e)
      (passed open_line n (b ∷ line) (front ++ [] ∷ []) e)
      (next_number inside _ _ n (b ∷ line) front lines (divides inside true (n + 1) front lines))
  | inr other ↦ elim (cases_Bool (b == 35)) [
    | inl e ↦ as_parts inside _ _ _ _ _ (comment open_line n (b ∷ line) (front ++ [] ∷ lines) other e)
        (comment open_line n (b ∷ line) (front ++ [] ∷ []) other e)
        (next_number inside _ _ n (b ∷ line) front lines (divides inside true (n + 1) front lines))
    | inr e ↦
        let same : (b ∷ line) ++ continuation (front ++ [] ∷ lines) ≡ (b ∷ line) ++ continuation (front ++ [] ∷ [])
        = ap (λ (more : List ℕ). (b ∷ line) ++ more) (same_continuation front lines) in
        as_parts inside _ _ _ _ _
        (text_line open_line n b line (front ++ [] ∷ lines) other e
        ∙ ap (λ (t : List ℕ). record { number = n; text = t } ∷ logical true (n + 1) (front ++ [] ∷ lines)) same)
        (text_line open_line n b line (front ++ [] ∷ []) other e)
        (behind_text inside (record { number = n; text = (b ∷ line) ++ continuation (front ++ [] ∷ []) }) _ _ _ refl
        (next_number true _ _ n (b ∷ line) front lines (divides true true (n + 1) front lines)))
  ]
]

-- ---- the records of a text in two parts, of which the first ends so

pub cut_records : (n : ℕ) (text after : List ℕ) → EndsRecord text
    → blocks false (lines_from n (text ++ after)) ≡ blocks false (lines_from n text)
    ++ blocks false (lines_from (n + line_ends text) after)
unfolding lines_from
cut_records n text after ends =
    let cut = ends_lines text ends in
    let front : List (List ℕ) = cut.first ∷ cut.others in
    let whole : physical (text ++ after) ≡ front ++ [] ∷ physical after = cut.lines after in
    let part : physical text ≡ front ++ [] ∷ [] = ap physical (sym (append-nil text)) ∙ cut.lines []
    ∙ ap (λ (lines : List (List ℕ)). front ++ [] ∷ lines) physical_nil in
    let number : n + length front + 1 ≡ n + line_ends text = omega (arith, cut.count) in
    ap (λ (lines : List (List ℕ)). blocks false (logical false n lines)) whole
    ∙ (divides false false n front (physical after)).split
    ∙ ap (λ (lines : List (List ℕ)). blocks false (logical false n lines) ++ Behind n front (physical after)) (sym part)
    ∙ ap (λ (k : ℕ). blocks false (logical false n (physical text))
    ++ blocks false (logical false k (physical after))) number

-- ---- what the code finds at the end of a text

abbrev Ends : List ℕ → List ℕ → Bool
Ends tail text = pointwise nat_eq tail (drop (length text - length tail) text)

ends_with_it : (tail text : List ℕ) → true ≡ Ends tail text → text ≡ take (length text - length tail) text ++ tail
ends_with_it tail text e =
    let n = length text - length tail in
    sym (take-append-drop n text) ∙ ap (λ (more : List ℕ). take n text ++ more) (sym (same_text tail (drop n text) e))

it_ends : (tail front text : List ℕ) → true ≡ pointwise nat_eq tail tail → text ≡ front ++ tail → true ≡ Ends tail text
it_ends tail front text same is =
    let count : length text - length tail ≡ length front = omega (arith, ap length is, length-append front tail) in
    let last : drop (length text - length tail) text ≡ tail = ap (λ (k : ℕ). drop k text) count
    ∙ ap (drop (length front)) is ∙ drop-append_seam front tail in
    same ∙ ap (pointwise nat_eq tail) (sym last)

abbrev Lf : List ℕ
Lf = 10 ∷ 10 ∷ []

abbrev CrLf : List ℕ
CrLf = 10 ∷ 13 ∷ 10 ∷ []

pub found_end : (text : List ℕ) (lf crlf : Bool) → lf ≡ Ends Lf text → crlf ≡ Ends CrLf text → (lf || crlf) ≡ true
    → EndsRecord text
found_end text true crlf a b e = inl (_, ends_with_it Lf text a)
found_end text false true a b e = inr (_, ends_with_it CrLf text b)
found_end text false false a b e = absurd cc

pub finds_end : (text : List ℕ) (lf crlf : Bool) → lf ≡ Ends Lf text → crlf ≡ Ends CrLf text → EndsRecord text
    → (lf || crlf) ≡ true
finds_end text lf crlf a b (inl ends) = let is : lf ≡ true = a ∙ sym (it_ends Lf ends.0 text refl ends.1) in rw is refl
finds_end text lf crlf a b (inr ends) = let is : crlf ≡ true = b ∙ sym (it_ends CrLf ends.0 text refl ends.1)
    in or_right lf crlf is

-- such a text has a last byte, LF
last_is_lf : (text : List ℕ) → EndsRecord text → (k : ℕ) × (k + 1 ≡ length text) × (get_or text k 0 ≡ 10)
last_is_lf text (inl ends) = (
  length ends.0 + 1,
  omega (arith, ap length ends.1, length-append ends.0 Lf),
  ap
      (λ (t : List ℕ). get_or t (length ends.0 + 1) 0) ends.1 ∙ get_or-append-add ends.0 Lf 1 0,
)
last_is_lf text (inr ends) = (
  length ends.0 + 2,
  omega (arith, ap length ends.1, length-append ends.0 CrLf),
  ap
      (λ (t : List ℕ). get_or t (length ends.0 + 2) 0) ends.1 ∙ get_or-append-add ends.0 CrLf 2 0,
)

-- no record ends before a byte that is no LF
pub no_end : (text : List ℕ) (n : ℕ) → n ≤ length text → 0 < n
    → ((k : ℕ) → k + 1 ≡ n → (get_or text k 0 == 10) ≡ true → ⊥) → EndsRecord (take n text) → ⊥
no_end text n le some none ends =
    let last = last_is_lf (take n text) ends in
    let at : last.0 + 1 ≡ n = omega (arith, last.1, length-take-le n text le) in
    none last.0 at (eq-eqb _ 10 (sym (get_or-take n text last.0 0 (omega (arith, at))) ∙ last.2))

-- no record ends after a part of the text that has no LF from a place on, where none ends after that part
pub none_behind : (text : List ℕ) (end from : ℕ) → end ≤ length text → Nowhere (Passes (is_byte 10) (take end text))
    from (length (take end text))
    → ((n : ℕ) → end < n → n ≤ length text → EndsRecord (take n text) → ⊥) → (n : ℕ) → from < n → n ≤ length text
    → EndsRecord (take n text) → ⊥
none_behind text end from within none rest n lt le ends = elim (cases_Bool (nat_le n end)) [
  | inl short ↦
      let inside : n ≤ end = grind (arith, nat_tests) in
      no_end text n le (omega (arith, lt))
      (λ k next lf. none k (omega (arith, next, lt)) (omega (arith, next, inside, length-take-le end text within))
      (ap (λ (b : ℕ). b == 10) (get_or-take end text k 0 (omega (arith, next, inside))) ∙ lf)) ends
  | inr long ↦
      let behind : end < n = grind (arith, nat_tests) in
      rest n behind le ends
]

-- where a LF stands at a place and no record ends there
pub none_from : (text : List ℕ) (end at : ℕ) → end ≤ length text → Nowhere (Passes (is_byte 10) (take end text))
    (at + 1) (length (take end text))
    → ((n : ℕ) → end < n → n ≤ length text → EndsRecord (take n text) → ⊥) → (EndsRecord (take (at + 1) text) → ⊥)
    → (n : ℕ) → at < n → n ≤ length text → EndsRecord (take n text) → ⊥
none_from text end at within none rest here n lt le ends = elim (cases_Bool (n == at + 1)) [
  | inl same ↦ here (subst (λ (k : ℕ). EndsRecord (take k text)) (eqb-true n (at + 1) same) ends)
  | inr other ↦
      let behind : at + 1 < n = grind (arith, nat_tests) in
      none_behind text end (at + 1) within none rest n behind le ends
]

-- ---- counting

pub no_ends : (text : List ℕ) (i : ℕ) → length text ≤ i → line_ends (drop i text) ≡ 0
unfolding line_ends
no_ends text i le = ap line_ends (drop_all i text le)

pub at_most_one : (b : ℕ) → one_end b ≤ 1
at_most_one b = elim (cases_Bool (b == 10)) [ inl e ↦ rw e (omega arith) | inr e ↦ rw e (omega arith) ]

pub next_end : (text : List ℕ) (i : ℕ) → i < length text → line_ends (drop i text) ≡ one_end (get_or text i 0)
    + line_ends (drop (i + 1) text)
unfolding line_ends
next_end text i lt = ap line_ends (drop-cons text i 0 lt ∙ ap (λ (n : ℕ). get_or text i 0 ∷ drop n text)
    (sym (add-one i)))

ends_of_both : (text others : List ℕ) → line_ends (text ++ others) ≡ line_ends text + line_ends others
unfolding line_ends
ends_of_both [] others = sym (omega-zero (line_ends others)) where
  omega-zero : (n : ℕ) → 0 + n ≡ n
  omega-zero n = omega arith
ends_of_both (b ∷ text) others = let more = ends_of_both text others in omega (arith, more)

pub ends_of_block : (text : List ℕ) (n : ℕ) → line_ends text ≡ line_ends (take n text) + line_ends (drop n text)
ends_of_block text n = ap line_ends (sym (take-append-drop n text)) ∙ ends_of_both (take n text) (drop n text)
