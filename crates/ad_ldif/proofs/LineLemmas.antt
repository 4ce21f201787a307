-- One physical line more, of the logical lines.
use Rattle.std.proofs.Common.{◌≡◌, ℕ, suc, ◌+◌, ◌-◌, ◌<◌, ◌≤◌, ◌==◌, Bool, true, false, eqb, List, [], ◌∷◌, ◌++◌}
use Rattle.std.proofs.Common.{length, take, drop, refl, sym, ap, ◌∙◌, append_assoc, arith}
use Rattle.std.proofs.lemmas.Bool.{ne_eqb}
use Rattle.std.proofs.lemmas.List.{append-nil, take_rest}
use Rattle.ad_ldif.specs.Lines.{Line, physical, logical, continuation, lines_from, lines_before_empty, blocks}
use Rattle.ad_ldif.specs.Lines.{begins_with, behind_first, is_empty}
use Rattle.ad_ldif.proofs.CutLemmas.{first_begins_with, physical_begins}

-- ---- on lines

-- the lines after one that isn't continued
logical_closed : (n : ℕ) (lines : List (List ℕ)) → first_begins_with 32 lines ≡ false → logical true n lines
    ≡ logical false n lines
unfolding logical
logical_closed n [] e = refl
logical_closed n (line ∷ lines) e = rw e refl

-- a line and its continuation
pub logical_continued : (n : ℕ) (line : List ℕ) (lines : List (List ℕ)) → begins_with 32 line ≡ true
    → logical true n (line ∷ lines) ≡ logical true (n + 1) lines
unfolding logical
logical_continued n line lines e = rw e refl

logical_comment : (n : ℕ) (line : List ℕ) (lines : List (List ℕ)) → begins_with 35 line ≡ true
    → logical false n (line ∷ lines) ≡ logical true (n + 1) lines
unfolding logical
logical_comment n line lines e = rw e refl

logical_text : (n : ℕ) (line : List ℕ) (lines : List (List ℕ)) → begins_with 35 line ≡ false → is_empty line ≡ false
    → logical false n (line ∷ lines) ≡ record { number = n; text = line ++ continuation lines }
    ∷ logical true (n + 1) lines
unfolding logical
logical_text n line lines comment empty = rw (comment, empty) refl

continuation_none : (lines : List (List ℕ)) → first_begins_with 32 lines ≡ false → continuation lines ≡ []
unfolding continuation
continuation_none [] e = refl
continuation_none (line ∷ lines) e = rw e refl

pub continuation_more : (line : List ℕ) (lines : List (List ℕ)) → begins_with 32 line ≡ true
    → continuation (line ∷ lines) ≡ behind_first line ++ continuation lines
unfolding continuation
continuation_more line lines e = rw e refl

-- ---- on texts: rest is what is left, and after is that after its first line

abbrev pub Cuts : List ℕ → List ℕ → List ℕ → Type 0
Cuts rest line after = physical rest ≡ line ∷ physical after

-- the line begins with what the text begins with
pub line_begins : (c : ℕ) (rest line after : List ℕ) (b : Bool) → first_begins_with c (physical rest)
    ≡ begins_with c rest → Cuts rest line after → begins_with c rest ≡ b → begins_with c line ≡ b
line_begins c rest line after b begins cuts e = sym (ap (first_begins_with c) cuts) ∙ begins ∙ e

pub no_continuation : (n : ℕ) (rest : List ℕ) → begins_with 32 rest ≡ false → logical true n (physical rest)
    ≡ lines_from n rest
unfolding lines_from
no_continuation n rest e = logical_closed n (physical rest) (physical_begins 32 rest refl refl ∙ e)

pub a_continuation : (n : ℕ) (rest line after : List ℕ) → begins_with 32 rest ≡ true → Cuts rest line after
    → logical true n (physical rest) ≡ logical true (n + 1) (physical after)
a_continuation n rest line after e cuts = ap (logical true n) cuts ∙ logical_continued n line (physical after)
    (line_begins 32 rest line after true (physical_begins 32 rest refl refl) cuts e)

pub a_comment : (n : ℕ) (rest line after : List ℕ) → begins_with 35 rest ≡ true → Cuts rest line after
    → lines_from n rest ≡ logical true (n + 1) (physical after)
unfolding lines_from
a_comment n rest line after e cuts = ap (logical false n) cuts ∙ logical_comment n line (physical after)
    (line_begins 35 rest line after true (physical_begins 35 rest refl refl) cuts e)

pub an_empty_line : (n : ℕ) (rest after : List ℕ) → Cuts rest [] after → lines_from n rest
    ≡ record { number = n; text = [] } ∷ lines_from (n + 1) after
unfolding lines_from logical
an_empty_line n rest after cuts = ap (logical false n) cuts

pub a_text_line : (n : ℕ) (rest line after : List ℕ) → begins_with 35 rest ≡ false → is_empty line ≡ false
    → Cuts rest line after
    → lines_from n rest ≡ record { number = n; text = line ++ continuation (physical after) }
    ∷ logical true (n + 1) (physical after)
unfolding lines_from
a_text_line n rest line after e empty cuts = ap (logical false n) cuts ∙ logical_text n line (physical after)
    (line_begins 35 rest line after false (physical_begins 35 rest refl refl) cuts e) empty

pub nothing_joined : (first rest : List ℕ) → begins_with 32 rest ≡ false → first ≡ first ++ continuation (physical rest)
nothing_joined first rest e = sym (ap (λ (more : List ℕ). first ++ more)
    (continuation_none (physical rest) (physical_begins 32 rest refl refl ∙ e)) ∙ append-nil first)

pub one_joined : (front rest line after : List ℕ) → begins_with 32 rest ≡ true → Cuts rest line after → front
    ++ continuation (physical rest) ≡ (front ++ behind_first line) ++ continuation (physical after)
one_joined front rest line after e cuts =
    ap (λ (lines : List (List ℕ)). front ++ continuation lines) cuts
    ∙ ap (λ (more : List ℕ). front ++ more)
    (continuation_more line (physical after)
    (line_begins 32 rest line after true (physical_begins 32 rest refl refl) cuts e))
    ∙ sym (append_assoc front (behind_first line) (continuation (physical after)))

pub begins_length : (c : ℕ) (rest : List ℕ) → begins_with c rest ≡ true → 0 < length rest
begins_length c [] e = absurd cc
begins_length c (b ∷ rest) e = omega arith

-- ---- what the code finds; `none` is its test that some bytes are none

pub is_empty_length : (bytes : List ℕ) → is_empty bytes ≡ (length bytes == 0)
is_empty_length [] = refl
is_empty_length (b ∷ bytes) = sym (ne_eqb (suc (length bytes)) 0 (λ e. omega (arith, e)))

pub empty_is : (bytes : List ℕ) → is_empty bytes ≡ true → bytes ≡ []
empty_is [] e = refl
empty_is (b ∷ bytes) e = absurd cc

pub begun : (c : ℕ) (rest line after : List ℕ) → eqb 13 c ≡ false → eqb 10 c ≡ false → begins_with c rest ≡ true
    → Cuts rest line after → 1 ≤ length line
begun c rest line after cr lf e cuts = begins_length c line
    (line_begins c rest line after true (physical_begins c rest cr lf) cuts e)

pub behind_first_is : (line : List ℕ) → take (length line - 1) (drop 1 line) ≡ behind_first line
behind_first_is [] = refl
behind_first_is (b ∷ line) = take_rest (b ∷ line) 1

-- what a loop over continuations, one that joins them, and one over comments stand on
pub ruleset continuations = (a_continuation, no_continuation, begins_length)

pub ruleset joins = (continuations, nothing_joined, begun, behind_first_is, one_joined)

pub ruleset comments = (a_comment, begins_length)

pub at_end : (n : ℕ) (rest : List ℕ) (none : Bool) → none ≡ (length rest == 0) → none ≡ true → lines_from n rest ≡ []
at_end n rest none test e =
    let empty : rest ≡ [] = empty_is rest (is_empty_length rest ∙ sym test ∙ e) in
    ap (lines_from n) empty ∙ unfold lines_from physical logical in refl

pub an_empty_line_is : (n m : ℕ) (rest line after : List ℕ) (none : Bool) → none ≡ (length line == 0) → none ≡ true
    → Cuts rest line after → m ≡ n + 1
    → lines_from n rest ≡ record { number = n; text = line } ∷ lines_from m after
an_empty_line_is n m rest line after none test e cuts next =
    let empty : line ≡ [] = empty_is line (is_empty_length line ∙ sym test ∙ e) in
    an_empty_line n rest after (cuts ∙ ap (λ (l : List ℕ). l ∷ physical after) empty)
    ∙ ap (λ (l : List ℕ). record { number = n; text = l } ∷ lines_from (n + 1) after) (sym empty)
    ∙ ap (λ (k : ℕ). record { number = n; text = line } ∷ lines_from k after) (sym next)

pub a_text_line_is : (n m : ℕ) (rest line after text : List ℕ) (left : List Line) (none : Bool) → begins_with 35 rest
    ≡ false → none ≡ (length line == 0) → none ≡ false → Cuts rest line after → m ≡ n + 1
    → text ≡ line ++ continuation (physical after) → logical true m (physical after) ≡ left → lines_from n rest
    ≡ record { number = n; text = text } ∷ left
a_text_line_is n m rest line after text left none comment test e cuts next is behind =
    a_text_line n rest line after comment (is_empty_length line ∙ sym test ∙ e) cuts
    ∙ ap (λ (k : ℕ). record { number = n; text = line ++ continuation (physical after) }
    ∷ logical true k (physical after)) (sym next)
    ∙ ap (λ (lines : List Line). record { number = n; text = line ++ continuation (physical after) } ∷ lines) behind
    ∙ ap (λ (t : List ℕ). record { number = n; text = t } ∷ left) (sym is)

-- ---- records

-- an empty line
pub parts : (line : Line) (lines : List Line) → is_empty line.text ≡ true → (lines_before_empty (line ∷ lines) ≡ [])
    × ((inside : Bool) → blocks inside (line ∷ lines) ≡ blocks false lines)
unfolding lines_before_empty blocks
parts line lines e = (rw e refl, λ inside. rw e refl)

-- another line
pub belongs : (line : Line) (lines : List Line) → is_empty line.text ≡ false
    → (lines_before_empty (line ∷ lines) ≡ line ∷ lines_before_empty lines)
    × (blocks true (line ∷ lines) ≡ blocks true lines)
    × (blocks false (line ∷ lines) ≡ record { first = line; others = lines_before_empty lines } ∷ blocks true lines)
unfolding lines_before_empty blocks
belongs line lines e = (rw e refl, rw e refl, rw e refl)

pub no_lines : (lines : List Line) → lines ≡ [] → (lines_before_empty lines ≡ [])
    × ((inside : Bool) → blocks inside lines ≡ [])
unfolding lines_before_empty blocks
no_lines lines e = (rw e refl, λ inside. rw e refl)

pub test_is : (text bytes : List ℕ) (none b : Bool) → bytes ≡ text → none ≡ (length bytes == 0) → none ≡ b
    → is_empty text ≡ b
test_is text bytes none b same test e = is_empty_length text ∙ ap (λ (t : List ℕ). length t == 0) (sym same)
    ∙ sym test ∙ e

-- a line with a text belongs to a record
pub some_record : (n : ℕ) (rest line after : List ℕ) (none : Bool) → begins_with 35 rest ≡ false → none
    ≡ (length line == 0) → none ≡ false → Cuts rest line after → blocks false (lines_from n rest) ≡ [] → ⊥
some_record n rest [] after none comment test e cuts no_more = absurd cc
some_record n rest (b ∷ line) after none comment test e cuts no_more =
    let first : Line = record { number = n; text = (b ∷ line) ++ continuation (physical after) } in
    let more = sym (ap (blocks false) (a_text_line n rest (b ∷ line) after comment refl cuts)) ∙ no_more in
    let begins = sym (belongs first (logical true (n + 1) (physical after)) refl).2 ∙ more in
    absurd cc
