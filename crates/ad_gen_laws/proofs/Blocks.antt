-- Records of a text whose lines are neither folded nor comments.
use Rattle.std.proofs.Common.{◌≡◌, ◌∙◌, ℕ, ◌+◌, ◌==◌, ◌&&◌, Bool, true, false, not, List, [], ◌∷◌, ◌++◌, refl, ap}
use Rattle.std.proofs.Common.{append_assoc}
use Rattle.std.specs.List.{list_all}
use Rattle.std.proofs.lemmas.Bool.{and_parts}
use Rattle.std.proofs.lemmas.List.{append-nil}
use Rattle.ad_ldif.specs.Lines.{Line, Block, physical, logical, continuation, lines_from, lines_before_empty, blocks}
use Rattle.ad_ldif.specs.Lines.{begins_with, is_empty}
use Rattle.ad_ldif.specs.Records.{record_of}
use Rattle.ad_ldif.specs.Story.{Story, story_of, told}

-- neither LF nor CR
abbrev pub is_inner : ℕ → Bool
is_inner b = not (b == 10) && not (b == 13)

-- the first byte of a line that stands by itself: neither a space nor `#`
abbrev pub may_begin : ℕ → Bool
may_begin b = not (b == 32) && not (b == 35)

-- a line that is neither empty, nor folded, nor a comment
abbrev pub is_plain : List ℕ → Bool
is_plain [] = false
is_plain (b ∷ bytes) = may_begin b && (is_inner b && list_all is_inner bytes)

-- the lines of a record, and the empty line after it
unfoldable pub flat : List (List ℕ) → List ℕ
flat [] = 10 ∷ []
flat (line ∷ lines) = line ++ 10 ∷ flat lines

-- with their numbers, from this one on
unfoldable pub numbered : ℕ → List (List ℕ) → List Line
numbered k [] = []
numbered k (line ∷ lines) = record { number = k; text = line } ∷ numbered (k + 1) lines

-- the number of the line after them
unfoldable pub behind : ℕ → List (List ℕ) → ℕ
behind k [] = k
behind k (line ∷ lines) = behind (k + 1) lines

-- the story from a line on
unfoldable pub story_from : ℕ → List ℕ → Story
story_from k text = story_of (blocks false (lines_from k text))

not_is : (b : Bool) → not b ≡ true → b ≡ false
not_is true e = absurd cc
not_is false e = refl

-- ---- physical lines

inner_is : (b : ℕ) → is_inner b ≡ true → ((b == 10) ≡ false) × ((b == 13) ≡ false)
inner_is b inner =
    let p = and_parts (not (b == 10)) (not (b == 13)) inner in
    (not_is (b == 10) p.0, not_is (b == 13) p.1)

cut : (line rest : List ℕ) → list_all is_inner line ≡ true → physical (line ++ 10 ∷ rest) ≡ line ∷ physical rest
unfolding physical
cut [] rest inner = refl
cut (b ∷ line) rest inner =
    let p = and_parts (is_inner b) (list_all is_inner line) inner in
    let first = inner_is b p.0 in
    let others = cut line rest p.1 in
    rw (first.0, first.1, others) refl

plain_inner : (line : List ℕ) → is_plain line ≡ true → list_all is_inner line ≡ true
plain_inner [] plain = absurd cc
plain_inner (b ∷ line) plain = (and_parts (may_begin b) (is_inner b && list_all is_inner line) plain).1

all_cut : (lines : List (List ℕ)) (rest : List ℕ) → list_all is_plain lines ≡ true → physical (flat lines ++ rest)
    ≡ lines ++ [] ∷ physical rest
unfolding physical flat
all_cut [] rest plain = refl
all_cut (line ∷ lines) rest plain =
    let p = and_parts (is_plain line) (list_all is_plain lines) plain in
    ap physical (append_assoc line (10 ∷ flat lines) rest)
    ∙ cut line (flat lines ++ rest) (plain_inner line p.0)
    ∙ ap (λ (more : List (List ℕ)). line ∷ more) (all_cut lines rest p.1)

-- ---- logical lines

-- what a plain line begins with, and what it isn't
begins : (line : List ℕ) → is_plain line ≡ true → (begins_with 32 line ≡ false) × (begins_with 35 line ≡ false)
    × (is_empty line ≡ false)
begins [] plain = absurd cc
begins (b ∷ line) plain =
    let p = and_parts (not (b == 32)) (not (b == 35))
    (and_parts (may_begin b) (is_inner b && list_all is_inner line) plain).0 in
    (not_is (b == 32) p.0, not_is (b == 35) p.1, refl)

not_continued : (lines others : List (List ℕ)) → list_all is_plain lines ≡ true → continuation (lines ++ [] ∷ others)
    ≡ []
unfolding continuation
not_continued [] others plain = refl
not_continued (line ∷ lines) others plain =
    let p = begins line (and_parts (is_plain line) (list_all is_plain lines) plain).0 in
    rw p.0 refl

-- the empty line after lines, and the lines after it
abbrev ended : ℕ → List (List ℕ) → List Line
ended k others = record { number = k; text = [] } ∷ logical false (k + 1) others

-- a line that doesn't continue the one before is read the same after it
closed : (open_line : Bool) (k : ℕ) (line : List ℕ) (lines : List (List ℕ)) → is_plain line ≡ true
    → logical open_line k (line ∷ lines) ≡ record { number = k; text = line ++ continuation lines }
    ∷ logical true (k + 1) lines
unfolding logical
closed true k line lines plain = let p = begins line plain in rw (p.0, p.1, p.2) refl
closed false k line lines plain = let p = begins line plain in rw (p.1, p.2) refl

all_logical : (open_line : Bool) (k : ℕ) (lines others : List (List ℕ)) → list_all is_plain lines ≡ true
    → logical open_line k (lines ++ [] ∷ others) ≡ numbered k lines ++ ended (behind k lines) others
unfolding numbered behind logical
all_logical true k [] others plain = refl
all_logical false k [] others plain = refl
all_logical open_line k (line ∷ lines) others plain =
    let p = and_parts (is_plain line) (list_all is_plain lines) plain in
    closed open_line k line (lines ++ [] ∷ others) p.0
    ∙ ap (λ (more : List ℕ). record { number = k; text = line ++ more } ∷ logical true (k + 1) (lines ++ [] ∷ others))
    (not_continued lines others p.1)
    ∙ ap (λ (text : List ℕ). record { number = k; text = text } ∷ logical true (k + 1) (lines ++ [] ∷ others))
    (append-nil line)
    ∙ ap (λ (more : List Line). record { number = k; text = line } ∷ more) (all_logical true (k + 1) lines others p.1)

-- ---- records

lines_of_record : (k : ℕ) (lines : List (List ℕ)) (n : ℕ) (others : List Line) → list_all is_plain lines ≡ true
    → lines_before_empty (numbered k lines ++ record { number = n; text = [] } ∷ others) ≡ numbered k lines
unfolding numbered lines_before_empty
lines_of_record k [] n others plain = refl
lines_of_record k (line ∷ lines) n others plain =
    let p = and_parts (is_plain line) (list_all is_plain lines) plain in
    rw ((begins line p.0).2, lines_of_record (k + 1) lines n others p.1) refl

passed : (k : ℕ) (lines : List (List ℕ)) (n : ℕ) (others : List Line) → list_all is_plain lines ≡ true
    → blocks true (numbered k lines ++ record { number = n; text = [] } ∷ others) ≡ blocks false others
unfolding numbered blocks
passed k [] n others plain = refl
passed k (line ∷ lines) n others plain =
    let p = and_parts (is_plain line) (list_all is_plain lines) plain in
    rw ((begins line p.0).2, passed (k + 1) lines n others p.1) refl

first_block : (k : ℕ) (line : List ℕ) (lines : List (List ℕ)) (n : ℕ) (others : List Line) → is_plain line ≡ true
    → list_all is_plain lines ≡ true
    → blocks false (numbered k (line ∷ lines) ++ record { number = n; text = [] } ∷ others)
    ≡ record { first = record { number = k; text = line }; others = numbered (k + 1) lines } ∷ blocks false others
unfolding numbered blocks
first_block k line lines n others first plain =
    rw ((begins line first).2, lines_of_record (k + 1) lines n others plain, passed (k + 1) lines n others plain) refl

-- the block of a record's lines, the first of which has this number
abbrev pub block_of : ℕ → List ℕ → List (List ℕ) → Block
block_of k line lines = record { first = record { number = k; text = line }; others = numbered (k + 1) lines }

-- the number of the line after a record with so many lines and the empty line after it
abbrev pub next_of : ℕ → List (List ℕ) → ℕ
next_of k lines = behind (k + 1) lines + 1

-- a record before others
pub one_more : (k : ℕ) (line : List ℕ) (lines : List (List ℕ)) (rest : List ℕ) → is_plain line ≡ true
    → list_all is_plain lines ≡ true
    → story_from k (flat (line ∷ lines) ++ rest) ≡ told (record_of (block_of k line lines))
    (story_from (next_of k lines) rest)
unfolding story_from story_of lines_from behind
one_more k line lines rest first plain =
    let all : list_all is_plain (line ∷ lines) ≡ true = rw (first, plain) refl in
    ap (λ (p : List (List ℕ)). story_of (blocks false (logical false k p))) (all_cut (line ∷ lines) rest all)
    ∙ ap (λ (l : List Line). story_of (blocks false l)) (all_logical false k (line ∷ lines) (physical rest) all)
    ∙ ap story_of (first_block k line lines (behind (k + 1) lines)
    (logical false (behind (k + 1) lines + 1) (physical rest)) first plain)
