-- A text as lines: the physical lines of the text, and the logical lines that they are folded from.
use Rattle.std.specs.Prelude.{ℕ, ◌+◌, Bool, true, false, ◌&&◌, ◌==◌, List, [], ◌∷◌, ◌++◌, if◌then◌else◌}

-- ---- what begins a list, and the rest of it

abbrev pub begins_with : ℕ → List ℕ → Bool
begins_with c [] = false
begins_with c (b ∷ bytes) = b == c

abbrev pub is_empty : List ℕ → Bool
is_empty [] = true
is_empty (b ∷ bytes) = false

abbrev pub behind_first : List ℕ → List ℕ
behind_first [] = []
behind_first (b ∷ bytes) = bytes

-- ---- physical lines

-- a byte before the first line; a text without a line gets one
abbrev pub lengthened : ℕ → List (List ℕ) → List (List ℕ)
lengthened b [] = (b ∷ []) ∷ []
lengthened b (line ∷ lines) = (b ∷ line) ∷ lines

-- The lines of a text, without their ends. A line ends by LF (10) or by CR LF (13, 10), the last perhaps by neither.
unfoldable pub physical : List ℕ → List (List ℕ)
physical [] = []
physical (b ∷ rest) =
    if b == 13 && begins_with 10 rest then physical rest else
    (if b == 10 then [] ∷ physical rest else lengthened b (physical rest))

-- ---- logical lines

-- a logical line, by the number of the physical line where it begins, the first of a text being 1
pub record Line : Type 0 where
  pub number : ℕ
  pub text : List ℕ

-- what the lines at the start add to the line before them: a line that begins with a space (32) continues it
unfoldable pub continuation : List (List ℕ) → List ℕ
continuation [] = []
continuation (line ∷ lines) = if begins_with 32 line then behind_first line ++ continuation lines else []

-- The logical lines of the physical lines, whose first has this number. open says that a line stands before that is
-- not empty, so that it may be continued. A comment begins with `#` (35), and is passed over with its continuations.
unfoldable pub logical : Bool → ℕ → List (List ℕ) → List Line
logical open_line n [] = []
logical open_line n (line ∷ lines) =
    if open_line && begins_with 32 line then logical true (n + 1) lines else
    (if begins_with 35 line then logical true (n + 1) lines else
    (if is_empty line then record { number = n; text = [] } ∷ logical false (n + 1) lines else
    record { number = n; text = line ++ continuation lines } ∷ logical true (n + 1) lines))

-- the logical lines of a text whose first physical line has this number
unfoldable pub lines_from : ℕ → List ℕ → List Line
lines_from n text = logical false n (physical text)

-- ---- records

-- the lines of one record
pub record Block : Type 0 where
  pub first : Line
  pub others : List Line

-- the lines up to the first empty one
unfoldable pub lines_before_empty : List Line → List Line
lines_before_empty [] = []
lines_before_empty (line ∷ lines) = if is_empty line.text then [] else line ∷ lines_before_empty lines

-- The records that the lines are of: empty lines part them. inside says that the lines up to the first empty one
-- belong to a record that began before.
unfoldable pub blocks : Bool → List Line → List Block
blocks inside [] = []
blocks inside (line ∷ lines) =
    if is_empty line.text then blocks false lines else
    (if inside then blocks true lines else record { first = line; others = lines_before_empty lines }
    ∷ blocks true lines)
