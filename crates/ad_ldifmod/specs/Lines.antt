-- The lines of a text, and what stands in one.
use Rattle.std.specs.Prelude.{ℕ, ◌==◌, Bool, true, if◌then◌else◌, Option, Some, None, List, [], ◌∷◌, codes}
use Rattle.std.specs.Option.{option_map, option_and_then}
use Rattle.std.specs.Str.{bytes_eq}
use Rattle.ad_ldifmod.specs.declared.lines.Verb.{Verb}
use Rattle.ad_ldifmod.specs.declared.lines.Verb.TheVariants.{Grant, Deny, Revoke}

-- ---- lines

abbrev pub line_feed : ℕ
line_feed = 10

abbrev pub hash : ℕ
hash = 35

abbrev pub blank : ℕ
blank = 32

-- the most bytes of a text, and so the most lines
abbrev pub most_bytes : ℕ
most_bytes = 1048576

-- a byte before the first line
abbrev pub in_front : ℕ → List (List ℕ) → List (List ℕ)
in_front b [] = (b ∷ []) ∷ []
in_front b (line ∷ lines) = (b ∷ line) ∷ lines

-- The lines of a text, each without the line feed that ends it. The last one may have none.
unfoldable pub lines_of : List ℕ → List (List ℕ)
lines_of [] = []
lines_of (b ∷ text) = if b == line_feed then [] ∷ lines_of text else in_front b (lines_of text)

-- an empty line, and one that begins with #, say nothing
abbrev pub says_nothing : List ℕ → Bool
says_nothing [] = true
says_nothing (b ∷ line) = b == hash

-- ---- the parts of a line

-- what stands before the first byte of this kind, and what stands after it
unfoldable pub divided : ℕ → List ℕ → Option (List ℕ × List ℕ)
divided byte [] = None
divided byte (b ∷ bytes) = if b == byte then Some ([], bytes) else option_map (λ parts. (b ∷ parts.0, parts.1))
    (divided byte bytes)

-- the word that a line begins with
abbrev pub verb_of : List ℕ → Option Verb
verb_of word =
    if bytes_eq word (codes "grant") then Some Grant
    else if bytes_eq word (codes "deny") then Some Deny
    else if bytes_eq word (codes "revoke") then Some Revoke
    else None

-- the word, an entry or an identifier, and a name, which goes on to the end of the line
pub record Parts : Type 0 where
  pub verb : Verb
  pub what : List ℕ
  pub name : List ℕ

abbrev pub with_verb : List ℕ × List ℕ → Verb → Parts
with_verb rest verb = record { verb = verb; what = rest.0; name = rest.1 }

abbrev pub with_word : List ℕ → List ℕ × List ℕ → Option Parts
with_word word rest = option_map (with_verb rest) (verb_of word)

-- The three, with one blank between them. None where the line has another form.
abbrev pub parts_behind : List ℕ × List ℕ → Option Parts
parts_behind first = option_and_then (with_word first.0) (divided blank first.1)

unfoldable pub parts_of : List ℕ → Option Parts
parts_of line = option_and_then parts_behind (divided blank line)
