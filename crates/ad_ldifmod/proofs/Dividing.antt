-- What stands before the first byte of a kind and after it, and the first line of a text.
use Rattle.std.proofs.Common.{◌≡◌, ℕ, suc, ◌+◌, ◌-◌, ◌<◌, ◌≤◌, false, List, [], ◌∷◌, length, take, drop, Option, Some}
use Rattle.std.proofs.Common.{None, refl, sym, subst, ap, ◌∙◌, inl, inr, arith}
use Rattle.std.specs.Prelude.{◌==◌}
use Rattle.std.specs.Option.{option_map}
use Rattle.std.specs.List.{position_from}
use Rattle.std.proofs.lemmas.Bool.{cases_Bool}
use Rattle.std.proofs.lemmas.List.{take_all, length-drop}
use Rattle.std.proofs.lemmas.Option.{none-some, same_Some}
use Rattle.ad_ldifmod.specs.Lines.{in_front, lines_of, divided}
use Rattle.ad_ldifmod.specs.Steps.{IsFirstLine}

-- a byte before what stands before
abbrev with_byte : ℕ → List ℕ × List ℕ → List ℕ × List ℕ
with_byte b parts = (b ∷ parts.0, parts.1)

-- the place of the first byte, from a place on, and the list divided there
record Divides (byte from place : ℕ) (bytes : List ℕ) : Type 0 where
  offset : ℕ
  sum : place ≡ from + offset
  within : offset < length bytes
  parts : divided byte bytes ≡ Some (take offset bytes, drop (suc offset) bytes)

divides : (byte from place : ℕ) (bytes : List ℕ) → position_from (λ b. b == byte) from bytes ≡ Some place
    → Divides byte from place bytes
unfolding divided
divides byte from place [] is = absurd (none-some place is)
divides byte from place (b ∷ bytes) is = elim (cases_Bool (b == byte)) [
  | inl here ↦ (let sum : from ≡ place = same_Some from place (rw here at is) in
      record { offset = 0; sum = omega (arith, sum); within = omega arith; parts = rw here refl })
  | inr other ↦ (let rest = divides byte (from + 1) place bytes (rw other at is) in let sum = rest.sum in let within
      = rest.within in
      record {
        offset = suc rest.offset;
        sum = omega (arith, sum);
        within = omega (arith, within);
        parts = rw other (ap (option_map (with_byte b)) rest.parts);
      })
]

pub divided_at : (byte place : ℕ) (bytes : List ℕ) → position_from (λ b. b == byte) 0 bytes ≡ Some place
    → Some (take place bytes, take (length bytes - (place + 1)) (drop (place + 1) bytes)) ≡ divided byte bytes
divided_at byte place bytes is =
    let d = divides byte 0 place bytes is in
    let same : d.offset ≡ place = omega (arith, d.sum) in
    let next : suc d.offset ≡ place + 1 = omega (arith, d.sum) in
    let short : length (drop (place + 1) bytes) ≤ length bytes - (place + 1)
    = omega (arith, length-drop (place + 1) bytes) in
    ap (λ (behind : List ℕ). Some (take place bytes, behind))
    (take_all (length bytes - (place + 1)) (drop (place + 1) bytes) short)
    ∙ sym (d.parts ∙ ap (λ (n : ℕ). Some (take n bytes, drop (suc d.offset) bytes)) same
    ∙ ap (λ (n : ℕ). Some (take place bytes, drop n bytes)) next)

pub divided_nowhere : (byte from : ℕ) (bytes : List ℕ) → position_from (λ b. b == byte) from bytes ≡ None → None
    ≡ divided byte bytes
unfolding divided
divided_nowhere byte from [] is = refl
divided_nowhere byte from (b ∷ bytes) is = elim (cases_Bool (b == byte)) [
  | inl here ↦ absurd (none-some from (sym (rw here at is)))
  | inr other ↦ rw other (ap (option_map (with_byte b)) (divided_nowhere byte (from + 1) bytes (rw other at is)))
]

-- ---- lines

abbrev Ended : List ℕ → List ℕ × List ℕ → Type 0
Ended text parts = IsFirstLine text parts.0 parts.1

ended_more : (b : ℕ) (text : List ℕ) (parts : List ℕ × List ℕ) (rest : Option (List ℕ × List ℕ))
    → ((p : List ℕ × List ℕ) → rest ≡ Some p → Ended text p)
    → b == 10 ≡ false → option_map (with_byte b) rest ≡ Some parts → Ended (b ∷ text) parts
unfolding lines_of
ended_more b text parts None first other is = absurd (none-some parts is)
ended_more b text parts (Some rest) first other is =
    let line = first rest refl in
    let shorter = line.shorter in
    subst (Ended (b ∷ text)) (same_Some (with_byte b rest) parts is)
    (record { lines = rw other (ap (in_front b) line.lines); shorter = omega (arith, shorter) })

ended : (text : List ℕ) (parts : List ℕ × List ℕ) → divided 10 text ≡ Some parts → Ended text parts
unfolding divided lines_of
ended [] parts is = absurd (none-some parts is)
ended (b ∷ text) parts is = elim (cases_Bool (b == 10)) [
  | inl here ↦ subst (Ended (b ∷ text)) (same_Some ([], text) parts (rw here at is))
      (record { lines = rw here refl; shorter = omega arith })
  | inr other ↦ ended_more b text parts (divided 10 text) (ended text) other (rw other at is)
]

pub first_ended : (text line behind : List ℕ) → Some (line, behind) ≡ divided 10 text → IsFirstLine text line behind
first_ended text line behind is = ended text (line, behind) (sym is)

no_more : (b : ℕ) (rest : Option (List ℕ × List ℕ)) → option_map (with_byte b) rest ≡ None → rest ≡ None
no_more b None is = refl
no_more b (Some p) is = absurd (none-some (with_byte b p) (sym is))

-- a text without a line feed is one line
last : (b : ℕ) (text : List ℕ) → divided 10 (b ∷ text) ≡ None → lines_of (b ∷ text) ≡ (b ∷ text) ∷ []
unfolding divided lines_of
last b [] is = elim (cases_Bool (b == 10)) [
  | inl here ↦ absurd (none-some ([], []) (sym (rw here at is)))
  | inr other ↦ rw other refl
]
last b (c ∷ text) is = elim (cases_Bool (b == 10)) [
  | inl here ↦ absurd (none-some ([], c ∷ text) (sym (rw here at is)))
  | inr other ↦ rw other (ap (in_front b) (last c text (no_more b (divided 10 (c ∷ text)) (rw other at is))))
]

pub last_line : (text : List ℕ) → 0 < length text → None ≡ divided 10 text → IsFirstLine text text []
unfolding lines_of
last_line [] some is = absurd (omega (arith, some))
last_line (b ∷ text) some is = record { lines = last b text (sym is); shorter = some }
