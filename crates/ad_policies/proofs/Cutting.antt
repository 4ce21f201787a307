-- What stands before the first byte of a kind, and what after it.
use Rattle.std.proofs.Common.{◌≡◌, ℕ, suc, ◌+◌, ◌-◌, ◌<◌, ◌≤◌, List, [], ◌∷◌, length, take, drop}
use Rattle.std.proofs.Common.{Option, Some, None, refl, sym, subst, ap, ◌∙◌, inl, inr, arith}
use Rattle.std.specs.Prelude.{◌==◌}
use Rattle.std.specs.Option.{option_map}
use Rattle.std.specs.List.{position_from}
use Rattle.std.proofs.lemmas.Bool.{cases_Bool}
use Rattle.std.proofs.lemmas.List.{take_all, length-drop}
use Rattle.std.proofs.lemmas.Option.{none-some, same_Some}
use Rattle.ad_policies.specs.Policies.{cut}

-- a byte before what stands before
abbrev with_byte : ℕ → List ℕ × List ℕ → List ℕ × List ℕ
with_byte b parts = (b ∷ parts.0, parts.1)

-- the place of the first byte, from a place on, and the list cut there
record Cuts (byte from place : ℕ) (bytes : List ℕ) : Type 0 where
  offset : ℕ
  sum : place ≡ from + offset
  parts : cut byte bytes ≡ Some (take offset bytes, drop (suc offset) bytes)

cuts : (byte from place : ℕ) (bytes : List ℕ) → position_from (λ b. b == byte) from bytes ≡ Some place
    → Cuts byte from place bytes
unfolding cut
cuts byte from place [] is = absurd (none-some place is)
cuts byte from place (b ∷ bytes) is = elim (cases_Bool (b == byte)) [
  | inl here ↦ (let sum : from ≡ place = same_Some from place (rw here at is) in
      record { offset = 0; sum = omega (arith, sum); parts = rw here refl })
  | inr other ↦ (let rest = cuts byte (from + 1) place bytes (rw other at is) in let sum = rest.sum in
      record {
        offset = suc rest.offset;
        sum = omega (arith, sum);
        parts = rw other (ap (option_map (with_byte b)) rest.parts);
      })
]

pub cut_at : (byte place : ℕ) (bytes : List ℕ) → position_from (λ b. b == byte) 0 bytes ≡ Some place
    → Some (take place bytes, take (length bytes - (place + 1)) (drop (place + 1) bytes)) ≡ cut byte bytes
cut_at byte place bytes is =
    let d = cuts byte 0 place bytes is in
    let same : d.offset ≡ place = omega (arith, d.sum) in
    let next : suc d.offset ≡ place + 1 = omega (arith, d.sum) in
    let short : length (drop (place + 1) bytes) ≤ length bytes - (place + 1)
    = omega (arith, length-drop (place + 1) bytes) in
    ap (λ (rest : List ℕ). Some (take place bytes, rest))
    (take_all (length bytes - (place + 1)) (drop (place + 1) bytes) short)
    ∙ sym (d.parts ∙ ap (λ (n : ℕ). Some (take n bytes, drop (suc d.offset) bytes)) same
    ∙ ap (λ (n : ℕ). Some (take place bytes, drop n bytes)) next)

pub cut_nowhere : (byte from : ℕ) (bytes : List ℕ) → position_from (λ b. b == byte) from bytes ≡ None → None
    ≡ cut byte bytes
unfolding cut
cut_nowhere byte from [] is = refl
cut_nowhere byte from (b ∷ bytes) is = elim (cases_Bool (b == byte)) [
  | inl here ↦ absurd (none-some from (sym (rw here at is)))
  | inr other ↦ rw other (ap (option_map (with_byte b)) (cut_nowhere byte (from + 1) bytes (rw other at is)))
]

-- ---- what stands after is shorter

abbrev IsShorter : List ℕ → List ℕ × List ℕ → Type 0
IsShorter bytes parts = length parts.1 < length bytes

shorter_more : (b : ℕ) (bytes : List ℕ) (parts : List ℕ × List ℕ) (rest : Option (List ℕ × List ℕ))
    → ((p : List ℕ × List ℕ) → rest ≡ Some p → IsShorter bytes p) → option_map (with_byte b) rest ≡ Some parts
    → IsShorter (b ∷ bytes) parts
shorter_more b bytes parts None first is = absurd (none-some parts is)
shorter_more b bytes parts (Some rest) first is =
    let before = first rest refl in
    subst (IsShorter (b ∷ bytes)) (same_Some (with_byte b rest) parts is) (omega (arith, before))

pub cut_shorter : (byte : ℕ) (bytes : List ℕ) (parts : List ℕ × List ℕ) → cut byte bytes ≡ Some parts
    → length parts.1 < length bytes
unfolding cut
cut_shorter byte [] parts is = absurd (none-some parts is)
cut_shorter byte (b ∷ bytes) parts is = elim (cases_Bool (b == byte)) [
  | inl here ↦ subst (IsShorter (b ∷ bytes)) (same_Some ([], bytes) parts (rw here at is)) (omega arith)
  | inr other ↦ shorter_more b bytes parts (cut byte bytes) (cut_shorter byte bytes) (rw other at is)
]
