-- What the first bytes of a slot say of all of it.
use Rattle.std.proofs.Common.{◌≡◌, inl, inr, ℕ, ◌<◌, ◌≤◌, List, [], ◌∷◌, ◌++◌, length, take, drop, get_or, Option}
use Rattle.std.proofs.Common.{Some, None, sym, ◌∙◌, ap, arith, append_assoc, take-append-drop}
use Rattle.std.proofs.lemmas.List.{length-take, get_or-take, take_all, drop_all}
use Rattle.std.proofs.lemmas.Bool.{cases_lt}
use Rattle.std.specs.Option.{IfSome}
use Rattle.site_io.specs.Disk.{Images, images_of, at_slot, ReadsFull}
use Rattle.site_io.specs.declared.slot.Slot.{Slot}
use Rattle.gate_log.specs.Layout.{opened, head}
use Rattle.gate_log.specs.Reading.{AreHeads, IsOpened, IsSlotOfTwo}
use Rattle.gate_log.specs.Store.{IsClosed, IsOpen, IsOne, IsEmptyStore}

-- what was read of a slot's beginning
pub head_read : (slot : Slot) (r : Option Images) (n : ℕ) (into : List ℕ) → length into ≡ 14 → n ≤ length into
    → IfSome r (λ held. ReadsFull 0 n into (at_slot slot held))
    → IfSome r (λ held. take n into ≡ take 14 (at_slot slot held))
head_read slot None n into room within read = tt
head_read slot (Some held) n into room within read = elim (cases_lt n (length into)) [
  | inl less ↦
      let short = read.1 less in
      read.0 ∙ take_all n (at_slot slot held) (omega (arith, short))
      ∙ sym (take_all 14 (at_slot slot held) (omega (arith, short, less, room)))
  | inr full ↦ let all : n ≡ 14 = omega (arith, room, within, full) in read.0 ∙ ap (λ k. take k (at_slot slot held)) all
]

pub closed_whole : (bytes : List ℕ) → IsClosed (take 14 bytes) → IsClosed bytes
closed_whole bytes closed = (
  closed.0,
  closed.1 ++ drop 14 bytes,
  closed.2,
  sym (take-append-drop 14 bytes)
      ∙ ap (λ (l : List ℕ). l ++ drop 14 bytes) closed.3,
)

pub opened_whole : (bytes : List ℕ) (generation : ℕ) → IsOpened (take 14 bytes) generation → IsOpened bytes generation
opened_whole bytes generation is_opened =
    let nothing : drop 14 (take 14 bytes) ≡ [] = drop_all 14 (take 14 bytes) (omega (arith, length-take 14 bytes)) in
    record {
      head = sym (take-append-drop 14 bytes) ∙ ap (λ (l : List ℕ). l ++ drop 14 bytes) is_opened.head
          ∙ append_assoc (1 ∷ head 2 generation) (drop 14 (take 14 bytes)) (drop 14 bytes)
          ∙ ap (λ (l : List ℕ). opened 2 generation (l ++ drop 14 bytes)) nothing;
      long = omega (arith, is_opened.long, length-take 14 bytes);
      above = is_opened.above;
      below = is_opened.below;
    }

pub slot_of_head : (bytes : List ℕ) → IsSlotOfTwo bytes → IsSlotOfTwo (take 14 bytes)
slot_of_head bytes (inl closed) = inl (closed.0, take 13 closed.1, closed.2, ap (take 14) closed.3)
slot_of_head bytes (inr is_opened) = inr (is_opened.0, [], is_opened.2, is_opened.3, ap (take 14) is_opened.4)

open_same : (bytes : List ℕ) (i : ℕ) → i < 14 → get_or (take 14 bytes) i 0 ≡ get_or bytes i 0
open_same bytes i less = get_or-take 14 bytes i 0 less

pub one_head : (head bytes : List ℕ) → head ≡ take 14 bytes → IsOne head → IsOne bytes
one_head head bytes is one = (
  sym (open_same bytes 0 (omega arith)) ∙ ap (λ (l : List ℕ). get_or l 0 0) (sym is)
      ∙ one.0,
  sym (open_same bytes 5 (omega arith)) ∙ ap (λ (l : List ℕ). get_or l 5 0) (sym is) ∙ one.1,
)

pub head_one : (head bytes : List ℕ) → head ≡ take 14 bytes → IsOne bytes → IsOne head
head_one head bytes is one = (
  ap (λ (l : List ℕ). get_or l 0 0) is ∙ open_same bytes 0 (omega arith) ∙ one.0,
  ap (λ (l : List ℕ). get_or l 5 0)
      is ∙ open_same bytes 5 (omega arith) ∙ one.1,
)

open_head : (head bytes : List ℕ) → head ≡ take 14 bytes → IsOpen head → IsOpen bytes
open_head head bytes is is_open = sym (open_same bytes 0 (omega arith)) ∙ ap (λ (l : List ℕ). get_or l 0 0) (sym is)
    ∙ is_open

head_open : (head bytes : List ℕ) → head ≡ take 14 bytes → IsOpen bytes → IsOpen head
head_open head bytes is is_open = ap (λ (l : List ℕ). get_or l 0 0) is ∙ open_same bytes 0 (omega arith) ∙ is_open

pub empty_head : (a b : List ℕ) (images : Images) → AreHeads a b images → IsEmptyStore (images_of a b)
    → IsEmptyStore images
empty_head a b images heads empty = (
  λ is_open. empty.0 (head_open a images.a heads.0 is_open),
  λ is_open.
      empty.1 (head_open b images.b heads.1 is_open),
)

pub head_empty : (a b : List ℕ) (images : Images) → AreHeads a b images → IsEmptyStore images
    → IsEmptyStore (images_of a b)
head_empty a b images heads empty = (
  λ is_open. empty.0 (open_head a images.a heads.0 is_open),
  λ is_open.
      empty.1 (open_head b images.b heads.1 is_open),
)

pub both_heads : (a b : List ℕ) (r : Option Images) → IfSome r (λ held. a ≡ take 14 held.a)
    → IfSome r (λ held. b ≡ take 14 held.b) → IfSome r (AreHeads a b)
both_heads a b None of_a of_b = tt
both_heads a b (Some held) of_a of_b = (of_a, of_b)
