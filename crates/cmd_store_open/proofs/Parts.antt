-- What was emitted of a text, and what is told of it and of the slots.
use Rattle.std.proofs.Common.{◌≡◌, ◌∙◌, ⊎_elim, ℕ, ◌+◌, ◌≤◌, Bool, true, false, List, ◌++◌, length, take, Option, Some}
use Rattle.std.proofs.Common.{None, refl, sym, ap, append_assoc, arith}
use Rattle.std.specs.Option.{IfSome}
use Rattle.std.proofs.lemmas.Bool.{cases_lt}
use Rattle.std.proofs.lemmas.List.{append-nil, take_all, take-append-le}
use Rattle.std.proofs.Math.Seq.{take-append-add}
use Rattle.site_io.specs.Disk.{Images}
use Rattle.site_io.specs.Outside.{StaysKnown}
use Rattle.site_io.specs.Told.{BothTold, StaysTold}
use Rattle.cmd_call.specs.Store.{Emits, EmitsPart}

-- ---- what is told

pub told_same : (r0 r1 : Option (List ℕ)) (said : List ℕ) → StaysTold r0 r1 → r0 ≡ Some said → r1 ≡ Some said
told_same None r1 said same is = absurd cc
told_same (Some a) None said same is = absurd same
told_same (Some a) (Some b) said same is = ap (λ (l : List ℕ). Some l) same ∙ is

pub part_none : (r0 r1 : Option (List ℕ)) (text : List ℕ) → StaysTold r0 r1 → EmitsPart r0 r1 text
part_none None None text same = tt
part_none (Some a) (Some b) text same = (0, same ∙ sym (append-nil a))
part_none None (Some b) text same = absurd same
part_none (Some a) None text same = absurd same

pub part_whole : (r0 r1 : Option (List ℕ)) (text : List ℕ) → Emits r0 r1 text → EmitsPart r0 r1 text
part_whole None None text emits = tt
part_whole (Some a) (Some b) text emits = (
  length text,
  emits ∙ ap (λ (l : List ℕ). a ++ l)
      (sym (take_all (length text) text (omega arith))),
)
part_whole None (Some b) text emits = absurd emits
part_whole (Some a) None text emits = absurd emits

pub known_then : (r0 r1 r2 : Option Images) → StaysKnown r0 r1 → StaysTold r1 r2 → StaysKnown r0 r2
known_then None None None first second = tt
known_then (Some x) (Some y) (Some z) first second = tt
known_then None None (Some z) first second = absurd second
known_then None (Some y) r2 first second = absurd first
known_then (Some x) None r2 first second = absurd first
known_then (Some x) (Some y) None first second = absurd second

pub first_told : {P : List ℕ → List ℕ → Type 0} (Q : List ℕ → Type 0) (rest left : Option (List ℕ))
    → ((input behind : List ℕ) → P input behind → Q input)
    → BothTold rest left P → IfSome rest Q
first_told Q None None f told = tt
first_told Q (Some input) (Some behind) f told = f input behind told
first_told Q None (Some behind) f told = absurd told
first_told Q (Some input) None f told = absurd told

-- what isn't so
pub not_so : (b : Bool) (P : Type 0) → (b ≡ true → P) → (P → ⊥) → b ≡ false
not_so false P so never = refl
not_so true P so never = absurd (never (so refl))

-- ---- a prefix of a text

pub part_longer : (r0 r1 : Option (List ℕ)) (text rest whole : List ℕ) → whole ≡ text ++ rest → EmitsPart r0 r1 text
    → EmitsPart r0 r1 whole
part_longer None None text rest whole is part = tt
part_longer (Some a) (Some b) text rest whole is part = ⊎_elim
    (λ lt. let le : part.0 ≤ length text = omega (arith, lt) in (
      part.0,
      part.1 ∙ ap (λ (l : List ℕ). a ++ l)
          (sym (take-append-le part.0 text rest le) ∙ ap (take part.0) (sym is)),
    ))
    (λ ge. let all : take part.0 text ≡ text = take_all part.0 text ge in
    let front : take (length text) whole ≡ text = ap (take (length text)) is ∙ take-append-le (length text) text rest
    (omega arith) ∙ take_all (length text) text (omega arith) in
    (length text, part.1 ∙ ap (λ (l : List ℕ). a ++ l) (all ∙ sym front)))
    (cases_lt part.0 (length text))
part_longer None (Some b) text rest whole is part = absurd part
part_longer (Some a) None text rest whole is part = absurd part

pub part_more : (r0 r1 r2 : Option (List ℕ)) (text more whole : List ℕ) → whole ≡ text ++ more → Emits r0 r1 text
    → EmitsPart r1 r2 more → EmitsPart r0 r2 whole
part_more None None None text more whole is first second = tt
part_more (Some a) (Some b) (Some c) text more whole is first second = (
  length text + second.0,
  second.1 ∙ ap (λ (l : List ℕ). l ++ take second.0 more) first ∙ append_assoc a text (take second.0 more)
      ∙ ap (λ (l : List ℕ). a ++ l) (sym (take-append-add text more second.0) ∙ ap (take (length text + second.0))
      (sym is)),
)
part_more None None (Some c) text more whole is first second = absurd second
part_more None (Some b) r2 text more whole is first second = absurd first
part_more (Some a) None r2 text more whole is first second = absurd first
part_more (Some a) (Some b) None text more whole is first second = absurd second
