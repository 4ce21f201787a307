-- One record more of an answer.
use Rattle.std.proofs.Common.{◌≡◌, ℕ, suc, ◌+◌, ◌<◌, ◌≤◌, Bool, true, false, List, [], ◌∷◌, ◌++◌, length, Option}
use Rattle.std.proofs.Common.{Some, None, Result, Ok, Err, refl, sym, ap, subst, ◌∙◌, append_assoc, arith}
use Rattle.std.specs.Prelude.{codes, nat_lt}
use Rattle.std.proofs.lemmas.Bool.{le-ltb, lt-ltb}
use Rattle.std.proofs.lemmas.List.{append-nil}
use Rattle.std.specs.Int.{bytes_high_first}
use Rattle.std.specs.List.{AllByRecursion}
use Rattle.ad_bytes.specs.Numbers.{be_bytes}
use Rattle.ad_ldif.specs.Records.{Fault}
use Rattle.ad_ldif.specs.Ranges.{HasItemOps}
use Rattle.ad_ldif.specs.Change.{Change}
use Rattle.ad_ldif.specs.Changes.{Changes, changes, changed, no_changes, stopped_at}
use Rattle.cmd_change.specs.Change.{limit, frame, body_of, fits, Refusal, word_of, refusal, line_of, behind, at_end}
use Rattle.cmd_change.specs.Change.{frames_from, answer_to, Asks, Refuses, NoChanges}

-- what is left of a text's changes: its frames, with numbers from n on
abbrev pub rest_from : ℕ → Changes → Result (List ℕ) Refusal
rest_from n left = frames_from n left.changes left.stop

one_more : (n : ℕ) (left after : Changes) (c : Change) → left ≡ changed (Ok c) after → fits (body_of c n) ≡ true
    → rest_from n left ≡ behind (frame (body_of c n)) (rest_from (suc n) after)
unfolding frames_from
one_more n left after c is room = rw (is, room) refl

no_room : (n : ℕ) (left after : Changes) (c : Change) → left ≡ changed (Ok c) after → fits (body_of c n) ≡ false
    → rest_from n left ≡ Err (refusal c.line (codes "long"))
unfolding frames_from
no_room n left after c is room = rw (is, room) refl

no_more : (n : ℕ) (left : Changes) → left ≡ no_changes → rest_from n left ≡ Ok []
unfolding frames_from
no_more n left is = rw is refl

stops : (n : ℕ) (left : Changes) (f : Fault) → left ≡ stopped_at f → rest_from n left
    ≡ Err (refusal f.line (word_of f.kind))
unfolding frames_from
stops n left f is = rw is refl

regroup : (front more : List ℕ) (read : Result (List ℕ) Refusal) → behind front (behind more read)
    ≡ behind (front ++ more) read
regroup front more (Ok frames) = ap Ok (sym (append_assoc front more frames))
regroup front more (Err r) = refl

-- ---- the loop: these frames, and those of what is left

abbrev pub GoesOn : List ℕ → List ℕ → ℕ → Changes → Type 0
GoesOn input frames n left = rest_from 1 (changes input) ≡ behind frames (rest_from n left)

pub starts : (input : List ℕ) (left : Changes) (frames : List ℕ) → left ≡ changes input → frames ≡ []
    → GoesOn input frames 1 left
starts input left frames is none = rw (is, none) (all (rest_from 1 (changes input)))
  where
    all : (read : Result (List ℕ) Refusal) → read ≡ behind [] read
    all (Ok frames) = refl
    all (Err r) = refl

pub goes_on : (input frames new : List ℕ) (n m : ℕ) (left after : Changes) (c : Change) → GoesOn input frames n left
    → left ≡ changed (Ok c) after → fits (body_of c n) ≡ true → new ≡ frames ++ frame (body_of c n) → m ≡ n + 1
    → GoesOn input new m after
goes_on input frames new n m left after c before is room put next =
    let number : suc n ≡ m = omega (arith, next) in
    before ∙ ap (behind frames) (one_more n left after c is room) ∙ regroup frames (frame (body_of c n))
    (rest_from (suc n) after)
    ∙ ap (λ (k : ℕ). behind (frames ++ frame (body_of c n)) (rest_from k after)) number
    ∙ ap (λ (text : List ℕ). behind text (rest_from m after)) (sym put)

-- ---- the answer

within : (input : List ℕ) → length input ≤ limit → answer_to input ≡ rest_from 1 (changes input)
unfolding answer_to
within input few = let test : nat_lt limit (length input) ≡ false = le-ltb limit (length input) few in rw test refl

abbrev Refused : List ℕ → List ℕ → Type 0
Refused input line = NoChanges input × Refuses input line

refused_by : (input line : List ℕ) (r : Refusal) → answer_to input ≡ Err r → line ≡ line_of r → Refused input line
refused_by input line r answer is = ((r, answer), (r, answer, is))

pub all_framed : (input frames : List ℕ) (n : ℕ) (left : Changes) → length input ≤ limit → GoesOn input frames n left
    → left ≡ no_changes → Asks input frames
all_framed input frames n left few before is = within input few ∙ before ∙ ap (behind frames) (no_more n left is)
    ∙ ap Ok (append-nil frames)

pub a_fault : (input frames line word : List ℕ) (n : ℕ) (left : Changes) (f : Fault) → length input ≤ limit
    → GoesOn input frames n left → left ≡ stopped_at f → word ≡ word_of f.kind → line ≡ line_of (refusal f.line word)
    → Refused input line
a_fault input frames line word n left f few before is word_is line_is =
    refused_by input line (refusal f.line (word_of f.kind))
    (within input few ∙ before ∙ ap (behind frames) (stops n left f is))
    (line_is ∙ ap (λ (w : List ℕ). line_of (refusal f.line w)) word_is)

pub a_long_message : (input frames line : List ℕ) (n : ℕ) (left after : Changes) (c : Change) → length input ≤ limit
    → GoesOn input frames n left → left ≡ changed (Ok c) after → fits (body_of c n) ≡ false → line
    ≡ line_of (refusal c.line (codes "long")) → Refused input line
a_long_message input frames line n left after c few before is room line_is =
    refused_by input line (refusal c.line (codes "long"))
    (within input few ∙ before ∙ ap (behind frames) (no_room n left after c is room)) line_is

above : (input : List ℕ) → limit < length input → answer_to input ≡ Err (refusal 0 (codes "too long"))
unfolding answer_to
above input more = let test : nat_lt limit (length input) ≡ true = lt-ltb limit (length input) more in rw test refl

pub a_long_input : (input line : List ℕ) → limit < length input → line ≡ line_of (refusal 0 (codes "too long"))
    → Refused input line
a_long_input input line more line_is = refused_by input line (refusal 0 (codes "too long")) (above input more) line_is

-- ---- what stays true of what is left

pub one_less : (left after : Changes) (c : Change) → left ≡ changed (Ok c) after → length left.changes
    ≡ suc (length after.changes)
one_less left after c is = ap (λ (s : Changes). length s.changes) is

pub ops_in : (left after : Changes) (c : Change) → left ≡ changed (Ok c) after → AllByRecursion HasItemOps
    left.changes → HasItemOps c × AllByRecursion HasItemOps after.changes
ops_in left after c is h =
    let P : Changes → Type 0 = λ s. AllByRecursion HasItemOps s.changes in
    subst P is h

-- ---- a frame

pub frame_put : (old first second new body bytes : List ℕ) → first ≡ old ++ 2 ∷ 0 ∷ 0 ∷ [] → bytes
    ≡ bytes_high_first 4 (length body) → second ≡ first ++ bytes → new ≡ second ++ body → new ≡ old ++ frame body
unfolding frame be_bytes
frame_put old first second new body bytes is_first are_bytes is_second is_new =
    let front : List ℕ = 2 ∷ 0 ∷ 0 ∷ [] in
    let digits : List ℕ = bytes_high_first 4 (length body) in
    is_new ∙ ap (λ (t : List ℕ). t ++ body) is_second
    ∙ ap (λ (t : List ℕ). (t ++ bytes) ++ body) is_first
    ∙ ap (λ (t : List ℕ). ((old ++ front) ++ t) ++ body) are_bytes
    ∙ append_assoc (old ++ front) digits body
    ∙ append_assoc old front (digits ++ body)
