-- A part whose value is encoded by its own bytes takes the reader to the end of the value.
use Rattle.std.proofs.Common.{Bool, eqb, nat_lt, ◌≡◌, inl, inr, ℕ, zero, suc, ◌+◌, ◌-◌, ◌<◌, ◌≤◌, true, false}
use Rattle.std.proofs.Common.{if◌then◌else◌, Option, Some, None, List, [], ◌∷◌, ◌++◌, length, take, drop, get_or}
use Rattle.std.proofs.Common.{refl, sym, ap, subst, ◌∙◌, append_assoc, arith}
use Rattle.std.specs.Prelude.{◌&&◌, not}
use Rattle.std.specs.List.{list_all}
use Rattle.std.specs.Str.{str_to_ascii_uppercase}
use Rattle.std.proofs.lemmas.Bool.{and_parts, not-true, eqb-true}
use Rattle.std.proofs.lemmas.Bool.Decides.{nat_tests}
use Rattle.std.proofs.lemmas.List.{append-nil, length-append, length-drop, take_at, drop_at, get_or-drop}
use Rattle.std.proofs.Math.Seq.{take-add, take-length}
use Rattle.std.proofs.lemmas.Option.{same_Some}
use Rattle.ad_bytes.proofs.Machines.{run_append, run_step, step_more}
use Rattle.ad_bytes.specs.Machine.{StopsAt}
use Rattle.ad_dn.specs.declared.rdn.Rdn.{Rdn}
use Rattle.ad_dn.specs.declared.steps.State.{State}
use Rattle.ad_dn.specs.declared.steps.ParserPhase.{ParserPhase}
use Rattle.ad_dn.specs.declared.steps.ParserPhase.TheVariants.{Nothing, Comma, Kind, KindEnd, Equals, Value, Mark}
use Rattle.ad_dn.specs.declared.steps.ParserPhase.TheVariants.{Digit}
use Rattle.ad_dn.specs.Utf8State.{due, nothing_due, least_after, most_after, due_after}
use Rattle.ad_dn.specs.Grammar.{is_reserved}
use Rattle.ad_dn.specs.Steps.{state, start, with_blank, with_rdn, with_part, with_next, byte_taken, plain_step}
use Rattle.ad_dn.specs.Steps.{mark_step, step, step_from, from_there}
use Rattle.ad_dn.specs.Parts.{is_ordinary, HasOrdinaryEnds, BeginsOrdinary, begins_part, IsReady, Passes, Advances}
use Rattle.ad_dn.proofs.Told.{IsPlain, is_plain_of}
use Rattle.ad_dn.proofs.Utf8.{size_1, least_is, most_is, at_first, begun_is}
use Rattle.ad_dn.proofs.Follow.{nothing_is_due}
use Rattle.ad_dn.proofs.Runs.{pick, pick_first, plain_by}
use Rattle.ad_dn.proofs.NameRuns.{fresh, MayBegin, at_start, at_comma, kind_read, equals_read}
use Rattle.ad_dn.proofs.Lifts.{Well}
use Rattle.ad_dn.proofs.ValueLifts.{kept_well}

-- ---- a byte of a value

below : (b : ℕ) → nat_lt b 128 ≡ true → b < 128
below b e = grind (arith, nat_tests)

ascii : (b : ℕ) → is_ordinary b ≡ true → b < 128
ascii b e =
    let p = and_parts (nat_lt b 128 && not (eqb b 0)) (not (is_reserved b)) e in
    below b (and_parts (nat_lt b 128) (not (eqb b 0)) p.0).0

plain : (b : ℕ) → is_ordinary b ≡ true → IsPlain b
plain b e =
    let p = and_parts (nat_lt b 128 && not (eqb b 0)) (not (is_reserved b)) e in
    let q = and_parts (nat_lt b 128) (not (eqb b 0)) p.0 in
    is_plain_of b (not-true (is_reserved b) p.1) (not-true (eqb b 0) q.1)

-- after it nothing is due
none_due : (used b : ℕ) → b < 128 → used + 1 ≤ 1024 → due_after used nothing_due b ≡ Some nothing_due
none_due used b h room = at_first used b nothing_due refl ∙ begun_is used b 0 (size_1 b h) room
    ∙ ap Some (ap (λ (n : ℕ). due 0 n (most_after b)) least ∙ ap (due 0 128) most)
  where
    least : least_after b ≡ 128
    least = elim (least_is b) [
      | inl e ↦ absurd (omega (arith, e.0))
      | inr n
          ↦ elim n [ inl e ↦ absurd (omega (arith, e.0)) | inr k ↦ k.2 ]
    ]

    most : most_after b ≡ 191
    most = elim (most_is b) [
      | inl e ↦ absurd (omega (arith, e.0))
      | inr n
          ↦ elim n [ inl e ↦ absurd (omega (arith, e.0)) | inr k ↦ k.2 ]
    ]

module _ (rdns : List Rdn) (kind value : List ℕ) (kept : ℕ) (b : ℕ) (is : is_ordinary b ≡ true)
    (room : length value + 1 ≤ 1024) where
  longer : length (value ++ b ∷ []) ≡ length value + 1
  longer = length-append value (b ∷ [])

  byte_read : (phase : ParserPhase) → plain_step (state phase rdns kind value kept nothing_due) b
      ≡ Some (state Value rdns kind (value ++ b ∷ []) (length value + 1) nothing_due)
  byte_read phase =
      let s = state phase rdns kind value kept nothing_due in
      plain_by rdns kind value kept nothing_due [] nothing_is_due (omega arith) phase b (plain b is)
      ∙ ap (byte_taken s b) (none_due (length value) b (ascii b is) room)
      ∙ ap (λ (n : ℕ). Some (state Value rdns kind (value ++ b ∷ []) n nothing_due)) longer

  first_byte : eqb b 32 ≡ false → eqb b 35 ≡ false → step (state Equals rdns kind value kept nothing_due) b
      ≡ Some (state Value rdns kind (value ++ b ∷ []) (length value + 1) nothing_due)
  unfolding step_from
  first_byte no_blank no_hash =
      let s = state Equals rdns kind value kept nothing_due in
      pick_first (eqb b 32) (eqb b 35) (eqb b 92) (Some s) None (mark_step s) (plain_step s b) no_blank no_hash
      (plain b is).mark ∙ byte_read Equals

  later_by : (t : Bool) → eqb b 32 ≡ t → step (state Value rdns kind value kept nothing_due) b
      ≡ Some (state Value rdns kind (value ++ b ∷ []) (if t then kept else length value + 1) nothing_due)
  unfolding step_from
  later_by true e =
      let so : b ≡ 32 = eqb-true b 32 e in
      subst (λ (x : ℕ). step (state Value rdns kind value kept nothing_due) x
      ≡ Some (state Value rdns kind (value ++ x ∷ []) kept nothing_due)) (sym so) refl
  later_by false e =
      let s = state Value rdns kind value kept nothing_due in
      pick (eqb b 92) true (eqb b 32) (eqb b 44) (mark_step s) (plain_step s b) (Some (with_blank s))
      (Some (with_rdn s)) (plain b is).mark e (plain b is).comma ∙ byte_read Value

  later_byte : step (state Value rdns kind value kept nothing_due) b
      ≡ Some (state Value rdns kind (value ++ b ∷ []) (if eqb b 32 then kept else length value + 1) nothing_due)
  later_byte = later_by (eqb b 32) refl

-- ---- a value

-- how many bytes of a value are no blanks after it
abbrev kept_after : ℕ → ℕ → List ℕ → ℕ
kept_after used kept [] = kept
kept_after used kept (b ∷ bytes) = kept_after (used + 1) (if eqb b 32 then kept else used + 1) bytes

-- all, where the last is none
all_kept : (used kept : ℕ) (bytes : List ℕ) (i : ℕ) → i + 1 ≡ length bytes → eqb (get_or bytes i 0) 32 ≡ false
    → kept_after used kept bytes ≡ used + length bytes
all_kept used kept [] i at last = absurd (omega (arith, at))
all_kept used kept (b ∷ []) zero at last = ap (λ (t : Bool). if t then kept else used + 1) last
all_kept used kept (b ∷ []) (suc i) at last = absurd (omega (arith, at))
all_kept used kept (b ∷ c ∷ bytes) zero at last = absurd (omega (arith, at))
all_kept used kept (b ∷ c ∷ bytes) (suc i) at last =
    let rest = all_kept (used + 1) (if eqb b 32 then kept else used + 1) (c ∷ bytes) i (omega (arith, at)) last in
    let same : used + 1 + length (c ∷ bytes) ≡ used + length (b ∷ c ∷ bytes) = omega arith in
    rest ∙ same

later_bytes : (rdns : List Rdn) (kind value : List ℕ) (kept used : ℕ) (bytes : List ℕ) → length value ≡ used
    → list_all is_ordinary bytes ≡ true → used + length bytes ≤ 1024
    → from_there (Some (state Value rdns kind value kept nothing_due)) bytes
    ≡ Some (state Value rdns kind (value ++ bytes) (kept_after used kept bytes) nothing_due)
later_bytes rdns kind value kept used [] at all room
    = ap (λ (v : List ℕ). Some (state Value rdns kind v kept nothing_due)) (sym (append-nil value))
later_bytes rdns kind value kept used (b ∷ bytes) at all room =
    let p = and_parts (is_ordinary b) (list_all is_ordinary bytes) all in
    let longer : length (value ++ b ∷ []) ≡ length value + 1 = length-append value (b ∷ []) in
    let next = if eqb b 32 then kept else used + 1 in
    let one : step (state Value rdns kind value kept nothing_due) b
    ≡ Some (state Value rdns kind (value ++ b ∷ []) next nothing_due) =
    later_byte rdns kind value kept b p.0 (omega (arith, at, room))
    ∙ ap (λ (n : ℕ). Some (state Value rdns kind (value ++ b ∷ []) (if eqb b 32 then kept else n + 1)
    nothing_due)) at in
    run_step step (state Value rdns kind value kept nothing_due)
    (state Value rdns kind (value ++ b ∷ []) next nothing_due) b bytes one
    ∙ later_bytes rdns kind (value ++ b ∷ []) next (used + 1) bytes (omega (arith, longer, at)) p.1
    (omega (arith, room))
    ∙ ap (λ (v : List ℕ). Some (state Value rdns kind v (kept_after (used + 1) next bytes) nothing_due))
    (append_assoc value (b ∷ []) bytes)

value_read : (rdns : List Rdn) (kind value : List ℕ) → list_all is_ordinary value ≡ true → HasOrdinaryEnds value
    → from_there (Some (fresh Equals rdns kind)) value ≡ Some (state Value rdns kind value (length value) nothing_due)
value_read rdns kind [] all ends = absurd (omega (arith, ends.some))
value_read rdns kind (b ∷ bytes) all ends =
    let p = and_parts (is_ordinary b) (list_all is_ordinary bytes) all in
    let most : length (b ∷ bytes) ≤ 1024 = ends.most in
    let some : 0 < length (b ∷ bytes) = ends.some in
    let all_of = all_kept 0 0 (b ∷ bytes) (length (b ∷ bytes) - 1) (omega (arith, some)) ends.last in
    let same : 0 + length (b ∷ bytes) ≡ length (b ∷ bytes) = omega arith in
    let kept : kept_after 1 1 bytes ≡ length (b ∷ bytes) = ap (λ (t : Bool). kept_after 1 (if t then 0 else 1) bytes)
    (sym ends.no_blank) ∙ all_of ∙ same in
    run_step step (fresh Equals rdns kind) (state Value rdns kind (b ∷ []) 1 nothing_due) b bytes
    (first_byte rdns kind [] 0 b p.0 (omega arith) ends.no_blank ends.no_hash)
    ∙ later_bytes rdns kind (b ∷ []) 1 1 bytes refl p.1 (omega (arith, most))
    ∙ ap (λ (n : ℕ). Some (state Value rdns kind (b ∷ bytes) n nothing_due)) kept

-- ---- a part

may_begin : (rdns : List Rdn) (phase : ParserPhase) → begins_part phase ≡ true → MayBegin rdns phase
may_begin rdns Nothing e = at_start rdns
may_begin rdns Comma e = at_comma rdns
may_begin rdns _ e = absurd cc

pub passes_part : (s u : State) (kind value : List ℕ) (comma : Bool) (text : List ℕ) (n : ℕ) → IsReady s
    → begins_part s.phase ≡ true → BeginsOrdinary kind value comma text
    → u ≡ with_part s (str_to_ascii_uppercase kind) value → n ≡ length kind + 1 + length value → Passes n s text u
passes_part s u kind value comma text n ready begins b is at =
    let upper = str_to_ascii_uppercase kind in
    let part = kind ++ 61 ∷ value in
    let whole : text ≡ part ++ b.rest = b.parts ∙ sym (append_assoc kind (61 ∷ value) b.rest) in
    let long : length part ≡ length kind + (length value + 1) = length-append kind (61 ∷ value) ∙ omega arith in
    let longer : length (part ++ b.rest) ≡ length part + length b.rest = length-append part b.rest in
    let same : length text ≡ length (part ++ b.rest) = ap length whole in
    record {
      within = omega (arith, long, longer, same, at);
      steps =
          ap (λ (t : List ℕ). from_there (Some s) (take n t)) whole
          ∙ ap (from_there (Some s)) (take_at part b.rest n (omega (arith, long, at)))
          ∙ ap (λ (x : State). from_there (Some x) part) (ready begins)
          ∙ kind_read s.rdns s.phase kind (61 ∷ value) (may_begin s.rdns s.phase begins) b.is_type
          ∙ equals_read s.rdns upper 0 value
          ∙ value_read s.rdns upper value b.ordinary b.ends
          ∙ ap Some (sym is);
    }

comma_step : (s : State) (kind value : List ℕ) → step (with_part s kind value) 44
    ≡ Some (fresh Comma (s.rdns ++ record { kind = kind; value = value } ∷ []) [])
unfolding step_from
comma_step s kind value = ap (λ (v : List ℕ). Some
    (fresh Comma (s.rdns ++ record { kind = kind; value = v } ∷ []) [])) (take-length value)

pub passes_next : (s u : State) (kind value : List ℕ) (comma : Bool) (text : List ℕ) (n : ℕ) → IsReady s
    → begins_part s.phase ≡ true → BeginsOrdinary kind value comma text
    → comma ≡ true → u ≡ with_next s (str_to_ascii_uppercase kind) value → n ≡ length kind + 1 + length value + 1
    → Passes n s text u
passes_next s u kind value comma text n ready begins b follows is at =
    let upper = str_to_ascii_uppercase kind in
    let rdn : Rdn = record { kind = upper; value = value } in
    let m = length kind + 1 + length value in
    let p = passes_part s (with_part s upper value) kind value comma text m ready begins b refl refl in
    let part = kind ++ 61 ∷ value in
    let long : length part ≡ m = length-append kind (61 ∷ value) ∙ omega arith in
    let whole : text ≡ part ++ b.rest = b.parts ∙ sym (append_assoc kind (61 ∷ value) b.rest) in
    let rest : drop m text ≡ b.rest = ap (drop m) whole ∙ drop_at part b.rest m long in
    let last : get_or text m 0 ≡ 44 =
    ap (λ (i : ℕ). get_or text i 0) (omega arith) ∙ sym (get_or-drop m text 0 0) ∙ ap (λ (t : List ℕ). get_or t 0 0)
    rest ∙ b.follows follows in
    let within : m < length text = omega (
      arith,
      p.within,
      some_rest b.rest (b.follows follows),
      sym
          (length-drop m text) ∙ ap length rest,
    ) in
    let same : u ≡ fresh Comma (s.rdns ++ rdn ∷ []) [] = is
    ∙ ap (λ (q : State). state Comma (s.rdns ++ rdn ∷ []) q.kind q.value q.kept q.due) (ready begins) in
    record {
      within = omega (arith, within, at);
      steps =
          ap (λ (i : ℕ). from_there (Some s) (take i text)) at
          ∙ step_more step (Some s) text m (with_part s upper value) within p.steps
          ∙ ap (step (with_part s upper value)) last
          ∙ comma_step s upper value
          ∙ ap Some (sym same);
    }
  where
    some_rest : (rest : List ℕ) → get_or rest 0 0 ≡ 44 → 0 < length rest
    some_rest [] e = absurd (omega (arith, e))
    some_rest (b ∷ rest) e = omega arith

pub passes_none : (s : State) (text : List ℕ) → Passes 0 s text s
passes_none s text = record { within = omega arith; steps = refl }

-- ---- a part or a byte

pub some_passed : (n : ℕ) (s u : State) (text : List ℕ) → (n ≡ 0 → ⊥) → Passes n s text u → Advances n s text u
some_passed zero s u text some p = absurd (some refl)
some_passed (suc n) s u text some p = p

pub none_passed : (n : ℕ) (s u : State) (text : List ℕ) → n ≡ 0 → Passes n s text u → u ≡ s
none_passed n s u text none p = sym (same_Some s u (sym (ap (λ (m : ℕ). from_there (Some s) (take m text)) none)
    ∙ p.steps))

pub one_passed : (s u : State) (text : List ℕ) → 0 < length text → step s (get_or text 0 0) ≡ Some u
    → Advances 1 s text u
one_passed s u text some e = record {
  within = omega (arith, some);
  steps = step_more step (Some s) text 0 s some refl
      ∙ e;
}

-- where the reader is, it is ready
ready_at : (phase : ParserPhase) (s : State) → s.phase ≡ phase → Well phase s → IsReady s
ready_at Nothing s is w e = w ∙ ap (λ (p : ParserPhase). fresh p s.rdns []) (sym is)
ready_at Comma s is w e = w ∙ ap (λ (p : ParserPhase). fresh p s.rdns []) (sym is)
ready_at Kind s is w e = absurd (cc (ap begins_part is))
ready_at KindEnd s is w e = absurd (cc (ap begins_part is))
ready_at Equals s is w e = absurd (cc (ap begins_part is))
ready_at Value s is w e = absurd (cc (ap begins_part is))
ready_at Mark s is w e = absurd (cc (ap begins_part is))
ready_at (Digit high) s is w e = absurd (cc (ap begins_part is))

pub ready : (s : State) (text : List ℕ) → from_there (Some (fresh Nothing [] [])) text ≡ Some s → IsReady s
ready s text e =
    let w = kept_well text Nothing (fresh Nothing [] []) s refl refl e in
    ready_at w.phase s w.is w.well

-- ---- the rest of a text

-- some bytes were read on
pub record IsReadOn (text : List ℕ) (place : ℕ) (u : State) : Type 0 where
  pub within : place ≤ length text
  pub steps : from_there (Some start) (take place text) ≡ Some u

pub read_on : (s u : State) (text rest : List ℕ) (place n : ℕ) → rest ≡ drop place text → place ≤ length text
    → (n ≡ 0 → ⊥)
    → from_there (Some start) (take place text) ≡ Some s → Advances n s rest u → IsReadOn text (place + n) u
read_on s u text rest place zero is le some so_far a = absurd (some refl)
read_on s u text rest place (suc n) is le some so_far a =
    let long : length rest ≡ length text - place = ap length is ∙ length-drop place text in
    let within : suc n ≤ length rest = a.within in
    record {
      within = omega (arith, long);
      steps =
          ap (from_there (Some start)) (take-add place (suc n) text
          ∙ ap (λ (t : List ℕ). take place text ++ take (suc n) t) (sym is))
          ∙ run_append step (Some start) (take place text) (take (suc n) rest)
          ∙ ap (λ (o : Option State). from_there o (take (suc n) rest)) so_far
          ∙ a.steps;
    }

-- the first of them was no step
pub stopped : (s u : State) (text rest : List ℕ) (place n : ℕ) → rest ≡ drop place text → place < length text → n ≡ 0
    → from_there (Some start) (take place text) ≡ Some s → Advances n s rest u → StopsAt step start place text
stopped s u text rest place (suc n) is lt none so_far a = absurd (omega (arith, none))
stopped s u text rest place zero is lt none so_far a =
    let here : get_or text place 0 ≡ get_or rest 0 0
    = sym (ap (λ (t : List ℕ). get_or t 0 0) is ∙ get_or-drop place text 0 0 ∙ ap (λ (i : ℕ). get_or text i 0)
    (omega arith)) in
    record {
      within = lt;
      last = s;
      steps = so_far;
      stops = step_more step (Some start) text place s lt so_far
          ∙ ap (step s) here ∙ a;
    }
