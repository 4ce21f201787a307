-- A name's text takes its reader step by step to the name.
use Rattle.std.proofs.Common.{Bool, eqb, ◌≡◌, ℕ, zero, suc, ◌≤◌, true, false, if◌then◌else◌, Option, Some, None, List}
use Rattle.std.proofs.Common.{[], ◌∷◌, ◌++◌, length, map, take, refl, sym, ap, subst, ◌∙◌, append_assoc, arith}
use Rattle.std.specs.Prelude.{◌&&◌, not}
use Rattle.std.specs.List.{list_all}
use Rattle.std.specs.Char.{to_ascii_uppercase}
use Rattle.std.specs.Str.{str_to_ascii_uppercase}
use Rattle.std.proofs.lemmas.Bool.{and_parts}
use Rattle.std.proofs.lemmas.Bool.Decides.{nat_tests}
use Rattle.std.proofs.lemmas.List.{append-nil}
use Rattle.std.proofs.Math.Seq.{take-append_seam}
use Rattle.ad_bytes.proofs.Machines.{run_append, run_step, Finishes}
use Rattle.ad_dn.specs.declared.rdn.Rdn.{Rdn}
use Rattle.ad_dn.specs.declared.utf8_state.Utf8State.{Utf8State}
use Rattle.ad_dn.specs.declared.steps.State.{State}
use Rattle.ad_dn.specs.declared.steps.ParserPhase.{ParserPhase}
use Rattle.ad_dn.specs.declared.steps.ParserPhase.TheVariants.{Nothing, Comma, Kind, KindEnd, Equals, Value}
use Rattle.ad_dn.specs.AttributeType.{is_letter, is_type_byte, is_type}
use Rattle.ad_dn.specs.Utf8State.{nothing_due}
use Rattle.ad_dn.specs.Grammar.{piece_byte, blanks, SpellsValue, SpellsRdn, SpellsOthers, SpellsRdns}
use Rattle.ad_dn.specs.Steps.{state, start, moved, with_letter, with_blank, with_rdn, plain_step, first_step, step}
use Rattle.ad_dn.specs.Steps.{step_from, finished, from_there}
use Rattle.ad_dn.proofs.Utf8.{Fills, utf8_fills}
use Rattle.ad_dn.proofs.Runs.{value_taken}

-- the state before a value
abbrev pub fresh : ParserPhase → List Rdn → List ℕ → State
fresh phase rdns kind = state phase rdns kind [] 0 nothing_due

-- blanks that are passed over
pub passed_over : (s : State) (n : ℕ) (text : List ℕ) → step s 32 ≡ Some s → from_there (Some s) (blanks n ++ text)
    ≡ from_there (Some s) text
passed_over s zero text e = refl
passed_over s (suc n) text e = run_step step s s 32 (blanks n ++ text) e ∙ passed_over s n text e

-- ---- a type

letters_read : (rdns : List Rdn) (kind bytes text : List ℕ) → list_all is_type_byte bytes ≡ true
    → from_there (Some (fresh Kind rdns kind)) (bytes ++ text)
    ≡ from_there (Some (fresh Kind rdns (kind ++ str_to_ascii_uppercase bytes))) text
unfolding step_from
letters_read rdns kind [] text all = ap (λ (k : List ℕ). from_there (Some (fresh Kind rdns k)) text)
    (sym (append-nil kind))
letters_read rdns kind (b ∷ bytes) text all =
    let p = and_parts (is_type_byte b) (list_all is_type_byte bytes) all in
    let s = fresh Kind rdns kind in
    let one : step s b ≡ Some (with_letter s b)
    = ap (λ (t : Bool). if t then Some (with_letter s b) else if eqb b 32 then Some (moved KindEnd s)
    else if eqb b 61 then Some (moved Equals s) else None) p.0 in
    run_step step s (with_letter s b) b (bytes ++ text) one
    ∙ letters_read rdns (kind ++ to_ascii_uppercase b ∷ []) bytes text p.1
    ∙ ap (λ (k : List ℕ). from_there (Some (fresh Kind rdns k)) text)
    (append_assoc kind (to_ascii_uppercase b ∷ []) (str_to_ascii_uppercase bytes))

-- a type may begin here
pub record MayBegin (rdns : List Rdn) (phase : ParserPhase) : Type 0 where
  pub letter : (b : ℕ) → is_letter b ≡ true → step (fresh phase rdns []) b
      ≡ Some (fresh Kind rdns (to_ascii_uppercase b ∷ []))

pub at_start : (rdns : List Rdn) → MayBegin rdns Nothing
unfolding step_from
at_start rdns = record {
  letter = λ b e. ap (λ (t : Bool). if t then Some (with_letter (fresh Nothing rdns []) b)
      else None) e;
}

pub at_comma : (rdns : List Rdn) → MayBegin rdns Comma
unfolding step_from
at_comma rdns = record {
  letter = λ b e.
      let s = fresh Comma rdns [] in
      ap (λ (t : Bool). if t then Some s else first_step s b) (no_blank b e)
      ∙ ap (λ (t : Bool). if t then Some (with_letter s b) else None) e;
}
  where
    no_blank : (b : ℕ) → is_letter b ≡ true → eqb b 32 ≡ false
    no_blank b e = grind (arith, nat_tests)

pub kind_read : (rdns : List Rdn) (phase : ParserPhase) (kind text : List ℕ) → MayBegin rdns phase → is_type kind
    ≡ true → from_there (Some (fresh phase rdns [])) (kind ++ text)
    ≡ from_there (Some (fresh Kind rdns (str_to_ascii_uppercase kind))) text
kind_read rdns phase [] text may is = absurd cc
kind_read rdns phase (b ∷ bytes) text may is =
    let p = and_parts (is_letter b) (list_all is_type_byte bytes) is in
    run_step step (fresh phase rdns []) (fresh Kind rdns (to_ascii_uppercase b ∷ [])) b (bytes ++ text)
    (may.letter b p.0)
    ∙ letters_read rdns (to_ascii_uppercase b ∷ []) bytes text p.1

-- the = after it
pub equals_read : (rdns : List Rdn) (kind : List ℕ) (n : ℕ) (text : List ℕ) → from_there (Some (fresh Kind rdns kind))
    (blanks n ++ 61 ∷ text) ≡ from_there (Some (fresh Equals rdns kind)) text
unfolding step_from
equals_read rdns kind zero text = refl
equals_read rdns kind (suc n) text = passed_over (fresh KindEnd rdns kind) n (61 ∷ text) refl

-- ---- a part of a name

-- a part was read, up to the end of its value
pub record IsRead (rdns : List Rdn) (rdn : Rdn) (from : Option State) : Type 0 where
  pub due : Utf8State
  pub closed : due.more ≡ 0
  pub steps : from ≡ Some (state Value rdns rdn.kind rdn.value (length rdn.value) due)

value_read : (rdns : List Rdn) (rdn : Rdn) (text : List ℕ) → SpellsValue rdn.value text
    → IsRead rdns rdn (from_there (Some (fresh Equals rdns rdn.kind)) text)
value_read rdns rdn text s =
    let bytes = map piece_byte s.pieces in
    let fills : Fills (Some nothing_due) bytes = subst (λ (v : List ℕ). Fills (Some nothing_due) v) s.bytes
    (utf8_fills nothing_due rdn.value refl s.is_value.utf8) in
    let most : length bytes ≤ 1024 = subst (λ (v : List ℕ). length v ≤ 1024) s.bytes s.is_value.at_most_1024 in
    let t = value_taken rdns rdn.kind s.pieces s.are_pieces s.begins fills most in
    record {
      due = t.due;
      closed = t.closed;
      steps =
          ap (from_there (Some (fresh Equals rdns rdn.kind))) s.parts
          ∙ t.steps
          ∙ ap (λ (n : ℕ). Some (state Value rdns rdn.kind bytes n t.due)) (t.up_to s.ends)
          ∙ ap (λ (v : List ℕ). Some (state Value rdns rdn.kind v (length v) t.due)) (sym s.bytes);
    }

equals_passed : (rdns : List Rdn) (kind : List ℕ) (n : ℕ) (text : List ℕ) → from_there (Some (fresh Equals rdns kind))
    (blanks n ++ text) ≡ from_there (Some (fresh Equals rdns kind)) text
unfolding step_from
equals_passed rdns kind n text = passed_over (fresh Equals rdns kind) n text refl

pub rdn_read : (rdns : List Rdn) (phase : ParserPhase) (rdn : Rdn) (text : List ℕ) → MayBegin rdns phase
    → SpellsRdn rdn text → IsRead rdns rdn (from_there (Some (fresh phase rdns [])) text)
rdn_read rdns phase rdn text may s =
    let v = value_read rdns rdn s.value s.spells_value in
    let k = s.spells_type in
    record {
      due = v.due;
      closed = v.closed;
      steps =
          ap (from_there (Some (fresh phase rdns [])))
          (s.parts ∙ append_assoc (s.kind ++ blanks s.before) (61 ∷ blanks s.after) s.value
          ∙ append_assoc s.kind (blanks s.before) (61 ∷ (blanks s.after ++ s.value)))
          ∙ kind_read rdns phase s.kind (blanks s.before ++ 61 ∷ (blanks s.after ++ s.value)) may k.is_type
          ∙ ap (λ (kind : List ℕ). from_there (Some (fresh Kind rdns kind))
          (blanks s.before ++ 61 ∷ (blanks s.after ++ s.value))) (sym k.upper)
          ∙ equals_read rdns rdn.kind s.before (blanks s.after ++ s.value)
          ∙ equals_passed rdns rdn.kind s.after s.value
          ∙ v.steps;
    }

-- ---- the parts after it

blanks_kept : (rdns : List Rdn) (kind value : List ℕ) (kept : ℕ) (d : Utf8State) (n : ℕ) (text : List ℕ) → d.more ≡ 0
    → from_there (Some (state Value rdns kind value kept d)) (blanks n ++ text)
    ≡ from_there (Some (state Value rdns kind (value ++ blanks n) kept d)) text
unfolding step_from
blanks_kept rdns kind value kept d zero text closed
    = ap (λ (v : List ℕ). from_there (Some (state Value rdns kind v kept d)) text) (sym (append-nil value))
blanks_kept rdns kind value kept d (suc n) text closed =
    let s = state Value rdns kind value kept d in
    let one : step s 32 ≡ Some (with_blank s)
    = ap (λ (m : ℕ). if not (eqb m 0) then plain_step s 32 else Some (with_blank s)) closed in
    run_step step s (with_blank s) 32 (blanks n ++ text) one
    ∙ blanks_kept rdns kind (value ++ 32 ∷ []) kept d n text closed
    ∙ ap (λ (v : List ℕ). from_there (Some (state Value rdns kind v kept d)) text)
    (append_assoc value (32 ∷ []) (blanks n))

comma_read : (rdns : List Rdn) (rdn : Rdn) (d : Utf8State) (n : ℕ) → d.more ≡ 0
    → step (state Value rdns rdn.kind (rdn.value ++ blanks n) (length rdn.value) d) 44
    ≡ Some (fresh Comma (rdns ++ rdn ∷ []) [])
unfolding step_from
comma_read rdns rdn d n closed =
    let s = state Value rdns rdn.kind (rdn.value ++ blanks n) (length rdn.value) d in
    let kept : take (length rdn.value) (rdn.value ++ blanks n) ≡ rdn.value = take-append_seam rdn.value (blanks n) in
    ap (λ (m : ℕ). if not (eqb m 0) then plain_step s 44 else Some (with_rdn s)) closed
    ∙ ap (λ (v : List ℕ). Some (fresh Comma (rdns ++ record { kind = rdn.kind; value = v } ∷ []) [])) kept

same_number : (n : ℕ) → eqb n n ≡ true
same_number n = grind (arith, nat_tests)

others_read : (rdns : List Rdn) (rdn : Rdn) (others : List Rdn) (d : Utf8State) (text : List ℕ) → d.more ≡ 0
    → SpellsOthers others text → Finishes step (state Value rdns rdn.kind rdn.value (length rdn.value) d) finished
    (rdns ++ rdn ∷ others) text
unfolding step_from
others_read rdns rdn [] d text closed s = record {
  last = state Value rdns rdn.kind rdn.value (length rdn.value) d;
  steps = ap (from_there (Some (state Value rdns rdn.kind rdn.value (length rdn.value) d))) s;
  whole =
      ap (λ (m : ℕ). if eqb m 0 && eqb (length rdn.value) (length rdn.value) then Some (rdns ++ rdn ∷ []) else None)
      closed
      ∙ ap (λ (t : Bool). if t then Some (rdns ++ rdn ∷ []) else None) (same_number (length rdn.value));
}
others_read rdns rdn (next ∷ others) d text closed s =
    let j = s.is_others in
    let r = rdn_read (rdns ++ rdn ∷ []) Comma next j.first (at_comma (rdns ++ rdn ∷ [])) j.is_first in
    let f = others_read (rdns ++ rdn ∷ []) next others r.due j.rest r.closed j.is_rest in
    let here = state Value rdns rdn.kind rdn.value (length rdn.value) d in
    let comma = fresh Comma (rdns ++ rdn ∷ []) [] in
    record {
      last = f.last;
      steps =
          ap (from_there (Some here)) (s.parts ∙ append_assoc (blanks s.before) (44 ∷ blanks s.after) s.others)
          ∙ blanks_kept rdns rdn.kind rdn.value (length rdn.value) d s.before (44 ∷ (blanks s.after ++ s.others)) closed
          ∙ run_step step (state Value rdns rdn.kind (rdn.value ++ blanks s.before) (length rdn.value) d) comma 44
          (blanks s.after ++ s.others) (comma_read rdns rdn d s.before closed)
          ∙ passed_over comma s.after s.others refl
          ∙ ap (from_there (Some comma)) j.parts
          ∙ run_append step (Some comma) j.first j.rest
          ∙ ap (λ (o : Option State). from_there o j.rest) r.steps
          ∙ f.steps;
      whole = f.whole ∙ ap Some (append_assoc rdns (rdn ∷ []) (next ∷ others));
    }

-- each text of the grammar is read, with its name
pub text_read : (rdns : List Rdn) (text : List ℕ) → SpellsRdns rdns text → Finishes step start finished rdns text
text_read [] text s = record { last = start; steps = ap (from_there (Some start)) s; whole = refl }
text_read (rdn ∷ others) text s =
    let r = rdn_read [] Nothing rdn s.first (at_start []) s.is_first in
    let f = others_read [] rdn others r.due s.rest r.closed s.is_rest in
    record {
      last = f.last;
      steps = ap (from_there (Some start)) s.parts ∙ run_append step (Some start) s.first s.rest
          ∙ ap (λ (o : Option State). from_there o s.rest) r.steps ∙ f.steps;
      whole = f.whole;
    }
