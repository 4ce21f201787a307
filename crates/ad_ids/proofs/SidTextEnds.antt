-- A text that was read whole is an identifier's, and what was read of another can be gone on from.
use Rattle.std.proofs.Common.{Bool, eqb, nat_le, ◌≡◌, inl, inr, ℕ, zero, suc, ◌+◌, ◌-◌, ◌*◌, ◌^◌, ◌≤◌, false}
use Rattle.std.proofs.Common.{if◌then◌else◌, Option, Some, None, List, [], ◌∷◌, ◌++◌, length, unwrap_or, refl, sym}
use Rattle.std.proofs.Common.{ap, subst, ◌∙◌, append_assoc, arith, codes, decimal}
use Rattle.std.specs.Prelude.{◌&&◌, ◌||◌}
use Rattle.std.proofs.lemmas.Bool.{cases_Bool}
use Rattle.std.proofs.lemmas.Bool.Decides.{nat_tests}
use Rattle.std.proofs.lemmas.List.{append-nil, length-append}
use Rattle.ad_bytes.proofs.Machines.{IsMachineOf}
use Rattle.ad_ids.specs.declared.sid.reading.State.{State}
use Rattle.ad_ids.specs.declared.sid.reading.Before.{Before}
use Rattle.ad_ids.specs.declared.sid.reading.Before.TheVariants.{Nothing, Letter, LetterHyphen, Revision, Front}
use Rattle.ad_ids.specs.declared.sid.reading.Before.TheVariants.{Decimal, Hex, Hyphen, Number}
use Rattle.ad_ids.specs.SidValue.{SidValue}
use Rattle.ad_ids.specs.SidText.{others_text}
use Rattle.ad_ids.specs.SidGrammar.{SpellsHex, SpellsSidText, Begins}
use Rattle.ad_ids.specs.SidSteps.{step, from_there, start, finished, finished_from}
use Rattle.ad_ids.proofs.SidTextPlaces.{InFront, InDecimal, InHex, InHyphen, InNumber, At, front_next, to_front}
use Rattle.ad_ids.proofs.SidTextPlaces.{to_hyphen, regrouped, one_more, all_more}
use Rattle.std.proofs.lemmas.Fmt.{decimal_digit}
use Rattle.ad_ids.proofs.SidTextReading.{and_false, text_read}
use Rattle.ad_ids.proofs.SidTextSteps.{hex_small, hex_longer, still_large, known}

abbrev sid : ℕ → List ℕ → SidValue
sid authority others = record { authority = authority; sub_authorities = others }

number_spells : (authority number : ℕ) (done text : List ℕ) → InNumber authority number done text
    → SpellsSidText (sid authority (done ++ number ∷ [])) text
number_spells authority number done text h =
    let k = h.behind in
    let longer : length (done ++ number ∷ []) ≡ length done + 1 = length-append done (number ∷ []) in
    let room : length done ≤ 14 = k.room in
    record {
      is_sid = record {
        authority = k.small;
        at_least_one = omega (arith, longer);
        at_most_15
            = omega (arith, longer, room);
        sub_authorities = all_more done number k.fit h.small;
      };
      front = k.front;
      is_front = k.is_front;
      authority = k.spelling;
      spelled = k.spelled;
      parts =
          h.parts ∙ ap (λ (x : List ℕ). x ++ decimal number) k.parts
          ∙ regrouped k.front k.spelling (others_text done) (decimal number)
          ∙ ap (λ (x : List ℕ). k.front ++ (k.spelling ++ x)) (sym (one_more done number))
          ∙ sym (append_assoc k.front k.spelling (others_text (done ++ number ∷ [])));
    }

spells_from : (before : Before) (s : State) (text : List ℕ) (v : SidValue) → At before s text → finished_from before s
    ≡ Some v → SpellsSidText v text
spells_from Number s text v h e = elim (cases_Bool (nat_le (2 ^ 48) s.authority || nat_le 15 (length s.done))) [
  | inl over ↦
      let none : None ≡ Some v = sym (ap (λ (c : Bool). if c then None
      else Some (sid s.authority (s.done ++ s.number ∷ []))) over) ∙ e in
      absurd cc
  | inr within ↦
      let same : sid s.authority (s.done ++ s.number ∷ []) ≡ v
      = some_one _ v (sym (ap (λ (c : Bool). if c then None else Some (sid s.authority (s.done ++ s.number ∷ [])))
      within) ∙ e) in
      subst (λ (w : SidValue). SpellsSidText w text) same (number_spells s.authority s.number s.done text h)
]
  where
    some_one : (a b : SidValue) → Some a ≡ Some b → a ≡ b
    some_one a b q = ap (λ (o : Option SidValue). unwrap_or o a) q
spells_from _ s text v h e = absurd cc

-- what the reader finishes with is encoded by the text
pub finished_spells : (s : State) (text : List ℕ) (v : SidValue) → from_there (Some start) text ≡ Some s → finished s
    ≡ Some v → SpellsSidText v text
finished_spells s text v e whole = spells_from s.before s text v (known text s e) whole

-- ---- going on

back : (b : ℕ) (text : List ℕ) → Begins (text ++ b ∷ []) → Begins text
back b text h = record {
  value = h.value;
  rest = b ∷ h.rest;
  spelled = subst (SpellsSidText h.value)
      (append_assoc text (b ∷ []) h.rest) h.spelled;
}

from_number : (authority number : ℕ) (done text : List ℕ) → InNumber authority number done text → Begins text
from_number authority number done text h = record {
  value = sid authority (done ++ number ∷ []);
  rest = [];
  spelled
      = subst (SpellsSidText (sid authority (done ++ number ∷ []))) (sym (append-nil text))
      (number_spells authority number done text h);
}

from_hyphen : (authority : ℕ) (done text : List ℕ) → InHyphen authority done text → Begins text
from_hyphen authority done text h = back 48 text
    (from_number authority 0 done (text ++ 48 ∷ [])
    (record {
      before = text;
      behind = h;
      small = omega arith;
      parts = ap (λ (x : List ℕ). text ++ x)
          (sym (decimal_digit 0 (omega arith)));
    }))

from_decimal : (number : ℕ) (done text : List ℕ) → InDecimal number done text → Begins text
from_decimal number done text h = back 45 text
    (from_hyphen number done (text ++ 45 ∷ [])
    (to_hyphen number 45 (decimal number) h.front done text h.is_front (inl (h.small, refl)) (omega (arith, h.small))
    h.none h.parts refl))

from_hex : (j k authority : ℕ) (done text : List ℕ) → k + j ≡ 12 → InHex k authority done text → Begins text
from_hex zero k authority done text all h =
    let twelve : k ≡ 12 = omega (arith, all) in
    let spelled : SpellsHex 12 authority h.digits = subst (λ (i : ℕ). SpellsHex i authority h.digits) twelve h.spelled
    in
    let large : 2 ^ 32 ≤ authority = subst (λ (i : ℕ). 16 ^ (i - 4) ≤ authority) twelve
    (h.large (omega (arith, twelve))) in
    back 45 text (from_hyphen authority done (text ++ 45 ∷ [])
    (to_hyphen authority 45 (codes "0x" ++ h.digits) h.front done text h.is_front
    (inr (record { large = large; digits = h.digits; parts = refl; spelled = spelled }))
    (hex_small 12 authority h.digits spelled) h.none h.parts refl))
from_hex (suc j) k authority done text all h =
    let positive : eqb (authority * 16 + 1) 0 ≡ false = grind (arith, nat_tests) in
    let some : (eqb k 3 && eqb (authority * 16 + 1) 0) ≡ false = ap (λ (c : Bool). eqb k 3 && c) positive
    ∙ and_false (eqb k 3) in
    back 49 text (from_hex j (k + 1) (authority * 16 + 1) done (text ++ 49 ∷ []) (omega (arith, all)) (record {
      front = h.front;
      is_front = h.is_front;
      digits = h.digits ++ 49 ∷ [];
      spelled = hex_longer k authority 49 h.digits h.spelled refl;
      few = omega (arith, all);
      large = still_large k authority 1 h.large some;
      none = h.none;
      parts = ap (λ (x : List ℕ). x ++ 49 ∷ []) h.parts ∙ append_assoc h.front (codes "0x" ++ h.digits) (49 ∷ []);
    }))

from_front : (done text : List ℕ) → InFront (codes "-1-") done text → Begins text
from_front done text h = back 48 text (from_decimal 0 done (text ++ 48 ∷ [])
    (record {
      front = text;
      is_front = to_front done text h;
      small = omega arith;
      parts
          = ap (λ (x : List ℕ). text ++ x) (sym (decimal_digit 0 (omega arith)));
      none = h.none;
    }))

from_revision : (done text : List ℕ) → InFront (codes "-1") done text → Begins text
from_revision done text h = back 45 text (from_front done (text ++ 45 ∷ [])
    (front_next (codes "-1") 45 45 done text h refl))

from_letter_hyphen : (done text : List ℕ) → InFront (codes "-") done text → Begins text
from_letter_hyphen done text h = back 49 text
    (from_revision done (text ++ 49 ∷ []) (front_next (codes "-") 49 49 done text h refl))

from_letter : (done text : List ℕ) → InFront [] done text → Begins text
from_letter done text h = back 45 text (from_letter_hyphen done (text ++ 45 ∷ [])
    (front_next [] 45 45 done text h refl))

begins_from : (before : Before) (s : State) (text : List ℕ) → At before s text → Begins text
begins_from Nothing s text h = back 83 text
    (from_letter s.done (text ++ 83 ∷ [])
    (record { letter = 83; is_s = inl refl; parts = ap (λ (x : List ℕ). x ++ 83 ∷ []) h.0; none = h.1 }))
begins_from Letter s text h = from_letter s.done text h
begins_from LetterHyphen s text h = from_letter_hyphen s.done text h
begins_from Revision s text h = from_revision s.done text h
begins_from Front s text h = from_front s.done text h
begins_from Decimal s text h = from_decimal s.number s.done text h
begins_from (Hex k) s text h =
    let few : k ≤ 12 = h.few in
    from_hex (12 - k) k s.authority s.done text (omega arith) h
begins_from Hyphen s text h = from_hyphen s.authority s.done text h
begins_from Number s text h = from_number s.authority s.number s.done text h

-- what the reader has read begins an identifier's text
pub read_begins : (s : State) (text : List ℕ) → from_there (Some start) text ≡ Some s → Begins text
read_begins s text e = begins_from s.before s text (known text s e)

-- the machine reads the grammar
pub text_machine : IsMachineOf SpellsSidText step start finished
text_machine = record {
  found = finished_spells;
  read = text_read;
  begins = read_begins;
}
