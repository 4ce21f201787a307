-- Each step of the reader of an identifier's text keeps what is known of the text, and each place can be gone on
-- from.
use Rattle.std.proofs.Common.{Bool, eqb, nat_le, nat_lt, ◌≡◌, inl, inr, ℕ, zero, suc, ◌+◌, ◌-◌, ◌*◌, ◌/◌, ◌^◌, ◌<◌}
use Rattle.std.proofs.Common.{◌≤◌, true, false, if◌then◌else◌, Option, Some, None, List, [], ◌∷◌, ◌++◌, refl, sym, ap}
use Rattle.std.proofs.Common.{subst, ◌∙◌, append_assoc, arith, codes}
use Rattle.std.specs.Prelude.{◌&&◌, ◌||◌, not}
use Rattle.std.proofs.lemmas.Bool.{cases_Bool, eqb-true}
use Rattle.std.proofs.lemmas.Bool.Decides.{nat_tests}
use Rattle.std.proofs.lemmas.List.{append-nil}
use Rattle.uuid.specs.Text.{is_hex_digit, value_of}
use Rattle.ad_bytes.proofs.Machines.{none_ends}
use Rattle.ad_ids.specs.declared.sid.reading.State.{State}
use Rattle.ad_ids.specs.declared.sid.reading.Before.{Before}
use Rattle.ad_ids.specs.declared.sid.reading.Before.TheVariants.{Nothing, Letter, LetterHyphen, Revision, Front}
use Rattle.ad_ids.specs.declared.sid.reading.Before.TheVariants.{Decimal, Hex, Hyphen, Number}
use Rattle.ad_ids.specs.SidGrammar.{SpellsHex}
use Rattle.ad_ids.specs.SidSteps.{state, is_digit, hex_with, hex_step, step, step_from, from_there, start}
use Rattle.ad_ids.proofs.SidTextPlaces.{InHex, At, Now, some_state, passed, letter_of, digit_bounds, one_digit}
use Rattle.ad_ids.proofs.SidTextPlaces.{front_next, to_front, to_hyphen, decimal_kept, number_kept}

-- ---- hexadecimal

pub hex_small : (k n : ℕ) (ds : List ℕ) → SpellsHex k n ds → n < 16 ^ k
hex_small zero n ds s = omega (arith, s.0)
hex_small (suc k) n ds s =
    let less : n / 16 < 16 ^ k = hex_small k (n / 16) s.front s.before in
    omega (arith, less)

digit_small : (b : ℕ) → is_hex_digit b ≡ true → value_of b < 16
digit_small b e = grind (arith, nat_tests)

pub hex_longer : (k n b : ℕ) (ds : List ℕ) → SpellsHex k n ds → is_hex_digit b ≡ true
    → SpellsHex (k + 1) (n * 16 + value_of b) (ds ++ b ∷ [])
hex_longer k n b ds s e =
    let v : value_of b < 16 = digit_small b e in
    let sixteenth : n ≡ (n * 16 + value_of b) / 16 = omega arith in
    let next : suc k ≡ k + 1 = omega arith in
    subst (λ (i : ℕ). SpellsHex i (n * 16 + value_of b) (ds ++ b ∷ [])) next
    (record {
      front = ds;
      last = b;
      digit = e;
      remainder = omega arith;
      parts = refl;
      before
          = subst (λ (m : ℕ). SpellsHex k m ds) sixteenth s;
    })

pub still_large : (k n v : ℕ) → (4 ≤ k → 16 ^ (k - 4) ≤ n) → (eqb k 3 && eqb (n * 16 + v) 0) ≡ false → 4 ≤ k + 1
    → 16 ^ (k + 1 - 4) ≤ n * 16 + v
still_large k n v large some le = elim (cases_Bool (eqb k 3)) [
  | inl three ↦
      let is_three : k ≡ 3 = eqb-true k 3 three in
      let positive : eqb (n * 16 + v) 0 ≡ false = sym (ap (λ (c : Bool). c && eqb (n * 16 + v) 0) three) ∙ some in
      let one : 1 ≤ n * 16 + v = grind (arith, nat_tests) in
      subst (λ (i : ℕ). 16 ^ (i + 1 - 4) ≤ n * 16 + v) (sym is_three) one
  | inr other ↦
      let four : 4 ≤ k = grind (arith, nat_tests) in
      let power : 16 ^ (k - 4) ≤ n = large four in
      let more : suc (k - 4) ≡ k + 1 - 4 = omega arith in
      let whole : 16 ^ suc (k - 4) ≤ n * 16 + v = omega (arith, power) in
      subst (λ (i : ℕ). 16 ^ i ≤ n * 16 + v) more whole
]

-- a digit more
hex_digit_kept : (k : ℕ) (s t : State) (text : List ℕ) (b : ℕ) → InHex k s.authority s.done text → (k ≡ 12 → ⊥)
    → is_hex_digit b ≡ true → hex_with k s (s.authority * 16 + value_of b) ≡ Some t → Now t (text ++ b ∷ [])
hex_digit_kept k s t text b h not_all digit e = elim (cases_Bool (eqb k 3 && eqb n 0)) [
  | inl zeros ↦
      let none : None ≡ Some t = sym (ap (λ (c : Bool). if c then None
      else Some (state (Hex (k + 1)) n s.number s.done)) zeros) ∙ e in
      absurd cc
  | inr some ↦
      let same : state (Hex (k + 1)) n s.number s.done ≡ t
      = some_state _ t (sym (ap (λ (c : Bool). if c then None else Some (state (Hex (k + 1)) n s.number s.done))
      some) ∙ e) in
      subst (λ (q : State). Now q (text ++ b ∷ [])) same
      (record {
        front = h.front;
        is_front = h.is_front;
        digits = h.digits ++ b ∷ [];
        spelled = hex_longer k s.authority b h.digits h.spelled digit;
        few = few h.few;
        large = still_large k s.authority (value_of b) h.large some;
        none = h.none;
        parts = ap (λ (x : List ℕ). x ++ b ∷ []) h.parts ∙ append_assoc h.front (codes "0x" ++ h.digits) (b ∷ []);
      })
]
  where
    n : ℕ
    n = s.authority * 16 + value_of b

    few : k ≤ 12 → k + 1 ≤ 12
    few le = grind arith

abbrev fitting : ℕ → State → ℕ → Option State
fitting k s b = if nat_le (2 ^ 44) s.authority || nat_lt 12 k then None
    else hex_with k s (s.authority * 16 + value_of b)

abbrev others : ℕ → State → ℕ → Option State
others k s b = if not (is_hex_digit b) then None else fitting k s b

hex_kept : (k : ℕ) (s t : State) (text : List ℕ) (b : ℕ) → InHex k s.authority s.done text → hex_step k s b ≡ Some t
    → Now t (text ++ b ∷ [])
unfolding hex_step
hex_kept k s t text b h e = elim (cases_Bool (eqb k 12)) [
  | inl all ↦
      let twelve : k ≡ 12 = eqb-true k 12 all in
      let p = passed (eqb b 45) (state Hyphen s.authority s.number s.done) t
      (sym (ap (λ (c : Bool). if c then (if eqb b 45 then Some (state Hyphen s.authority s.number s.done)
      else None) else (others k s b)) all) ∙ e) in
      let spelled : SpellsHex 12 s.authority h.digits = subst (λ (i : ℕ). SpellsHex i s.authority h.digits) twelve
      h.spelled in
      let large : 2 ^ 32 ≤ s.authority = subst (λ (i : ℕ). 16 ^ (i - 4) ≤ s.authority) twelve
      (h.large (omega (arith, twelve))) in
      subst (λ (q : State). Now q (text ++ b ∷ [])) p.1
      (to_hyphen s.authority b (codes "0x" ++ h.digits) h.front s.done text h.is_front
      (inr (record { large = large; digits = h.digits; parts = refl; spelled = spelled }))
      (hex_small 12 s.authority h.digits spelled) h.none h.parts (eqb-true b 45 p.0))
  | inr fewer ↦
      let e2 : (others k s b) ≡ Some t = sym
      (ap (λ (c : Bool). if c then (if eqb b 45 then Some (state Hyphen s.authority s.number s.done) else None)
      else (others k s b)) fewer) ∙ e in
      elim (cases_Bool (is_hex_digit b)) [
        | inl digit ↦
            let e3 : (fitting k s b) ≡ Some t = sym (ap (λ (c : Bool). if not c then None else (fitting k s b)) digit)
            ∙ e2 in
            elim (cases_Bool (nat_le (2 ^ 44) s.authority || nat_lt 12 k)) [
              | inl over ↦
                  let none : None ≡ Some t
                  = sym (ap (λ (c : Bool). if c then None else hex_with k s (s.authority * 16 + value_of b)) over)
                  ∙ e3 in
                  absurd cc
              | inr within ↦ hex_digit_kept k s t text b h (grind (arith, nat_tests)) digit
                  (sym (ap (λ (c : Bool). if c then None else hex_with k s (s.authority * 16 + value_of b)) within)
                  ∙ e3)
            ]
        | inr no_digit ↦
            let none : None ≡ Some t = sym (ap (λ (c : Bool). if not c then None else (fitting k s b)) no_digit) ∙ e2 in
            absurd cc
      ]
]

-- ---- each step

kept_from : (before : Before) (s t : State) (text : List ℕ) (b : ℕ) → s.before ≡ before → At before s text
    → step_from before s b ≡ Some t → Now t (text ++ b ∷ [])
unfolding step_from
kept_from Nothing s t text b is h e =
    let p = passed (eqb b 83 || eqb b 115) (state Letter s.authority s.number s.done) t e in
    subst (λ (q : State). Now q (text ++ b ∷ [])) p.1
    (record { letter = b; is_s = letter_of b p.0; parts = ap (λ (x : List ℕ). x ++ b ∷ []) h.0; none = h.1 })
kept_from Letter s t text b is h e =
    let p = passed (eqb b 45) (state LetterHyphen s.authority s.number s.done) t e in
    subst (λ (q : State). Now q (text ++ b ∷ [])) p.1 (front_next [] 45 b s.done text h (eqb-true b 45 p.0))
kept_from LetterHyphen s t text b is h e =
    let p = passed (eqb b 49) (state Revision s.authority s.number s.done) t e in
    subst (λ (q : State). Now q (text ++ b ∷ [])) p.1 (front_next (codes "-") 49 b s.done text h (eqb-true b 49 p.0))
kept_from Revision s t text b is h e =
    let p = passed (eqb b 45) (state Front s.authority s.number s.done) t e in
    subst (λ (q : State). Now q (text ++ b ∷ [])) p.1 (front_next (codes "-1") 45 b s.done text h (eqb-true b 45 p.0))
kept_from Front s t text b is h e =
    let p = passed (is_digit b) (state Decimal s.authority (b - 48) s.done) t e in
    let d = digit_bounds b p.0 in
    subst (λ (q : State). Now q (text ++ b ∷ [])) p.1
    (record {
      front = text;
      is_front = to_front s.done text h;
      small = omega (arith, d.0, d.1);
      parts
          = ap (λ (x : List ℕ). text ++ x) (sym (one_digit b p.0));
      none = h.none;
    })
kept_from Decimal s t text b is h e = decimal_kept s t text b is h e
kept_from (Hex k) s t text b is h e = hex_kept k s t text b h e
kept_from Hyphen s t text b is h e =
    let p = passed (is_digit b) (state Number s.authority (b - 48) s.done) t e in
    let d = digit_bounds b p.0 in
    subst (λ (q : State). Now q (text ++ b ∷ [])) p.1
    (record {
      before = text;
      behind = h;
      small = omega (arith, d.0, d.1);
      parts = ap (λ (x : List ℕ). text ++ x)
          (sym (one_digit b p.0));
    })
kept_from Number s t text b is h e = number_kept s t text b is h e

step_kept : (b : ℕ) (bytes : List ℕ) (s t : State) (text : List ℕ) → Now s text
    → ((u : State) → Now u (text ++ b ∷ []) → from_there (Some u) bytes ≡ Some t → Now t ((text ++ b ∷ []) ++ bytes))
    → (o : Option State) → step s b ≡ o → from_there o bytes ≡ Some t → Now t (text ++ b ∷ bytes)
step_kept b bytes s t text h goes None is e = absurd (none_ends step bytes t e)
step_kept b bytes s t text h goes (Some u) is e = subst (λ (x : List ℕ). Now t x) (append_assoc text (b ∷ []) bytes)
    (goes u (kept_from s.before s u text b refl h is) e)

-- what is known holds after any steps
pub kept : (bytes : List ℕ) (s t : State) (text : List ℕ) → Now s text → from_there (Some s) bytes ≡ Some t
    → Now t (text ++ bytes)
kept [] s t text h e = subst (λ (x : List ℕ). Now t x) (sym (append-nil text))
    (subst (λ (q : State). Now q text) (some_state s t e) h)
kept (b ∷ bytes) s t text h e = step_kept b bytes s t text h (λ u now e2. kept bytes u t (text ++ b ∷ []) now e2)
    (step s b) refl e

-- what is known of a text that was read from its start
pub known : (text : List ℕ) (t : State) → from_there (Some start) text ≡ Some t → Now t text
known text t e = kept text start t [] (refl, refl) e
