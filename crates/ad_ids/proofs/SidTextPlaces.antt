-- What was read of an identifier's text, by the state of its reader.
use Rattle.std.proofs.Common.{Bool, eqb, nat_le, nat_lt, ◌≡◌, ◌⊎◌, inl, inr, ℕ, ◌+◌, ◌-◌, ◌*◌, ◌/◌, ◌%◌, ◌^◌, ◌<◌}
use Rattle.std.proofs.Common.{◌≤◌, true, false, if◌then◌else◌, Option, Some, None, unwrap_or, List, [], ◌∷◌, ◌++◌}
use Rattle.std.proofs.Common.{length, refl, sym, ap, subst, ◌∙◌, append_assoc, arith, codes, decimal}
use Rattle.std.specs.Prelude.{◌&&◌, ◌||◌, not}
use Rattle.std.specs.List.{AllByRecursion}
use Rattle.std.proofs.lemmas.Bool.{cases_Bool, eqb-true, ltb-true}
use Rattle.std.proofs.lemmas.Bool.Decides.{nat_tests}
use Rattle.std.proofs.lemmas.List.{append-nil, length-append}
use Rattle.std.proofs.lemmas.List.Concat.{flat_map-append}
use Rattle.std.proofs.lemmas.Fmt.{decimal_digit, decimal_step}
use Rattle.ad_bytes.proofs.Steps.{both_true}
use Rattle.ad_ids.specs.declared.sid.reading.State.{State}
use Rattle.ad_ids.specs.declared.sid.reading.Before.{Before}
use Rattle.ad_ids.specs.declared.sid.reading.Before.TheVariants.{Nothing, Letter, LetterHyphen, Revision, Front}
use Rattle.ad_ids.specs.declared.sid.reading.Before.TheVariants.{Decimal, Hex, Hyphen, Number}
use Rattle.ad_ids.specs.SidText.{others_text}
use Rattle.ad_ids.specs.SidGrammar.{IsFront, SpellsHex, SpellsAuthority}
use Rattle.ad_ids.specs.SidSteps.{state, is_digit, more_digits, with_number, decimal_step as decimal_next, number_step}

-- ---- what stands first, by the state

-- a letter and these, and nothing was done
pub record InFront (rest : List ℕ) (done text : List ℕ) : Type 0 where
  pub letter : ℕ
  pub is_s : (letter ≡ 83) ⊎ (letter ≡ 115)
  pub parts : text ≡ letter ∷ rest
  pub none : done ≡ []

pub record InDecimal (number : ℕ) (done text : List ℕ) : Type 0 where
  pub front : List ℕ
  pub is_front : IsFront front
  pub small : number < 2 ^ 32
  pub parts : text ≡ front ++ decimal number
  pub none : done ≡ []

pub record InHex (k authority : ℕ) (done text : List ℕ) : Type 0 where
  pub front : List ℕ
  pub is_front : IsFront front
  pub digits : List ℕ
  pub spelled : SpellsHex k authority digits
  pub few : k ≤ 12
  pub large : 4 ≤ k → 16 ^ (k - 4) ≤ authority
  pub parts : text ≡ front ++ (codes "0x" ++ digits)
  pub none : done ≡ []

pub record InHyphen (authority : ℕ) (done text : List ℕ) : Type 0 where
  pub front : List ℕ
  pub is_front : IsFront front
  pub spelling : List ℕ
  pub spelled : SpellsAuthority authority spelling
  pub small : authority < 2 ^ 48
  pub fit : AllByRecursion (λ n. n < 2 ^ 32) done
  pub room : length done ≤ 14
  pub parts : text ≡ (front ++ (spelling ++ others_text done)) ++ 45 ∷ []

pub record InNumber (authority number : ℕ) (done text : List ℕ) : Type 0 where
  pub before : List ℕ
  pub behind : InHyphen authority done before
  pub small : number < 2 ^ 32
  pub parts : text ≡ before ++ decimal number

abbrev pub At : Before → State → List ℕ → Type 0
At Nothing s text = (text ≡ []) × (s.done ≡ [])
At Letter s text = InFront [] s.done text
At LetterHyphen s text = InFront (codes "-") s.done text
At Revision s text = InFront (codes "-1") s.done text
At Front s text = InFront (codes "-1-") s.done text
At Decimal s text = InDecimal s.number s.done text
At (Hex k) s text = InHex k s.authority s.done text
At Hyphen s text = InHyphen s.authority s.done text
At Number s text = InNumber s.authority s.number s.done text

abbrev pub Now : State → List ℕ → Type 0
Now s text = At s.before s text

-- ---- one step

pub some_state : (a b : State) → Some a ≡ Some b → a ≡ b
some_state a b e = ap (λ (o : Option State). unwrap_or o a) e

-- a step that has a test
pub passed : (t : Bool) (x s : State) → (if t then Some x else None) ≡ Some s → (t ≡ true) × (x ≡ s)
passed true x s e = (refl, some_state x s e)
passed false x s e = absurd cc

pub letter_of : (b : ℕ) → (eqb b 83 || eqb b 115) ≡ true → (b ≡ 83) ⊎ (b ≡ 115)
letter_of b e = elim (cases_Bool (eqb b 83)) [
  | inl a ↦ inl (eqb-true b 83 a)
  | inr a
      ↦ inr (eqb-true b 115 (subst (λ (t : Bool). (t || eqb b 115) ≡ true) a e))
]

pub digit_bounds : (b : ℕ) → is_digit b ≡ true → (48 ≤ b) × (b ≤ 57)
digit_bounds b e = (grind (arith, nat_tests), grind (arith, nat_tests))

-- one digit is its number's text
pub one_digit : (b : ℕ) → is_digit b ≡ true → decimal (b - 48) ≡ b ∷ []
one_digit b e =
    let d = digit_bounds b e in
    decimal_digit (b - 48) (omega (arith, d.0, d.1)) ∙ ap (λ (x : ℕ). x ∷ []) (omega (arith, d.0))

-- a number with one more digit
record More (s t : State) (b : ℕ) : Type 0 where
  number : ℕ
  same : state s.before s.authority number s.done ≡ t
  small : number < 2 ^ 32
  text : decimal number ≡ decimal s.number ++ b ∷ []

longer : (n b : ℕ) → is_digit b ≡ true → 0 < n → n * 10 + (b - 48) < 2 ^ 32 → decimal (n * 10 + (b - 48)) ≡ decimal n
    ++ b ∷ []
longer n b e some small =
    let d = digit_bounds b e in
    let m = n * 10 + (b - 48) in
    let tens : m / 10 ≡ n = omega (arith, d.0, d.1) in
    let ones : 48 + m % 10 ≡ b = omega (arith, d.0, d.1) in
    decimal_step m (omega arith) (omega arith) ∙ ap (λ (x : ℕ). decimal x ++ (48 + m % 10) ∷ []) tens
    ∙ ap (λ (x : ℕ). decimal n ++ x ∷ []) ones

number_more : (s t : State) (b : ℕ) → with_number s (more_digits s.number b) ≡ Some t → More s t b
number_more s t b e = elim (cases_Bool test) [
  | inl good ↦
      let outer = both_true (is_digit b && nat_lt 0 s.number) (nat_lt m (2 ^ 32)) good in
      let inner = both_true (is_digit b) (nat_lt 0 s.number) outer.0 in
      let small : m < 2 ^ 32 = ltb-true m (2 ^ 32) outer.1 in
      let some : 0 < s.number = ltb-true 0 s.number inner.1 in
      record {
        number = m;
        same = some_state _ t (sym (ap (λ (c : Bool). with_number s (if c then Some m else None)) good) ∙ e);
        small = small;
        text = longer s.number b inner.0 some small;
      }
  | inr bad ↦
      let none : None ≡ Some t = sym (ap (λ (c : Bool). with_number s (if c then Some m else None)) bad) ∙ e in
      absurd cc
]
  where
    m : ℕ
    m = s.number * 10 + (b - 48)

    test : Bool
    test = (is_digit b && nat_lt 0 s.number) && nat_lt (s.number * 10 + (b - 48)) (2 ^ 32)

-- the next of the fixed characters
pub front_next : (rest : List ℕ) (c b : ℕ) (done text : List ℕ) → InFront rest done text → b ≡ c
    → InFront (rest ++ c ∷ []) done (text ++ b ∷ [])
front_next rest c b done text h e = record {
  letter = h.letter;
  is_s = h.is_s;
  parts = ap (λ (t : List ℕ). t ++ b ∷ []) h.parts
      ∙ ap (λ (x : ℕ). h.letter ∷ rest ++ x ∷ []) e;
  none = h.none;
}

pub to_front : (done text : List ℕ) → InFront (codes "-1-") done text → IsFront text
to_front done text h = record { letter = h.letter; is_s = h.is_s; parts = h.parts }

none_text : (done : List ℕ) (x : List ℕ) → done ≡ [] → x ++ others_text done ≡ x
none_text done x e = ap (λ (d : List ℕ). x ++ others_text d) e ∙ append-nil x

-- the hyphen after an authority
pub to_hyphen : (n b : ℕ) (spelling front done text : List ℕ) → IsFront front → SpellsAuthority n spelling → n
    < 2 ^ 48 → done ≡ [] → text ≡ front ++ spelling → b ≡ 45 → InHyphen n done (text ++ b ∷ [])
to_hyphen n b spelling front done text f s small none parts e = record {
  front = front;
  is_front = f;
  spelling = spelling;
  spelled = s;
  small = small;
  fit = subst (λ (d : List ℕ). AllByRecursion (λ n. n < 2 ^ 32) d) (sym none) tt;
  room = subst (λ (d : List ℕ). length d ≤ 14) (sym none) (omega arith);
  parts = ap (λ (t : List ℕ). t ++ b ∷ [])
      (parts ∙ ap (λ (x : List ℕ). front ++ x) (sym (none_text done spelling none)))
      ∙ ap (λ (x : ℕ). (front ++ (spelling ++ others_text done)) ++ x ∷ []) e;
}

pub decimal_kept : (s t : State) (text : List ℕ) (b : ℕ) → s.before ≡ Decimal → InDecimal s.number s.done text
    → decimal_next s b ≡ Some t → Now t (text ++ b ∷ [])
decimal_kept s t text b is h e = elim (cases_Bool (eqb b 45)) [
  | inl hyphen ↦
      let same : state Hyphen s.number s.number s.done ≡ t
      = some_state _ t (sym (ap (λ (c : Bool). if c then Some (state Hyphen s.number s.number s.done)
      else (if eqb b 120 && eqb s.number 0 then Some (state (Hex 0) 0 s.number s.done)
      else with_number s (more_digits s.number b))) hyphen) ∙ e) in
      subst (λ (q : State). Now q (text ++ b ∷ [])) same
      (to_hyphen s.number b (decimal s.number) h.front s.done text h.is_front (inl (h.small, refl))
      (omega (arith, h.small)) h.none h.parts (eqb-true b 45 hyphen))
  | inr other ↦
      let e2 : (if eqb b 120 && eqb s.number 0 then Some (state (Hex 0) 0 s.number s.done)
      else with_number s (more_digits s.number b)) ≡ Some t
      = sym (ap (λ (c : Bool). if c then Some (state Hyphen s.number s.number s.done)
      else (if eqb b 120 && eqb s.number 0 then Some (state (Hex 0) 0 s.number s.done)
      else with_number s (more_digits s.number b))) other) ∙ e in
      elim (cases_Bool (eqb b 120 && eqb s.number 0)) [
        | inl hex ↦
            let both = both_true (eqb b 120) (eqb s.number 0) hex in
            let zeros : s.number ≡ 0 = eqb-true s.number 0 both.1 in
            let same : state (Hex 0) 0 s.number s.done ≡ t
            = some_state _ t (sym (ap (λ (c : Bool). if c then Some (state (Hex 0) 0 s.number s.done)
            else with_number s (more_digits s.number b)) hex) ∙ e2) in
            subst (λ (q : State). Now q (text ++ b ∷ [])) same
            (record {
              front = h.front;
              is_front = h.is_front;
              digits = [];
              spelled = (refl, refl);
              few = omega arith;
              large = λ le. absurd (omega (arith, le));
              none = h.none;
              parts = ap (λ (x : List ℕ). x ++ b ∷ []) (h.parts ∙ ap (λ (n : ℕ). h.front ++ decimal n) zeros
                  ∙ ap (λ (x : List ℕ). h.front ++ x) (decimal_digit 0 (omega arith)))
                  ∙ append_assoc h.front (48 ∷ []) (b ∷ []) ∙ ap (λ (x : ℕ). h.front ++ 48 ∷ x ∷ [])
                  (eqb-true b 120 both.0);
            })
        | inr digit ↦
            let m = number_more s t b (sym
            (ap (λ (c : Bool). if c then Some (state (Hex 0) 0 s.number s.done)
            else with_number s (more_digits s.number b)) digit) ∙ e2) in
            let in_decimal : InDecimal m.number s.done (text ++ b ∷ [])
            = record {
              front = h.front;
              is_front = h.is_front;
              small = m.small;
              none = h.none;
              parts
                  = ap (λ (x : List ℕ). x ++ b ∷ []) h.parts ∙ append_assoc h.front (decimal s.number) (b ∷ [])
                  ∙ ap (λ (x : List ℕ). h.front ++ x) (sym m.text);
            } in
            subst (λ (q : State). Now q (text ++ b ∷ [])) m.same
            (subst (λ (w : Before). At w (state w s.authority m.number s.done) (text ++ b ∷ [])) (sym is)
            in_decimal)
      ]
]

-- the pieces in another grouping
pub regrouped : (f a o d : List ℕ) → ((f ++ (a ++ o)) ++ 45 ∷ []) ++ d ≡ f ++ (a ++ (o ++ 45 ∷ d))
regrouped f a o d = append_assoc (f ++ (a ++ o)) (45 ∷ []) d ∙ append_assoc f (a ++ o) (45 ∷ d)
    ∙ ap (λ (x : List ℕ). f ++ x) (append_assoc a o (45 ∷ d))

pub one_more : (done : List ℕ) (n : ℕ) → others_text (done ++ n ∷ []) ≡ others_text done ++ 45 ∷ decimal n
one_more done n = flat_map-append (λ n. codes "-" ++ decimal n) done (n ∷ [])
    ∙ ap (λ (x : List ℕ). others_text done ++ 45 ∷ x) (append-nil (decimal n))

pub all_more : (done : List ℕ) (n : ℕ) → AllByRecursion (λ n. n < 2 ^ 32) done → n < 2 ^ 32
    → AllByRecursion (λ n. n < 2 ^ 32) (done ++ n ∷ [])
all_more [] n all small = (small, tt)
all_more (x ∷ xs) n all small = (all.0, all_more xs n all.1 small)

pub number_kept : (s t : State) (text : List ℕ) (b : ℕ) → s.before ≡ Number → InNumber s.authority s.number s.done
    text → number_step s b ≡ Some t → Now t (text ++ b ∷ [])
number_kept s t text b is h e = elim (cases_Bool (eqb b 45)) [
  | inl hyphen ↦
      let e2 : (if nat_le 14 (length s.done) then None
      else Some (state Hyphen s.authority s.number (s.done ++ s.number ∷ []))) ≡ Some t
      = sym (ap (λ (c : Bool). if not c then with_number s (more_digits s.number b)
      else (if nat_le 14 (length s.done) then None
      else Some (state Hyphen s.authority s.number (s.done ++ s.number ∷ [])))) hyphen) ∙ e in
      elim (cases_Bool (nat_le 14 (length s.done))) [
        | inl full ↦
            let none : None ≡ Some t = sym
            (ap (λ (c : Bool). if c then None
            else Some (state Hyphen s.authority s.number (s.done ++ s.number ∷ []))) full) ∙ e2 in
            absurd cc
        | inr space ↦
            let same : state Hyphen s.authority s.number (s.done ++ s.number ∷ []) ≡ t
            = some_state _ t (sym (ap
            (λ (c : Bool). if c then None else Some (state Hyphen s.authority s.number (s.done ++ s.number ∷ [])))
            space) ∙ e2) in
            let k = h.behind in
            let shorter : length s.done < 14 = grind (arith, nat_tests) in
            subst (λ (q : State). Now q (text ++ b ∷ [])) same
            (record {
              front = k.front;
              is_front = k.is_front;
              spelling = k.spelling;
              spelled = k.spelled;
              small = k.small;
              fit = all_more s.done s.number k.fit h.small;
              room = omega (arith, length-append s.done (s.number ∷ []));
              parts = ap (λ (x : List ℕ). x ++ b ∷ []) (h.parts ∙ ap (λ (x : List ℕ). x ++ decimal s.number) k.parts
                  ∙ regrouped k.front k.spelling (others_text s.done) (decimal s.number)
                  ∙ ap (λ (x : List ℕ). k.front ++ (k.spelling ++ x)) (sym (one_more s.done s.number)))
                  ∙ ap (λ (x : ℕ). (k.front ++ (k.spelling ++ others_text (s.done ++ s.number ∷ []))) ++ x ∷ [])
                  (eqb-true b 45 hyphen);
            })
      ]
  | inr other ↦
      let m = number_more s t b (sym (ap (λ (c : Bool). if not c then with_number s (more_digits s.number b)
      else (if nat_le 14 (length s.done) then None
      else Some (state Hyphen s.authority s.number (s.done ++ s.number ∷ [])))) other) ∙ e) in
      let in_number : InNumber s.authority m.number s.done (text ++ b ∷ [])
      = record {
        before = h.before;
        behind = h.behind;
        small = m.small;
        parts = ap (λ (x : List ℕ). x ++ b ∷ [])
            h.parts ∙ append_assoc h.before (decimal s.number) (b ∷ []) ∙ ap (λ (x : List ℕ). h.before ++ x)
            (sym m.text);
      } in
      subst (λ (q : State). Now q (text ++ b ∷ [])) m.same
      (subst (λ (w : Before). At w (state w s.authority m.number s.done) (text ++ b ∷ [])) (sym is) in_number)
]
