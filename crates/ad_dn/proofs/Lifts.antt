-- Each step of the reader keeps its state well, and what the rest gives after it is given before it.
use Rattle.std.proofs.Common.{Bool, eqb, ◌≡◌, inl, inr, ℕ, suc, ◌+◌, ◌-◌, ◌*◌, ◌<◌, ◌≤◌, true, if◌then◌else◌, Option}
use Rattle.std.proofs.Common.{Some, None, List, [], ◌∷◌, ◌++◌, length, refl, sym, ap, subst, ◌∙◌, append_assoc, arith}
use Rattle.std.specs.Prelude.{◌&&◌, ◌||◌}
use Rattle.std.specs.List.{list_all}
use Rattle.std.specs.Char.{to_ascii_uppercase}
use Rattle.std.specs.Str.{str_to_ascii_uppercase}
use Rattle.std.proofs.lemmas.Bool.{cases_lt, eqb-true}
use Rattle.std.proofs.lemmas.List.{append-nil, length-append}
use Rattle.std.proofs.lemmas.Option.{same_Some}
use Rattle.ad_dn.specs.declared.rdn.Rdn.{Rdn}
use Rattle.ad_dn.specs.declared.utf8_state.Utf8State.{Utf8State}
use Rattle.ad_dn.specs.declared.steps.State.{State}
use Rattle.ad_dn.specs.declared.steps.ParserPhase.{ParserPhase}
use Rattle.ad_dn.specs.declared.steps.ParserPhase.TheVariants.{Nothing, Comma, Kind, KindEnd, Equals, Value, Mark}
use Rattle.ad_dn.specs.declared.steps.ParserPhase.TheVariants.{Digit}
use Rattle.ad_dn.specs.AttributeType.{is_letter, is_type_byte}
use Rattle.ad_dn.specs.Utf8State.{size, due_after}
use Rattle.uuid.specs.Text.{is_hex_digit, value_of}
use Rattle.ad_dn.specs.Steps.{moved, with_letter, with_byte, may_stand, byte_taken, byte_step, first_step, comma_step}
use Rattle.ad_dn.specs.Steps.{kind_end_step, kind_step}
use Rattle.ad_dn.proofs.Told.{if_some, if_either}
use Rattle.ad_dn.proofs.Utf8.{at_first, at_later}
use Rattle.ad_dn.proofs.Follow.{IsDue, due_kept, began, went_on, nothing_is_due}
use Rattle.ad_dn.proofs.NameRuns.{fresh}
use Rattle.ad_dn.proofs.Gives.{Gives, GivesComma, GivesKind, GivesKindEnd, GivesEquals, letter_gives, letter_name}

-- ---- well-formed states

-- within a value
pub record Held (s : State) : Type 0 where
  pub is_due : IsDue s.due
  pub kept_within : s.kept ≤ length s.value
  pub room : s.kept + s.due.more ≤ 1024
  pub open_kept : 0 < s.due.more → s.kept ≡ length s.value

pub record InMark (s : State) : Type 0 where
  pub is : s.phase ≡ Mark
  pub held : Held s
  pub space : s.due.more ≡ 0 → length s.value ≤ 1023

pub record InDigit (high : ℕ) (s : State) : Type 0 where
  pub is : s.phase ≡ Digit high
  pub held : Held s
  pub hex : is_hex_digit high ≡ true
  pub may : (may_stand s (16 * value_of high) || may_stand s (16 * value_of high + 15)) ≡ true

abbrev pub Well : ParserPhase → State → Type 0
Well Nothing s = s ≡ fresh Nothing s.rdns []
Well Comma s = s ≡ fresh Comma s.rdns []
Well Kind s = s ≡ fresh Kind s.rdns s.kind
Well KindEnd s = s ≡ fresh KindEnd s.rdns s.kind
Well Equals s = s ≡ fresh Equals s.rdns s.kind
Well Value s = (s.phase ≡ Value) × Held s
Well Mark s = InMark s
Well (Digit high) s = InDigit high s

pub held_fresh : (phase : ParserPhase) (rdns : List Rdn) (kind : List ℕ) → Held (fresh phase rdns kind)
held_fresh phase rdns kind = record {
  is_due = nothing_is_due;
  kept_within = omega arith;
  room
      = omega arith;
  open_kept = λ some. absurd (omega (arith, some));
}

-- what a byte that was taken tells
pub record ByteTaken (s : State) (b : ℕ) (u : State) : Type 0 where
  pub due : Utf8State
  pub is : due_after (length s.value) s.due b ≡ Some due
  pub same : with_byte s b due ≡ u

pub byte_tells : (s : State) (b : ℕ) (u : State) → byte_step s b ≡ Some u → ByteTaken s b u
byte_tells s b u e = by (due_after (length s.value) s.due b) refl e
  where
    by : (o : Option Utf8State) → due_after (length s.value) s.due b ≡ o → byte_taken s b o ≡ Some u → ByteTaken s b u
    by None is e2 = absurd cc
    by (Some d) is e2 = record { due = d; is = is; same = same_Some (with_byte s b d) u e2 }

pub held_byte : (s : State) (b : ℕ) (d : Utf8State) → Held s → due_after (length s.value) s.due b ≡ Some d
    → Held (with_byte s b d)
held_byte s b d h is =
    let longer : length (s.value ++ b ∷ []) ≡ length s.value + 1 = length-append s.value (b ∷ []) in
    record {
      is_due = due_kept (length s.value) b s.due d h.is_due is;
      kept_within = omega arith;
      room = elim (cases_lt 0 s.due.more) [
        | inr over ↦
            let p = began (length s.value) b d (sym (at_first (length s.value) b s.due (omega arith)) ∙ is) in
            let more : size b - 1 ≡ d.more = ap (λ (x : Utf8State). x.more) p.same in
            let room : length s.value + size b ≤ 1024 = p.room in
            let some : 1 ≤ size b = p.some in
            omega (arith, longer, more)
        | inl some ↦
            let p = went_on s.due d b (sym (at_later (length s.value) b s.due some) ∙ is) in
            let more : s.due.more - 1 ≡ d.more = ap (λ (x : Utf8State). x.more) p.2 in
            let whole : s.kept ≡ length s.value = h.open_kept some in
            let room : s.kept + s.due.more ≤ 1024 = h.room in
            omega (arith, longer, more)
      ];
      open_kept = λ _. refl;
    }

-- ---- lifts

pub record Lifted (phase : ParserPhase) (s u : State) (b : ℕ) : Type 0 where
  pub to : ParserPhase
  pub is : u.phase ≡ to
  pub well : Well to u
  pub gives : (all : List Rdn) (text : List ℕ) → Gives to u all text → Gives phase s all (b ∷ text)

abbrev pub Lift : ParserPhase → State → ℕ → State → Type 0
Lift phase s b u = Lifted phase s u b

-- before a type

letter_well : (phase : ParserPhase) (s : State) (b : ℕ) → s ≡ fresh phase s.rdns [] → Well Kind (with_letter s b)
letter_well phase s b w =
    ap (λ (q : State). with_letter q b) w
    ∙ ap (λ (k : List ℕ). fresh Kind s.rdns (k ++ to_ascii_uppercase b ∷ [])) (sym (ap (λ (q : State). q.kind) w))

letter_comma : (phase : ParserPhase) (s : State) (b : ℕ) → s ≡ fresh phase s.rdns [] → is_letter b ≡ true
    → (all : List Rdn) (text : List ℕ) → Gives Kind (with_letter s b) all text → GivesComma s.rdns all (b ∷ text)
letter_comma phase s b w is all text g =
    letter_gives s.rdns b all text is (subst
    (λ (k : List ℕ). GivesKind s.rdns (k ++ to_ascii_uppercase b ∷ []) all text) (ap (λ (q : State). q.kind) w) g)

pub first_lift : (s u : State) (b : ℕ) → Well Nothing s → first_step s b ≡ Some u → Lifted Nothing s u b
first_lift s u b w e =
    let p = if_some (is_letter b) (Some (with_letter s b)) u e in
    subst (Lift Nothing s b) (same_Some (with_letter s b) u p.1)
    (record {
      to = Kind;
      is = refl;
      well = letter_well Nothing s b w;
      gives = λ all text g. letter_name s.rdns b all text p.0
          (subst (λ (k : List ℕ). GivesKind s.rdns (k ++ to_ascii_uppercase b ∷ []) all text)
          (ap (λ (q : State). q.kind) w) g);
    })

pub comma_lift : (s u : State) (b : ℕ) → Well Comma s → comma_step s b ≡ Some u → Lifted Comma s u b
comma_lift s u b w e = elim (if_either (eqb b 32) (Some s) (first_step s b) u e) [
  | inl blank ↦
      subst (Lift Comma s b) (same_Some s u blank.1)
      (record {
        to = Comma;
        is = ap (λ (q : State). q.phase) w;
        well = w;
        gives = λ all text g. record {
          after = suc g.after;
          rdn = g.rdn;
          others = g.others;
          joined
              = g.joined;
          is_joined = g.is_joined;
          whole = g.whole;
          parts = ap (λ (x : ℕ). x ∷ text)
              (eqb-true b 32 blank.0) ∙ ap (λ (t : List ℕ). 32 ∷ t) g.parts;
        };
      })
  | inr other ↦
      let p = if_some (is_letter b) (Some (with_letter s b)) u other.1 in
      subst (Lift Comma s b) (same_Some (with_letter s b) u p.1)
      (record { to = Kind; is = refl; well = letter_well Comma s b w; gives = letter_comma Comma s b w p.0 })
]

-- in a type and after it

kind_end_of : (rdns : List Rdn) (kind : List ℕ) (all : List Rdn) (text : List ℕ) → GivesKindEnd rdns kind all text
    → GivesKind rdns kind all text
kind_end_of rdns kind all text g = record {
  letters = [];
  are_letters = refl;
  rest = text;
  is_rest = subst (λ (k : List ℕ). GivesKindEnd rdns k all text) (sym (append-nil kind)) g;
  parts = refl;
}

blank_end : (rdns : List Rdn) (kind : List ℕ) (all : List Rdn) (text : List ℕ) → GivesKindEnd rdns kind all text
    → GivesKindEnd rdns kind all (32 ∷ text)
blank_end rdns kind all text g = record {
  before = suc g.before;
  rest = g.rest;
  is_rest = g.is_rest;
  parts
      = ap (λ (t : List ℕ). 32 ∷ t) g.parts;
}

equals_end : (rdns : List Rdn) (kind : List ℕ) (all : List Rdn) (text : List ℕ) → GivesEquals rdns kind all text
    → GivesKindEnd rdns kind all (61 ∷ text)
equals_end rdns kind all text g = record { before = 0; rest = text; is_rest = g; parts = refl }

pub kind_lift : (s u : State) (b : ℕ) → Well Kind s → kind_step s b ≡ Some u → Lifted Kind s u b
kind_lift s u b w e = elim (if_either (is_type_byte b) (Some (with_letter s b))
    (if eqb b 32 then Some (moved KindEnd s) else if eqb b 61 then Some (moved Equals s) else None) u e) [
      | inl letter ↦
          subst (Lift Kind s b) (same_Some (with_letter s b) u letter.1)
          (record {
            to = Kind;
            is = refl;
            well = ap (λ (q : State). with_letter q b) w;
            gives = λ all text g. record {
              letters = b ∷ g.letters;
              are_letters = ap (λ (t : Bool). t && list_all is_type_byte g.letters) letter.0 ∙ g.are_letters;
              rest = g.rest;
              is_rest = subst (λ (k : List ℕ). GivesKindEnd s.rdns k all g.rest)
                  (append_assoc s.kind (to_ascii_uppercase b ∷ []) (str_to_ascii_uppercase g.letters)) g.is_rest;
              parts = ap (λ (t : List ℕ). b ∷ t) g.parts;
            };
          })
      | inr other ↦ elim (if_either (eqb b 32) (Some (moved KindEnd s))
          (if eqb b 61 then Some (moved Equals s) else None) u other.1) [
            | inl blank ↦
                subst (Lift Kind s b) (same_Some (moved KindEnd s) u blank.1)
                (record {
                  to = KindEnd;
                  is = refl;
                  well = ap (moved KindEnd) w;
                  gives = λ all text g. subst (λ (x : ℕ). GivesKind s.rdns s.kind all (x ∷ text))
                      (sym (eqb-true b 32 blank.0))
                      (kind_end_of s.rdns s.kind all (32 ∷ text) (blank_end s.rdns s.kind all text g));
                })
            | inr more ↦
                let p = if_some (eqb b 61) (Some (moved Equals s)) u more.1 in
                subst (Lift Kind s b) (same_Some (moved Equals s) u p.1)
                (record {
                  to = Equals;
                  is = refl;
                  well = ap (moved Equals) w;
                  gives = λ all text g. subst (λ (x : ℕ). GivesKind s.rdns s.kind all (x ∷ text))
                      (sym (eqb-true b 61 p.0))
                      (kind_end_of s.rdns s.kind all (61 ∷ text) (equals_end s.rdns s.kind all text g));
                })
          ]
    ]

pub kind_end_lift : (s u : State) (b : ℕ) → Well KindEnd s → kind_end_step s b ≡ Some u → Lifted KindEnd s u b
kind_end_lift s u b w e = elim (if_either (eqb b 32) (Some s) (if eqb b 61 then Some (moved Equals s) else None) u e) [
  | inl blank ↦
      subst (Lift KindEnd s b) (same_Some s u blank.1)
      (record {
        to = KindEnd;
        is = ap (λ (q : State). q.phase) w;
        well = w;
        gives = λ all text g. subst (λ (x : ℕ). GivesKindEnd s.rdns s.kind all (x ∷ text))
            (sym (eqb-true b 32 blank.0)) (blank_end s.rdns s.kind all text g);
      })
  | inr other ↦
      let p = if_some (eqb b 61) (Some (moved Equals s)) u other.1 in
      subst (Lift KindEnd s b) (same_Some (moved Equals s) u p.1)
      (record {
        to = Equals;
        is = refl;
        well = ap (moved Equals) w;
        gives = λ all text g. subst (λ (x : ℕ). GivesKindEnd s.rdns s.kind all (x ∷ text)) (sym (eqb-true b 61 p.0))
            (equals_end s.rdns s.kind all text g);
      })
]
