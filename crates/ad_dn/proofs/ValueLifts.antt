-- Steps within a value, and what the reader finishes with.
use Rattle.std.proofs.Common.{Bool, nat_lt, eqb, ◌≡◌, inl, inr, ℕ, suc, ◌+◌, ◌*◌, ◌<◌, ◌≤◌, true, false}
use Rattle.std.proofs.Common.{if◌then◌else◌, Option, Some, None, List, [], ◌∷◌, ◌++◌, length, map, take, take_all}
use Rattle.std.proofs.Common.{refl, sym, ap, subst, ◌∙◌, append_assoc, arith}
use Rattle.std.specs.Prelude.{◌&&◌, ◌||◌, not}
use Rattle.std.proofs.lemmas.Bool.{and_parts, or_parts, eqb-true, not-true}
use Rattle.std.proofs.lemmas.Bool.Decides.{nat_tests}
use Rattle.std.proofs.lemmas.List.{append-nil, length-append, take-append-le}
use Rattle.std.proofs.lemmas.Option.{same_Some}
use Rattle.ad_bytes.proofs.Machines.{none_ends}
use Rattle.ad_dn.specs.declared.rdn.Rdn.{Rdn}
use Rattle.ad_dn.specs.declared.utf8_state.Utf8State.{Utf8State}
use Rattle.ad_dn.specs.declared.steps.State.{State}
use Rattle.ad_dn.specs.declared.steps.ParserPhase.{ParserPhase}
use Rattle.ad_dn.specs.declared.steps.ParserPhase.TheVariants.{Nothing, Comma, Kind, KindEnd, Equals, Value, Mark}
use Rattle.ad_dn.specs.declared.steps.ParserPhase.TheVariants.{Digit}
use Rattle.ad_dn.specs.Utf8State.{nothing_due}
use Rattle.uuid.specs.Text.{is_hex_digit, value_of}
use Rattle.ad_dn.specs.Grammar.{is_special, is_reserved, Piece, plain, marked, pair, piece_byte, piece_text, IsPiece}
use Rattle.ad_dn.specs.Grammar.{may_be_last, SpellsRdns, SpellsOthers}
use Rattle.ad_dn.specs.Steps.{start, moved, with_blank, with_rdn, may_stand, byte_step, plain_step, mark_step}
use Rattle.ad_dn.specs.Steps.{mark_next, second_step, equals_step, value_step, digit_step, step, step_from}
use Rattle.ad_dn.specs.Steps.{from_there, finished, finished_from}
use Rattle.ad_dn.proofs.Told.{if_some, if_none, if_either, IsPlain, is_plain_of}
use Rattle.ad_dn.proofs.Utf8.{Fills, at_first, at_later, same_start}
use Rattle.ad_dn.proofs.Follow.{went_on}
use Rattle.ad_dn.proofs.Gives.{Gives, GivesComma, GivesMore, GivesEnd, equals_gives, byte_gives, ends_more}
use Rattle.ad_dn.proofs.Lifts.{Held, InMark, Well, held_fresh, byte_tells, held_byte, Lifted, Lift, first_lift}
use Rattle.ad_dn.proofs.Lifts.{comma_lift, kind_lift, kind_end_lift}

-- a byte that was taken
record Byte (s u : State) (p : Piece) : Type 0 where
  to_value : u.phase ≡ Value
  well : Well Value u
  gives : (all : List Rdn) (text : List ℕ) → Gives Value u all text → GivesMore s.rdns s.kind s.value s.due all
      (piece_text p ++ text)

byte_lift : (s u : State) (p : Piece) → Held s → IsPiece p → may_be_last p ≡ true → byte_step s (piece_byte p)
    ≡ Some u → Byte s u p
byte_lift s u p h piece last e =
    let t = byte_tells s (piece_byte p) u e in
    let held = held_byte s (piece_byte p) t.due h t.is in
    let room : length (s.value ++ piece_byte p ∷ []) + t.due.more ≤ 1024 = held.room in
    subst (λ (q : State). Byte s q p) t.same
    (record {
      to_value = refl;
      well = (refl, held);
      gives = byte_gives s p t.due t.is piece last (omega (arith, room));
    })

-- by itself
record Plain (s u : State) (b : ℕ) : Type 0 where
  plain : IsPlain b
  byte : byte_step s b ≡ Some u

plain_tells : (s u : State) (b : ℕ) → plain_step s b ≡ Some u → Plain s u b
plain_tells s u b e =
    let p = if_none (is_reserved b || eqb b 0) (byte_step s b) u e in
    let q = or_parts (is_reserved b) (eqb b 0) p.0 in
    record { plain = is_plain_of b q.0 q.1; byte = p.1 }

is_plain_piece : (b : ℕ) → IsPlain b → IsPiece (plain b)
is_plain_piece b p = ap (λ (t : Bool). not t && not (eqb b 0)) p.reserved ∙ ap (λ (t : Bool). not t) p.nul

plain_lift : (s u : State) (b : ℕ) → Held s → eqb b 32 ≡ false → plain_step s b ≡ Some u → Byte s u (plain b)
plain_lift s u b h no_blank e =
    let p = plain_tells s u b e in
    byte_lift s u (plain b) h (is_plain_piece b p.plain) (ap (λ (t : Bool). not t) no_blank) p.byte

-- after \
mark_lift : (s u : State) → Held s → mark_step s ≡ Some u → (moved Mark s ≡ u) × InMark (moved Mark s)
mark_lift s u h e =
    let p = if_none (eqb s.due.more 0 && nat_lt 1023 (length s.value)) (Some (moved Mark s)) u e in (
      same_Some (moved Mark s) u p.1,
      record {
        is = refl;
        held = record {
          is_due = h.is_due;
          kept_within = h.kept_within;
          room = h.room;
          open_kept
              = h.open_kept;
        };
        space = λ none. below (length s.value)
            (sym (ap (λ (n : ℕ). eqb n 0 && nat_lt 1023 (length s.value)) none) ∙ p.0);
      },
    )
  where
    below : (n : ℕ) → nat_lt 1023 n ≡ false → n ≤ 1023
    below n q = grind (arith, nat_tests)

-- ---- after =

equals_held : (s : State) → Well Equals s → Held s
equals_held s w = subst Held (sym w) (held_fresh Equals s.rdns s.kind)

after_equals : (s : State) (all : List Rdn) (c : ℕ) (text : List ℕ) → Well Equals s → eqb c 32 ≡ false → eqb c 35
    ≡ false → GivesMore s.rdns s.kind s.value s.due all (c ∷ text) → Gives Equals s all (c ∷ text)
after_equals s all c text w no_blank no_hash m = equals_gives s.rdns s.kind all c text no_blank no_hash
    (subst (λ (q : State). GivesMore s.rdns s.kind q.value q.due all (c ∷ text)) w m)

equals_lift : (s u : State) (b : ℕ) → Well Equals s → equals_step s b ≡ Some u → Lifted Equals s u b
equals_lift s u b w e = elim (if_either (eqb b 32) (Some s) (if eqb b 35 then None else if eqb b 92 then mark_step s
    else plain_step s b) u e) [
      | inl blank ↦
          subst (Lift Equals s b) (same_Some s u blank.1)
          (record {
            to = Equals;
            is = ap (λ (q : State). q.phase) w;
            well = w;
            gives = λ all text g. record {
              after = suc g.after;
              value = g.value;
              value_text = g.value_text;
              spells
                  = g.spells;
              others = g.others;
              rest = g.rest;
              is_rest = g.is_rest;
              whole = g.whole;
              parts
                  = ap (λ (x : ℕ). x ∷ text) (eqb-true b 32 blank.0) ∙ ap (λ (t : List ℕ). 32 ∷ t) g.parts;
            };
          })
      | inr other ↦
          let hash = if_none (eqb b 35) (if eqb b 92 then mark_step s else plain_step s b) u other.1 in
          elim (if_either (eqb b 92) (mark_step s) (plain_step s b) u hash.1) [
            | inl mark ↦
                let m = mark_lift s u (equals_held s w) mark.1 in
                subst (Lift Equals s b) m.0
                (record {
                  to = Mark;
                  is = refl;
                  well = m.1;
                  gives = λ all text g.
                      subst (λ (x : ℕ). Gives Equals s all (x ∷ text)) (sym (eqb-true b 92 mark.0))
                      (after_equals s all 92 text w refl refl g);
                })
            | inr more ↦
                let p = plain_lift s u b (equals_held s w) other.0 more.1 in
                record {
                  to = Value;
                  is = p.to_value;
                  well = p.well;
                  gives = λ all text g. after_equals s all b text w
                      other.0 hash.0 (p.gives all text g);
                }
          ]
    ]

-- ---- within a value

blank_held : (s : State) → Held s → s.due.more ≡ 0 → Held (with_blank s)
blank_held s h none =
    let longer : length (s.value ++ 32 ∷ []) ≡ length s.value + 1 = length-append s.value (32 ∷ []) in
    let kept : s.kept ≤ length s.value = h.kept_within in
    record {
      is_due = h.is_due;
      kept_within = omega (arith, longer);
      room = h.room;
      open_kept = λ some.
          absurd (omega (arith, some, none));
    }

blank_end : (s : State) (all others : List Rdn) (text : List ℕ) → s.kept ≤ length s.value → s.due.more ≡ 0
    → SpellsOthers others text → (others ≡ [] → s.kept ≡ length (s.value ++ 32 ∷ [])) → all ≡ s.rdns
    ++ record { kind = s.kind; value = take s.kept (s.value ++ 32 ∷ []) } ∷ others
    → GivesEnd s.rdns s.kind s.value s.kept s.due all (32 ∷ text)
blank_end s all [] text kept closed rest last whole =
    let longer : length (s.value ++ 32 ∷ []) ≡ length s.value + 1 = length-append s.value (32 ∷ []) in
    let same : s.kept ≡ length (s.value ++ 32 ∷ []) = last refl in
    absurd (omega (arith, longer, same, kept))
blank_end s all (rdn ∷ others) text kept closed rest last whole = record {
  others = rdn ∷ others;
  is_rest = record {
    before = suc rest.before;
    after = rest.after;
    others = rest.others;
    is_others
        = rest.is_others;
    parts = ap (λ (t : List ℕ). 32 ∷ t) rest.parts;
  };
  whole = whole ∙ ap (λ (v : List ℕ). s.rdns ++ record { kind = s.kind; value = v } ∷ rdn ∷ others)
      (take-append-le s.kept s.value (32 ∷ []) kept);
  closed = closed;
  last = λ e. absurd cc;
}

blank_gives : (s : State) → Held s → s.due.more ≡ 0 → (all : List Rdn) (text : List ℕ) → Gives Value (with_blank s)
    all text → Gives Value s all (32 ∷ text)
blank_gives s h none all text (inl m) =
    let bytes = map piece_byte m.pieces in
    let longer : (s.value ++ 32 ∷ []) ++ bytes ≡ s.value ++ 32 ∷ bytes = append_assoc s.value (32 ∷ []) bytes in
    inl (record {
      pieces = plain 32 ∷ m.pieces;
      are_pieces = (refl, m.are_pieces);
      ends = ends_more (plain 32) m.pieces m.ends;
      fills = subst (λ (o : Option Utf8State). Fills o bytes) (sym (at_first 0 32 s.due none))
          (same_start s.due nothing_due bytes none refl m.fills);
      most = subst (λ (v : List ℕ). length v ≤ 1024) longer m.most;
      others = m.others;
      rest = m.rest;
      is_rest = m.is_rest;
      whole = m.whole ∙ ap (λ (v : List ℕ). s.rdns ++ record { kind = s.kind; value = v } ∷ m.others) longer;
      parts = ap (λ (t : List ℕ). 32 ∷ t) m.parts;
    })
blank_gives s h none all text (inr e) = inr (blank_end s all e.others text h.kept_within none e.is_rest e.last e.whole)

comma_gives : (s : State) → s.due.more ≡ 0 → (all : List Rdn) (text : List ℕ) → GivesComma (with_rdn s).rdns all text
    → Gives Value s all (44 ∷ text)
comma_gives s none all text g = inr (record {
  others = g.rdn ∷ g.others;
  is_rest = record {
    before = 0;
    after = g.after;
    others = g.joined;
    is_others = g.is_joined;
    parts
        = ap (λ (t : List ℕ). 44 ∷ t) g.parts;
  };
  whole = g.whole ∙ append_assoc s.rdns (record { kind = s.kind; value = take s.kept s.value } ∷ []) (g.rdn ∷ g.others);
  closed = none;
  last = λ e. absurd cc;
})

more_lift : (s u : State) (b : ℕ) → Byte s u (plain b) → Lifted Value s u b
more_lift s u b p = record {
  to = Value;
  is = p.to_value;
  well = p.well;
  gives = λ all text g.
      inl (p.gives all text g);
}

-- a byte by itself while some are due is no blank
not_blank : (s u : State) (b : ℕ) → Held s → 0 < s.due.more → byte_step s b ≡ Some u → eqb b 32 ≡ false
not_blank s u b h some e =
    let t = byte_tells s b u e in
    let w = went_on s.due t.due b (sym (at_later (length s.value) b s.due some) ∙ t.is) in
    let low : 128 ≤ s.due.low = omega (arith, h.is_due.low) in
    let least : s.due.low ≤ b = w.0 in
    grind (arith, nat_tests)

is_zero : (n : ℕ) → eqb n 0 ≡ true → n ≡ 0
is_zero n e = eqb-true n 0 e

is_some_more : (n : ℕ) → eqb n 0 ≡ false → 0 < n
is_some_more n e = grind (arith, nat_tests)

abbrev closed_step : State → ℕ → Option State
closed_step s b = if eqb b 32 then Some (with_blank s) else if eqb b 44 then Some (with_rdn s) else plain_step s b

closed_lift : (s u : State) (b : ℕ) → Well Value s → s.due.more ≡ 0 → closed_step s b ≡ Some u → Lifted Value s u b
closed_lift s u b w none e = elim (if_either (eqb b 32) (Some (with_blank s))
    (if eqb b 44 then Some (with_rdn s) else plain_step s b) u e) [
      | inl blank ↦
          subst (Lift Value s b) (same_Some (with_blank s) u blank.1)
          (record {
            to = Value;
            is = w.0;
            well = (w.0, blank_held s w.1 none);
            gives = λ all text g. subst (λ (x : ℕ). Gives Value s all (x ∷ text)) (sym (eqb-true b 32 blank.0))
                (blank_gives s w.1 none all text g);
          })
      | inr other ↦ elim (if_either (eqb b 44) (Some (with_rdn s)) (plain_step s b) u other.1) [
        | inl comma ↦
            subst (Lift Value s b) (same_Some (with_rdn s) u comma.1)
            (record {
              to = Comma;
              is = refl;
              well = refl;
              gives = λ all text g. subst (λ (x : ℕ). Gives Value s all (x ∷ text)) (sym (eqb-true b 44 comma.0))
                  (comma_gives s none all text g);
            })
        | inr more ↦ more_lift s u b (plain_lift s u b w.1 other.0 more.1)
      ]
    ]

value_lift : (s u : State) (b : ℕ) → Well Value s → value_step s b ≡ Some u → Lifted Value s u b
value_lift s u b w e = elim (if_either (eqb b 92) (mark_step s) (if not (eqb s.due.more 0) then plain_step s b
    else closed_step s b) u e) [
      | inl mark ↦
          let m = mark_lift s u w.1 mark.1 in
          subst (Lift Value s b) m.0
          (record {
            to = Mark;
            is = refl;
            well = m.1;
            gives = λ all text g.
                subst (λ (x : ℕ). Gives Value s all (x ∷ text)) (sym (eqb-true b 92 mark.0)) (inl g);
          })
      | inr other ↦ elim (if_either (not (eqb s.due.more 0)) (plain_step s b) (closed_step s b) u other.1) [
        | inl open_one ↦
            let some : 0 < s.due.more = is_some_more s.due.more (not-true (eqb s.due.more 0) open_one.0) in
            let p = plain_tells s u b open_one.1 in
            more_lift s u b (plain_lift s u b w.1 (not_blank s u b w.1 some p.byte) open_one.1)
        | inr closed ↦ closed_lift s u b w (is_zero s.due.more (double (eqb s.due.more 0) closed.0)) closed.1
      ]
    ]
  where
    double : (t : Bool) → not t ≡ false → t ≡ true
    double true q = refl
    double false q = absurd cc

-- ---- after \

mark_next_lift : (s u : State) (b : ℕ) → Well Mark s → mark_next s b ≡ Some u → Lifted Mark s u b
mark_next_lift s u b w e = elim (if_either (is_special b) (byte_step s b)
    (if is_hex_digit b then digit_step s b else None) u e) [
      | inl special ↦
          let p = byte_lift s u (marked b) w.held special.0 refl special.1 in
          record { to = Value; is = p.to_value; well = p.well; gives = p.gives }
      | inr other ↦
          let hex = if_some (is_hex_digit b) (digit_step s b) u other.1 in
          let p = if_some (may_stand s (16 * value_of b) || may_stand s (16 * value_of b + 15))
          (Some (moved (Digit b) s)) u hex.1 in
          let h = w.held in
          subst (Lift Mark s b) (same_Some (moved (Digit b) s) u p.1)
          (record {
            to = Digit b;
            is = refl;
            well = record {
              is = refl;
              held = record {
                is_due = h.is_due;
                kept_within = h.kept_within;
                room
                    = h.room;
                open_kept = h.open_kept;
              };
              hex = hex.0;
              may = p.0;
            };
            gives = λ all text g. g;
          })
    ]

digit_lift : (high : ℕ) (s u : State) (b : ℕ) → Well (Digit high) s → second_step s high b ≡ Some u
    → Lifted (Digit high) s u b
digit_lift high s u b w e =
    let hex = if_some (is_hex_digit high && is_hex_digit b) (byte_step s (16 * value_of high + value_of b)) u e in
    let p = byte_lift s u (pair high b) w.held hex.0 refl hex.1 in
    record { to = Value; is = p.to_value; well = p.well; gives = p.gives }

-- ---- each step

pub lift_from : (phase : ParserPhase) (s u : State) (b : ℕ) → Well phase s → step_from phase s b ≡ Some u
    → Lifted phase s u b
unfolding step_from
lift_from Nothing s u b w e = first_lift s u b w e
lift_from Comma s u b w e = comma_lift s u b w e
lift_from Kind s u b w e = kind_lift s u b w e
lift_from KindEnd s u b w e = kind_end_lift s u b w e
lift_from Equals s u b w e = equals_lift s u b w e
lift_from Value s u b w e = value_lift s u b w e
lift_from Mark s u b w e = mark_next_lift s u b w e
lift_from (Digit high) s u b w e = digit_lift high s u b w e

-- ---- the end

ends_name : (phase : ParserPhase) (s : State) (all : List Rdn) → Well phase s → finished_from phase s ≡ Some all
    → Gives phase s all []
ends_name Nothing s all w e = record {
  names = [];
  spelled = refl;
  whole = sym (same_Some s.rdns all e)
      ∙ sym (append-nil s.rdns);
}
ends_name Value s all w e =
    let p = if_some (eqb s.due.more 0 && eqb s.kept (length s.value))
    (Some (s.rdns ++ record { kind = s.kind; value = s.value } ∷ [])) all e in
    let q = and_parts (eqb s.due.more 0) (eqb s.kept (length s.value)) p.0 in
    let kept : s.kept ≡ length s.value = eqb-true s.kept (length s.value) q.1 in
    inr (record {
      others = [];
      is_rest = refl;
      whole = sym (same_Some _ all p.1) ∙ ap (λ (v : List ℕ). s.rdns ++ record { kind = s.kind; value = v } ∷ [])
          (sym (take_all s.kept s.value (omega (arith, kept))));
      closed = is_zero s.due.more q.0;
      last = λ _. kept;
    })
ends_name _ s all w e = absurd cc

given_step : (b : ℕ) (bytes : List ℕ) (phase : ParserPhase) (s t : State) (all : List Rdn) → Well phase s
    → ((to : ParserPhase) (u : State) → u.phase ≡ to → Well to u → from_there (Some u) bytes ≡ Some t
    → Gives to u all bytes)
    → (o : Option State) → o ≡ step_from phase s b → from_there o bytes ≡ Some t → Gives phase s all (b ∷ bytes)
given_step b bytes phase s t all w others None is e = absurd (none_ends step bytes t e)
given_step b bytes phase s t all w others (Some u) is e =
    let l = lift_from phase s u b w (sym is) in
    l.gives all bytes (others l.to u l.is l.well e)

-- what the steps finish with is what the rest gives
pub given : (bytes : List ℕ) (phase : ParserPhase) (s t : State) (all : List Rdn) → s.phase ≡ phase → Well phase s
    → from_there (Some s) bytes ≡ Some t → finished t ≡ Some all → Gives phase s all bytes
given [] phase s t all is w e whole =
    ends_name phase s all w (sym (ap (λ (x : ParserPhase). finished_from x s) is) ∙ ap finished (same_Some s t e)
    ∙ whole)
given (b ∷ bytes) phase s t all is w e whole =
    given_step b bytes phase s t all w (λ to u now well e2. given bytes to u t all now well e2 whole) (step s b)
    (ap (λ (x : ParserPhase). step_from x s b) is) e

-- what the reader finishes with is encoded by the text
pub finished_spells : (s : State) (text : List ℕ) (all : List Rdn) → from_there (Some start) text ≡ Some s
    → finished s ≡ Some all → SpellsRdns all text
finished_spells s text all e whole =
    let g = given text Nothing start s all refl refl e whole in
    subst (λ (r : List Rdn). SpellsRdns r text) (sym g.whole) g.spelled

pub record WellEnd (t : State) : Type 0 where
  pub phase : ParserPhase
  pub is : t.phase ≡ phase
  pub well : Well phase t

well_step : (b : ℕ) (bytes : List ℕ) (phase : ParserPhase) (s t : State) → Well phase s
    → ((to : ParserPhase) (u : State) → u.phase ≡ to → Well to u → from_there (Some u) bytes ≡ Some t → WellEnd t)
    → (o : Option State) → o ≡ step_from phase s b → from_there o bytes ≡ Some t → WellEnd t
well_step b bytes phase s t w others None is e = absurd (none_ends step bytes t e)
well_step b bytes phase s t w others (Some u) is e =
    let l = lift_from phase s u b w (sym is) in
    others l.to u l.is l.well e

-- and its state is well
pub kept_well : (bytes : List ℕ) (phase : ParserPhase) (s t : State) → s.phase ≡ phase → Well phase s
    → from_there (Some s) bytes ≡ Some t → WellEnd t
kept_well [] phase s t is w e = subst WellEnd (same_Some s t e) (record { phase = phase; is = is; well = w })
kept_well (b ∷ bytes) phase s t is w e =
    well_step b bytes phase s t w (λ to u now well e2. kept_well bytes to u t now well e2) (step s b)
    (ap (λ (x : ParserPhase). step_from x s b) is) e
