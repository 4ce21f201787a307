-- A name's text takes its reader step by step to the name: values.
use Rattle.std.proofs.Common.{Bool, nat_lt, eqb, ◌≡◌, inl, inr, ℕ, ◌+◌, ◌*◌, ◌≤◌, true, false, if◌then◌else◌, Option}
use Rattle.std.proofs.Common.{Some, None, List, [], ◌∷◌, ◌++◌, length, map, refl, sym, ap, subst, ◌∙◌, append_assoc}
use Rattle.std.proofs.Common.{arith}
use Rattle.std.specs.Prelude.{◌&&◌, ◌||◌, not}
use Rattle.std.specs.List.{AllByRecursion, flat_map}
use Rattle.std.proofs.lemmas.Bool.{cases_Bool, cases_lt, and_parts, eqb-true, not-true}
use Rattle.std.proofs.lemmas.Bool.Decides.{nat_tests}
use Rattle.std.proofs.lemmas.List.{length-append}
use Rattle.ad_bytes.proofs.Machines.{run_nil, run_append, run_step}
use Rattle.ad_dn.specs.declared.rdn.Rdn.{Rdn}
use Rattle.ad_dn.specs.declared.utf8_state.Utf8State.{Utf8State}
use Rattle.ad_dn.specs.declared.steps.State.{State}
use Rattle.ad_dn.specs.declared.steps.ParserPhase.{ParserPhase}
use Rattle.ad_dn.specs.declared.steps.ParserPhase.TheVariants.{Equals, Value, Mark, Digit}
use Rattle.ad_dn.specs.Utf8State.{nothing_due, due_after}
use Rattle.uuid.specs.Text.{is_hex_digit, value_of}
use Rattle.ad_dn.specs.Grammar.{is_special, Piece, plain, marked, pair, piece_text, piece_byte, is_piece, IsPiece}
use Rattle.ad_dn.specs.Grammar.{may_be_first, may_be_last, BeginsWell, EndsWell}
use Rattle.ad_dn.specs.Steps.{state, with_blank, with_rdn, may_stand, byte_taken, byte_step, plain_step, mark_step}
use Rattle.ad_dn.specs.Steps.{digit_step, step, step_from, from_there}
use Rattle.ad_dn.proofs.Told.{IsPlain, plain_is, hex_not_special, hex_below}
use Rattle.ad_dn.proofs.Utf8.{Fills, at_first, at_later, same_start}
use Rattle.ad_dn.proofs.Follow.{IsDue, due_kept, room_for, next_of, digit_may_stand, went_on, nothing_is_due}

-- a piece of a value was read, and these bytes of the value follow
pub record Taken (rdns : List Rdn) (kind value : List ℕ) (from : Option State) (p : Piece) (bytes : List ℕ) : Type 0
  where
    pub kept : ℕ
    pub due : Utf8State
    pub steps : from ≡ Some (state Value rdns kind (value ++ piece_byte p ∷ []) kept due)
    pub is_due : IsDue due
    pub fills : Fills (Some due) bytes
    pub up_to : may_be_last p ≡ true → kept ≡ length (value ++ piece_byte p ∷ [])

-- the last of some choices
pub pick : {A : Type 0} (t u v w : Bool) (a b c d : A) → t ≡ false → v ≡ false → w ≡ false
    → (if t then a else if not u then b else if v then c else if w then d else b) ≡ b
pick true u v w a b c d e f g = absurd cc
pick false true true w a b c d e f g = absurd cc
pick false true false true a b c d e f g = absurd cc
pick false true false false a b c d e f g = refl
pick false false v w a b c d e f g = refl

pub pick_first : {A : Type 0} (t u v : Bool) (a b c d : A) → t ≡ false → u ≡ false → v ≡ false
    → (if t then a else if u then b else if v then c else d) ≡ d
pick_first true u v a b c d e f g = absurd cc
pick_first false true v a b c d e f g = absurd cc
pick_first false false true a b c d e f g = absurd cc
pick_first false false false a b c d e f g = refl

module _ (rdns : List Rdn) (kind value : List ℕ) (kept : ℕ) (d : Utf8State) (bytes : List ℕ) (h : IsDue d)
    (room : length value + 1 + length bytes ≤ 1024) where
  -- a byte that may follow
  by_byte : (phase : ParserPhase) (p : Piece) (e : Utf8State) → due_after 0 d (piece_byte p) ≡ Some e
      → Fills (Some e) bytes → Taken rdns kind value (byte_step (state phase rdns kind value kept d) (piece_byte p)) p
      bytes
  by_byte phase p e is f =
      let so = room_for (length value) (piece_byte p) d e bytes is f room in
      record {
        kept = length (value ++ piece_byte p ∷ []);
        due = e;
        steps = ap (byte_taken (state phase rdns kind value kept d) (piece_byte p)) so;
        is_due = due_kept (length value) (piece_byte p) d e h so;
        fills = f;
        up_to = λ _. refl;
      }

  -- the same after other steps
  along : (p : Piece) (from to : Option State) → from ≡ to → Taken rdns kind value to p bytes
      → Taken rdns kind value from p bytes
  along p from to e t = record {
    kept = t.kept;
    due = t.due;
    steps = e ∙ t.steps;
    is_due = t.is_due;
    fills
        = t.fills;
    up_to = t.up_to;
  }

  -- by itself
  pub plain_by : (phase : ParserPhase) (b : ℕ) → IsPlain b → plain_step (state phase rdns kind value kept d) b
      ≡ byte_step (state phase rdns kind value kept d) b
  plain_by phase b p = ap (λ (t : Bool). if t then None else byte_step (state phase rdns kind value kept d) b)
      (ap (λ (t : Bool). t || eqb b 0) p.reserved ∙ p.nul)

  plain_taken : (phase : ParserPhase) (b : ℕ) → IsPlain b → Fills (due_after 0 d b) bytes
      → step (state phase rdns kind value kept d) b ≡ plain_step (state phase rdns kind value kept d) b
      → Taken rdns kind value (from_there (Some (state phase rdns kind value kept d)) (b ∷ [])) (plain b) bytes
  plain_taken phase b p f e =
      let n = next_of (due_after 0 d b) bytes f in
      along (plain b) (from_there (Some (state phase rdns kind value kept d)) (b ∷ []))
      (byte_step (state phase rdns kind value kept d) b)
      (run_nil step (step (state phase rdns kind value kept d) b) ∙ e ∙ plain_by phase b p)
      (by_byte phase (plain b) n.0 n.1 n.2)

  other_taken : (b : ℕ) → IsPlain b → Fills (due_after 0 d b) bytes → eqb b 32 ≡ false
      → Taken rdns kind value (from_there (Some (state Value rdns kind value kept d)) (b ∷ [])) (plain b) bytes
  unfolding step_from
  other_taken b p f no_blank =
      let s = state Value rdns kind value kept d in
      plain_taken Value b p f (pick (eqb b 92) (eqb d.more 0) (eqb b 32) (eqb b 44) (mark_step s) (plain_step s b)
      (Some (with_blank s)) (Some (with_rdn s)) p.mark no_blank p.comma)

  first_taken : (b : ℕ) → IsPlain b → Fills (due_after 0 d b) bytes → eqb b 32 ≡ false → eqb b 35 ≡ false
      → Taken rdns kind value (from_there (Some (state Equals rdns kind value kept d)) (b ∷ [])) (plain b) bytes
  unfolding step_from
  first_taken b p f no_blank no_hash =
      let s = state Equals rdns kind value kept d in
      plain_taken Equals b p f (pick_first (eqb b 32) (eqb b 35) (eqb b 92) (Some s) None (mark_step s)
      (plain_step s b) no_blank no_hash p.mark)

  blank_taken : d.more ≡ 0 → Fills (due_after 0 d 32) bytes
      → Taken rdns kind value (from_there (Some (state Value rdns kind value kept d)) (32 ∷ [])) (plain 32) bytes
  unfolding step_from
  blank_taken none f =
      let s = state Value rdns kind value kept d in
      let test : eqb d.more 0 ≡ true = ap (λ (n : ℕ). eqb n 0) none in
      let fills : Fills (Some nothing_due) bytes = subst (λ (o : Option Utf8State). Fills o bytes)
      (at_first 0 32 d none) f in
      record {
        kept = kept;
        due = d;
        steps = ap (λ (t : Bool). from_there (if not t then plain_step s 32 else Some (with_blank s)) []) test;
        is_due = h;
        fills = same_start nothing_due d bytes refl none fills;
        up_to = λ e. absurd cc;
      }

  -- after \
  to_mark : (phase : ParserPhase) → mark_step (state phase rdns kind value kept d)
      ≡ Some (state Mark rdns kind value kept d)
  to_mark phase =
      let some : nat_lt 1023 (length value) ≡ false = grind (arith, nat_tests) in
      ap (λ (t : Bool). if t then None else Some (state Mark rdns kind value kept d))
      (ap (λ (t : Bool). eqb d.more 0 && t) some ∙ never (eqb d.more 0))
    where
      never : (t : Bool) → (t && false) ≡ false
      never true = refl
      never false = refl

  marked_taken : (phase : ParserPhase) (b : ℕ) → step (state phase rdns kind value kept d) 92
      ≡ mark_step (state phase rdns kind value kept d) → is_special b ≡ true → Fills (due_after 0 d b) bytes
      → Taken rdns kind value (from_there (Some (state phase rdns kind value kept d)) (92 ∷ b ∷ [])) (marked b) bytes
  unfolding step_from
  marked_taken phase b e special f =
      let n = next_of (due_after 0 d b) bytes f in
      let m = state Mark rdns kind value kept d in
      along (marked b) (from_there (Some (state phase rdns kind value kept d)) (92 ∷ b ∷ [])) (byte_step m b)
      (run_step step (state phase rdns kind value kept d) m 92 (b ∷ []) (e ∙ to_mark phase)
      ∙ run_nil step (step m b)
      ∙ ap (λ (t : Bool). if t then byte_step m b else if is_hex_digit b then digit_step m b else None) special)
      (by_byte Mark (marked b) n.0 n.1 n.2)

  pair_taken : (phase : ParserPhase) (high low : ℕ) → step (state phase rdns kind value kept d) 92
      ≡ mark_step (state phase rdns kind value kept d) → is_piece (pair high low) ≡ true
      → Fills (due_after 0 d (16 * value_of high + value_of low)) bytes
      → Taken rdns kind value (from_there (Some (state phase rdns kind value kept d)) (92 ∷ high ∷ low ∷ []))
      (pair high low) bytes
  unfolding step_from
  pair_taken phase high low e hex f =
      let n = next_of (due_after 0 d (16 * value_of high + value_of low)) bytes f in
      let digits = and_parts (is_hex_digit high) (is_hex_digit low) hex in
      let m = state Mark rdns kind value kept d in
      let g = state (Digit high) rdns kind value kept d in
      let stands = room_for (length value) (16 * value_of high + value_of low) d n.0 bytes n.1 n.2 room in
      let may : (may_stand m (16 * value_of high) || may_stand m (16 * value_of high + 15)) ≡ true
      = digit_may_stand (length value) (value_of high) (value_of low) d n.0 h (hex_below low digits.1) stands in
      let first : step m high ≡ Some g =
      ap (λ (t : Bool). if t then byte_step m high else if is_hex_digit high then digit_step m high else None)
      (hex_not_special high digits.0)
      ∙ ap (λ (t : Bool). if t then digit_step m high else None) digits.0
      ∙ ap (λ (t : Bool). if t then Some g else None) may in
      along (pair high low) (from_there (Some (state phase rdns kind value kept d)) (92 ∷ high ∷ low ∷ []))
      (byte_step g (16 * value_of high + value_of low))
      (run_step step (state phase rdns kind value kept d) m 92 (high ∷ low ∷ []) (e ∙ to_mark phase)
      ∙ run_step step m g high (low ∷ []) first
      ∙ run_nil step (step g low)
      ∙ ap (λ (t : Bool). if t then byte_step g (16 * value_of high + value_of low) else None) hex)
      (by_byte (Digit high) (pair high low) n.0 n.1 n.2)

  -- a blank follows only where nothing is due
  none_due : Fills (due_after 0 d 32) bytes → d.more ≡ 0
  none_due f = elim (cases_lt 0 d.more) [
    | inr over ↦ omega arith
    | inl some ↦
        let n = next_of (due_after 0 d 32) bytes f in
        let w = went_on d n.0 32 (sym (at_later 0 32 d some) ∙ n.1) in
        absurd (omega (arith, h.low, w.0))
  ]

  -- any piece
  piece_taken : (p : Piece) → IsPiece p → Fills (due_after 0 d (piece_byte p)) bytes
      → Taken rdns kind value (from_there (Some (state Value rdns kind value kept d)) (piece_text p)) p bytes
  unfolding step_from
  piece_taken (plain b) is f = elim (cases_Bool (eqb b 32)) [
    | inl blank ↦
        let so : b ≡ 32 = eqb-true b 32 blank in
        let g : Fills (due_after 0 d 32) bytes = subst (λ (x : ℕ). Fills (due_after 0 d x) bytes) so f in
        subst (λ (x : ℕ). Taken rdns kind value (from_there (Some (state Value rdns kind value kept d)) (x ∷ []))
        (plain x) bytes) (sym so) (blank_taken (none_due g) g)
    | inr other ↦ other_taken b (plain_is b is) f other
  ]
  piece_taken (marked b) is f = marked_taken Value b refl is f
  piece_taken (pair high low) is f = pair_taken Value high low refl is f

  -- the first
  first_piece_taken : (p : Piece) → IsPiece p → may_be_first p ≡ true → Fills (due_after 0 d (piece_byte p)) bytes
      → Taken rdns kind value (from_there (Some (state Equals rdns kind value kept d)) (piece_text p)) p bytes
  unfolding step_from
  first_piece_taken (plain b) is first f =
      let q = and_parts (not (eqb b 32)) (not (eqb b 35)) first in
      first_taken b (plain_is b is) f (not-true (eqb b 32) q.0) (not-true (eqb b 35) q.1)
  first_piece_taken (marked b) is first f = marked_taken Equals b refl is f
  first_piece_taken (pair high low) is first f = pair_taken Equals high low refl is f

-- a value was read up to its end
pub record AllTaken (rdns : List Rdn) (kind value : List ℕ) (from : Option State) (pieces : List Piece) : Type 0 where
  pub kept : ℕ
  pub due : Utf8State
  pub steps : from ≡ Some (state Value rdns kind (value ++ map piece_byte pieces) kept due)
  pub closed : due.more ≡ 0
  pub up_to : EndsWell pieces → kept ≡ length (value ++ map piece_byte pieces)

-- the pieces after a first one
others_taken : (rdns : List Rdn) (kind value : List ℕ) (from : Option State) (p : Piece) (pieces : List Piece)
    → AllByRecursion IsPiece pieces → length value + 1 + length (map piece_byte pieces) ≤ 1024
    → Taken rdns kind value from p (map piece_byte pieces) → AllTaken rdns kind value
    (from_there from (flat_map piece_text pieces)) (p ∷ pieces)
others_taken rdns kind value from p [] all room t = record {
  kept = t.kept;
  due = t.due;
  steps = ap (λ (o : Option State). from_there o []) t.steps;
  closed = t.fills;
  up_to = t.up_to;
}
others_taken rdns kind value from p (q ∷ pieces) all room t =
    let longer : length (value ++ piece_byte p ∷ []) ≡ length value + 1 = length-append value (piece_byte p ∷ []) in
    let more = map piece_byte pieces in
    let next = piece_taken rdns kind (value ++ piece_byte p ∷ []) t.kept t.due more t.is_due
    (omega (arith, longer, room)) q all.0 t.fills in
    let r = others_taken rdns kind (value ++ piece_byte p ∷ [])
    (from_there (Some (state Value rdns kind (value ++ piece_byte p ∷ []) t.kept t.due)) (piece_text q)) q pieces
    all.1 (omega (arith, longer, room)) next in
    let whole : (value ++ piece_byte p ∷ []) ++ map piece_byte (q ∷ pieces) ≡ value ++ map piece_byte (p ∷ q ∷ pieces)
    = append_assoc value (piece_byte p ∷ []) (map piece_byte (q ∷ pieces)) in
    record {
      kept = r.kept;
      due = r.due;
      steps =
          ap (λ (o : Option State). from_there o (piece_text q ++ flat_map piece_text pieces)) t.steps
          ∙ run_append step (Some (state Value rdns kind (value ++ piece_byte p ∷ []) t.kept t.due)) (piece_text q)
          (flat_map piece_text pieces)
          ∙ r.steps ∙ ap (λ (v : List ℕ). Some (state Value rdns kind v r.kept r.due)) whole;
      closed = r.closed;
      up_to = λ e. r.up_to e ∙ ap length whole;
    }

-- a whole value after =
pub value_taken : (rdns : List Rdn) (kind : List ℕ) (pieces : List Piece) → AllByRecursion IsPiece pieces
    → BeginsWell pieces → Fills (Some nothing_due) (map piece_byte pieces) → length (map piece_byte pieces) ≤ 1024
    → AllTaken rdns kind [] (from_there (Some (state Equals rdns kind [] 0 nothing_due)) (flat_map piece_text pieces))
    pieces
value_taken rdns kind [] all begins f room = absurd begins
value_taken rdns kind (p ∷ pieces) all begins f room =
    let bytes = map piece_byte pieces in
    let first = first_piece_taken rdns kind [] 0 nothing_due bytes nothing_is_due (omega (arith, room)) p all.0 begins
    f in
    let s = state Equals rdns kind [] 0 nothing_due in
    let r = others_taken rdns kind [] (from_there (Some s) (piece_text p)) p pieces all.1 (omega (arith, room)) first in
    record {
      kept = r.kept;
      due = r.due;
      steps = run_append step (Some s) (piece_text p) (flat_map piece_text pieces)
          ∙ r.steps;
      closed = r.closed;
      up_to = r.up_to;
    }
