-- What the rest of a text gives, by the state of its reader.
use Rattle.std.proofs.Common.{Bool, eqb, ◌≡◌, ◌⊎◌, inl, inr, ℕ, ◌≤◌, true, false, Option, Some, List, [], ◌∷◌, ◌++◌}
use Rattle.std.proofs.Common.{length, map, take, get_or, refl, sym, ap, subst, ◌∙◌, append_assoc, arith}
use Rattle.std.specs.Prelude.{◌&&◌, not}
use Rattle.std.specs.List.{AllByRecursion, flat_map, list_all}
use Rattle.std.specs.Char.{to_ascii_uppercase}
use Rattle.std.specs.Str.{str_to_ascii_uppercase}
use Rattle.std.proofs.lemmas.List.{append-nil}
use Rattle.std.proofs.Math.Seq.{take-length}
use Rattle.ad_dn.specs.declared.rdn.Rdn.{Rdn}
use Rattle.ad_dn.specs.declared.utf8_state.Utf8State.{Utf8State}
use Rattle.ad_dn.specs.declared.steps.State.{State}
use Rattle.ad_dn.specs.declared.steps.ParserPhase.{ParserPhase}
use Rattle.ad_dn.specs.declared.steps.ParserPhase.TheVariants.{Nothing, Comma, Kind, KindEnd, Equals, Value, Mark}
use Rattle.ad_dn.specs.declared.steps.ParserPhase.TheVariants.{Digit}
use Rattle.ad_dn.specs.AttributeType.{is_letter, is_type_byte}
use Rattle.ad_dn.specs.Utf8State.{nothing_due, due_after}
use Rattle.ad_dn.specs.Grammar.{Piece, plain, marked, pair, piece_text, piece_byte, IsPiece, may_be_last, BeginsWell}
use Rattle.ad_dn.specs.Grammar.{EndsWell, blanks, SpellsValue, SpellsRdn, IsJoined, SpellsOthers, SpellsRdns}
use Rattle.ad_dn.specs.Steps.{with_byte}
use Rattle.ad_dn.proofs.Utf8.{Fills, filled_utf8}
use Rattle.ad_dn.proofs.Follow.{anywhere}

-- the parts of a name, one of which is to come
pub record GivesComma (rdns all : List Rdn) (text : List ℕ) : Type 0 where
  pub after : ℕ
  pub rdn : Rdn
  pub others : List Rdn
  pub joined : List ℕ
  pub is_joined : IsJoined (SpellsRdn rdn) (SpellsOthers others) joined
  pub whole : all ≡ rdns ++ rdn ∷ others
  pub parts : text ≡ blanks after ++ joined

-- a whole name
pub record GivesName (rdns all : List Rdn) (text : List ℕ) : Type 0 where
  pub names : List Rdn
  pub spelled : SpellsRdns names text
  pub whole : all ≡ rdns ++ names

-- a value and the parts after it
pub record GivesEquals (rdns : List Rdn) (kind : List ℕ) (all : List Rdn) (text : List ℕ) : Type 0 where
  pub after : ℕ
  pub value : List ℕ
  pub value_text : List ℕ
  pub spells : SpellsValue value value_text
  pub others : List Rdn
  pub rest : List ℕ
  pub is_rest : SpellsOthers others rest
  pub whole : all ≡ rdns ++ record { kind = kind; value = value } ∷ others
  pub parts : text ≡ blanks after ++ (value_text ++ rest)

pub record GivesKindEnd (rdns : List Rdn) (kind : List ℕ) (all : List Rdn) (text : List ℕ) : Type 0 where
  pub before : ℕ
  pub rest : List ℕ
  pub is_rest : GivesEquals rdns kind all rest
  pub parts : text ≡ blanks before ++ 61 ∷ rest

pub record GivesKind (rdns : List Rdn) (kind : List ℕ) (all : List Rdn) (text : List ℕ) : Type 0 where
  pub letters : List ℕ
  pub are_letters : list_all is_type_byte letters ≡ true
  pub rest : List ℕ
  pub is_rest : GivesKindEnd rdns (kind ++ str_to_ascii_uppercase letters) all rest
  pub parts : text ≡ letters ++ rest

-- more of a value, and the parts after it
pub record GivesMore (rdns : List Rdn) (kind value : List ℕ) (due : Utf8State) (all : List Rdn) (text : List ℕ) : Type
    0 where
  pub pieces : List Piece
  pub are_pieces : AllByRecursion IsPiece pieces
  pub ends : EndsWell pieces
  pub fills : Fills (Some due) (map piece_byte pieces)
  pub most : length (value ++ map piece_byte pieces) ≤ 1024
  pub others : List Rdn
  pub rest : List ℕ
  pub is_rest : SpellsOthers others rest
  pub whole : all ≡ rdns ++ record { kind = kind; value = value ++ map piece_byte pieces } ∷ others
  pub parts : text ≡ flat_map piece_text pieces ++ rest

-- no more of a value, but the parts after it
pub record GivesEnd (rdns : List Rdn) (kind value : List ℕ) (kept : ℕ) (due : Utf8State) (all : List Rdn)
    (text : List ℕ) : Type 0 where
  pub others : List Rdn
  pub is_rest : SpellsOthers others text
  pub whole : all ≡ rdns ++ record { kind = kind; value = take kept value } ∷ others
  pub closed : due.more ≡ 0
  pub last : others ≡ [] → kept ≡ length value

abbrev pub Gives : ParserPhase → State → List Rdn → List ℕ → Type 0
Gives Nothing s all text = GivesName s.rdns all text
Gives Comma s all text = GivesComma s.rdns all text
Gives Kind s all text = GivesKind s.rdns s.kind all text
Gives KindEnd s all text = GivesKindEnd s.rdns s.kind all text
Gives Equals s all text = GivesEquals s.rdns s.kind all text
Gives Value s all text = GivesMore s.rdns s.kind s.value s.due all text ⊎ GivesEnd s.rdns s.kind s.value s.kept s.due
    all text
Gives Mark s all text = GivesMore s.rdns s.kind s.value s.due all (92 ∷ text)
Gives (Digit high) s all text = GivesMore s.rdns s.kind s.value s.due all (92 ∷ high ∷ text)

-- ---- types

regroup : (k b c v r : List ℕ) → (((k ++ b) ++ 61 ∷ c) ++ v) ++ r ≡ k ++ (b ++ 61 ∷ (c ++ (v ++ r)))
regroup k b c v r = append_assoc ((k ++ b) ++ 61 ∷ c) v r ∙ append_assoc (k ++ b) (61 ∷ c) (v ++ r)
    ∙ append_assoc k b (61 ∷ (c ++ (v ++ r)))

-- a part of a name and those after it
record Parts (rdns all : List Rdn) (text : List ℕ) : Type 0 where
  rdn : Rdn
  others : List Rdn
  is_joined : IsJoined (SpellsRdn rdn) (SpellsOthers others) text
  whole : all ≡ rdns ++ rdn ∷ others

-- with its first letter a type begins a part
letter_parts : (rdns : List Rdn) (b : ℕ) (all : List Rdn) (text : List ℕ) → is_letter b ≡ true
    → GivesKind rdns (to_ascii_uppercase b ∷ []) all text → Parts rdns all (b ∷ text)
letter_parts rdns b all text is g =
    let k = g.is_rest in
    let e = k.is_rest in
    let kind = b ∷ g.letters in
    let first = ((kind ++ blanks k.before) ++ 61 ∷ blanks e.after) ++ e.value_text in
    record {
      rdn = record { kind = str_to_ascii_uppercase kind; value = e.value };
      others = e.others;
      is_joined = record {
        first = first;
        is_first = record {
          kind = kind;
          spells_type = record {
            is_type = ap (λ (t : Bool). t && list_all is_type_byte g.letters) is
                ∙ g.are_letters;
            upper = refl;
          };
          before = k.before;
          after = e.after;
          value = e.value_text;
          spells_value = e.spells;
          parts = refl;
        };
        rest = e.rest;
        is_rest = e.is_rest;
        parts =
            ap (λ (t : List ℕ). b ∷ t) (g.parts ∙ ap (λ (t : List ℕ). g.letters ++ t)
            (k.parts ∙ ap (λ (t : List ℕ). blanks k.before ++ 61 ∷ t) e.parts))
            ∙ sym (regroup kind (blanks k.before) (blanks e.after) e.value_text e.rest);
      };
      whole = e.whole;
    }

pub letter_gives : (rdns : List Rdn) (b : ℕ) (all : List Rdn) (text : List ℕ) → is_letter b ≡ true
    → GivesKind rdns (to_ascii_uppercase b ∷ []) all text → GivesComma rdns all (b ∷ text)
letter_gives rdns b all text is g =
    let p = letter_parts rdns b all text is g in
    record {
      after = 0;
      rdn = p.rdn;
      others = p.others;
      joined = b ∷ text;
      is_joined = p.is_joined;
      whole
          = p.whole;
      parts = refl;
    }

pub letter_name : (rdns : List Rdn) (b : ℕ) (all : List Rdn) (text : List ℕ) → is_letter b ≡ true
    → GivesKind rdns (to_ascii_uppercase b ∷ []) all text → GivesName rdns all (b ∷ text)
letter_name rdns b all text is g =
    let p = letter_parts rdns b all text is g in
    record { names = p.rdn ∷ p.others; spelled = p.is_joined; whole = p.whole }

-- ---- values

pub ends_more : (p : Piece) (pieces : List Piece) → EndsWell pieces → EndsWell (p ∷ pieces)
ends_more p [] e = absurd e
ends_more p (q ∷ pieces) e = e

some_pieces : (pieces : List Piece) → EndsWell pieces → 1 ≤ length (map piece_byte pieces)
some_pieces [] e = absurd e
some_pieces (p ∷ pieces) e = omega arith

begins_well : (c : ℕ) (text rest : List ℕ) (pieces : List Piece) → EndsWell pieces → c ∷ text
    ≡ flat_map piece_text pieces ++ rest → eqb c 32 ≡ false → eqb c 35 ≡ false → BeginsWell pieces
begins_well c text rest [] e parts no_blank no_hash = absurd e
begins_well c text rest (plain b ∷ pieces) e parts no_blank no_hash =
    let same : c ≡ b = ap (λ (l : List ℕ). get_or l 0 0) parts in
    subst (λ (x : ℕ). (not (eqb x 32) && not (eqb x 35)) ≡ true) same
    (ap (λ (t : Bool). not t && not (eqb c 35)) no_blank ∙ ap (λ (t : Bool). not t) no_hash)
begins_well c text rest (marked b ∷ pieces) e parts no_blank no_hash = refl
begins_well c text rest (pair high low ∷ pieces) e parts no_blank no_hash = refl

-- a value after =, which begins with neither a blank nor #
pub equals_gives : (rdns : List Rdn) (kind : List ℕ) (all : List Rdn) (c : ℕ) (text : List ℕ) → eqb c 32 ≡ false
    → eqb c 35 ≡ false → GivesMore rdns kind [] nothing_due all (c ∷ text) → GivesEquals rdns kind all (c ∷ text)
equals_gives rdns kind all c text no_blank no_hash m =
    let bytes = map piece_byte m.pieces in
    record {
      after = 0;
      value = bytes;
      value_text = flat_map piece_text m.pieces;
      spells = record {
        is_value = record {
          utf8 = filled_utf8 nothing_due bytes refl m.fills;
          at_least_one
              = some_pieces m.pieces m.ends;
          at_most_1024 = m.most;
        };
        pieces = m.pieces;
        are_pieces = m.are_pieces;
        begins = begins_well c text m.rest m.pieces m.ends m.parts no_blank no_hash;
        ends = m.ends;
        bytes = refl;
        parts = refl;
      };
      others = m.others;
      rest = m.rest;
      is_rest = m.is_rest;
      whole = m.whole;
      parts = m.parts;
    }

-- one more byte before it
pub byte_gives : (s : State) (p : Piece) (d : Utf8State) → due_after (length s.value) s.due (piece_byte p) ≡ Some d
    → IsPiece p → may_be_last p ≡ true → length (s.value ++ piece_byte p ∷ []) ≤ 1024
    → (all : List Rdn) (text : List ℕ) → Gives Value (with_byte s (piece_byte p) d) all text → GivesMore s.rdns s.kind
    s.value s.due all (piece_text p ++ text)
byte_gives s p d is piece last most all text (inl m) =
    let b = piece_byte p in
    let bytes = map piece_byte m.pieces in
    let longer : (s.value ++ b ∷ []) ++ bytes ≡ s.value ++ b ∷ bytes = append_assoc s.value (b ∷ []) bytes in
    record {
      pieces = p ∷ m.pieces;
      are_pieces = (piece, m.are_pieces);
      ends = ends_more p m.pieces m.ends;
      fills = subst (λ (o : Option Utf8State). Fills o bytes) (sym (anywhere (length s.value) b s.due d is)) m.fills;
      most = subst (λ (v : List ℕ). length v ≤ 1024) longer m.most;
      others = m.others;
      rest = m.rest;
      is_rest = m.is_rest;
      whole = m.whole ∙ ap (λ (v : List ℕ). s.rdns ++ record { kind = s.kind; value = v } ∷ m.others) longer;
      parts = ap (λ (t : List ℕ). piece_text p ++ t) m.parts
          ∙ sym (append_assoc (piece_text p) (flat_map piece_text m.pieces) m.rest);
    }
byte_gives s p d is piece last most all text (inr e) =
    let b = piece_byte p in
    record {
      pieces = p ∷ [];
      are_pieces = (piece, tt);
      ends = last;
      fills = subst (λ (o : Option Utf8State). Fills o []) (sym (anywhere (length s.value) b s.due d is)) e.closed;
      most = most;
      others = e.others;
      rest = text;
      is_rest = e.is_rest;
      whole = e.whole ∙ ap (λ (v : List ℕ). s.rdns ++ record { kind = s.kind; value = v } ∷ e.others)
          (take-length (s.value ++ b ∷ []));
      parts = ap (λ (t : List ℕ). t ++ text) (sym (append-nil (piece_text p)));
    }
