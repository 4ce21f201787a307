-- Parts: what is read is encoded so, and what is encoded so is read.
use Rattle.std.proofs.Common.{Bool, eqb, not, true, false, ◌≡◌, ◌⊎◌, inl, inr, ℕ, zero, suc, ◌<◌, ◌≤◌, List, [], ◌∷◌}
use Rattle.std.proofs.Common.{◌++◌, length, drop, Option, Some, None, unwrap_or, if◌then◌else◌, Ok, Err, codes, refl}
use Rattle.std.proofs.Common.{sym, ap, subst, ◌∙◌, append_assoc, arith}
use Rattle.std.specs.Option.{is_some}
use Rattle.std.proofs.lemmas.List.{length-append}
use Rattle.std.proofs.lemmas.Bool.{eqb-true}
use Rattle.std.proofs.lemmas.Bool.Decides.{nat_tests}
use Rattle.ad_ids.specs.SidSteps.{is_digit}
use Rattle.ad_bytes.specs.Reading.{Reading, TakesFront, SpellsEach}
use Rattle.ad_bytes.proofs.Steps.{from_bind, from_need, from_ok}
use Rattle.ad_ids.specs.SidValue.{SidValue}
use Rattle.ad_ids.proofs.SidFront.{Ends}
use Rattle.ad_sd.specs.declared.parts.AceList.{AceList}
use Rattle.ad_sd.specs.declared.parts.SdParts.{SdParts}
use Rattle.ad_sddl.specs.declared.fault.SddlKind.TheVariants as kind
use Rattle.ad_sddl.specs.declared.fault.ParseError.{ParseError}
use Rattle.ad_sddl.specs.Words.{begins}
use Rattle.ad_sddl.specs.Grammar.{Piece, owner, group, dacl, sacl, Headed, SpellsSid, SpellsList, SpellsPiece}
use Rattle.ad_sddl.specs.Grammar.{with_piece, with_pieces, no_parts, SpellsPieces}
use Rattle.ad_sddl.specs.Reading.{stop, list_flag_at, sid_at, list_at, once_at, with_part, part_at, rest_at, parts_at}
use Rattle.ad_sddl.proofs.Beginnings.{begins_two}
use Rattle.ad_sddl.proofs.Sids.{sid_takes, sid_before, sid_at_end}
use Rattle.ad_sddl.proofs.Lists.{list_takes, list_again, Follows}

-- a piece at the beginning, which the parts didn't have
pub record PieceIs (domain : Option SidValue) (parts : SdParts) (bytes : List ℕ) (next : SdParts) (rest : List ℕ)
    : Type 0 where
  pub piece : Piece
  pub takes : TakesFront (SpellsPiece domain) bytes piece rest
  pub with_it : with_piece parts piece ≡ Some next

absent : {A : Type 0} (b : Bool) (x : A) → not b ≡ true → (if b then None else Some x) ≡ Some x
absent true x e = absurd cc
absent false x e = refl

-- what was read after a letter and colon, where it wasn't there
record OnceIs {A : Type 0} (Spells : A → List ℕ → Type 0) (head : List ℕ) (is_there : Bool) (put : A → SdParts)
    (bytes : List ℕ) (next : SdParts) (rest : List ℕ) : Type 0 where
  value : A
  new : not is_there ≡ true
  text : List ℕ
  parts : bytes ≡ text ++ rest
  spelled : Headed (Spells value) head text
  with_it : put value ≡ next

once_takes : {A : Type 0} (Spells : A → List ℕ → Type 0) (read : List ℕ → Reading A ParseError)
    → ((bytes : List ℕ) (v : A) (rest : List ℕ) → read bytes ≡ Ok (v, rest) → TakesFront Spells bytes v rest)
    → (a b : ℕ) (is_there : Bool) (put : A → SdParts) (bytes : List ℕ) (next : SdParts) (rest : List ℕ)
    → begins (a ∷ b ∷ []) bytes ≡ true → with_part put (once_at read is_there bytes) ≡ Ok (next, rest)
    → OnceIs Spells (a ∷ b ∷ []) is_there put bytes next rest
unfolding once_at
once_takes {A} Spells read takes a b is_there put bytes next rest begun e =
    from_bind (once_at read is_there bytes) _ (next, rest) e
    (λ (v : A × List ℕ) (e1 : once_at read is_there bytes ≡ Ok v) e2.
    from_need (not is_there) (stop kind.Repeated bytes) _ v e1
    (λ (new : not is_there ≡ true) (e3 : read (drop 2 bytes) ≡ Ok v).
    let head = a ∷ b ∷ [] in
    let t = takes (drop 2 bytes) v.0 v.1 e3 in
    subst (λ (p : SdParts × List ℕ). OnceIs Spells head is_there put bytes p.0 p.1)
    (from_ok {E = ParseError} (put v.0, v.1) (next, rest) e2)
    (record {
      value = v.0;
      new = new;
      text = head ++ t.text;
      parts = begins_two a b bytes begun ∙ ap (λ (r : List ℕ). head ++ r) t.parts ∙ sym (append_assoc head t.text v.1);
      spelled = record { behind = t.text; spelled = t.spelled; parts = refl };
      with_it = refl;
    })))

-- as a piece of the grammar
piece_of : {A : Type 0} (Spells : A → List ℕ → Type 0) (head : List ℕ) (is_there : Bool) (put : A → SdParts)
    (piece : A → Piece) (domain : Option SidValue) (parts : SdParts) (bytes : List ℕ) (next : SdParts) (rest : List ℕ)
    → ((v : A) (text : List ℕ) → Headed (Spells v) head text → SpellsPiece domain (piece v) text)
    → ((v : A) → not is_there ≡ true → with_piece parts (piece v) ≡ Some (put v))
    → OnceIs Spells head is_there put bytes next rest → PieceIs domain parts bytes next rest
piece_of Spells head is_there put piece domain parts bytes next rest spells added o = record {
  piece = piece o.value;
  takes = record { text = o.text; parts = o.parts; spelled = spells o.value o.text o.spelled };
  with_it = added o.value o.new ∙ ap Some o.with_it;
}

owner_takes : (domain : Option SidValue) (parts : SdParts) (bytes : List ℕ) (next : SdParts) (rest : List ℕ)
    → begins (codes "o:") bytes ≡ true
    → with_part (λ sid. record parts { owner = Some sid }) (once_at (sid_at domain) (is_some parts.owner) bytes)
    ≡ Ok (next, rest) → PieceIs domain parts bytes next rest
owner_takes domain parts bytes next rest begun e =
    let put : SidValue → SdParts = λ sid. record parts { owner = Some sid } in
    piece_of (SpellsSid domain) (codes "o:") (is_some parts.owner) put owner domain parts bytes next rest
    (λ v text h. h) (λ v new. absent (is_some parts.owner) (put v) new)
    (once_takes (SpellsSid domain) (sid_at domain) (sid_takes domain) 111 58 (is_some parts.owner) put bytes next rest
    begun e)

group_takes : (domain : Option SidValue) (parts : SdParts) (bytes : List ℕ) (next : SdParts) (rest : List ℕ)
    → begins (codes "g:") bytes ≡ true
    → with_part (λ sid. record parts { group = Some sid }) (once_at (sid_at domain) (is_some parts.group) bytes)
    ≡ Ok (next, rest) → PieceIs domain parts bytes next rest
group_takes domain parts bytes next rest begun e =
    let put : SidValue → SdParts = λ sid. record parts { group = Some sid } in
    piece_of (SpellsSid domain) (codes "g:") (is_some parts.group) put group domain parts bytes next rest
    (λ v text h. h) (λ v new. absent (is_some parts.group) (put v) new)
    (once_takes (SpellsSid domain) (sid_at domain) (sid_takes domain) 103 58 (is_some parts.group) put bytes next rest
    begun e)

dacl_takes : (domain : Option SidValue) (parts : SdParts) (bytes : List ℕ) (next : SdParts) (rest : List ℕ)
    → begins (codes "d:") bytes ≡ true
    → with_part (λ list. record parts { dacl = Some list }) (once_at (list_at domain) (is_some parts.dacl) bytes)
    ≡ Ok (next, rest) → PieceIs domain parts bytes next rest
dacl_takes domain parts bytes next rest begun e =
    let put : AceList → SdParts = λ list. record parts { dacl = Some list } in
    piece_of (SpellsList domain) (codes "d:") (is_some parts.dacl) put dacl domain parts bytes next rest
    (λ v text h. h) (λ v new. absent (is_some parts.dacl) (put v) new)
    (once_takes (SpellsList domain) (list_at domain) (list_takes domain) 100 58 (is_some parts.dacl) put bytes next
    rest begun e)

sacl_takes : (domain : Option SidValue) (parts : SdParts) (bytes : List ℕ) (next : SdParts) (rest : List ℕ)
    → begins (codes "s:") bytes ≡ true
    → with_part (λ list. record parts { sacl = Some list }) (once_at (list_at domain) (is_some parts.sacl) bytes)
    ≡ Ok (next, rest) → PieceIs domain parts bytes next rest
sacl_takes domain parts bytes next rest begun e =
    let put : AceList → SdParts = λ list. record parts { sacl = Some list } in
    piece_of (SpellsList domain) (codes "s:") (is_some parts.sacl) put sacl domain parts bytes next rest
    (λ v text h. h) (λ v new. absent (is_some parts.sacl) (put v) new)
    (once_takes (SpellsList domain) (list_at domain) (list_takes domain) 115 58 (is_some parts.sacl) put bytes next
    rest begun e)

by_word : (is : Bool) (here others : Reading SdParts ParseError) (next : SdParts) (rest : List ℕ) (P : Type 0)
    → (is ≡ true → here ≡ Ok (next, rest) → P) → (others ≡ Ok (next, rest) → P) → (if is then here else others)
    ≡ Ok (next, rest) → P
by_word true here others next rest P a b e = a refl e
by_word false here others next rest P a b e = b e

part_takes : (domain : Option SidValue) (parts : SdParts) (bytes : List ℕ) (next : SdParts) (rest : List ℕ)
    → part_at domain parts bytes ≡ Ok (next, rest) → PieceIs domain parts bytes next rest
unfolding part_at
part_takes domain parts bytes next rest e =
    let P = PieceIs domain parts bytes next rest in
    by_word (begins (codes "o:") bytes) _ _ next rest P (owner_takes domain parts bytes next rest) (λ e1.
    by_word (begins (codes "g:") bytes) _ _ next rest P (group_takes domain parts bytes next rest) (λ e2.
    by_word (begins (codes "d:") bytes) _ _ next rest P (dacl_takes domain parts bytes next rest) (λ e3.
    by_word (begins (codes "s:") bytes) _ (Err (stop kind.Part bytes)) next rest P
    (sacl_takes domain parts bytes next rest) (λ e4. absurd (no_part e4)) e3) e2) e1) e
  where
    no_part : ◌≡◌ {A = Reading SdParts ParseError} (Err (stop kind.Part bytes)) (Ok (next, rest)) → ⊥
    no_part e = absurd cc

-- pieces up to the end
record PiecesAre (domain : Option SidValue) (parts : SdParts) (bytes : List ℕ) (whole : SdParts) : Type 0 where
  pieces : List Piece
  at_least_one : 1 ≤ length pieces
  spelled : SpellsEach (SpellsPiece domain) pieces bytes
  parts_are : with_pieces (Some parts) pieces ≡ Some whole

empty : (bytes : List ℕ) → eqb (length bytes) 0 ≡ true → bytes ≡ []
empty [] e = refl
empty (b ∷ bytes) e = absurd (omega (arith, eqb-true (length (b ∷ bytes)) 0 e))

rest_if : (end : Bool) (domain : Option SidValue) (n : ℕ) (parts : SdParts) (bytes : List ℕ) (whole : SdParts)
    (next : SdParts) (after : List ℕ) → eqb (length after) 0 ≡ end → PieceIs domain parts bytes next after
    → (rest_at domain n next after ≡ Ok whole → PiecesAre domain next after whole)
    → (if end then Ok next else rest_at domain n next after) ≡ Ok whole → PiecesAre domain parts bytes whole
rest_if true domain n parts bytes whole next after ended p others e =
    record {
      pieces = p.piece ∷ [];
      at_least_one = omega arith;
      spelled = record {
        front = p.takes.text;
        behind = after;
        parts = p.takes.parts;
        spelled
            = p.takes.spelled;
        follows = empty after ended;
      };
      parts_are = ap (λ (o : Option SdParts). with_pieces o []) p.with_it ∙ ap Some (from_ok {E = ParseError} next whole e);
    }
rest_if false domain n parts bytes whole next after ended p others e =
    let o = others e in
    record {
      pieces = p.piece ∷ o.pieces;
      at_least_one = omega arith;
      spelled = record {
        front = p.takes.text;
        behind = after;
        parts = p.takes.parts;
        spelled
            = p.takes.spelled;
        follows = o.spelled;
      };
      parts_are = ap (λ (next : Option SdParts). with_pieces next o.pieces) p.with_it ∙ o.parts_are;
    }

rest_takes : (domain : Option SidValue) (n : ℕ) (parts : SdParts) (bytes : List ℕ) (whole : SdParts)
    → rest_at domain n parts bytes ≡ Ok whole → PiecesAre domain parts bytes whole
unfolding rest_at
rest_takes domain zero parts bytes whole e = absurd cc
rest_takes domain (suc n) parts bytes whole e =
    from_bind (part_at domain parts bytes) _ whole e
    (λ (next : SdParts × List ℕ) (e1 : part_at domain parts bytes ≡ Ok next) e2.
    rest_if (eqb (length next.1) 0) domain n parts bytes whole next.0 next.1 refl
    (part_takes domain parts bytes next.0 next.1 e1) (rest_takes domain n next.0 next.1 whole) e2)

pub parts_take : (domain : Option SidValue) (bytes : List ℕ) (whole : SdParts) → parts_at domain no_parts bytes
    ≡ Ok whole → SpellsPieces domain whole bytes
parts_take domain bytes whole e =
    let p = rest_takes domain (suc (length bytes)) no_parts bytes whole e in
    record { pieces = p.pieces; at_least_one = p.at_least_one; spelled = p.spelled; parts_are = p.parts_are }

-- ---- what is encoded is read

-- a part begins here
pub record Begun (rest : List ℕ) : Type 0 where
  pub c : ℕ
  pub more : List ℕ
  pub parts : rest ≡ c ∷ more
  pub ends : Ends c
  pub follows : Follows (c ∷ more)

abbrev After : List ℕ → Type 0
After rest = (rest ≡ []) ⊎ Begun rest

nothing_follows : Follows []
unfolding list_flag_at begins
nothing_follows = record { no_flag = refl; no_entry = refl }

owner_follows : (more : List ℕ) → Follows (111 ∷ more)
unfolding list_flag_at begins
owner_follows more = record { no_flag = refl; no_entry = refl }

group_follows : (more : List ℕ) → Follows (103 ∷ more)
unfolding list_flag_at begins
group_follows more = record { no_flag = refl; no_entry = refl }

dacl_follows : (more : List ℕ) → Follows (100 ∷ more)
unfolding list_flag_at begins
dacl_follows more = record { no_flag = refl; no_entry = refl }

sacl_follows : (more : List ℕ) → Follows (115 ∷ more)
unfolding list_flag_at begins
sacl_follows more = record { no_flag = refl; no_entry = refl }

ends : (c : ℕ) → is_digit c ≡ false → eqb c 45 ≡ false → Ends c
ends c a b = record { no_digit = a; no_hyphen = b }

piece_begins : (domain : Option SidValue) (piece : Piece) (front behind : List ℕ) → SpellsPiece domain piece front
    → Begun (front ++ behind)
piece_begins domain (owner v) front behind s
    = record {
      c = 111;
      more = 58 ∷ s.behind ++ behind;
      parts = ap (λ (t : List ℕ). t ++ behind) s.parts;
      ends
          = ends 111 refl refl;
      follows = owner_follows (58 ∷ s.behind ++ behind);
    }
piece_begins domain (group v) front behind s
    = record {
      c = 103;
      more = 58 ∷ s.behind ++ behind;
      parts = ap (λ (t : List ℕ). t ++ behind) s.parts;
      ends
          = ends 103 refl refl;
      follows = group_follows (58 ∷ s.behind ++ behind);
    }
piece_begins domain (dacl v) front behind s
    = record {
      c = 100;
      more = 58 ∷ s.behind ++ behind;
      parts = ap (λ (t : List ℕ). t ++ behind) s.parts;
      ends
          = ends 100 refl refl;
      follows = dacl_follows (58 ∷ s.behind ++ behind);
    }
piece_begins domain (sacl v) front behind s
    = record {
      c = 115;
      more = 58 ∷ s.behind ++ behind;
      parts = ap (λ (t : List ℕ). t ++ behind) s.parts;
      ends
          = ends 115 refl refl;
      follows = sacl_follows (58 ∷ s.behind ++ behind);
    }

pieces_begin : (domain : Option SidValue) (pieces : List Piece) (text : List ℕ) → SpellsEach (SpellsPiece domain)
    pieces text → After text
pieces_begin domain [] text s = inl s
pieces_begin domain (p ∷ pieces) text s = inr
    (subst Begun (sym s.parts) (piece_begins domain p s.front s.behind s.spelled))

sid_next : (domain : Option SidValue) (v : SidValue) (text rest : List ℕ) → SpellsSid domain v text → After rest
    → sid_at domain (text ++ rest) ≡ Ok (v, rest)
sid_next domain v text rest s (inl e) = subst (λ (r : List ℕ). sid_at domain (text ++ r) ≡ Ok (v, r)) (sym e)
    (sid_at_end domain v text s)
sid_next domain v text rest s (inr b) = subst (λ (r : List ℕ). sid_at domain (text ++ r) ≡ Ok (v, r)) (sym b.parts)
    (sid_before domain v text b.c b.more s b.ends)

list_next : (domain : Option SidValue) (v : AceList) (text rest : List ℕ) → SpellsList domain v text → After rest
    → list_at domain (text ++ rest) ≡ Ok (v, rest)
list_next domain v text rest s (inl e) = list_again domain v text rest s (subst Follows (sym e) nothing_follows)
list_next domain v text rest s (inr b) = list_again domain v text rest s (subst Follows (sym b.parts) b.follows)

-- the parts with a piece that they didn't have
added : (b : Bool) (x next : SdParts) → (if b then None else Some x) ≡ Some next → (b ≡ false) × (x ≡ next)
added true x next e = absurd cc
added false x next e = (refl, ap (λ (o : Option SdParts). unwrap_or o x) e)

owner_again : (domain : Option SidValue) (parts : SdParts) (v : SidValue) (bytes rest : List ℕ) → is_some parts.owner
    ≡ false → sid_at domain bytes ≡ Ok (v, rest) → part_at domain parts (111 ∷ 58 ∷ bytes)
    ≡ Ok (record parts { owner = Some v }, rest)
unfolding part_at begins once_at
owner_again domain parts v bytes rest new read = rw (new, read) refl

group_again : (domain : Option SidValue) (parts : SdParts) (v : SidValue) (bytes rest : List ℕ) → is_some parts.group
    ≡ false → sid_at domain bytes ≡ Ok (v, rest) → part_at domain parts (103 ∷ 58 ∷ bytes)
    ≡ Ok (record parts { group = Some v }, rest)
unfolding part_at begins once_at
group_again domain parts v bytes rest new read = rw (new, read) refl

dacl_again : (domain : Option SidValue) (parts : SdParts) (v : AceList) (bytes rest : List ℕ) → is_some parts.dacl
    ≡ false → list_at domain bytes ≡ Ok (v, rest) → part_at domain parts (100 ∷ 58 ∷ bytes)
    ≡ Ok (record parts { dacl = Some v }, rest)
unfolding part_at begins once_at
dacl_again domain parts v bytes rest new read = rw (new, read) refl

sacl_again : (domain : Option SidValue) (parts : SdParts) (v : AceList) (bytes rest : List ℕ) → is_some parts.sacl
    ≡ false → list_at domain bytes ≡ Ok (v, rest) → part_at domain parts (115 ∷ 58 ∷ bytes)
    ≡ Ok (record parts { sacl = Some v }, rest)
unfolding part_at begins once_at
sacl_again domain parts v bytes rest new read = rw (new, read) refl

piece_again : (domain : Option SidValue) (parts : SdParts) (piece : Piece) (next : SdParts) (front rest : List ℕ)
    → with_piece parts piece ≡ Some next → SpellsPiece domain piece front → After rest
    → part_at domain parts (front ++ rest) ≡ Ok (next, rest)
piece_again domain parts (owner v) next front rest w s after =
    let a = added (is_some parts.owner) (record parts { owner = Some v }) next w in
    ap (λ (t : List ℕ). part_at domain parts (t ++ rest)) s.parts ∙ owner_again domain parts v (s.behind ++ rest) rest
    a.0 (sid_next domain v s.behind rest s.spelled after) ∙ ap (λ (p : SdParts). Ok (p, rest)) a.1
piece_again domain parts (group v) next front rest w s after =
    let a = added (is_some parts.group) (record parts { group = Some v }) next w in
    ap (λ (t : List ℕ). part_at domain parts (t ++ rest)) s.parts ∙ group_again domain parts v (s.behind ++ rest) rest
    a.0 (sid_next domain v s.behind rest s.spelled after) ∙ ap (λ (p : SdParts). Ok (p, rest)) a.1
piece_again domain parts (dacl v) next front rest w s after =
    let a = added (is_some parts.dacl) (record parts { dacl = Some v }) next w in
    ap (λ (t : List ℕ). part_at domain parts (t ++ rest)) s.parts ∙ dacl_again domain parts v (s.behind ++ rest) rest
    a.0 (list_next domain v s.behind rest s.spelled after) ∙ ap (λ (p : SdParts). Ok (p, rest)) a.1
piece_again domain parts (sacl v) next front rest w s after =
    let a = added (is_some parts.sacl) (record parts { sacl = Some v }) next w in
    ap (λ (t : List ℕ). part_at domain parts (t ++ rest)) s.parts ∙ sacl_again domain parts v (s.behind ++ rest) rest
    a.0 (list_next domain v s.behind rest s.spelled after) ∙ ap (λ (p : SdParts). Ok (p, rest)) a.1

piece_long : (domain : Option SidValue) (piece : Piece) (front : List ℕ) → SpellsPiece domain piece front → 1
    ≤ length front
piece_long domain (owner v) front s = omega (arith, ap length s.parts)
piece_long domain (group v) front s = omega (arith, ap length s.parts)
piece_long domain (dacl v) front s = omega (arith, ap length s.parts)
piece_long domain (sacl v) front s = omega (arith, ap length s.parts)

next_given : (o : Option SdParts) (pieces : List Piece) (whole : SdParts) (P : Type 0) → with_pieces o pieces
    ≡ Some whole → ((next : SdParts) → o ≡ Some next → with_pieces (Some next) pieces ≡ Some whole → P) → P
next_given None pieces whole P e k = absurd cc
next_given (Some next) pieces whole P e k = k next refl e

not_empty : (text : List ℕ) → 1 ≤ length text → eqb (length text) 0 ≡ false
not_empty text some = grind (arith, nat_tests)

rest_again : (domain : Option SidValue) (n : ℕ) (parts : SdParts) (pieces : List Piece) (text : List ℕ)
    (whole : SdParts) → 1 ≤ length pieces → SpellsEach (SpellsPiece domain) pieces text → with_pieces (Some parts)
    pieces ≡ Some whole → length text < n
    → rest_at domain n parts text ≡ Ok whole
unfolding rest_at
rest_again domain zero parts pieces text whole some s w lt = absurd (omega (arith, lt))
rest_again domain (suc n) parts [] text whole some s w lt = absurd (omega (arith, some))
rest_again domain (suc n) parts (p ∷ []) text whole some s w lt =
    next_given (with_piece parts p) [] whole (rest_at domain (suc n) parts text ≡ Ok whole) w (λ next is e.
    let read : part_at domain parts text ≡ Ok (next, s.behind) = ap (part_at domain parts) s.parts
    ∙ piece_again domain parts p next s.front s.behind is s.spelled (inl s.follows) in
    let ended : eqb (length s.behind) 0 ≡ true = ap (λ (t : List ℕ). eqb (length t) 0) s.follows in
    rw (read, ended) (ap (λ (o : Option SdParts). Ok (unwrap_or o next)) e))
rest_again domain (suc n) parts (p ∷ q ∷ pieces) text whole some s w lt =
    next_given (with_piece parts p) (q ∷ pieces) whole (rest_at domain (suc n) parts text ≡ Ok whole) w (λ next is e.
    let begun = piece_begins domain q s.follows.front s.follows.behind s.follows.spelled in
    let after : Begun s.behind = subst Begun (sym s.follows.parts) begun in
    let read : part_at domain parts text ≡ Ok (next, s.behind) = ap (part_at domain parts) s.parts
    ∙ piece_again domain parts p next s.front s.behind is s.spelled (inr after) in
    let long : 1 ≤ length s.front = piece_long domain p s.front s.spelled in
    let shorter : length s.behind < n = omega (arith, lt, long, ap length s.parts, length-append s.front s.behind) in
    let more : eqb (length s.behind) 0 ≡ false = not_empty s.behind (omega (arith, ap length after.parts)) in
    rw (read, more) (rest_again domain n next (q ∷ pieces) s.behind whole (omega arith) s.follows e shorter))

pub parts_again : (domain : Option SidValue) (whole : SdParts) (text : List ℕ) → SpellsPieces domain whole text
    → parts_at domain no_parts text ≡ Ok whole
parts_again domain whole text s = rest_again domain (suc (length text)) no_parts s.pieces text whole s.at_least_one
    s.spelled s.parts_are (omega arith)
