-- The one text that is written of a descriptor's parts encodes them.
use Rattle.std.proofs.lemmas.List.{append-nil}
use Rattle.std.proofs.Common.{◌≡◌, inl, ℕ, ◌≤◌, List, [], ◌∷◌, ◌++◌, length, Option, Some, None, codes, refl, sym, ap}
use Rattle.std.proofs.Common.{subst, ◌∙◌, append_assoc, arith}
use Rattle.std.specs.Str.{str_to_ascii_lowercase}
use Rattle.ad_bytes.specs.Reading.{SpellsEach}
use Rattle.ad_ids.specs.SidText.{sid_text}
use Rattle.ad_ids.specs.SidValue.{SidValue}
use Rattle.ad_sd.specs.Writing.{IsSidIf}
use Rattle.ad_sd.specs.declared.parts.AceList.{AceList}
use Rattle.ad_sd.specs.declared.parts.SdParts.{SdParts}
use Rattle.ad_sddl.specs.Grammar.{Piece, owner, group, dacl, sacl, SpellsPiece, with_pieces, no_parts, SpellsSddl}
use Rattle.ad_sddl.specs.Canonical.{sid_part, list_part, list_text, canonical, AreEntriesIf, AreParts, IsEmpty}
use Rattle.ad_sddl.proofs.CanonicalLower.{lower_append}
use Rattle.ad_sddl.proofs.CanonicalSids.{sid_spelled}
use Rattle.ad_sddl.proofs.CanonicalEntries.{list_spelled}

-- ---- the pieces

-- one piece of what is there, and none of what isn't
abbrev pub piece_if : {A : Type 0} → (A → Piece) → Option A → List Piece
piece_if piece None = []
piece_if piece (Some x) = piece x ∷ []

-- owner, group, DACL and SACL
abbrev pub pieces_of : SdParts → List Piece
pieces_of p = piece_if owner p.owner ++ (piece_if group p.group ++ (piece_if dacl p.dacl ++ piece_if sacl p.sacl))

abbrev parts : Option SidValue → Option SidValue → Option AceList → Option AceList → SdParts
parts o g d s = record { owner = o; group = g; dacl = d; sacl = s }

joined : (o g : Option SidValue) (d s : Option AceList) → with_pieces (Some no_parts) (pieces_of (parts o g d s))
    ≡ Some (parts o g d s)
joined None None None None = refl
joined None None None (Some s) = refl
joined None None (Some d) None = refl
joined None None (Some d) (Some s) = refl
joined None (Some g) None None = refl
joined None (Some g) None (Some s) = refl
joined None (Some g) (Some d) None = refl
joined None (Some g) (Some d) (Some s) = refl
joined (Some o) None None None = refl
joined (Some o) None None (Some s) = refl
joined (Some o) None (Some d) None = refl
joined (Some o) None (Some d) (Some s) = refl
joined (Some o) (Some g) None None = refl
joined (Some o) (Some g) None (Some s) = refl
joined (Some o) (Some g) (Some d) None = refl
joined (Some o) (Some g) (Some d) (Some s) = refl

-- the pieces of the parts, in this order, make up the parts
pub pieces_joined : (p : SdParts) → with_pieces (Some no_parts) (pieces_of p) ≡ Some p
pieces_joined p = joined p.owner p.group p.dacl p.sacl

-- a part that is absent gives no piece
pub no_owner : (p : SdParts) → p.owner ≡ None → pieces_of p ≡ piece_if group p.group
    ++ (piece_if dacl p.dacl ++ piece_if sacl p.sacl)
no_owner p none = ap (λ (o : Option SidValue). piece_if owner o
    ++ (piece_if group p.group ++ (piece_if dacl p.dacl ++ piece_if sacl p.sacl))) none

pub no_group : (p : SdParts) → p.group ≡ None → pieces_of p ≡ piece_if owner p.owner
    ++ (piece_if dacl p.dacl ++ piece_if sacl p.sacl)
no_group p none = ap (λ (g : Option SidValue). piece_if owner p.owner
    ++ (piece_if group g ++ (piece_if dacl p.dacl ++ piece_if sacl p.sacl))) none

pub no_dacl : (p : SdParts) → p.dacl ≡ None → pieces_of p ≡ piece_if owner p.owner
    ++ (piece_if group p.group ++ piece_if sacl p.sacl)
no_dacl p none = ap (λ (d : Option AceList). piece_if owner p.owner
    ++ (piece_if group p.group ++ (piece_if dacl d ++ piece_if sacl p.sacl))) none

pub no_sacl : (p : SdParts) → p.sacl ≡ None → pieces_of p ≡ piece_if owner p.owner
    ++ (piece_if group p.group ++ piece_if dacl p.dacl)
no_sacl p none =
    ap (λ (s : Option AceList). piece_if owner p.owner
    ++ (piece_if group p.group ++ (piece_if dacl p.dacl ++ piece_if sacl s))) none
    ∙ ap (λ (ps : List Piece). piece_if owner p.owner ++ (piece_if group p.group ++ ps))
    (append-nil (piece_if dacl p.dacl))

some_of : (o g : Option SidValue) (d s : Option AceList) → (IsEmpty (parts o g d s) → ⊥) → 1
    ≤ length (pieces_of (parts o g d s))
some_of (Some o) g d s some = omega arith
some_of None (Some g) d s some = omega arith
some_of None None (Some d) s some = omega arith
some_of None None None (Some s) some = omega arith
some_of None None None None some = absurd (some (refl, refl, refl, refl))

-- ---- the text

both_spelled : (domain : Option SidValue) (xs ys : List Piece) (a b : List ℕ) → SpellsEach (SpellsPiece domain) xs a
    → SpellsEach (SpellsPiece domain) ys b → SpellsEach (SpellsPiece domain) (xs ++ ys) (a ++ b)
both_spelled domain [] ys a b p q = subst (λ (t : List ℕ). SpellsEach (SpellsPiece domain) ys (t ++ b)) (sym p) q
both_spelled domain (x ∷ xs) ys a b p q = record {
  front = p.front;
  behind = p.behind ++ b;
  parts = ap (λ (t : List ℕ). t ++ b) p.parts ∙ append_assoc p.front p.behind b;
  spelled = p.spelled;
  follows = both_spelled domain xs ys p.behind b p.follows q;
}

one_spelled : (domain : Option SidValue) (piece : Piece) (text : List ℕ) → SpellsPiece domain piece text
    → SpellsEach (SpellsPiece domain) (piece ∷ []) text
one_spelled domain piece text s = record {
  front = text;
  behind = [];
  parts = sym (append-nil text);
  spelled
      = s;
  follows = refl;
}

owner_spelled : (domain : Option SidValue) (o : Option SidValue) → IsSidIf o → SpellsEach (SpellsPiece domain)
    (piece_if owner o) (str_to_ascii_lowercase (sid_part (codes "O:") o))
owner_spelled domain None is = refl
owner_spelled domain (Some v) is = one_spelled domain (owner v) (str_to_ascii_lowercase (codes "O:" ++ sid_text v))
    (record { behind = str_to_ascii_lowercase (sid_text v); spelled = inl (sid_spelled v is); parts = refl })

group_spelled : (domain : Option SidValue) (o : Option SidValue) → IsSidIf o → SpellsEach (SpellsPiece domain)
    (piece_if group o) (str_to_ascii_lowercase (sid_part (codes "G:") o))
group_spelled domain None is = refl
group_spelled domain (Some v) is = one_spelled domain (group v) (str_to_ascii_lowercase (codes "G:" ++ sid_text v))
    (record { behind = str_to_ascii_lowercase (sid_text v); spelled = inl (sid_spelled v is); parts = refl })

dacl_spelled : (domain : Option SidValue) (o : Option AceList) → AreEntriesIf o → SpellsEach (SpellsPiece domain)
    (piece_if dacl o) (str_to_ascii_lowercase (list_part (codes "D:") o))
dacl_spelled domain None is = refl
dacl_spelled domain (Some list) is = one_spelled domain (dacl list)
    (str_to_ascii_lowercase (codes "D:" ++ list_text list))
    (record { behind = str_to_ascii_lowercase (list_text list); spelled = list_spelled domain list is; parts = refl })

sacl_spelled : (domain : Option SidValue) (o : Option AceList) → AreEntriesIf o → SpellsEach (SpellsPiece domain)
    (piece_if sacl o) (str_to_ascii_lowercase (list_part (codes "S:") o))
sacl_spelled domain None is = refl
sacl_spelled domain (Some list) is = one_spelled domain (sacl list)
    (str_to_ascii_lowercase (codes "S:" ++ list_text list))
    (record { behind = str_to_ascii_lowercase (list_text list); spelled = list_spelled domain list is; parts = refl })

-- each part that is there is a piece of the text, and no other is
pub pieces_spelled : (domain : Option SidValue) (p : SdParts) → AreParts p → SpellsEach (SpellsPiece domain)
    (pieces_of p) (str_to_ascii_lowercase (canonical p))
unfolding canonical
pieces_spelled domain p are =
    let o = sid_part (codes "O:") p.owner in
    let g = sid_part (codes "G:") p.group in
    let d = list_part (codes "D:") p.dacl in
    let s = list_part (codes "S:") p.sacl in
    let split : str_to_ascii_lowercase (o ++ (g ++ (d ++ s))) ≡ str_to_ascii_lowercase o
    ++ (str_to_ascii_lowercase g ++ (str_to_ascii_lowercase d ++ str_to_ascii_lowercase s)) =
    lower_append o (g ++ (d ++ s)) ∙ ap (λ (t : List ℕ). str_to_ascii_lowercase o ++ t)
    (lower_append g (d ++ s) ∙ ap (λ (t : List ℕ). str_to_ascii_lowercase g ++ t) (lower_append d s)) in
    subst (SpellsEach (SpellsPiece domain) (pieces_of p)) (sym split)
    (both_spelled domain (piece_if owner p.owner) _ (str_to_ascii_lowercase o) _
    (owner_spelled domain p.owner are.owner)
    (both_spelled domain (piece_if group p.group) _ (str_to_ascii_lowercase g) _
    (group_spelled domain p.group are.group)
    (both_spelled domain (piece_if dacl p.dacl) (piece_if sacl p.sacl) (str_to_ascii_lowercase d)
    (str_to_ascii_lowercase s) (dacl_spelled domain p.dacl are.dacl) (sacl_spelled domain p.sacl are.sacl))))

-- the one text is a text of the grammar
pub canonical_spelled : (domain : Option SidValue) (p : SdParts) → AreParts p → (IsEmpty p → ⊥)
    → SpellsSddl domain p (canonical p)
canonical_spelled domain p are some = record {
  pieces = pieces_of p;
  at_least_one = some_of p.owner p.group p.dacl p.sacl some;
  spelled = pieces_spelled domain p are;
  parts_are = pieces_joined p;
}
