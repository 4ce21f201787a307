-- The lines of a token are read back.
use Rattle.std.proofs.Common.{◌≡◌, ℕ, true, Option, Some, List, [], ◌∷◌, ◌++◌, codes, decimal, refl, sym, ap, map}
use Rattle.std.proofs.Common.{◌∙◌, append_assoc, arith}
use Rattle.std.specs.Prelude.{option_map}
use Rattle.std.specs.List.{AllByRecursion, flat_map}
use Rattle.std.proofs.lemmas.List.{append-nil}
use Rattle.ad_bytes.specs.Puts.{labelled}
use Rattle.ad_ids.specs.SidValue.{SidValue}
use Rattle.ad_ids.specs.Sid.{IsSid}
use Rattle.ad_ids.specs.SidText.{sid_text}
use Rattle.ad_ids.specs.SidFront.{sid_of_text}
use Rattle.ad_ids.specs.declared.token.Token.{Token}
use Rattle.ad_who.specs.Lines.{group_line, token_text}
use Rattle.ad_text_laws.specs.Lines.{is_line, word_of, facts_of}
use Rattle.ad_text_laws.specs.Tokens.{Part, user, owned_by, primary, group, privileges, part_line, part_of, IsPart}
use Rattle.ad_text_laws.specs.Tokens.{parts_of, HasForm}
use Rattle.ad_text_laws.proofs.LineLaws.{IsRead, two_lines, word_is_line, facts_back}
use Rattle.ad_text_laws.proofs.WordLaws.{decimal_word, number_back, sid_word, sid_back}
use Rattle.ad_text_laws.proofs.FactLaws.{all_read}

pub sid_line : (label : List ℕ) (sid : SidValue) → is_line label ≡ true → IsSid sid → is_line (label ++ sid_text sid) ≡ true
sid_line label sid e is = two_lines label (sid_text sid) e (word_is_line (sid_text sid) (sid_word sid is))

sid_part : (make : SidValue → Part) (sid : SidValue) → IsSid sid → option_map make (sid_of_text (sid_text sid))
    ≡ Some (make sid)
sid_part make sid is = ap (λ (o : Option SidValue). option_map make o) (sid_back sid is)

part_read : (p : Part) → IsPart p → IsRead part_of part_line p
unfolding part_of word_of
part_read (user sid) is = record { one_line = sid_line (codes "user ") sid refl is; back = sid_part user sid is }
part_read (owned_by sid) is = record { one_line = sid_line (codes "owner ") sid refl is; back = sid_part owned_by sid is }
part_read (primary sid) is = record {
  one_line = sid_line (codes "primary ") sid refl is;
  back = sid_part primary sid is;
}
part_read (group sid) is = record { one_line = sid_line (codes "group ") sid refl is; back = sid_part group sid is }
part_read (privileges sum) is = record {
  one_line = two_lines (codes "privileges ") (decimal sum) refl (word_is_line (decimal sum) (decimal_word sum is));
  back = ap (λ (o : Option ℕ). option_map privileges o) (number_back sum is);
}

abbrev text_of : List Part → List ℕ
text_of parts = flat_map (λ (p : Part). part_line p ++ 10 ∷ []) parts

groups_text : (groups : List SidValue) (last : Part) → flat_map group_line groups ++ (part_line last ++ 10 ∷ [])
    ≡ text_of (map group groups ++ last ∷ [])
groups_text [] last = sym (append-nil (part_line last ++ 10 ∷ []))
groups_text (sid ∷ groups) last = append_assoc (group_line sid) (flat_map group_line groups) (part_line last ++ 10 ∷ [])
    ∙ ap (λ (t : List ℕ). group_line sid ++ t) (groups_text groups last)

-- the text of a token is that of its parts
pub token_parts : (token : Token) → token_text token ≡ text_of (parts_of token)
unfolding token_text
token_parts token = ap (λ (t : List ℕ). labelled (codes "user ") (sid_text token.user)
    ++ (labelled (codes "owner ") (sid_text token.owner) ++ (labelled (codes "primary ") (sid_text token.primary) ++ t)))
    (groups_text token.groups (privileges token.privileges))

all_groups : (groups : List SidValue) (last : Part) → AllByRecursion IsSid groups → IsPart last
    → AllByRecursion IsPart (map group groups ++ last ∷ [])
all_groups [] last all is = (is, tt)
all_groups (sid ∷ groups) last all is = (all.0, all_groups groups last all.1 is)

pub token_back : (token : Token) → HasForm token → facts_of part_of (token_text token) ≡ Some (parts_of token)
token_back token has =
    ap (facts_of part_of) (token_parts token)
    ∙ facts_back part_of part_line (parts_of token) (all_read part_of part_line part_read (parts_of token) (
      has.user,
      (
        has.owner,
        (has.primary, all_groups token.groups (privileges token.privileges) has.groups (omega (arith, has.privileges))),
      ),
    ))
