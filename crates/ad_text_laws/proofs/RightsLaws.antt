-- The lines of rights are read back.
use Rattle.std.proofs.Common.{◌≡◌, ◌∙◌, ℕ, ◌^◌, ◌<◌, true, Option, Some, None, List, ◌++◌, ◌∷◌, [], codes, decimal, refl, ap}
use Rattle.std.specs.Prelude.{option_map, option_and_then}
use Rattle.std.specs.Option.{option_or}
use Rattle.std.specs.List.{AllByRecursion}
use Rattle.ad_bytes.specs.Puts.{spaced}
use Rattle.ad_ids.specs.SidValue.{SidValue}
use Rattle.ad_ids.specs.Sid.{IsSid}
use Rattle.ad_ids.specs.SidText.{sid_text}
use Rattle.ad_dn.specs.declared.rdn.Dn.{Dn}
use Rattle.ad_dn.specs.Value.{AreRdns}
use Rattle.ad_dn.specs.Text.{dn_text}
use Rattle.ad_dn.specs.Reading.{dn_of}
use Rattle.ad_dn.specs.Steps.{step_from}
use Rattle.ad_sets.specs.declared.told.Sign.{Sign}
use Rattle.ad_sets.specs.declared.told.Sign.TheVariants.{Same, With, Without}
use Rattle.ad_rights_dir.specs.Rights.{sign_text}
use Rattle.ad_text_laws.specs.Lines.{is_line, word_of, facts_of}
use Rattle.ad_text_laws.specs.Facts.{title_text, HasTitle}
use Rattle.ad_text_laws.specs.Rights.{RightsLine, without, member, object, rights_line, then_by, who_of, member_of, signed_by}
use Rattle.ad_text_laws.specs.Rights.{signed_of, object_of, rights_line_of, IsRightsLine, rights_text}
use Rattle.ad_text_laws.proofs.LineLaws.{IsRead, two_lines, facts_back}
use Rattle.ad_text_laws.proofs.WordLaws.{word_then, decimal_word, number_back, sid_word, sid_back, name_line, name_back}
use Rattle.ad_text_laws.proofs.FactLaws.{all_read, spaced_line, title_line, title_back}

-- ---- the parts of a line

who_back : (makes : SidValue → Option Dn → RightsLine) (sid : SidValue) (name : Option Dn) → IsSid sid → HasTitle name
    → who_of makes (spaced (sid_text sid) ++ title_text name) ≡ Some (makes sid name)
unfolding who_of
who_back makes sid name is has =
    rw (word_then (sid_text sid) (title_text name) (sid_word sid is), sid_back sid is, title_back name has) refl

member_back : (number : ℕ) (sid : SidValue) (name : Option Dn) → number < 2 ^ 64 → IsSid sid → HasTitle name
    → member_of (spaced (decimal number) ++ (spaced (sid_text sid) ++ title_text name)) ≡ Some (member number sid name)
unfolding member_of
member_back number sid name small is has =
    rw (
      word_then (decimal number) (spaced (sid_text sid) ++ title_text name) (decimal_word number small),
      number_back number small,
    ) (who_back (member number) sid name is has)

-- what begins with a sign is no name
plus_is_none : (rest : List ℕ) → dn_of (codes "+ " ++ rest) ≡ None
unfolding dn_of step_from
plus_is_none rest = refl

minus_is_none : (rest : List ℕ) → dn_of (codes "- " ++ rest) ≡ None
unfolding dn_of step_from
minus_is_none rest = refl

signed_back : (number : ℕ) (sign : Sign) (name : Dn) → AreRdns name.rdns
    → signed_of number (sign_text sign ++ dn_text name) ≡ Some (object number sign name)
unfolding signed_of word_of
signed_back number Same name are =
    ap (λ (o : Option Dn). option_or (option_map (object number Same) o) (then_by (dn_text name) (signed_by number)))
    (name_back name are)
signed_back number With name are =
    ap (λ (o : Option Dn). option_or (option_map (object number Same) o)
    (then_by (codes "+ " ++ dn_text name) (signed_by number))) (plus_is_none (dn_text name))
    ∙ ap (option_map (object number With)) (name_back name are)
signed_back number Without name are =
    ap (λ (o : Option Dn). option_or (option_map (object number Same) o)
    (then_by (codes "- " ++ dn_text name) (signed_by number))) (minus_is_none (dn_text name))
    ∙ ap (option_map (object number Without)) (name_back name are)

object_back : (number : ℕ) (sign : Sign) (name : Dn) → number < 2 ^ 64 → AreRdns name.rdns
    → object_of (spaced (decimal number) ++ (sign_text sign ++ dn_text name)) ≡ Some (object number sign name)
unfolding object_of
object_back number sign name small are =
    rw (
      word_then (decimal number) (sign_text sign ++ dn_text name) (decimal_word number small),
      number_back number small,
    ) (signed_back number sign name are)

-- ---- lines

who_line : (sid : SidValue) (name : Option Dn) → IsSid sid → HasTitle name
    → is_line (spaced (sid_text sid) ++ title_text name) ≡ true
who_line sid name is has =
    two_lines (spaced (sid_text sid)) (title_text name) (spaced_line (sid_text sid) (sid_word sid is))
    (title_line name has)

number_line : (n : ℕ) → n < 2 ^ 64 → is_line (spaced (decimal n)) ≡ true
number_line n small = spaced_line (decimal n) (decimal_word n small)

sign_line : (sign : Sign) → is_line (sign_text sign) ≡ true
sign_line Same = refl
sign_line With = refl
sign_line Without = refl

line_read : (line : RightsLine) → IsRightsLine line → IsRead rights_line_of rights_line line
unfolding rights_line_of word_of
line_read (without sid name) is = record {
  one_line = two_lines (codes "none ") (spaced (sid_text sid) ++ title_text name) refl (who_line sid name is.0 is.1);
  back = who_back without sid name is.0 is.1;
}
line_read (member number sid name) is = record {
  one_line = two_lines (codes "in ") (spaced (decimal number) ++ (spaced (sid_text sid) ++ title_text name)) refl
      (two_lines (spaced (decimal number)) (spaced (sid_text sid) ++ title_text name) (number_line number is.0)
      (who_line sid name is.1.0 is.1.1));
  back = member_back number sid name is.0 is.1.0 is.1.1;
}
line_read (object number sign name) is = record {
  one_line = two_lines (codes "on ") (spaced (decimal number) ++ (sign_text sign ++ dn_text name)) refl
      (two_lines (spaced (decimal number)) (sign_text sign ++ dn_text name) (number_line number is.0)
      (two_lines (sign_text sign) (dn_text name) (sign_line sign) (name_line name is.1)));
  back = object_back number sign name is.0 is.1;
}

pub rights_lines_back : (lines : List RightsLine) → AllByRecursion IsRightsLine lines
    → facts_of rights_line_of (rights_text lines) ≡ Some lines
rights_lines_back lines all =
    facts_back rights_line_of rights_line lines (all_read rights_line_of rights_line line_read lines all)
