-- The lines of diff are read back.
use Rattle.std.proofs.Common.{◌≡◌, ℕ, ◌^◌, ◌<◌, true, Option, Some, List, ◌++◌, codes, decimal, refl, ap}
use Rattle.std.specs.Prelude.{option_map}
use Rattle.std.specs.Option.{option_or}
use Rattle.std.specs.List.{AllByRecursion}
use Rattle.ad_bytes.specs.Puts.{spaced}
use Rattle.ad_ids.specs.SidValue.{SidValue}
use Rattle.ad_ids.specs.Sid.{IsSid}
use Rattle.ad_ids.specs.SidText.{sid_text}
use Rattle.ad_dn.specs.declared.rdn.Dn.{Dn}
use Rattle.ad_dn.specs.Value.{AreRdns}
use Rattle.ad_dn.specs.Text.{dn_text}
use Rattle.ad_text_laws.specs.Lines.{is_line, word_of, facts_of}
use Rattle.ad_text_laws.specs.Diff.{DiffLine, cause, principal, object, block, gained, lost, diff_line}
use Rattle.ad_text_laws.specs.Diff.{principal_of, object_of, block_of, diff_line_of, IsDiffLine, diff_text}
use Rattle.ad_text_laws.specs.CauseLines.{object_cause}
use Rattle.ad_text_laws.proofs.CauseLaws.{cause_line_is, cause_back}
use Rattle.ad_text_laws.proofs.LineLaws.{IsRead, two_lines, word_is_line, facts_back}
use Rattle.ad_text_laws.proofs.WordLaws.{word_then, decimal_word, number_back, sid_word, sid_back, name_line, name_back}
use Rattle.ad_text_laws.proofs.FactLaws.{all_read, spaced_line}

-- ---- the parts of a line

number_line : (n : ℕ) → n < 2 ^ 64 → is_line (spaced (decimal n)) ≡ true
number_line n small = spaced_line (decimal n) (decimal_word n small)

principal_back : (group : ℕ) (sid : SidValue) (name : Dn) → group < 2 ^ 64 → IsSid sid → AreRdns name.rdns
    → principal_of (spaced (decimal group) ++ (spaced (sid_text sid) ++ dn_text name)) ≡ Some (principal group sid name)
unfolding principal_of
principal_back group sid name small is are =
    rw (
      word_then (decimal group) (spaced (sid_text sid) ++ dn_text name) (decimal_word group small),
      word_then (sid_text sid) (dn_text name) (sid_word sid is),
      number_back group small,
      sid_back sid is,
      name_back name are,
    ) refl

object_back : (group : ℕ) (name : Dn) → group < 2 ^ 64 → AreRdns name.rdns
    → object_of (spaced (decimal group) ++ dn_text name) ≡ Some (object group name)
unfolding object_of
object_back group name small are =
    rw (
      word_then (decimal group) (dn_text name) (decimal_word group small),
      number_back group small,
      name_back name are,
    ) refl

block_back : (principals objects : ℕ) → principals < 2 ^ 64 → objects < 2 ^ 64
    → block_of (spaced (decimal principals) ++ (spaced (codes "objects") ++ decimal objects))
    ≡ Some (block principals objects)
unfolding block_of
block_back principals objects small few =
    rw (
      word_then (decimal principals) (spaced (codes "objects") ++ decimal objects) (decimal_word principals small),
      word_then (codes "objects") (decimal objects) refl,
      number_back principals small,
      number_back objects few,
    ) refl

-- ---- lines

line_read : (line : DiffLine) → IsDiffLine line → IsRead diff_line_of diff_line line
unfolding diff_line_of word_of
line_read (cause c) is = record { one_line = cause_line_is c is; back = cause_back c is }
line_read (principal group sid name) is = record {
  one_line = two_lines (codes "principal ") (spaced (decimal group) ++ (spaced (sid_text sid) ++ dn_text name)) refl
      (two_lines (spaced (decimal group)) (spaced (sid_text sid) ++ dn_text name) (number_line group is.0)
      (two_lines (spaced (sid_text sid)) (dn_text name) (spaced_line (sid_text sid) (sid_word sid is.1))
      (name_line name is.2)));
  back = principal_back group sid name is.0 is.1 is.2;
}
line_read (object group name) is = record {
  one_line = two_lines (codes "object ") (spaced (decimal group) ++ dn_text name) refl
      (two_lines (spaced (decimal group)) (dn_text name) (number_line group is.0) (name_line name is.1));
  back = ap (λ (o : Option DiffLine). option_or o (option_map cause (object_cause (spaced (decimal group) ++ dn_text name))))
      (object_back group name is.0 is.1);
}
line_read (block principals objects) is = record {
  one_line = two_lines (codes "principals ") (spaced (decimal principals) ++ (spaced (codes "objects") ++ decimal objects))
      refl
      (two_lines (spaced (decimal principals)) (spaced (codes "objects") ++ decimal objects) (number_line principals is.0)
      (two_lines (spaced (codes "objects")) (decimal objects) refl (word_is_line (decimal objects)
      (decimal_word objects is.1))));
  back = block_back principals objects is.0 is.1;
}
line_read (gained label) is = record { one_line = two_lines (codes "+ ") label refl is; back = refl }
line_read (lost label) is = record { one_line = two_lines (codes "- ") label refl is; back = refl }

pub diff_lines_back : (lines : List DiffLine) → AllByRecursion IsDiffLine lines
    → facts_of diff_line_of (diff_text lines) ≡ Some lines
diff_lines_back lines all = facts_back diff_line_of diff_line lines (all_read diff_line_of diff_line line_read lines all)
