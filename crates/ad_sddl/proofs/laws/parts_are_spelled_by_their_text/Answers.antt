use Rattle.ad_sddl.proofs.CanonicalText.{canonical_spelled}
use Rattle.ad_sddl.proofs.Texts.{text_again}
use Rattle.ad_sddl.specs.Canonical.{canonical}
use Rattle.ad_sddl.proofs.laws.parts_are_spelled_by_their_text.Goals as goal

pub returns : goal.returns
returns c = record {
  spelled = canonical_spelled;
  read = λ domain parts are some. text_again domain (canonical parts) parts (canonical_spelled domain parts are some);
}
