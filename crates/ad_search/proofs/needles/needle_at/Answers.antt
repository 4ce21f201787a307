use Rattle.std.proofs.Common.{refl, sym, ◌∙◌}
use Rattle.ad_search.proofs.NeedleLaws.{found_ok}
use Rattle.ad_search.proofs.needles.needle_at.Goals as goal

pub returns-in-Some : goal.returns-in-Some
returns-in-Some c = record {
  info = c.attr_info.result.now;
  known = c.attr_info.ensures;
  attr_is = refl;
  value_is = found_ok _ c.in-Some.value (sym c.in_ok-value.ensures ∙ c.in-Some.is);
  plain = c.is_plain.ensures c.if-not-is_plain.false;
}
