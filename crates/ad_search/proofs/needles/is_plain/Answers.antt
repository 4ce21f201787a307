use Rattle.std.proofs.Common.{sym, ◌∙◌}
use Rattle.ad_search.proofs.needles.is_plain.Goals as goal

pub returns : goal.returns
returns c = λ so. record {
  no_class = sym c.is_named.ensures ∙ c.if-is_named.false;
  no_dn
      = sym c.is_named-else-is_named.ensures ∙ c.if-is_named-2.false;
}
