use Rattle.std.proofs.Common.{sym, ◌∙◌}
use Rattle.ad_search.proofs.needles.plain_named.Goals as goal

pub returns-else-not-is_plain : goal.returns-else-not-is_plain
returns-else-not-is_plain c = record {
  ordinary = sym c.is_descriptor.ensures ∙ c.if-is_descriptor.false;
  named = sym c.attr.ensures.attr ∙ c.in-Some.is;
  within = c.in-Some.ensures.in_range;
  plain = c.is_plain.ensures c.if-not-is_plain.false;
}
