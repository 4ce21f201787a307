use Rattle.std.proofs.Common.{sym, ◌∙◌}
use Rattle.ad_ldif.proofs.PieceLemmas.{found_end, finds_end}
use Rattle.ad_ldif.proofs.pieces.ends_record.Goals as goal

pub returns : goal.returns
returns c = (
  λ e. found_end c.args.text.now _ _ c.ends_with.ensures.value c.ends_with-2.ensures.value (sym c.either.ensures ∙ e),
  λ ends. c.either.ensures ∙ finds_end c.args.text.now _ _ c.ends_with.ensures.value c.ends_with-2.ensures.value ends,
)
