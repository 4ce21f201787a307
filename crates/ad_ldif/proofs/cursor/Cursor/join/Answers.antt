use Rattle.std.proofs.Common.{refl, sym, ◌∙◌}
use Rattle.ad_ldif.proofs.LineLemmas.{begun}
use Rattle.ad_ldif.proofs.cursor.Cursor.join.Goals as goal

pub slice_bounds-extend_from_slice-count : goal.slice_bounds-extend_from_slice-count
slice_bounds-extend_from_slice-count c = begun 32 _ _ _ refl refl (sym c.begins_with.ensures ∙ c.loop-self-test.true)
    c.take_physical-line.ensures.line

pub slice_bounds-extend_from_slice-start : goal.slice_bounds-extend_from_slice-start
slice_bounds-extend_from_slice-start c = begun 32 _ _ _ refl refl (sym c.begins_with.ensures ∙ c.loop-self-test.true)
    c.take_physical-line.ensures.line
