use Rattle.std.proofs.Common.{ℕ, ◌+◌, map, drop, sym, ap, ◌∙◌}
use Rattle.ad_load.specs.Links.{above, above_all}
use Rattle.ad_load_objects.specs.Seen.{draft_seen}
use Rattle.ad_load.proofs.Bounds.{above_next, above_end}
use Rattle.ad_load.proofs.counters.above_all.Goals as goal

pub loop-draft-preserved : goal.loop-draft-preserved
loop-draft-preserved c = record {
  value =
      ap (λ (n : ℕ). above_all c.args.schema.now c.args.domain.now n
      (map draft_seen (drop (c.loop-draft.draft-index + 1) c.args.drafts.now))) (c.above-n.ensures.value
      ∙ ap (above c.loop-draft.n) c.draft_rid.ensures)
      ∙ sym (above_next c.args.schema.now c.args.domain.now c.loop-draft.n c.args.drafts.now c.loop-draft.draft-index
      c.draft-item.result c.loop-draft-test.true
      (sym c.draft-item.is))
      ∙ c.loop-draft.invariant.value;
  small = c.above-n.ensures.small;
}

pub returns-clause-value : goal.returns-clause-value
returns-clause-value c = sym
    (above_end c.args.schema.now c.args.domain.now c.loop-draft.n c.args.drafts.now c.loop-draft.draft-index
    c.loop-draft-test.false)
    ∙ c.loop-draft.invariant.value
