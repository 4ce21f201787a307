use Rattle.std.proofs.Common.{◌∙◌, sym}
use Rattle.std.proofs.lemmas.Bool.{false≢true}
use Rattle.std.specs.Option.{option_copied}
use Rattle.ad_dir_objects.specs.Seen.{meta_seen, object_seen}
use Rattle.ad_rows_sound.specs.Parts.{IsCounted}
use Rattle.ad_rows_sound.proofs.Growing.{all_more, one_of}
use Rattle.ad_rows_sound.proofs.frame.are_counted.Goals as goal

pub loop-entry-preserved : goal.loop-entry-preserved
loop-entry-preserved c =
    let x = c.entry-item.result in
    all_more (IsCounted c.args.schema.now (option_copied c.args.domain) (meta_seen c.args.meta.now))
    (λ e. object_seen e.0 e.1) c.args.objects.now c.loop-entry.entry-index x c.loop-entry-test.true
    c.entry-item.is c.loop-entry.invariant ((c.is_counted_in.ensures x.1).0 c.if-not-is_counted_in.false)

pub returns-then-not-is_counted_in : goal.returns-then-not-is_counted_in
returns-then-not-is_counted_in c =
    let x = c.entry-item.result in (
      λ t. absurd (false≢true t),
      λ all. absurd (false≢true (sym c.if-not-is_counted_in.true ∙ (c.is_counted_in.ensures x.1).1
          (one_of (IsCounted c.args.schema.now (option_copied c.args.domain) (meta_seen c.args.meta.now))
          (λ e. object_seen e.0 e.1) c.args.objects.now c.loop-entry.entry-index x c.loop-entry-test.true
          c.entry-item.is all))),
    )
