use Rattle.std.proofs.Common.{◌∙◌, sym}
use Rattle.std.proofs.lemmas.Bool.{false≢true}
use Rattle.ad_dir_objects.specs.Seen.{objects_of, stored_seen}
use Rattle.ad_rows_sound.specs.Parts.{IsLiveLink}
use Rattle.ad_rows_sound.proofs.Growing.{one_of}
use Rattle.ad_rows_sound.proofs.finding.are_live_links.Goals as goal

pub returns-then-not-is_live_link : goal.returns-then-not-is_live_link
returns-then-not-is_live_link c = (
  λ t. absurd (false≢true t),
  λ all. absurd (false≢true (sym c.if-not-is_live_link.true
      ∙ c.is_live_link.ensures.1 (one_of (IsLiveLink (objects_of c.args.objects.now)) stored_seen c.args.values.now
      c.loop-stored.stored-index c.stored-item.result c.loop-stored-test.true c.stored-item.is all))),
)
