use Rattle.std.proofs.Common.{◌∙◌, List, map, sym, subst}
use Rattle.std.specs.List.{AllByRecursion}
use Rattle.std.proofs.lemmas.Bool.{false≢true}
use Rattle.ad_dir_objects.specs.declared.object.Stored.{Stored}
use Rattle.ad_dir_objects.specs.Seen.{objects_of, held_seen, stored_seen}
use Rattle.ad_rows_sound.specs.Parts.{AreLiveLinks, IsLiveLink}
use Rattle.ad_rows_sound.proofs.Growing.{one_of}
use Rattle.ad_rows_sound.proofs.finding.has_live_links.Goals as goal

pub returns-then-not-are_live_links : goal.returns-then-not-are_live_links
returns-then-not-are_live_links c = (
  λ t. absurd (false≢true t),
  λ all.
      let one = one_of (AreLiveLinks (objects_of c.args.objects.now)) held_seen c.args.values.now
      c.loop-held.held-index c.held-item.result c.loop-held-test.true c.held-item.is all in
      absurd (false≢true (sym c.if-not-are_live_links.true
      ∙ c.are_live_links.ensures.1 (subst
      (λ (values : List Stored). AllByRecursion (IsLiveLink (objects_of c.args.objects.now))
      (map stored_seen values)) (sym c.as_slice.ensures) one))),
)
