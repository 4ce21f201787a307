use Rattle.std.proofs.Common.{List, [], ◌∷◌, ◌++◌, ap, ◌∙◌, append_assoc}
use Rattle.ad_dir_objects.specs.declared.object.Stored.{Stored as StoredIn}
use Rattle.ad_change_values.specs.Piles.{since_in, alive}
use Rattle.ad_change_values.proofs.pile.add_all.Goals as goal

pub loop-one-preserved : goal.loop-one-preserved
loop-one-preserved c = (
  c.in_ok-add_one.ensures.index,
  c.in_ok-add_one.ensures.added ∙ ap (λ (zs : List StoredIn). zs ++ c.in-Some.one ∷ []) c.loop-one.invariant.1
      ∙ append_assoc (alive (since_in c.args.places) 0 c.args.all) c.loop-one.yielded (c.in-Some.one ∷ []),
)
