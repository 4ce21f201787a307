use Rattle.std.proofs.Common.{◌≡◌, List, subst}
use Rattle.ad_dir_objects.specs.declared.object.Stored.{Stored as StoredIn}
use Rattle.ad_change_values.specs.Piles.{since_in, alive, IsIndex}
use Rattle.ad_change_values.proofs.pile.index_of.Goals as goal

pub returns-clause-pile : goal.returns-clause-pile
returns-clause-pile c = subst (IsIndex (since_in c.in_ok-places.places)) c.as_slice.ensures c.in_ok-places.ensures.index

pub returns-clause-seen : goal.returns-clause-seen
returns-clause-seen c = subst (λ (all : List StoredIn). alive (since_in c.in_ok-places.places) 0 all ≡ all)
    c.as_slice.ensures c.in_ok-places.ensures.all
