use Rattle.std.proofs.Common.{Bool, List, refl}
use Rattle.std.specs.Borrow.{Bor}
use Rattle.std.specs.List.{list_any}
use Rattle.ad_sets.specs.Told.{same_set}
use Rattle.ad_sets.proofs.Numbering.{entered}
use Rattle.ad_sets.proofs.telling.enter.Goals as goal

pub returns : goal.returns
returns c =
    let keys = c.args.told.now.keys in
    entered (list_any (λ (k : Bor (List Bool)). same_set c.args.set.now k.now) keys)
    (λ (k : Bor (List Bool)). k.now) c.args.set.now keys c.insert_full.new.self.keys c.args.set
    c.in_ok-place.is_new c.in_ok-place.place c.after.result refl refl c.in_ok-place.ensures.added
    c.in_ok-place.ensures.index c.after.ensures c.in_ok-place.ensures.keys
