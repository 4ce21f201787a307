use Rattle.std.proofs.Common.{◌∙◌, Bool, List, Some, map, sym, ap}
use Rattle.std.specs.Prelude.{slice_get}
use Rattle.std.specs.Option.{option_map}
use Rattle.std.proofs.lemmas.Option.{slice_get-map}
use Rattle.std.specs.Prelude.{Vec}
use Rattle.std.specs.List.{list_any}
use Rattle.std.specs.declared.alloc.Global.{Global}
use Rattle.ad_sets.specs.Told.{same_set}
use Rattle.ad_sets.proofs.Reading.{same_from}
use Rattle.ad_sets.proofs.Keeping.{keeps_put}
use Rattle.ad_sets.proofs.sets.Sets.put.Goals as goal

abbrev same_items : Vec Bool Global → Vec Bool Global → Bool
same_items a b = same_set a.items b.items

pub returns-clause-place : goal.returns-clause-place
returns-clause-place c =
    let stored = c.in_ok-place.ensures.stored in
    slice_get-map (λ set. set.items) c.insert_full.new.self.keys c.in_ok-place.place
    ∙ ap (option_map (λ set. set.items)) stored.1
    ∙ sym (ap (λ (l : List Bool). Some l) (same_from c.args.set.items stored.0.items stored.2))

pub returns-clause-kept : goal.returns-clause-kept
returns-clause-kept c = λ place set at.
    ap (λ keys. slice_get (map (λ (s : Vec Bool Global). s.items) keys) place) c.in_ok-place.ensures.keys
    ∙ keeps_put (λ (s : Vec Bool Global). s.items) (list_any (same_items c.args.set) c.args.self.now.sets.keys)
    c.args.self.now.sets.keys c.args.set place set at
