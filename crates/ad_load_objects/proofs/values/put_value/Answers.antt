use Rattle.std.proofs.Common.{Bool, IfOk, subst}
use Rattle.std.specs.List.{list_any}
use Rattle.ad_load_objects.specs.Had.{PutsUnless}
use Rattle.ad_load_objects.specs.Objects.{is_same_given, is_one_too_many}
use Rattle.ad_load_objects.specs.Seen.{given_seen}
use Rattle.ad_load_objects.proofs.values.put_value.Goals as goal

pub returns : goal.returns
unfolding is_one_too_many
returns c = subst
    (λ (single : Bool). IfOk c.push.result
    (PutsUnless (list_any (is_same_given single c.args.one.attr.0 c.args.one.value) c.args.given.now)
    (given_seen c.args.one) c.args.given.now c.push.new.self))
    c.is_single-single.ensures c.push.ensures
