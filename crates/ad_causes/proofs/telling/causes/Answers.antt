use Rattle.std.proofs.Common.{◌∙◌, ◌++◌, [], ℕ, List, true, false, sym, ap}
use Rattle.ad_causes.specs.Cause.{causes_text}
use Rattle.ad_causes.specs.Members.{membership_causes}
use Rattle.ad_causes.specs.Schema.{schema_causes}
use Rattle.ad_causes.specs.Causes.{all_alone, all_objects}
use Rattle.ad_causes.proofs.TextLemmas.{joins, causes_is}
use Rattle.ad_causes.proofs.telling.causes.Goals as goal

pub returns : goal.returns
returns c =
    let before = c.args.before.now in
    let after = c.args.after.now in
    let a = causes_text (all_alone true after before) in
    let b = causes_text (all_alone false before after) in
    let d = causes_text (all_objects before after) in
    let e = causes_text (membership_causes true after before) in
    let f = causes_text (membership_causes false before after) in
    let g = causes_text (schema_causes before.schema after.schema) in
    let end = c.put_schemas_of.new.into.items in
    joins c.new-text.result.items c.put_objects_alone.new.into.items a (b ++ (d ++ (e ++ (f ++ g)))) end
    c.in_ok-put_objects_alone.ensures
    (joins c.put_objects_alone.new.into.items c.put_objects_alone-2.new.into.items b (d ++ (e ++ (f ++ g))) end
    c.in_ok-put_objects_alone-2.ensures
    (joins c.put_objects_alone-2.new.into.items c.put_objects.new.into.items d (e ++ (f ++ g)) end
    c.in_ok-put_objects.ensures
    (joins c.put_objects.new.into.items c.put_memberships.new.into.items e (f ++ g) end c.in_ok-put_memberships.ensures
    (joins c.put_memberships.new.into.items c.put_memberships-2.new.into.items f g end
    c.in_ok-put_memberships-2.ensures c.in_ok-put_schemas_of.ensures))))
    ∙ ap (λ (t : List ℕ). t ++ (a ++ (b ++ (d ++ (e ++ (f ++ g)))))) c.new-text.ensures.items
    ∙ sym (causes_is before after)
