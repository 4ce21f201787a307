use Rattle.std.proofs.Common.{List, map, ap, ◌∙◌}
use Rattle.std.proofs.lemmas.Result.{on_ok_weaker}
use Rattle.ad_schema.specs.declared.line.SchemaRecord.{SchemaRecord}
use Rattle.ad_schema.specs.declared.meaning.RuleAttr.TheVariants as rule
use Rattle.ad_schema.specs.Meaning.{attr_of_rule}
use Rattle.ad_dir_objects.specs.Seen.{stored_seen}
use Rattle.ad_dir_model.specs.Object.{names, stored_in}
use Rattle.ad_dir_model.specs.Object as model
use Rattle.ad_dir_model.specs.Objects.{object_at}
use Rattle.ad_dir_model.specs.Protection.{has_as_member}
use Rattle.ad_protect.proofs.Sets.{takes_none, takes_same}
use Rattle.ad_protect.proofs.Spreads.{member_place, member_nowhere, values_seen, members_are, no_members}
use Rattle.ad_protect.proofs.spread.take_members.Goals as goal

pub returns-in-Some : goal.returns-in-Some
returns-in-Some c =
    let attr = c.in-Some.attr.0 in
    let place = member_place c.args.dir.now.schema c.attr_of_rule.result c.in-Some.attr
    (c.attr_of_rule.ensures ∙ ap (λ (schema : List SchemaRecord). attr_of_rule schema rule.Member) c.schema.ensures)
    c.in-Some.is in
    let values = c.stored_of.ensures
    ∙ ap (λ (vs : List model.Held). stored_in vs c.in-Some.attr.0)
    (values_seen c.live_object.result.now _ (object_at c.args.dir.now.objects c.args.group) c.as_slice.result.now
    c.live_object.ensures c.as_slice.ensures) in
    on_ok_weaker c.take_links.result
    (takes_same (λ n. names n (map stored_seen c.stored_of.result.now))
    (has_as_member c.args.dir.now (object_at c.args.dir.now.objects c.args.group))
    c.args.taken.now.keys c.take_links.new.taken.keys
    (λ n. members_are c.args.dir.now c.args.group n c.in-Some.attr.0 (map stored_seen c.stored_of.result.now) place
    values))
    c.take_links.ensures

pub returns-in-None : goal.returns-in-None
returns-in-None c =
    takes_none (has_as_member c.args.dir.now (object_at c.args.dir.now.objects c.args.group)) c.args.taken.now.keys
    (λ n. no_members c.args.dir.now c.args.group n (member_nowhere c.args.dir.now.schema c.attr_of_rule.result
    (c.attr_of_rule.ensures ∙ ap (λ (schema : List SchemaRecord). attr_of_rule schema rule.Member) c.schema.ensures)
    c.in-None.is))
