use Rattle.std.proofs.Common.{◌≡◌, ◌++◌, List, ℕ, map, subst, ap, ◌∙◌}
use Rattle.std.specs.Prelude.{filter}
use Rattle.ad_schema.specs.Classes.{naming_of}
use Rattle.ad_schema.specs.declared.line.SchemaRecord.{SchemaRecord}
use Rattle.ad_schema.specs.declared.info.AttrId.{AttrId}
use Rattle.ad_schema.proofs.LookupLemmas.{class_naming}
use Rattle.ad_ldap.specs.MessageValue.{search_seen}
use Rattle.ad_dir_objects.specs.Seen.{held_seen, object_seen}
use Rattle.ad_dir_objects.specs.declared.object.Stored.{Stored as StoredIn}
use Rattle.ad_dir_model.specs.Object.{Held}
use Rattle.ad_dir_model.specs.Objects.{sd_at}
use Rattle.ad_dir.proofs.NameLaws.{class_within}
use Rattle.ad_entries.specs.Places.{is_given_at}
use Rattle.ad_entries.proofs.PlaceLaws.{has_own}
use Rattle.ad_entries.proofs.places.own_places.Goals as goal

pub class_info-requires : goal.class_info-requires
class_info-requires c =
    class_within c.args.asking.now.dir.now c.schema.result.now c.args.number c.live_object-object.result.now
    c.invariants.ensures c.requires.live c.schema.ensures c.live_object-object.ensures

pub returns-clause-places : goal.returns-clause-places
returns-clause-places c =
    let dir = c.args.asking.now.dir.now in
    let token = c.args.asking.now.token.now in
    let search = search_seen c.args.asking.now.search.now in
    let o = object_seen c.live_object-object.result.now (sd_at dir.objects c.args.number) in
    let given = is_given_at dir token c.args.number search in
    has_own dir token c.args.number c.class_info.result.now.naming.0 search o c.args.asked.now.computed.items
    c.push_held.new.places.items c.push_given.new.places.items c.push_each.new.places.items c.rise.new.numbers.items
    c.live_object-object.ensures
    (subst (λ (s : List SchemaRecord). c.class_info.result.now.naming.0
    ≡ naming_of s c.live_object-object.result.now.class.0) c.schema.ensures
    (class_naming c.schema.result.now c.live_object-object.result.now.class.0 c.class_info.result.now
    c.class_info.ensures.info))
    c.requires.asked.computed
    (c.in_ok-push_held.ensures.places
    ∙ ap (λ (old : List ℕ). old ++ filter given (map (λ (held : Held). held.attr)
    (map held_seen c.as_slice-values.result.now))) c.new-places.ensures.items
    ∙ ap (λ (values : List (AttrId × List StoredIn)). filter given (map (λ (held : Held). held.attr)
    (map held_seen values))) c.as_slice-values.ensures)
    c.in_ok-push_given.ensures.places
    (c.in_ok-push_each.ensures.places ∙ ap (λ (these : List ℕ). c.push_given.new.places.items ++ filter given these)
    c.as_slice-computed.ensures.value) c.rise.ensures.rises c.rise.ensures.same
