use Rattle.std.proofs.Common.{◌≡◌, ◌++◌, ◌∷◌, [], List, Option, ap, ◌∙◌}
use Rattle.std.specs.Prelude.{unwrap_or}
use Rattle.std.specs.Ordering.{nat_cmp}
use Rattle.std.specs.BTreeMap.{insert_entry}
use Rattle.ad_dir_objects.specs.declared.object.Stored.{Stored as StoredIn}
use Rattle.ad_load.specs.Seen.{by_attr}
use Rattle.ad_load.proofs.ByAttr.{Entries, more, put_by_attr}
use Rattle.ad_load.proofs.by_attr.put_stored.Goals as goal

pub returns : goal.returns
returns c =
    let es = c.args.values.now.entries in
    let attr = c.args.attr.0 in
    let first = c.in_ok-held.ensures.entries ∙ ap (λ (none : List StoredIn). insert_entry nat_cmp es attr none)
    c.new.ensures in
    let all : c.push.new.self ≡ more attr es c.args.value =
    c.in_ok-push.ensures.ok
    ∙ ap (λ (vs : List StoredIn). vs ++ c.args.value ∷ [])
    (c.or_none-all.ensures ∙ ap (λ (o : Option (List StoredIn)). unwrap_or o []) c.in_ok-held.ensures.old) in
    ap by_attr (c.in_ok-insert.ensures.entries
    ∙ ap (λ (xs : Entries). insert_entry nat_cmp xs attr c.push.new.self) first
    ∙ ap (λ (vs : List StoredIn). insert_entry nat_cmp (insert_entry nat_cmp es attr []) attr vs) all)
    ∙ put_by_attr es attr c.args.value c.in_ok-held.ensures.was_ordered
