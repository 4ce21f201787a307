use Rattle.std.proofs.Common.{◌∙◌, sym}
use Rattle.std.specs.List.{flat_map}
use Rattle.ad_dir.proofs.NameLaws.{if_ok}
use Rattle.ad_needs_rules.specs.Checks.{all_met}
use Rattle.ad_needs_rules.proofs.Refusing.{stops, goes_on}
use Rattle.ad_needs_rules.specs.Adding.{all_ordinary, own_checks, add_needs}
use Rattle.ad_needs.proofs.AddLaws.{lawful_at}
use Rattle.ad_needs.proofs.adding.unless_adds.Goals as goal

pub returns-in-Some : goal.returns-in-Some
returns-in-Some c =
    let added = c.args.added.now in
    let dir = c.args.dir.now in
    stops (flat_map (own_checks dir.schema added.class.0 c.args.rdn.now.value)
    (all_ordinary dir.schema added.add.now))
    (all_met dir c.args.token.now (add_needs dir added.parent added.class.0 c.args.sd.now)) c.in-Some.refusal
    (rw c.in-Some.is at c.unless_all_lawful.ensures
    ∙ lawful_at dir added.add.now c.args.rdn.now added.class.0 c.schema.result.now c.as_slice.result.now
    c.as_slice-attrs.result.now c.schema.ensures c.as_slice.ensures c.as_slice-attrs.ensures)

pub returns-in-None : goal.returns-in-None
returns-in-None c =
    let added = c.args.added.now in
    let dir = c.args.dir.now in
    if_ok c.unless_creates.result
    (λ found is. is
    ∙ sym (goes_on (flat_map (own_checks dir.schema added.class.0 c.args.rdn.now.value)
    (all_ordinary dir.schema added.add.now))
    (all_met dir c.args.token.now (add_needs dir added.parent added.class.0 c.args.sd.now))
    (rw c.in-None.is at c.unless_all_lawful.ensures
    ∙ lawful_at dir added.add.now c.args.rdn.now added.class.0 c.schema.result.now c.as_slice.result.now
    c.as_slice-attrs.result.now c.schema.ensures c.as_slice.ensures c.as_slice-attrs.ensures)))
    c.unless_creates.ensures.refusal
