use Rattle.std.proofs.Common.{Bor, map, ap, ◌∙◌}
use Rattle.ad_ldap.specs.declared.items.Item.{Item}
use Rattle.ad_dir.proofs.NameLaws.{if_ok}
use Rattle.ad_needs_rules.specs.OwnWrites.{guid_if}
use Rattle.ad_needs_rules.proofs.ValidatedLaws.{by_write}
use Rattle.ad_needs_rules.proofs.validated.validated_write.Goals as goal

pub returns-in-Some : goal.returns-in-Some
returns-in-Some c =
    let items = map (λ (item : Bor Item). item.now) c.args.items.now in
    if_ok c.guid_if.result
    (λ guid is. is ∙ ap (guid_if c.args.dir.now c.args.token.now c.args.number items) c.in-Some.ensures
    ∙ by_write c.args.dir.now c.args.token.now c.args.number c.args.attr.0 items)
    c.guid_if.ensures

pub returns-in-None : goal.returns-in-None
returns-in-None c =
    let items = map (λ (item : Bor Item). item.now) c.args.items.now in
    ap (guid_if c.args.dir.now c.args.token.now c.args.number items) c.in-None.ensures ∙ by_write c.args.dir.now
    c.args.token.now c.args.number c.args.attr.0 items
