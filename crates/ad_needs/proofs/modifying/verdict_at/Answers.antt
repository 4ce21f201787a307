use Rattle.std.proofs.Common.{length, ap, ◌∙◌}
use Rattle.std.proofs.lemmas.List.{length-map}
use Rattle.ad_dir_objects.specs.declared.act.Act.{Act}
use Rattle.ad_needs_rules.specs.declared.outcome.Verdict.TheVariants.{Granted}
use Rattle.ad_needs.specs.Decoding.{AreDecoded, attr_of}
use Rattle.ad_needs.proofs.ModifyLaws.{item_refused, need_refused, all_granted}
use Rattle.ad_needs.proofs.modifying.verdict_at.Goals as goal

pub items_refusal-requires : goal.items_refusal-requires
items_refusal-requires c =
    let is = c.in_ok-decoded.ensures in
    record { live = c.requires; decoded = rw (is.items, is.flags) (rw c.schema.ensures at is.decoded) }

pub returns-in-Some : goal.returns-in-Some
returns-in-Some c =
    let is = c.in_ok-decoded.ensures in
    item_refused c.args.dir.now c.args.token.now c.args.number c.args.items.now c.args.flags c.in-Some.refusal
    (rw (c.in-Some.is, is.items, is.flags) at c.in_ok-refusal.ensures)

pub needs_refusal-requires : goal.needs_refusal-requires
needs_refusal-requires c =
    let is = c.in_ok-decoded.ensures in
    record { live = c.requires; decoded = rw (is.items, is.flags) (rw c.schema.ensures at is.decoded) }

pub returns-in-Some-2 : goal.returns-in-Some-2
returns-in-Some-2 c =
    let is = c.in_ok-decoded.ensures in
    need_refused c.args.dir.now c.args.token.now c.args.number c.args.items.now c.args.flags c.in-Some-2.missing
    (rw (c.in_default.is, is.items, is.flags) at c.in_ok-refusal.ensures)
    (rw (c.in-Some-2.is, is.items, is.flags) at c.in_ok-missing.ensures.refusal)

pub act_of-requires : goal.act_of-requires
act_of-requires c =
    let is = c.in_ok-decoded.ensures in
    rw is.items (ap length is.decoded.placed ∙ length-map c.args.items.now (attr_of c.schema.result.now))

pub returns : goal.returns
returns c =
    let is = c.in_ok-decoded.ensures in
    let d = c.in_ok-decoded.decoded in
    let are : AreDecoded c.args.dir.now.schema d.items.now d.flags d.attrs.items d.sd =
    rw (is.items, is.flags) (rw c.schema.ensures at is.decoded) in
    ap (λ (act : Act). Granted act) (rw (is.items, is.flags) at (c.in_ok-act.ensures c.args.dir.now are))
    ∙ all_granted c.args.dir.now c.args.token.now c.args.number c.args.items.now c.args.flags
    (rw (c.in_default.is, is.items, is.flags) at c.in_ok-refusal.ensures)
    (rw (c.in_default-2.is, is.items, is.flags) at c.in_ok-missing.ensures.refusal)
