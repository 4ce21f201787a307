use Rattle.std.proofs.Common.{sym, ap, ◌∙◌}
use Rattle.ad_dn.specs.Reading.{dn_of}
use Rattle.ad_needs.proofs.TracedLaws.{parts_there, parent_there, parent_number_is}
use Rattle.ad_needs.proofs.resolving.parent_of_new.Goals as goal

pub unwrap-dn-requires : goal.unwrap-dn-requires
unwrap-dn-requires c =
    parts_there c.args.add.now c.in_ok-read.read c.requires.name (c.in_ok-read.ensures ∙ ap dn_of c.as_slice.ensures)

pub unwrap-requires : goal.unwrap-requires
unwrap-requires c =
    parent_there c.args.dir.now c.args.token.now c.args.add.now c.unwrap-dn.result c.in_ok-number.number
    c.requires.seen (sym c.unwrap-dn.ensures ∙ c.in_ok-read.ensures ∙ ap dn_of c.as_slice.ensures)
    c.in_ok-number.ensures.found

pub returns-clause-number : goal.returns-clause-number
returns-clause-number c =
    parent_number_is c.args.dir.now c.args.token.now c.args.add.now c.unwrap-dn.result c.unwrap.result
    (sym c.unwrap-dn.ensures ∙ c.in_ok-read.ensures ∙ ap dn_of c.as_slice.ensures)
    (sym c.unwrap.ensures ∙ c.in_ok-number.ensures.found)
