use Rattle.std.proofs.Common.{sym, ◌∙◌}
use Rattle.ad_needs_rules.proofs.NameChecks.{number_read}
use Rattle.ad_needs.proofs.TracedLaws.{name_there, object_there}
use Rattle.ad_needs.proofs.resolving.found.Goals as goal

pub unwrap-dn-requires : goal.unwrap-dn-requires
unwrap-dn-requires c = name_there c.args.text.now c.in_ok-read.read c.requires.name c.in_ok-read.ensures

pub unwrap-requires : goal.unwrap-requires
unwrap-requires c =
    object_there c.args.dir.now c.args.token.now c.args.text.now c.unwrap-dn.result c.in_ok-number.number
    c.requires.seen (sym c.unwrap-dn.ensures ∙ c.in_ok-read.ensures) c.in_ok-number.ensures.found

pub returns-clause-number : goal.returns-clause-number
returns-clause-number c =
    number_read c.args.dir.now c.args.token.now c.args.text.now c.unwrap-dn.result c.unwrap.result
    (sym c.unwrap-dn.ensures ∙ c.in_ok-read.ensures) (sym c.unwrap.ensures ∙ c.in_ok-number.ensures.found)
