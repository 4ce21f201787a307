use Rattle.std.proofs.Common.{◌∙◌}
use Rattle.ad_load_objects.proofs.Behind.{above_is, parts_above}
use Rattle.ad_load_objects.proofs.above.key_above.Goals as goal

pub returns-clause-key : goal.returns-clause-key
returns-clause-key c = c.behind_first.ensures ∙ above_is c.args.key.now c.args.dn.now.rdns c.has_form.ensures c.requires

pub returns-clause-form : goal.returns-clause-form
returns-clause-form c = parts_above c.args.dn.now.rdns c.has_form.ensures
