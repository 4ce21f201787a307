use Rattle.std.proofs.Common.{◌∙◌, ap}
use Rattle.ad_dn.specs.Text.{rdns_text}
use Rattle.ad_dir_model.specs.Names.{name_text}
use Rattle.cmd_audit.proofs.events.name_of.Goals as goal

pub returns : goal.returns
unfolding name_text
returns c = c.from_vec.ensures ∙ c.in_ok-text.ensures.written ∙ ap rdns_text c.in_ok-dn.ensures
