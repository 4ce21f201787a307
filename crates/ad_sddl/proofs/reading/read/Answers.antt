use Rattle.std.specs.Option.{option_copied}
use Rattle.ad_sddl.proofs.Texts.{found, only}
use Rattle.ad_sddl.proofs.reading.read.Goals as goal

pub returns-clause-found : goal.returns-clause-found
returns-clause-found c = found (option_copied c.args.domain) c.args.text.now c.read_text.result c.read_text.ensures

pub returns-clause-only : goal.returns-clause-only
returns-clause-only c = only (option_copied c.args.domain) c.args.text.now c.read_text.result c.read_text.ensures
