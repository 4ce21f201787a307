use Rattle.std.specs.String.{string_bytes}
use Rattle.ad_sddl.proofs.Printed.{all_printed}
use Rattle.ad_sddl.proofs.printing.print.Goals as goal

pub returns-clause-spelled : goal.returns-clause-spelled
returns-clause-spelled c = all_printed string_bytes c.text_of_sd.result c.args.sd.now c.text_of_sd.ensures.written
    c.text_of_sd.ensures.are
