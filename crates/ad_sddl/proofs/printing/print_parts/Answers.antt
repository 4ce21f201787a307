use Rattle.std.specs.String.{string_bytes}
use Rattle.ad_sddl.proofs.Printed.{printed}
use Rattle.ad_sddl.proofs.printing.print_parts.Goals as goal

pub returns-clause-spelled : goal.returns-clause-spelled
returns-clause-spelled c = printed string_bytes c.text_of_parts.result c.args.parts.now
    c.text_of_parts.ensures.written c.text_of_parts.ensures.are
