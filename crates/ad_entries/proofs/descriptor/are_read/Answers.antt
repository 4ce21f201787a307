use Rattle.std.proofs.Common.{◌∙◌}
use Rattle.ad_entries.proofs.EntryLaws.{reads_flags}
use Rattle.ad_entries.proofs.descriptor.are_read.Goals as goal

pub returns : goal.returns
returns c =
    c.may_have.ensures
    ∙ reads_flags c.args.dir.now c.args.token.now c.args.number c.args.flags c.reads_list.result
    c.reads_system_list.result c.reads_list.ensures c.reads_system_list.ensures
