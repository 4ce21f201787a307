use Rattle.std.proofs.Common.{◌∙◌}
use Rattle.ad_dir_table.proofs.Entries.{all_done, numbers_seen}
use Rattle.ad_dir_table.proofs.stored_object.numbers.Goals as goal

pub returns : goal.returns
returns c = λ live. all_done _ _ _ _ c.loop-kept.invariant c.in-None.ensures.steps.0
    ∙ numbers_seen live c.args.objects.now.entries
