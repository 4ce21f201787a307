use Rattle.std.proofs.Common.{◌≡◌}
use Rattle.std.specs.Option.{option_copied}
use Rattle.ad_acl.specs.Entry.{Entry}
use Rattle.ad_sd.specs.Seen.{seen}
use Rattle.ad_sd.specs.View.{to_come}
use Rattle.ad_audit.specs.Audited.{asks, first_asking}
use Rattle.ad_audit.proofs.judging.audited.Given as goal

abbrev pub invariant-loop-ace : goal.invariant-loop-ace
invariant-loop-ace l =
    first_asking (λ (entry : Entry). asks entry l.owner l.token (option_copied l.self_sid) l.path l.right l.success) 0
    (seen l.fn.view).sacl.entries
    ≡ first_asking (λ (entry : Entry). asks entry l.owner l.token (option_copied l.self_sid) l.path l.right l.success)
    l.place (to_come l.ace-iterator)
