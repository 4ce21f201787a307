use Rattle.std.proofs.Common.{ℕ, List, true, sym, subst}
use Rattle.std.specs.Prelude.{◌==◌, slice_set}
use Rattle.ad_entries.specs.Asked.{Flags}
use Rattle.ad_entries.proofs.AskedLaws.{flag_set, flag_there}
use Rattle.ad_entries.proofs.asking.flag.Goals as goal

pub returns-then-is_flagged : goal.returns-then-is_flagged
returns-then-is_flagged c =
    flag_there c.args.flags.now.items c.args.named.now.items c.args.place
    (rw c.as_slice.ensures.value at (sym c.if-is_flagged.ensures))

pub returns : goal.returns
returns c =
    subst (λ (after : List ℕ). Flags (λ (other : ℕ). c.args.place == other) c.args.flags.now.items
    (slice_set c.args.flags.now.items c.args.place true) c.args.named.now.items after) (sym c.in_ok-push.ensures.items)
    (flag_set c.args.flags.now.items c.args.named.now.items c.args.place c.requires)
