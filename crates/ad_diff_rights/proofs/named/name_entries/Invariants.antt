use Rattle.std.proofs.Common.{List}
use Rattle.std.specs.Prelude.{All}
use Rattle.ad_ids.specs.SidValue.{SidValue}
use Rattle.ad_sd.specs.Seen.{seen}
use Rattle.ad_sd.specs.View.{to_come}
use Rattle.ad_diff_rights.specs.Named.{Grows, IsForOne}
use Rattle.ad_diff_rights.proofs.named.name_entries.Given as goal

-- all are named where those to come are
abbrev pub invariant-loop-ace : goal.invariant-loop-ace
invariant-loop-ace l =
    record {
      grows : Grows l.initial.named.keys l.named.keys;
      rest : (more : List SidValue) → Grows l.named.keys more → All (IsForOne more) (to_come l.ace-iterator)
          → All (IsForOne more) (seen l.view).dacl.entries;
    }
