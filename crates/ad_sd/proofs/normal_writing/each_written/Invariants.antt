use Rattle.std.proofs.Common.{◌≡◌, take}
use Rattle.std.specs.List.{flat_map, AllByRecursion}
use Rattle.ad_acl.specs.Writing.{IsEntry, entry_bytes}
use Rattle.ad_sd.proofs.normal_writing.each_written.Given as goal

-- the entries so far were written
abbrev pub invariant-loop-ace : goal.invariant-loop-ace
invariant-loop-ace l = record {
  put : l.bytes.items ≡ flat_map entry_bytes (take l.ace-index l.entries);
  are : AllByRecursion IsEntry (take l.ace-index l.entries);
}
