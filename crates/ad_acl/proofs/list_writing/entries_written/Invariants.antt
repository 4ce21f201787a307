use Rattle.std.proofs.Common.{◌≡◌, ◌+◌, ◌≤◌, length, take}
use Rattle.std.specs.List.{flat_map, AllByRecursion}
use Rattle.ad_acl.specs.Writing.{IsEntry, entry_bytes}
use Rattle.ad_acl.proofs.list_writing.entries_written.Given as goal

-- the entries so far were written, and they fit into a list
abbrev pub invariant-loop-ace : goal.invariant-loop-ace
invariant-loop-ace l = record {
  put : l.bytes.items ≡ flat_map entry_bytes (take l.ace-index l.list);
  are : AllByRecursion IsEntry (take l.ace-index l.list);
  fit : 8 + length l.bytes.items ≤ 65535;
}
