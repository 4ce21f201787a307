use Rattle.std.proofs.Common.{◌≡◌, ◌++◌, take}
use Rattle.std.specs.List.{flat_map, AllByRecursion}
use Rattle.std.specs.String.{string_bytes}
use Rattle.ad_acl.specs.Writing.{IsEntry}
use Rattle.ad_sddl.specs.Canonical.{entry_text}
use Rattle.ad_sddl.proofs.printing.push_entries.Given as goal

-- the entries so far are written
abbrev pub invariant-loop-ace : goal.invariant-loop-ace
invariant-loop-ace l = record {
  text : string_bytes l.text ≡ string_bytes l.initial.text ++ flat_map entry_text (take l.ace-index l.entries);
  are : AllByRecursion IsEntry (take l.ace-index l.entries);
}
