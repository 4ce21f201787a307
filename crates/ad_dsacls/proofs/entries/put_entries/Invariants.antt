use Rattle.std.proofs.Common.{◌≡◌, ◌++◌, take}
use Rattle.std.specs.List.{flat_map}
use Rattle.ad_dsacls.specs.Listing.{entry_line}
use Rattle.ad_dsacls.proofs.entries.put_entries.Given as goal

-- the entries so far are put
abbrev pub invariant-loop-ace : goal.invariant-loop-ace
invariant-loop-ace l = l.out.items ≡ l.initial.out.items ++ flat_map (entry_line l.schema) (take l.ace-index l.entries)
