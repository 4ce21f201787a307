use Rattle.std.proofs.Common.{take}
use Rattle.ad_bytes.specs.Reading.{SpellsEach}
use Rattle.ad_rows_write.specs.Appends.{Appends}
use Rattle.ad_rows_write.proofs.writing.put_each.Given as goal

abbrev pub invariant-loop-item : goal.invariant-loop-item
invariant-loop-item g l = Appends (SpellsEach g.T.Part.Spells (take l.item-index l.items)) l.fn.into.items l.into.items
