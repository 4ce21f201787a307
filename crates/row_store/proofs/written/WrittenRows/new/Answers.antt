use Rattle.std.proofs.Common.{refl}
use Rattle.row_store.proofs.AsMade.{none_in, none_written}
use Rattle.row_store.proofs.written.WrittenRows.new.Goals as goal

pub invariant_of-result : goal.invariant_of-result
invariant_of-result c = none_written c.in_ok-bytes.bytes.items _ c.extend_from_slice.new.self.items
    c.in_ok-bytes.ensures.items c.in_ok-extend_from_slice.ensures.items refl

pub returns : goal.returns
returns c = none_in c.in_ok-bytes.bytes.items _ c.extend_from_slice.new.self.items c.in_ok-bytes.ensures.items
    c.in_ok-extend_from_slice.ensures.items refl
