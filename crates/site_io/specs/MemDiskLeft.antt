-- What a disk in memory holds is one of the outcomes of a crash, and what it emitted is the output.
use Rattle.std.specs.Prelude.{◌≡◌, List, ℕ, length, Some}
use Rattle.std.proofs.Common.{sym, ◌∙◌, ap, arith}
use Rattle.std.proofs.lemmas.List.{take_all}
use Rattle.site_io.specs.Disk.{Images}
use Rattle.site_io.specs.Calls.{said_by}
use Rattle.site_io.specs.MemDisk.{held_in, left_in}
use Rattle.site_io.specs.Replay.{left_by_told}
use Rattle.site_io.specs.declared.mem_disk.MemDisk.{MemDisk}

pub left_in_now : (disk : MemDisk) (held : Images) (out : List ℕ) → Some (held_in disk) ≡ Some held
    → Some disk.out.items ≡ Some out → left_in disk (length disk.done.items) held out
left_in_now disk held out is said = left_by_told disk.first_a.items disk.first_b.items disk.done.items disk.a.items
    disk.b.items disk.out.items held out disk.in_a disk.in_b disk.said is said

pub output_left : (disk : MemDisk) (images : Images) (out said : List ℕ) → Some disk.out.items ≡ Some said
    → left_in disk (length disk.done.items) images out → out ≡ said
output_left disk images out said is left = left.said
    ∙ ap said_by (take_all (length disk.done.items) disk.done.items (omega arith)) ∙ sym disk.said ∙ is_some is
  where
    is_some : {X : Type 0} {x y : X} → Some x ≡ Some y → x ≡ y
    is_some is = cc is
