-- What a disk in memory holds, and what a crash may leave of it.
use Rattle.std.specs.Prelude.{ℕ, List}
use Rattle.site_io.specs.Disk.{Images, images_of}
use Rattle.site_io.specs.Calls.{LeftAt}
use Rattle.site_io.specs.declared.mem_disk.MemDisk.{MemDisk}

abbrev pub held_in : MemDisk → Images
held_in disk = images_of disk.a.items disk.b.items

abbrev pub left_in : MemDisk → ℕ → Images → List ℕ → Type 0
left_in disk t images out = LeftAt disk.first_a.items disk.first_b.items disk.done.items t images out
