use Rattle.std.proofs.Common.{refl}
use Rattle.site_io.specs.declared.slot.Slot.TheVariants.{A, B}
use Rattle.site_io.specs.declared.call.Call.TheVariants.{Sync}
use Rattle.site_io.proofs.Moments.{lasts, synced, same_held, same_said, sync_holds}
use Rattle.site_io.proofs.mem_disk.MemDisk.sync.Goals as goal

pub invariant_of-self : goal.invariant_of-self
invariant_of-self c =
    let disk = c.args.self.now in
    let noted = c.note.ensures.noted in
    record {
      in_a = same_held c.note.result A disk.first_a.items disk.a.items disk.done.items c.note.new.done.items
          (Sync c.args.slot) (sync_holds A c.args.slot) disk.in_a noted;
      in_b = same_held c.note.result B disk.first_b.items disk.b.items disk.done.items c.note.new.done.items
          (Sync c.args.slot) (sync_holds B c.args.slot) disk.in_b noted;
      said = same_said c.note.result disk.out.items disk.done.items c.note.new.done.items (Sync c.args.slot) refl
          disk.said noted;
      few = c.note.ensures.few;
    }

pub returns-clause-lasts : goal.returns-clause-lasts
returns-clause-lasts c =
    let disk = c.args.self.now in
    λ so. lasts c.note.result disk.first_a.items disk.first_b.items disk.a.items disk.b.items disk.done.items
    c.note.new.done.items c.args.slot c.note.ensures.noted so disk.in_a disk.in_b

pub returns-clause-images : goal.returns-clause-images
returns-clause-images c = synced c.args.self.now.first_a.items c.args.self.now.first_b.items
    c.args.self.now.done.items c.note.result c.note.new.done.items c.args.slot c.note.ensures.noted
