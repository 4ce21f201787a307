use Rattle.std.proofs.Common.{refl}
use Rattle.site_io.specs.declared.slot.Slot.TheVariants.{A, B}
use Rattle.site_io.specs.declared.call.Call.TheVariants.{Other}
use Rattle.site_io.proofs.Moments.{passed, passed_all, same_held, same_said, other_holds}
use Rattle.site_io.proofs.mem_disk.MemDisk.pass.Goals as goal

pub invariant_of-self : goal.invariant_of-self
invariant_of-self c =
    let disk = c.args.self.now in
    let noted = c.note.ensures.noted in
    record {
      in_a = same_held c.note.result A disk.first_a.items disk.a.items disk.done.items c.note.new.done.items Other
          (other_holds A) disk.in_a noted;
      in_b = same_held c.note.result B disk.first_b.items disk.b.items disk.done.items c.note.new.done.items Other
          (other_holds B) disk.in_b noted;
      said = same_said c.note.result disk.out.items disk.done.items c.note.new.done.items Other refl disk.said noted;
      few = c.note.ensures.few;
    }

pub returns-clause-images : goal.returns-clause-images
returns-clause-images c = passed c.args.self.now.first_a.items c.args.self.now.first_b.items
    c.args.self.now.done.items c.note.result c.note.new.done.items c.note.ensures.noted

pub returns-clause-same : goal.returns-clause-same
returns-clause-same c = passed_all c.args.self.now.first_a.items c.args.self.now.first_b.items
    c.args.self.now.done.items c.note.result c.note.new.done.items c.note.ensures.noted
