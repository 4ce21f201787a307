use Rattle.site_io.specs.declared.slot.Slot.TheVariants.{A, B}
use Rattle.site_io.specs.declared.call.Call.TheVariants.{Emit}
use Rattle.site_io.proofs.Moments.{emitted, keeps_held, adds_said, emit_holds}
use Rattle.site_io.proofs.mem_disk.MemDisk.emit.Goals as goal

pub invariant_of-self : goal.invariant_of-self
invariant_of-self c =
    let disk = c.args.self.now in
    record {
      in_a = keeps_held c.append.result A disk.first_a.items disk.a.items c.args.bytes.now disk.done.items
          c.append.new.done.items Emit (emit_holds A) disk.in_a c.append.ensures.done;
      in_b = keeps_held c.append.result B disk.first_b.items disk.b.items c.args.bytes.now disk.done.items
          c.append.new.done.items Emit (emit_holds B) disk.in_b c.append.ensures.done;
      said = adds_said c.append.result disk.out.items c.append.new.out.items c.args.bytes.now disk.done.items
          c.append.new.done.items disk.said c.append.ensures.done c.append.ensures.out;
      few = c.append.ensures.few;
    }

pub returns-clause-images : goal.returns-clause-images
returns-clause-images c = emitted c.args.self.now.first_a.items c.args.self.now.first_b.items
    c.args.self.now.done.items c.append.result c.append.new.done.items c.args.bytes.now c.append.ensures.done
