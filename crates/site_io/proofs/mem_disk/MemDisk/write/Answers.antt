use Rattle.std.proofs.Common.{refl}
use Rattle.site_io.specs.declared.slot.Slot.TheVariants.{A, B}
use Rattle.site_io.specs.declared.call.Call.TheVariants.{Write}
use Rattle.site_io.proofs.Moments.{wrote, puts_held, keeps_held, keeps_said}
use Rattle.site_io.proofs.mem_disk.MemDisk.write.Goals as goal

pub invariant_of-self : goal.invariant_of-self
invariant_of-self c =
    let disk = c.args.self.now in
    let done = rw c.in-A.is at c.write_over.ensures.done in
    record {
      in_a = puts_held c.write_over.result A disk.first_a.items disk.a.items c.write_over.new.held.items
          c.args.bytes.now c.args.at disk.done.items c.write_over.new.done.items (λ kept image. refl) disk.in_a done
          c.write_over.ensures.held;
      in_b = keeps_held c.write_over.result B disk.first_b.items disk.b.items c.args.bytes.now disk.done.items
          c.write_over.new.done.items (Write A c.args.at) (λ kept image. refl) disk.in_b done;
      said = keeps_said c.write_over.result disk.out.items c.args.bytes.now disk.done.items
          c.write_over.new.done.items (Write A c.args.at) (λ kept. refl) disk.said done;
      few = c.write_over.ensures.few;
    }

pub invariant_of-self-in-B : goal.invariant_of-self-in-B
invariant_of-self-in-B c =
    let disk = c.args.self.now in
    let done = rw c.in-B.is at c.write_over-in-B.ensures.done in
    record {
      in_a = keeps_held c.write_over-in-B.result A disk.first_a.items disk.a.items c.args.bytes.now disk.done.items
          c.write_over-in-B.new.done.items (Write B c.args.at) (λ kept image. refl) disk.in_a done;
      in_b = puts_held c.write_over-in-B.result B disk.first_b.items disk.b.items c.write_over-in-B.new.held.items
          c.args.bytes.now c.args.at disk.done.items c.write_over-in-B.new.done.items (λ kept image. refl) disk.in_b
          done c.write_over-in-B.ensures.held;
      said = keeps_said c.write_over-in-B.result disk.out.items c.args.bytes.now disk.done.items
          c.write_over-in-B.new.done.items (Write B c.args.at) (λ kept. refl) disk.said done;
      few = c.write_over-in-B.ensures.few;
    }

pub returns-in-A-clause-images : goal.returns-in-A-clause-images
returns-in-A-clause-images c = wrote c.args.self.now.first_a.items c.args.self.now.first_b.items
    c.args.self.now.done.items c.write_over.result c.write_over.new.done.items c.args.slot c.args.at c.args.bytes.now
    c.write_over.ensures.done

pub returns-in-B-clause-images : goal.returns-in-B-clause-images
returns-in-B-clause-images c = wrote c.args.self.now.first_a.items c.args.self.now.first_b.items
    c.args.self.now.done.items c.write_over-in-B.result c.write_over-in-B.new.done.items c.args.slot c.args.at
    c.args.bytes.now c.write_over-in-B.ensures.done
