use Rattle.std.proofs.Common.{◌≡◌, ◌∙◌, suc, ◌+◌, ◌-◌, ◌≤◌, Err, length, drop, sym, ap, arith}
use Rattle.ad_frames.specs.declared.fault.FrameFault.{FrameFault}
use Rattle.ad_gen.specs.Frames.{frames}
use Rattle.cmd_store_serve.proofs.ReadSent.{read_start, read_more, one_longer, read_all, never_bad, never_more}
use Rattle.cmd_store_serve.proofs.sent.sent_frames.Goals as goal

pub loop-init : goal.loop-init
loop-init c = record {
  read = read_start c.new-sent.result.items (frames c.args.n) c.in_ok-frames.field-0.items c.new-sent.ensures.items
      c.in_ok-frames.ensures;
  many = ap length c.new-sent.ensures.items;
}

pub returns-in-Ok-None : goal.returns-in-Ok-None
returns-in-Ok-None c =
    let read = rw c.in-Ok-None.field-0-is at c.in-Ok-None.ensures in
    read_all c.loop.sent.items (1000000 - c.loop.counter) (frames c.args.n)
    (drop c.loop.source.at c.loop.source.bytes.items)
    (drop c.next_frame.new.source.at c.next_frame.new.source.bytes.items) c.loop.invariant.read read.next

pub unreachable-requires : goal.unreachable-requires
unreachable-requires c =
    let next : 1000000 - c.loop.counter ≡ suc (1000000 - (c.loop.counter + 1)) = omega (arith, c.loop-test.true) in
    never_bad c.loop.sent.items (1000000 - (c.loop.counter + 1)) (1000000 - c.loop.counter) (frames c.args.n)
    (drop c.loop.source.at c.loop.source.bytes.items)
    (drop c.next_frame.new.source.at c.next_frame.new.source.bytes.items) c.in-Err.fault
    (c.the_frames_of_the_sample.ensures c.args.n) next c.loop.invariant.read
    (sym c.is_memory.ensures ∙ c.if-is_memory.false)
    (λ is. c.in-Err.ensures.cause (ap (λ (f : FrameFault). Err f) is)) c.in-Err.ensures.next

pub loop-preserved : goal.loop-preserved
loop-preserved c =
    let read = rw c.in-Ok-Some.field-0-is at c.in-Ok-Some.ensures in
    let next : 1000000 - c.loop.counter ≡ suc (1000000 - (c.loop.counter + 1)) = omega (arith, c.loop-test.true) in
    let pushed = c.in_ok-push-in-Ok-Some.ensures.items in
    record {
      read = read_more c.loop.sent.items c.push.new.self.items c.in-Ok-Some.frame (1000000 - (c.loop.counter + 1))
          (1000000 - c.loop.counter) (frames c.args.n)
          (drop c.loop.source.at c.loop.source.bytes.items)
          (drop c.next_frame.new.source.at c.next_frame.new.source.bytes.items) next pushed c.loop.invariant.read
          read.next;
      many = one_longer c.loop.sent.items c.push.new.self.items c.in-Ok-Some.frame c.loop.counter pushed
          c.loop.invariant.many;
    }

pub unreachable-requires-2 : goal.unreachable-requires-2
unreachable-requires-2 c =
    let many : 8 ≤ length c.loop.sent.items = omega (arith, c.loop-test.false, c.loop.invariant.many) in
    never_more c.loop.sent.items (1000000 - c.loop.counter) (frames c.args.n)
    (drop c.loop.source.at c.loop.source.bytes.items)
    (c.the_frames_of_the_sample.ensures c.args.n) c.loop.invariant.read many
