use Rattle.std.proofs.Common.{◌≡◌, ◌-◌, drop, length}
use Rattle.ad_gen.specs.Frames.{frames}
use Rattle.cmd_store_open.proofs.ReadSoFar.{HasRead}
use Rattle.cmd_store_serve.proofs.sent.sent_frames.Given as goal

-- the frames that were read so far, and what is left
abbrev pub invariant-loop : goal.invariant-loop
invariant-loop l = record {
  read : HasRead l.sent.items (1000000 - l.counter) (frames l.n) (drop l.source.at l.source.bytes.items);
  many : length l.sent.items ≡ l.counter;
}
