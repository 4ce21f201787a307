use Rattle.std.proofs.Common.{length}
use Rattle.ad_ldifmod.specs.Taken.{HasRoom}
use Rattle.cmd_grants.specs.Sending.{IsSending}
use Rattle.cmd_grants.proofs.sending.send_frames.Given as goal

abbrev pub invariant-lines : goal.invariant-lines
invariant-lines g l = record {
  so_far : IsSending g.S.Site l.dir l.text l.taken l.rest l.held.items l.fn.site l.site;
  room : HasRoom l.taken l.rest;
}

abbrev pub decreases-lines : goal.decreases-lines
decreases-lines g l = length l.rest
