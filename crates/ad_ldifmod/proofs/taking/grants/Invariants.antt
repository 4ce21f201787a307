use Rattle.std.proofs.Common.{◌≡◌, length}
use Rattle.ad_ldifmod.specs.Grants.{messages_of}
use Rattle.ad_ldifmod.specs.Taken.{left, joined, HasRoom}
use Rattle.ad_ldifmod.proofs.taking.grants.Given as goal

abbrev pub invariant-lines : goal.invariant-lines
invariant-lines l = record {
  goes_on : messages_of l.dir l.text ≡ joined l.messages.items (left l.dir l.taken l.rest);
  room : HasRoom l.taken l.rest;
}

abbrev pub decreases-lines : goal.decreases-lines
decreases-lines l = length l.rest
