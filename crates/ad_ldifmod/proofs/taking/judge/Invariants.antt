use Rattle.std.proofs.Common.{◌≡◌, List, length}
use Rattle.ad_ldap.specs.declared.requests.Message.{Message}
use Rattle.ad_ldifmod.specs.Grants.{messages_of}
use Rattle.ad_ldifmod.specs.Taken.{left, joined, HasRoom}
use Rattle.ad_ldifmod.proofs.taking.judge.Given as goal

-- the messages so far, of which none is kept
abbrev pub invariant-lines : goal.invariant-lines
invariant-lines l = record {
  goes_on : (messages : List Message) × (messages_of l.dir l.text ≡ joined messages (left l.dir l.taken l.rest));
  room : HasRoom l.taken l.rest;
}

abbrev pub decreases-lines : goal.decreases-lines
decreases-lines l = length l.rest
