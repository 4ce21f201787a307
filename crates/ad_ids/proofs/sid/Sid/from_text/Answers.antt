use Rattle.std.proofs.Common.{◌≡◌, Some}
use Rattle.ad_bytes.proofs.Machines.{finished_once, offset_of_stop, offset_of_end, stop_spells_none}
use Rattle.ad_ids.specs.SidSteps.{step, start, finished}
use Rattle.ad_ids.specs.SidGrammar.{SpellsSidText}
use Rattle.ad_ids.proofs.SidTextEnds.{finished_spells, text_machine}
use Rattle.ad_ids.proofs.sid.Sid.from_text.Goals as goal

pub returns-in-Err : goal.returns-in-Err
returns-in-Err c = record {
  found = tt;
  only = λ v spelled. absurd (stop_spells_none SpellsSidText step start finished text_machine c.in-Err.fault.place
      c.args.text.now v c.in-Err.ensures.err spelled);
  fault = offset_of_stop SpellsSidText step start finished text_machine c.in-Err.fault.place c.args.text.now
      c.in-Err.ensures.err;
}

pub returns-in-Some : goal.returns-in-Some
returns-in-Some c =
    let read : finished c.in-Ok.state ≡ Some c.in-Some.sid = cc in
    record {
      found = finished_spells c.in-Ok.state c.args.text.now c.in-Some.sid c.in-Ok.ensures.ok read;
      only = λ v spelled.
          let whole : finished c.in-Ok.state ≡ Some v = finished_once SpellsSidText step start finished text_machine
          c.in-Ok.state c.args.text.now v c.in-Ok.ensures.ok spelled in
          cc;
      fault = tt;
    }

pub returns-in-None : goal.returns-in-None
returns-in-None c = record {
  found = tt;
  only = λ v spelled.
      let whole : finished c.in-Ok.state ≡ Some v = finished_once SpellsSidText step start finished text_machine
      c.in-Ok.state c.args.text.now v c.in-Ok.ensures.ok spelled in
      absurd cc;
  fault = offset_of_end SpellsSidText step start finished text_machine c.in-Ok.state c.args.text.now c.in-Ok.ensures.ok;
}
