use Rattle.ad_value.proofs.FormLaws.{spelled_in_bytes, spelled_in_text, spelled_in_none}
use Rattle.ad_value.proofs.forms.sid_of.Goals as goal

pub returns-in-Some : goal.returns-in-Some
returns-in-Some c = spelled_in_bytes c.in-Some.sid c.args.bytes.now c.in-Some.ensures.0 c.in-Some.ensures.1

pub returns-in-Ok : goal.returns-in-Ok
returns-in-Ok c = spelled_in_text c.in-Ok.sid c.args.bytes.now c.in-None.ensures c.in-Ok.ensures.found
    (λ other spelled. let read = c.in-Ok.ensures.only other spelled in cc)

pub returns-in-Err : goal.returns-in-Err
returns-in-Err c = spelled_in_none c.args.bytes.now c.in-None.ensures
    (λ other spelled. let read = c.in-Err.ensures.only other spelled in absurd cc)
