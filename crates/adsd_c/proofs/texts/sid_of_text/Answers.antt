use Rattle.std.proofs.Common.{refl}
use Rattle.ad_ids.proofs.SidFront.{spelled_of, none_of}
use Rattle.adsd_c.proofs.texts.sid_of_text.Goals as goal

pub returns-in-Ok : goal.returns-in-Ok
returns-in-Ok c = rw (spelled_of c.in-Ok.sid c.args.text.now c.in-Ok.ensures.found) refl

pub returns-in-Err : goal.returns-in-Err
returns-in-Err c = rw (none_of c.args.text.now (λ sid spelled. let e = c.in-Err.ensures.only sid spelled
    in absurd cc)) refl
