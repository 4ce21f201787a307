use Rattle.std.proofs.Common.{◌∙◌, refl, sym, ap}
use Rattle.ad_load.specs.Loaded.{loaded}
use Rattle.cmd_store_serve.proofs.sampling.loaded.Goals as goal

pub returns-in-Ok-clause-given : goal.returns-in-Ok-clause-given
returns-in-Ok-clause-given c = ap loaded (sym (c.deref.ensures.value ∙ c.in_ok-text.ensures)) ∙ c.in-Ok.ensures.loaded

pub returns-in-Err-Bad-clause-given : goal.returns-in-Err-Bad-clause-given
returns-in-Err-Bad-clause-given c =
    let made = rw c.in-Err-Bad.field-0-is at c.in-Err-Bad.ensures in (
      c.in-Err-Bad.field-0-0,
      c.in-Err-Bad.field-0-1,
      ap loaded (sym (c.deref.ensures.value ∙ c.in_ok-text.ensures))
          ∙ made.loaded refl,
    )
