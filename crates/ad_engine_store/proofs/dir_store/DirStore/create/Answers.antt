use Rattle.std.proofs.Common.{⊎_elim, refl}
use Rattle.ad_engine_store.specs.declared.fault.OpenFault.TheVariants.{Taken, Site}
use Rattle.ad_engine_store.proofs.Opening.{dir_held, unwritten_as, one_as}
use Rattle.ad_engine_store.proofs.dir_store.DirStore.create.Goals as goal

pub returns-in-Ok : goal.returns-in-Ok
returns-in-Ok g c =
    let made = c.in-Ok.ensures in
    record {
      dir = refl;
      stands = λ _. record {
        sound = c.requires;
        held = dir_held _ (g.S.Site.reads c.store_of.new.site) made.kept.held;
        unspent = made.kept.unspent;
        store = made.kept.store;
      };
      unspent = refl;
      tokens = made.tokens;
      held = made.held;
      every_crash = made.every_crash;
      empty = made.empty;
      taken = λ never. absurd cc;
      unwritten = ⊎_elim (λ never. absurd cc) (λ never. absurd cc);
      faults = tt;
      outside = made.creating.outside;
      cause = λ never. absurd cc;
    }

pub returns-in-Err : goal.returns-in-Err
returns-in-Err g c =
    let made = c.in-Err.ensures.creating in
    record {
      dir = tt;
      stands = tt;
      unspent = tt;
      tokens = tt;
      held = tt;
      every_crash = tt;
      empty = tt;
      taken = one_as _ _ _ c.in-Err.fault Taken made.taken;
      unwritten = unwritten_as _ _ _ c.in-Err.fault made.unwritten;
      faults = made.faults;
      outside = made.outside;
      cause = one_as _ _ _ c.in-Err.fault Site made.cause;
    }
