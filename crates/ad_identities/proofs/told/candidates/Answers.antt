use Rattle.std.proofs.Common.{subst}
use Rattle.std.specs.List.{list_any}
use Rattle.ad_ids.specs.SidValue.{SidValue, same_sid}
use Rattle.ad_dir_model.specs.Objects.{sd_at}
use Rattle.ad_identities.specs.Identities.{is_told_in}
use Rattle.ad_identities.specs.Told.{Adds}
use Rattle.ad_identities.proofs.Adding.{adds_always}
use Rattle.ad_identities.proofs.told.candidates.Goals as goal

pub returns : goal.returns
returns c =
    adds_always (λ s. list_any (λ number. is_told_in (sd_at c.args.dir.now.objects number) s) c.args.numbers.now)
    c.in_ok-set.set.keys c.take.new.taken.keys c.take-2.new.taken.keys c.take-3.new.taken.keys
    c.take_all_told.new.taken.keys c.in_ok-set.ensures.empty
    (subst (λ (sid : SidValue). Adds (same_sid sid) c.in_ok-set.set.keys c.take.new.taken.keys) c.well_known.ensures
    c.in_ok-take.ensures)
    (subst (λ (sid : SidValue). Adds (same_sid sid) c.take.new.taken.keys c.take-2.new.taken.keys)
    c.well_known-2.ensures c.in_ok-take-2.ensures)
    (subst (λ (sid : SidValue). Adds (same_sid sid) c.take-2.new.taken.keys c.take-3.new.taken.keys)
    c.well_known-3.ensures c.in_ok-take-3.ensures)
    c.in_ok-take_all_told.ensures
