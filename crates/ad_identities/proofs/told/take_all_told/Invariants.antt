use Rattle.std.proofs.Common.{take}
use Rattle.std.specs.List.{list_any}
use Rattle.ad_dir_model.specs.Objects.{sd_at}
use Rattle.ad_identities.specs.Identities.{is_told_in}
use Rattle.ad_identities.specs.Told.{Adds}
use Rattle.ad_identities.proofs.told.take_all_told.Given as goal

-- those so far are taken
abbrev pub invariant-loop-number : goal.invariant-loop-number
invariant-loop-number l =
    Adds (λ s. list_any (λ number. is_told_in (sd_at l.dir.objects number) s) (take l.number-index l.numbers))
    l.initial.taken.keys l.taken.keys
