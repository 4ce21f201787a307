use Rattle.std.proofs.Common.{◌≡◌, drop}
use Rattle.std.specs.List.{list_any}
use Rattle.ad_dir_model.specs.Objects.{sd_at}
use Rattle.ad_identities.specs.Identities.{is_told_in}
use Rattle.ad_identities.proofs.told.is_told.Given as goal

-- none so far tells it
abbrev pub invariant-loop-number : goal.invariant-loop-number
invariant-loop-number l =
    list_any (λ number. is_told_in (sd_at l.dir.objects number) l.sid) l.numbers
    ≡ list_any (λ number. is_told_in (sd_at l.dir.objects number) l.sid) (drop l.number-index l.numbers)
