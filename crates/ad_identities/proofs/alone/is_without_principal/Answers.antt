use Rattle.std.proofs.Common.{◌∙◌}
use Rattle.ad_principals.proofs.Identified.{all_live}
use Rattle.ad_identities.proofs.alone.is_without_principal.Goals as goal

pub is_told-requires : goal.is_told-requires
is_told-requires c = all_live c.args.dir.now.objects c.as_slice.result.now
    (c.as_slice.ensures.value ∙ c.in_ok-numbers.ensures)
