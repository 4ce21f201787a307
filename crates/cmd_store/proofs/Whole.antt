-- What a whole input gives is what its records give, or its first fault.
use Rattle.std.proofs.Common.{◌≡◌, ℕ, List, Option, Some, None, Err}
use Rattle.site_io.specs.Told.{BothTold}
use Rattle.ad_load_records.specs.declared.fault.LoadFault.TheVariants.{Bad}
use Rattle.ad_load_records.specs.declared.fault.LoadCause.{LoadCause}
use Rattle.ad_load_records.specs.Records.{records_in}
use Rattle.ad_load.proofs.Whole.{records_stop}
use Rattle.cmd_store.specs.declared.loading.Given.TheVariants as given
use Rattle.cmd_store.specs.Loading.{IsGivenFor}

pub refused_whole : (rest left : Option (List ℕ)) (at : ℕ) (cause : LoadCause)
    → BothTold rest left (λ input behind. records_in input ≡ Err (Bad at cause))
    → IsGivenFor rest left (given.Refusal at cause)
refused_whole None None at cause told = tt
refused_whole (Some input) (Some behind) at cause told = (tt, records_stop input (Bad at cause) told)
refused_whole None (Some behind) at cause told = absurd told
refused_whole (Some input) None at cause told = absurd told
