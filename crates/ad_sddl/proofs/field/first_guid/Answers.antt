use Rattle.ad_sddl.proofs.Guids.{guid_short}
use Rattle.ad_sddl.proofs.field.first_guid.Goals as goal

pub returns-then-text-lt-GUID_LENGTH-clause-guid : goal.returns-then-text-lt-GUID_LENGTH-clause-guid
returns-then-text-lt-GUID_LENGTH-clause-guid c = guid_short c.args.text.now c.if-text-lt-GUID_LENGTH.true
