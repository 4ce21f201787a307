use Rattle.std.proofs.lemmas.Slice.Eq.{slice_eq-Decides}
use Rattle.ad_ids.proofs.SidLaws.{same_sid-Decides}
use Rattle.ad_diff_rights.proofs.same.same_sids.Goals as goal

pub returns : goal.returns
returns c = (slice_eq-Decides same_sid-Decides c.args.a.now c.args.b.now c.eq.result c.eq.ensures).0
