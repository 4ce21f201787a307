use Rattle.std.proofs.Common.{ap}
use Rattle.ad_dir_objects.specs.declared.object.Stored.{Stored}
use Rattle.ad_dir_objects.specs.Seen.{stored_seen}
use Rattle.ad_dir_model.specs.Object.{is_link_to}
use Rattle.ad_protect.proofs.Sets.{takes_none}
use Rattle.ad_protect.proofs.taking.take_linked.Goals as goal

pub returns-in-Plain : goal.returns-in-Plain
returns-in-Plain c =
    takes_none (λ n. is_link_to n (stored_seen c.args.value.now)) c.args.taken.now.keys
    (λ n. ap (λ (s : Stored). is_link_to n (stored_seen s)) c.in-Plain.is)
