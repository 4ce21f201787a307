use Rattle.std.proofs.Common.{rules}
use Rattle.std.specs.Prelude.{not}
use Rattle.std.proofs.lemmas.Fn.{filter_same}
use Rattle.ad_ids.specs.SidValue.{same_sid}
use Rattle.ad_acl.specs.Entry.{Entry}
use Rattle.ad_ldifmod.proofs.list_cache.take_out.Goals as goal

pub returns : goal.returns
returns c = filter_same _ (λ (entry : Entry). not (same_sid entry.sid c.args.sid)) _ (λ x b f' k. search rules) _ _
    c.retain.ensures.filtered
