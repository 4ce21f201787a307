use Rattle.std.proofs.Common.{◌≡◌, true, subst}
use Rattle.ad_ids.specs.SidValue.{SidValue, contains_sid}
use Rattle.ad_sd.specs.declared.parts.Sd.{Sd}
use Rattle.ad_diff_rights.specs.Named.{IsNamed}
use Rattle.ad_diff_rights.proofs.named.name_in.Goals as goal

pub returns-clause-grows : goal.returns-clause-grows
returns-clause-grows c = λ sid is. c.in_ok-name_entries.ensures.grows sid (c.in_ok-name.ensures.grows sid is)

pub returns-clause-there : goal.returns-clause-there
returns-clause-there c =
    let keys = c.name_entries.new.named.keys in
    subst (λ (sd : Sd). IsNamed keys sd) c.live_sd-view.ensures
    (record {
      owner = subst (λ (sid : SidValue). contains_sid keys sid ≡ true) c.owner.ensures
          (c.in_ok-name_entries.ensures.grows c.owner.result c.in_ok-name.ensures.there);
      entries = c.in_ok-name_entries.ensures.there;
    })
