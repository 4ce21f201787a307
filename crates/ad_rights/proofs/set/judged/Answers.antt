use Rattle.std.proofs.Common.{◌≡◌, ◌∙◌, ℕ, List}
use Rattle.std.specs.Option.{option_copied}
use Rattle.std.proofs.lemmas.Result.{IfOk-weaker}
use Rattle.ad_ids.specs.SidValue.{SidValue}
use Rattle.ad_sd.specs.Seen.{seen}
use Rattle.ad_rights.specs.Holding.{listed}
use Rattle.ad_rights.proofs.Granting.{set_is, set_of}
use Rattle.ad_rights.proofs.set.judged.Goals as goal

pub returns : goal.returns
returns c =
    let sd = seen c.args.view.now in
    let owner = c.owner-owner.result in
    let self = option_copied c.args.self_sid in
    let holders : SidValue → List ℕ = listed c.args.holding.now.holders in
    IfOk-weaker c.granted_of.result _ _ (λ set whole tokens index bare.
    set_of sd owner tokens self c.args.path.now c.args.bit set.items c.owner-owner.ensures
    (set_is holders tokens c.args.holding.now.takers.items c.args.stands.now c.take_owner.new.stands c.walk.new.stands
    set.items owner sd.dacl.entries self c.args.path.now c.args.bit c.requires.other index.holders index.takers bare
    c.requires.begun c.take_owner.ensures.len c.take_owner.ensures.each c.walk.ensures.len c.walk.ensures.each whole))
    c.granted_of.ensures
