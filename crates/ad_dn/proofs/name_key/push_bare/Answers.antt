use Rattle.std.proofs.Common.{◌≡◌, ◌∙◌, length, rules}
use Rattle.ad_dn.proofs.BareKeys.{bare_written}
use Rattle.ad_dn.proofs.name_key.push_bare.Goals as goal

pub returns : goal.returns
returns c =
    let old = c.args.key.now.items in
    let longer = c.extend_from_slice.new.self.items in
    let at : c.len-start.result ≡ length old = search rules in
    c.in_ok-push.ensures.items
    ∙ bare_written old longer c.lower_from.new.key.items c.args.value.now c.len-start.result c.requires at
    c.in_ok-extend_from_slice.ensures.items c.lower_from.ensures
