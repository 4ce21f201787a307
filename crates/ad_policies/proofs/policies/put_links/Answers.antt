use Rattle.std.proofs.Common.{◌∙◌, sym}
use Rattle.std.specs.Prelude.{filter_map}
use Rattle.ad_policies.specs.Policies.{policy_if, links_of}
use Rattle.ad_policies.specs.Seen.{link_seen}
use Rattle.ad_policies.proofs.LinkLaws.{next_shorter}
use Rattle.ad_policies.proofs.Putting.{link_put, links_put, all_put}
use Rattle.ad_policies.proofs.policies.put_links.Goals as goal

pub each-smaller : goal.each-smaller
each-smaller c = next_shorter c.each.rest.now (link_seen c.in-Some.link) (sym c.in-Some.ensures)

pub each-preserved : goal.each-preserved
each-preserved c =
    link_put (policy_if c.args.dir.now c.args.blocked) c.each.into.items c.put_link.new.into.items c.each.rest.now
    (link_seen c.in-Some.link) c.in-Some.ensures c.in_ok-put_link.ensures
    ∙ c.each.invariant

pub returns : goal.returns
returns c =
    all_put c.each.into.items (filter_map (policy_if c.args.dir.now c.args.blocked) (links_of c.each.rest.now)) _
    (links_put (policy_if c.args.dir.now c.args.blocked) c.each.rest.now c.in_default.ensures) c.each.invariant
