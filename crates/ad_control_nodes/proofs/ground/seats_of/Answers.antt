use Rattle.std.proofs.Common.{◌≡◌, ℕ, Some, List, map, sym, subst}
use Rattle.std.specs.Prelude.{nat_eq}
use Rattle.std.specs.List.{All}
use Rattle.std.proofs.lemmas.List.Elements.{All-weaker}
use Rattle.indexmap.specs.IndexMap.{get}
use Rattle.ad_ids.specs.SidValue.{same_sid}
use Rattle.ad_identities.specs.declared.identity.Identity.{Identity}
use Rattle.ad_identities.specs.Identities.{IsIdentity}
use Rattle.ad_control_graph.specs.declared.node.Node.TheVariants.{Object}
use Rattle.ad_control_nodes.specs.Steps.{place_for, IsFound}
use Rattle.ad_control_nodes.proofs.Owning.{found, are_tokens}
use Rattle.ad_control_nodes.proofs.ground.seats_of.Goals as goal

pub places_for-requires : goal.places_for-requires
places_for-requires c =
    let stand = c.in_ok-stand.stand in
    let dir = c.args.dir.now in
    let members = c.args.parties.now.members.items in
    subst (All (IsFound (get nat_eq stand.objects) (get same_sid stand.sids))) (sym c.as_slice-2.ensures.value)
    (All-weaker (IsIdentity dir) (IsFound (get nat_eq stand.objects) (get same_sid stand.sids))
    (λ identity is. found dir c.args.nodes.now (get nat_eq stand.objects) (get same_sid stand.sids) identity
    c.requires.nodes c.in_ok-stand.ensures is) members c.requires.kept.members)

pub returns-clause-tokens : goal.returns-clause-tokens
returns-clause-tokens c =
    let stand = c.in_ok-stand.stand in
    let p = c.args.parties.now in
    let at = c.in_ok-at.at.items in
    are_tokens c.args.dir.now c.args.nodes.now c.requires.all.0 p.members.items p.tokens.all.items p.without.items at
    (get nat_eq stand.objects) (get same_sid stand.sids) c.requires.nodes c.requires.all.1 c.requires.all.2
    c.requires.kept.members c.in_ok-stand.ensures
    (subst (λ (l : List Identity). map (λ (x : ℕ). Some x) at
    ≡ map (place_for (get nat_eq stand.objects) (get same_sid stand.sids)) l) c.as_slice-2.ensures.value
    c.in_ok-at.ensures)

pub returns-clause-each : goal.returns-clause-each
returns-clause-each c = λ number live.
    let there = c.requires.nodes.each (Object number) live in
    c.in_ok-stand.ensures.each_object there.0 number there.1
