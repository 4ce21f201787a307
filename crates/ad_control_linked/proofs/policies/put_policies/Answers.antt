use Rattle.std.proofs.Common.{◌≡◌, ◌∙◌, ap}
use Rattle.std.specs.Prelude.{filter_map, nat_eq}
use Rattle.std.proofs.lemmas.Result.{IfOk-weaker}
use Rattle.indexmap.specs.IndexMap.{get}
use Rattle.ad_policies.specs.Policies.{policies_of}
use Rattle.ad_control_graph.specs.Drawing.{IsIn}
use Rattle.ad_control_graph.proofs.SetLaws.{set_alike}
use Rattle.ad_control_linked.specs.Links.{IsOneOf}
use Rattle.ad_control_linked.proofs.Nodes.{one_of, of_one, below}
use Rattle.ad_control_linked.proofs.policies.put_policies.Goals as goal

pub put_set-requires : goal.put_set-requires
put_set-requires c = record {
  members = below c.args.dir.now c.args.graph.now.nodes.items c.args.ground.now c.as_slice.result.now
      c.in_ok-members.members.items c.requires.ground c.in_ok-members.ensures;
}

pub returns-clause-set : goal.returns-clause-set
returns-clause-set c =
    let dir = c.args.dir.now in
    let nodes = c.args.graph.now.nodes.items in
    let ground = c.args.ground.now in
    let members = c.in_ok-members.members.items in
    let are : members ≡ filter_map (λ n. get nat_eq ground.objects n) (policies_of dir c.args.number)
    = c.in_ok-members.ensures
    ∙ ap (filter_map (λ n. get nat_eq ground.objects n)) (c.as_slice.ensures.value ∙ c.in_ok-policies.ensures.policies) in
    IfOk-weaker c.put_set.result _ _ (λ set is.
    set_alike c.put_set.new.self set (IsIn members) (IsOneOf nodes (policies_of dir c.args.number))
    (one_of dir nodes ground (policies_of dir c.args.number) members c.requires.ground are)
    (of_one dir nodes ground (policies_of dir c.args.number) members c.requires.ground are) is) c.put_set.ensures.set
