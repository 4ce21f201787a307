use Rattle.std.proofs.lemmas.Result.{IfOk-weaker}
use Rattle.ad_control_graph.specs.Drawing.{IsSetOf, IsIn, IsBy}
use Rattle.ad_control_graph.proofs.SetLaws.{set_alike}
use Rattle.ad_control_graph.proofs.graph.Graph.put_members.Goals as goal

pub put_set-requires : goal.put_set-requires
put_set-requires c = record {
  members = λ place x is. let by = c.in_ok-members.ensures.only x (place, is) in c.requires.at by.place x by.is_at;
}

pub returns-clause-set : goal.returns-clause-set
returns-clause-set c =
    IfOk-weaker c.put_set.result (λ place. IsSetOf c.put_set.new.self place (IsIn c.in_ok-members.members.items))
    (λ place. IsSetOf c.put_set.new.self place (IsBy c.args.set.now c.args.at.now (λ there. there)))
    (λ place. set_alike c.put_set.new.self place (IsIn c.in_ok-members.members.items)
    (IsBy c.args.set.now c.args.at.now (λ there. there)) c.in_ok-members.ensures.only c.in_ok-members.ensures.all)
    c.put_set.ensures.set
