use Rattle.std.proofs.Common.{◌≡◌, [], ◌∷◌, ◌++◌, subst}
use Rattle.std.specs.Prelude.{filter_map}
use Rattle.ad_identities.specs.declared.identity.Identity.{Identity}
use Rattle.ad_identities.proofs.Listed.{one_more}
use Rattle.ad_control_nodes.specs.Steps.{lone_sid}
use Rattle.ad_control_nodes.proofs.nodes.put_lone.Goals as goal

pub loop-identity-preserved : goal.loop-identity-preserved
loop-identity-preserved c =
    let l = c.loop-identity in
    let new = c.put_if_lone.new.into.items in
    record {
      are = one_more lone_sid c.args.all.now l.identity-index c.identity-item.result c.args.into.now.items l.into.items
          new c.loop-identity-test.true l.invariant.are
          (subst (λ (i : Identity). new ≡ l.into.items ++ filter_map lone_sid (i ∷ [])) c.identity-item.is
          c.in_ok-put_if_lone.ensures.are);
      ranges = λ before. c.in_ok-put_if_lone.ensures.ranges (l.invariant.ranges before);
    }
