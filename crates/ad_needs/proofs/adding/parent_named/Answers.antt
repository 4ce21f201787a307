use Rattle.std.proofs.Common.{◌≡◌, Option, ℕ, IfOk, subst, ap}
use Rattle.ad_dn.specs.declared.rdn.Dn.{Dn}
use Rattle.ad_access_dir.specs.Sight.{visible_of}
use Rattle.ad_needs.proofs.adding.parent_named.Goals as goal

pub returns-clause-found : goal.returns-clause-found
returns-clause-found c =
    subst (λ (o : Option ℕ). IfOk c.visible.result (λ parent. parent ≡ o))
    (ap (λ (d : Dn). visible_of c.args.dir.now c.args.token.now d.rdns) c.in_ok-above.ensures) c.visible.ensures.found
