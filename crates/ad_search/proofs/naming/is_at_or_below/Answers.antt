use Rattle.std.proofs.Common.{List, ◌-◌, length, sym, ap, ◌∙◌, arith}
use Rattle.std.proofs.lemmas.List.{take_rest}
use Rattle.ad_dn.specs.declared.rdn.Rdn.{Rdn}
use Rattle.ad_search.specs.Scope.{same_rdns}
use Rattle.ad_search.proofs.NameLaws.{too_short, long_enough}
use Rattle.ad_search.proofs.naming.is_at_or_below.Goals as goal

pub returns-then-name-base : goal.returns-then-name-base
returns-then-name-base c = sym (too_short c.args.base.now c.args.name.now c.if-name-base.true)

pub returns : goal.returns
returns c =
    c.same_rdns.ensures
    ∙ ap (λ (rdns : List Rdn). same_rdns rdns c.args.base.now)
    (take_rest c.args.name.now (length c.args.name.now - length c.args.base.now))
    ∙ sym (long_enough c.args.base.now c.args.name.now (omega (arith, c.if-name-base.false)))
