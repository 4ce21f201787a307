use Rattle.std.proofs.Common.{List, ℕ, sym, subst}
use Rattle.std.specs.Str.{str_to_ascii_uppercase}
use Rattle.ad_dn.specs.Value.{IsRdn}
use Rattle.ad_dn.proofs.Spelled.{made_is}
use Rattle.ad_dn.proofs.rdn.Rdn.new.Goals as goal

pub returns-clause-rdn : goal.returns-clause-rdn
returns-clause-rdn c =
    subst (λ (k : List ℕ). IsRdn (record { kind = k; value = c.in_ok-value.value })) (sym c.in_ok-kind.ensures)
    (subst (λ (v : List ℕ). IsRdn (record { kind = str_to_ascii_uppercase c.args.kind.now; value = v }))
    (sym c.in_ok-value.ensures)
    (made_is c.args.kind.now c.args.value.now c.requires.kind c.requires.value))
