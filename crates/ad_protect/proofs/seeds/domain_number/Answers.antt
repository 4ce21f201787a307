use Rattle.std.proofs.Common.{◌≡◌, false, rules, sym, ◌∙◌}
use Rattle.ad_dir_model.specs.Identity.{self_sid}
use Rattle.ad_dir_model.specs.Protection.{is_of_domain}
use Rattle.ad_protect.proofs.Below.{of_domain, no_domain}
use Rattle.ad_protect.proofs.seeds.domain_number.Goals as goal

pub returns-in_err-domain : goal.returns-in_err-domain
returns-in_err-domain c = λ rid.
    let none : is_of_domain c.args.dir.now (self_sid c.args.dir.now c.args.number) rid ≡ false
    = no_domain c.args.dir.now c.args.number rid (sym c.in_err-domain.ensures) in
    rw none (search rules)

pub returns : goal.returns
returns c = λ rid.
    of_domain c.args.dir.now c.args.number rid c.in_ok-domain.domain.now c.in_ok-sid.sid.now
    (sym c.in_ok-domain.ensures) (sym c.in_ok-sid.ensures)
    ∙ c.last_below.ensures rid
