use Rattle.std.proofs.Common.{ℕ, ◌+◌, sym, ap, ◌∙◌, arith}
use Rattle.std.specs.Option.{option_map}
use Rattle.ad_load_objects.specs.Drafts.{number_named}
use Rattle.ad_load_objects.proofs.Indexed.{position_of_name, name_in_range}
use Rattle.ad_load_objects.proofs.index.number_in.Goals as goal

pub overflow_add-result : goal.overflow_add-result
overflow_add-result g c =
    let names = c.requires.1 in
    let at = sym c.in_ok-place.ensures ∙ c.in-Some.is in
    omega (
      arith,
      c.requires.0,
      name_in_range g.all c.args.names.now names.0 c.args.dn.now.rdns c.in-Some.place
          names.1 c.has_form.ensures at,
    )

pub returns-in-Some : goal.returns-in-Some
unfolding number_named
returns-in-Some g c =
    let names = c.requires.1 in
    let at = sym c.in_ok-place.ensures ∙ c.in-Some.is in
    sym (ap (option_map (λ (p : ℕ). p + 1))
    (sym (position_of_name g.all c.args.names.now names.0 c.args.dn.now.rdns names.1 c.has_form.ensures) ∙ at))

pub returns-in-None : goal.returns-in-None
unfolding number_named
returns-in-None g c =
    let names = c.requires.1 in
    let at = sym c.in_ok-place.ensures ∙ c.in-None.is in
    sym (ap (option_map (λ (p : ℕ). p + 1))
    (sym (position_of_name g.all c.args.names.now names.0 c.args.dn.now.rdns names.1 c.has_form.ensures) ∙ at))
