use Rattle.std.proofs.Common.{ℕ, ◌+◌, drop, sym, ap, ◌∙◌, arith}
use Rattle.std.specs.Option.{option_map}
use Rattle.ad_schema_classes.specs.declared.names.Case.TheVariants.{Kept}
use Rattle.ad_schema_classes.specs.Hashes.{place_by}
use Rattle.ad_load_objects.specs.Drafts.{number_named}
use Rattle.ad_load_objects.specs.Index.{drafts_seen}
use Rattle.ad_load_objects.proofs.Indexed.{position_of_name, name_within}
use Rattle.ad_load_objects.proofs.index.number_above.Goals as goal

pub overflow_add-result : goal.overflow_add-result
overflow_add-result c =
    let at = ap (place_by Kept c.args.drafts.now.names) (sym c.key_above.ensures.key) ∙ sym c.find.ensures
    ∙ c.in-Some.is in
    omega (
      arith,
      c.requires.few,
      name_within c.args.drafts.now (drop 1 c.args.dn.now.rdns) c.in-Some.place
          c.requires.indexed c.key_above.ensures.form at,
    )

pub returns-in-Some : goal.returns-in-Some
unfolding number_named
returns-in-Some c =
    let at = ap (place_by Kept c.args.drafts.now.names) (sym c.key_above.ensures.key) ∙ sym c.find.ensures
    ∙ c.in-Some.is in
    sym (ap (option_map (λ (p : ℕ). p + 1)) (sym (position_of_name
    (drafts_seen c.args.drafts.now) c.args.drafts.now.names c.args.drafts.now.places (drop 1 c.args.dn.now.rdns)
    c.requires.indexed c.key_above.ensures.form)
    ∙ at))

pub returns-in-None : goal.returns-in-None
unfolding number_named
returns-in-None c =
    let at = ap (place_by Kept c.args.drafts.now.names) (sym c.key_above.ensures.key) ∙ sym c.find.ensures
    ∙ c.in-None.is in
    sym (ap (option_map (λ (p : ℕ). p + 1)) (sym (position_of_name
    (drafts_seen c.args.drafts.now) c.args.drafts.now.names c.args.drafts.now.places (drop 1 c.args.dn.now.rdns)
    c.requires.indexed c.key_above.ensures.form)
    ∙ at))
