use Rattle.std.proofs.Common.{map, List, sym, ap, ◌∙◌}
use Rattle.std.specs.Prelude.{is_some}
use Rattle.ad_dir_objects.specs.Seen.{held_seen}
use Rattle.ad_dir_model.specs.Object.{Object, Held, stored_in, first_plain}
use Rattle.ad_dir_model.specs.Identity.{first_of_attr}
use Rattle.ad_dir_model.proofs.Finding.{at-of, at-not_live}
use Rattle.ad_policies.proofs.values.first_at.Goals as goal

pub returns-in-Some : goal.returns-in-Some
unfolding first_of_attr
returns-in-Some c =
    c.first_of.ensures
    ∙ ap (λ (vs : List Held). first_plain (stored_in vs c.args.attr.0))
    (ap (map held_seen) c.as_slice.ensures ∙ ap (λ (o : Object). o.values)
    (sym (at-of c.args.dir.now.objects c.args.number _ (sym c.in-Some.ensures))))

pub returns-in-None : goal.returns-in-None
unfolding first_of_attr stored_in
returns-in-None c =
    sym (ap (λ (o : Object). first_plain (stored_in o.values c.args.attr.0))
    (at-not_live c.args.dir.now.objects c.args.number (ap is_some (sym c.in-None.ensures))))
