use Rattle.std.proofs.Common.{ℕ, Option, sym, ap, ◌∙◌}
use Rattle.std.specs.Prelude.{option_map, unwrap_or}
use Rattle.ad_schema.specs.declared.info.ClassId.{ClassId}
use Rattle.ad_needs.proofs.TracedLaws.{class_there}
use Rattle.ad_needs.proofs.resolving.class_of_new.Goals as goal

pub unwrap-requires : goal.unwrap-requires
unwrap-requires c = class_there c.args.dir.now c.args.add.now c.in_ok-class.class c.requires
    c.in_ok-class.ensures.class

pub returns-clause-class : goal.returns-clause-class
returns-clause-class c =
    ap (λ (k : Option ClassId). unwrap_or (option_map (λ (id : ClassId). id.0) k) 0) (sym c.unwrap.ensures)
    ∙ ap (λ (n : Option ℕ). unwrap_or n 0) c.in_ok-class.ensures.class
