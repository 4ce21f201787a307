use Rattle.std.proofs.Common.{◌↔◌, ℕ, List, map, subst}
use Rattle.std.specs.Prelude.{IsTrue}
use Rattle.std.specs.Option.{option_copied}
use Rattle.ad_dn.specs.Value.{IsValue}
use Rattle.ad_dir_objects.specs.Seen.{held_seen}
use Rattle.ad_dir_model.specs.Object.{Object}
use Rattle.ad_rows.proofs.Growing.{content_if}
use Rattle.ad_rows.proofs.parsing.object.Goals as goal

pub returns-clause-content : goal.returns-clause-content
returns-clause-content c =
    let o : Object = record {
      number = c.args.number;
      parent = c.in_ok-parent.parent;
      class
          = c.in_ok-be32.field-0;
      name = c.in_ok-name.name;
      values = map held_seen c.in_ok-values.values;
      sd
          = c.in_ok-sd.sd;
    } in
    content_if (option_copied c.args.schema) o c.in_ok-values.good c.both-named.result c.is_value.result
    c.is_class.result c.both.result c.both.ensures c.both-named.ensures
    (subst (λ (name : List ℕ). IsTrue c.is_value.result ↔ IsValue name) c.as_slice.ensures c.is_value.ensures)
    c.is_class.ensures c.in_ok-values.ensures.rise c.in_ok-values.ensures.each
