use Rattle.std.proofs.Common.{◌∙◌, ◌++◌, ℕ, List, map, sym, ap}
use Rattle.std.specs.List.{flat_map}
use Rattle.std.proofs.lemmas.Result.{on_ok_weaker}
use Rattle.ad_causes.specs.Schema.{record_text, record_key}
use Rattle.ad_causes.specs.Steps.{new_line, gone_line}
use Rattle.ad_causes.proofs.TextLemmas.{joins, schemas_is}
use Rattle.ad_causes.proofs.schemas.put_schemas.Goals as goal

pub returns : goal.returns
returns c =
    let was = c.args.was.now in
    let is = c.args.is.now in
    let old = c.args.into.now.items in
    on_ok_weaker c.put_all_gone.result
    (λ gone. joins old c.put_all_new.new.into.items (flat_map (new_line (map record_text was)) is)
    (flat_map (gone_line (map record_key is)) was) c.put_all_gone.new.into.items c.in_ok-put_all_new.ensures gone
    ∙ ap (λ (t : List ℕ). old ++ t) (sym (schemas_is was is)))
    c.put_all_gone.ensures
