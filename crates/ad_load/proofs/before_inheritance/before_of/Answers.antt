use Rattle.std.proofs.Common.{List, Ok, [], map, sym, ap, ◌∙◌}
use Rattle.std.proofs.lemmas.Result.{err_from_is_err_and}
use Rattle.ad_sd.specs.declared.parts.Sd.{Sd}
use Rattle.ad_dir_model.specs.Directory.{Meta}
use Rattle.ad_dir_objects.specs.declared.object.Object.{Object as ObjectIn}
use Rattle.ad_load.specs.Seen.{entry_seen}
use Rattle.ad_load.proofs.before_inheritance.before_of.Goals as goal

pub check-requires : goal.check-requires
check-requires g c =
    let objects = ap (λ (os : List (ObjectIn × Sd)). Ok (map entry_seen os)) (sym c.as_slice.ensures.value) in
    (c.requires.0, (c.requires.1.0, (c.requires.1.1.0 ∙ objects, c.requires.1.1.1)))

pub returns-in_err-next_rid : goal.returns-in_err-next_rid
returns-in_err-next_rid g c =
    let p = err_from_is_err_and c.from_residual.result c.from_residual.ensures.1 in
    rw (p.1, p.2) (λ m. c.in_err-next_rid.ensures m)

pub returns : goal.returns
returns g c =
    let counted = c.args.counted in
    let meta : Meta = record {
      next_number = counted.next_number;
      next_rid = c.in_ok-next_rid.next_rid;
      suffix
          = counted.suffix.rdns;
    } in
    c.in_ok-next_rid.ensures
    ∙ ap (λ (os : List (ObjectIn × Sd)). Ok
    (record { schema = c.args.schema.now; objects = map entry_seen os; pending = []; meta = meta }))
    c.as_slice.ensures.value
