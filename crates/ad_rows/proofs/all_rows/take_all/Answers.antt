use Rattle.std.proofs.Common.{List, None, arith, subst, sym}
use Rattle.std.specs.Option.{option_copied}
use Rattle.ad_schema.specs.declared.line.SchemaRecord.{SchemaRecord}
use Rattle.ad_sd.specs.declared.parts.Sd.{Sd}
use Rattle.ad_dir_objects.specs.declared.object.Object.{Object}
use Rattle.ad_dir_objects.specs.Seen.{objects_of}
use Rattle.ad_rows.specs.Reading.{AreTaken, HasTaken}
use Rattle.ad_rows.proofs.Loops.{if_all, if_on}
use Rattle.ad_rows.proofs.all_rows.take_all.Goals as goal

pub returns-clause-taken : goal.returns-clause-taken
returns-clause-taken c =
    let schema = option_copied c.args.schema in
    if_on _ (λ (s : List SchemaRecord). HasTaken s c.take_in.new.taken) schema
    (if_all _ schema (λ s. subst (λ (os : List (Object × Sd)). AreTaken s None 0 (objects_of os))
    (sym c.new.ensures.items) (record { rise = omega arith; small = tt; content = tt })))
    c.in_ok-take_in.ensures.taken
