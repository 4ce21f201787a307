use Rattle.std.proofs.Common.{◌++◌, ◌∷◌, [], List, ap, subst}
use Rattle.ad_dir.proofs.Edits.{where_ok}
use Rattle.ad_dir.specs.Conditions.{with_sd}
use Rattle.ad_dir_model.specs.Object.{Object}
use Rattle.ad_dir_model.specs.Objects.{object_at}
use Rattle.ad_dir_model.specs.Directory.{Edit, put_object}
use Rattle.ad_rows_write.specs.Batch.{AreRowsOfEdits}
use Rattle.ad_engine_store.proofs.Making.{makes_one}
use Rattle.ad_engine_store.proofs.stepping.give.Goals as goal

pub returns : goal.returns
returns c =
    let dir = c.args.dir.now in
    let sd = c.args.sd.now in
    where_ok c.put_sd.result
    (λ made. makes_one (put_object (with_sd sd (object_at dir.objects c.args.number))) dir c.put_sd.new.self
    c.args.batch.now c.note_object.new.self made
    (λ (edits : List Edit) before. subst
    (λ (o : Object). AreRowsOfEdits (edits ++ put_object o ∷ []) c.note_object.new.self)
    (ap (with_sd sd) c.live_object.ensures) (c.in_ok-note_object.ensures.noted edits before)))
    c.put_sd.ensures.ok
