use Rattle.std.proofs.Common.{List, [], ◌∷◌, sym, subst}
use Rattle.prop_queue.specs.declared.pending.Pending.{Pending}
use Rattle.ad_dir.specs.Conditions.{MayPend}
use Rattle.ad_dir_model.specs.Directory.{put_queue}
use Rattle.ad_engine_store.specs.Stepping.{Makes}
use Rattle.ad_engine_store.proofs.Making.{makes_one}
use Rattle.ad_engine_store.proofs.stepping.put_queue.Goals as goal

pub apply-requires : goal.apply-requires
apply-requires c = record {
  normal = tt;
  may = subst (MayPend c.args.dir.now) (sym c.into_entries.ensures.entries)
      c.requires;
}

pub returns : goal.returns
returns c =
    subst (λ (ps : List Pending). Makes (put_queue ps ∷ []) c.args.dir.now c.apply.new.self c.args.batch.now
    c.note.new.self) c.into_entries.ensures.entries
    (makes_one (put_queue c.into_entries.result.items) c.args.dir.now c.apply.new.self c.args.batch.now c.note.new.self
    c.in_ok-apply.ensures.ok c.in_ok-note.ensures.noted)
