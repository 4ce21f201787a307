use Rattle.std.proofs.Common.{Ok, map, ap, subst, ◌∙◌}
use Rattle.std.proofs.lemmas.Result.{err_from_is_err_and}
use Rattle.ad_dir_model.specs.Directory.{Directory}
use Rattle.ad_dir_model.specs.Soundness.{IsSound}
use Rattle.ad_dir_model.proofs.Recomputing.{recomputed_sound}
use Rattle.ad_dir_objects.specs.Seen.{meta_seen}
use Rattle.ad_load_records.specs.Seen.{seen}
use Rattle.ad_load_objects.specs.Seen.{draft_seen}
use Rattle.ad_load.specs.Seen.{entry_seen, before_seen}
use Rattle.ad_load.proofs.Whole.{what_is_linked, drafts_stop, links_stop, all_made, recomputed_is}
use Rattle.ad_load.proofs.directory.made_of.Goals as goal

pub returns-in_err-drafts-clause-made : goal.returns-in_err-drafts-clause-made
returns-in_err-drafts-clause-made c =
    let p = err_from_is_err_and c.from_residual.result c.from_residual.ensures.1 in
    rw (p.1, p.2) (λ m. drafts_stop c.args.schema.now (map seen c.args.records.items) c.in_err-drafts.field-0.0
    (c.in_err-drafts.ensures.drafts m))

pub returns-in_err-before-clause-made : goal.returns-in_err-before-clause-made
returns-in_err-before-clause-made c =
    let p = err_from_is_err_and c.from_residual-in_err-before.result c.from_residual-in_err-before.ensures.1 in
    let drafts = c.in_ok-drafts.ensures.drafts in
    rw (p.1, p.2) (λ m. links_stop c.args.schema.now (map seen c.args.records.items)
    (map draft_seen c.in_ok-drafts.drafts.items.items) c.in_err-before.field-0.0 drafts (c.in_err-before.ensures m))

pub settle-requires-clause-order : goal.settle-requires-clause-order
settle-requires-clause-order c =
    let drafts = c.in_ok-drafts.ensures.drafts in
    (what_is_linked c.requires.reads c.args.schema.now (map seen c.args.records.items)
    (map draft_seen c.in_ok-drafts.drafts.items.items)
    (before_seen c.args.schema.now c.in_ok-before.before) c.requires.good c.requires.makes c.requires.short drafts
    c.in_ok-before.ensures).order

pub settle-requires-clause-read : goal.settle-requires-clause-read
settle-requires-clause-read c =
    let drafts = c.in_ok-drafts.ensures.drafts in
    (what_is_linked c.requires.reads c.args.schema.now (map seen c.args.records.items)
    (map draft_seen c.in_ok-drafts.drafts.items.items)
    (before_seen c.args.schema.now c.in_ok-before.before) c.requires.good c.requires.makes c.requires.short drafts
    c.in_ok-before.ensures).read

pub returns-clause-made : goal.returns-clause-made
returns-clause-made c =
    let drafts = c.in_ok-drafts.ensures.drafts in
    all_made c.args.schema.now (map seen c.args.records.items) (map draft_seen c.in_ok-drafts.drafts.items.items)
    (before_seen c.args.schema.now c.in_ok-before.before) drafts c.in_ok-before.ensures
    ∙ ap (λ (d : Directory). Ok d) (recomputed_is c.args.schema.now
    (map entry_seen c.in_ok-before.before.objects.items) (map entry_seen c.settle.new.objects.items)
    (meta_seen c.in_ok-before.before.meta) c.in_ok-settle.ensures)

pub returns-clause-sound : goal.returns-clause-sound
returns-clause-sound c =
    let drafts = c.in_ok-drafts.ensures.drafts in
    let read = (what_is_linked c.requires.reads c.args.schema.now (map seen c.args.records.items)
    (map draft_seen c.in_ok-drafts.drafts.items.items)
    (before_seen c.args.schema.now c.in_ok-before.before) c.requires.good c.requires.makes c.requires.short drafts
    c.in_ok-before.ensures).read in
    subst IsSound (recomputed_is c.args.schema.now (map entry_seen c.in_ok-before.before.objects.items)
    (map entry_seen c.settle.new.objects.items)
    (meta_seen c.in_ok-before.before.meta) c.in_ok-settle.ensures) (recomputed_sound
    (before_seen c.args.schema.now c.in_ok-before.before) read)
