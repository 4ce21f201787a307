use Rattle.std.proofs.Common.{◌<◌, ℕ, sym, subst}
use Rattle.std.specs.BTreeMap.{is_at}
use Rattle.std.specs.Ordering.{nat_cmp}
use Rattle.ad_sd.specs.declared.parts.Sd.{Sd}
use Rattle.ad_sd.specs.Normal.{SpellsNormal}
use Rattle.sd_pool.specs.Sharers.{bytes_at}
use Rattle.sd_pool.proofs.SharerLaws.{shared_live}
use Rattle.ad_dir_table.specs.declared.stored_object.StoredObject.{StoredObject}
use Rattle.ad_dir_table.specs.Entry.{objects_in}
use Rattle.ad_dir_table.specs.Fields.{count_of, entries_of, object_kept}
use Rattle.ad_dir_table.proofs.Entries.{found_with}
use Rattle.ad_dir_table.proofs.Keeping.{all_counted}
use Rattle.ad_dir_table.proofs.PoolLaws.{sd_told}
use Rattle.ad_dir_table.proofs.parts.id.Goals as goal

pub returns-in-Some-clause-live : goal.returns-in-Some-clause-live
returns-in-Some-clause-live c =
    let entries = c.args.parts.now.kept.entries in
    let kept = c.in-Some.kept.now in
    shared_live c.args.parts.now.pool.live kept.id.0
    (subst (λ (n : ℕ). 0 < n) (sym (c.requires.shared kept.id.0))
    (found_with (λ (k : StoredObject). 0 < count_of k.id.0 entries) (is_at (nat_cmp c.args.number)) entries kept
    (all_counted entries) (sym c.in-Some.ensures.at)))

pub returns-in-Some-clause-bytes : goal.returns-in-Some-clause-bytes
returns-in-Some-clause-bytes c =
    let live = c.args.parts.now.pool.live in
    let kept = c.in-Some.kept.now in
    subst (λ (sd : Sd). SpellsNormal sd (bytes_at live kept.id.0))
    (sym (sd_told (object_kept live kept) (objects_in (entries_of c.args.parts.now)) c.args.number
    (c.in-Some.ensures.found live))) (c.in-Some.ensures.normal live c.requires.normal)
