use Rattle.std.proofs.Common.{◌≡◌, ◌<◌, true, sym, subst, ap}
use Rattle.ad_dir_model.specs.Directory.{Meta}
use Rattle.ad_dir_model.specs.Limits.{max_counter}
use Rattle.ad_dir_objects.specs.Seen.{meta_seen}
use Rattle.ad_change.proofs.AddLaws.{counted_made}
use Rattle.ad_change.proofs.new_object.counted_on.Goals as goal

pub number_after-next_number-requires : goal.number_after-next_number-requires
number_after-next_number-requires c = subst (λ (m : Meta). m.next_number < max_counter) (sym c.meta-meta.ensures)
    c.requires.number

pub rid_after-next_rid-requires : goal.rid_after-next_rid-requires
rid_after-next_rid-requires c = subst (λ (m : Meta). c.args.gets_sid ≡ true → m.next_rid < max_counter)
    (sym c.meta-meta.ensures) c.requires.rid

pub returns : goal.returns
returns c = λ sid gets.
    counted_made c.args.dir.now (meta_seen c.meta-meta.result.now) c.args.gets_sid c.number_after-next_number.result
    c.rid_after-next_rid.result
    c.in_ok-suffix.suffix.rdns sid c.meta-meta.ensures c.number_after-next_number.ensures c.rid_after-next_rid.ensures
    (ap (λ (dn : _). dn.rdns) c.in_ok-suffix.ensures) gets
