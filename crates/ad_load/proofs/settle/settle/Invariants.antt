use Rattle.std.proofs.Common.{◌≡◌, ◌++◌, map, take, drop, length}
use Rattle.ad_dir_objects.specs.Seen.{meta_seen}
use Rattle.ad_dir_model.specs.Loading.{from_root}
use Rattle.ad_load.specs.Seen.{entry_seen}
use Rattle.ad_load.specs.Settling.{unsettled_with}
use Rattle.ad_load.proofs.settle.settle.Given as goal

-- those so far have theirs, and the others are as they were
abbrev pub invariant-loop-place : goal.invariant-loop-place
invariant-loop-place l =
    let before = map entry_seen l.initial.objects.items in
    let dir = unsettled_with l.schema before (meta_seen l.meta) in
    record {
      half : map entry_seen l.objects.items ≡ map (from_root dir) (take l.place before) ++ drop l.place before;
      long : length l.objects.items ≡ length l.initial.objects.items;
    }
