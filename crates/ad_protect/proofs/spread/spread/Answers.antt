use Rattle.std.proofs.Common.{◌≡◌, ℕ, true, ◌<◌, ◌≤◌, List, length, get_or, subst, sym, ap, arith}
use Rattle.ad_dir_model.specs.Objects.{is_live}
use Rattle.ad_protect.proofs.Sets.{has_at}
use Rattle.ad_protect.proofs.Spreads.{few_live, all_live, spread_starts, spread_goes, spread_ends}
use Rattle.ad_protect.proofs.spread.spread.Goals as goal

pub table_of-requires : goal.table_of-requires
table_of-requires c = all_live c.args.dir.now.objects c.args.numbers.now c.requires.all

pub groups-init : goal.groups-init
groups-init c = spread_starts c.args.dir.now c.args.numbers.now c.in_ok-taken.taken.keys c.requires.all
    c.in_ok-taken.ensures

pub take_group-requires-clause-live : goal.take_group-requires-clause-live
take_group-requires-clause-live c =
    let set = c.groups.taken.keys in
    let less : c.groups.done < length c.groups.taken.keys = omega (arith, c.groups-test.true, c.len.ensures.len) in
    subst (λ (keys : List ℕ). is_live c.args.dir.now.objects (get_or keys c.groups.done 0) ≡ true)
    (sym c.as_slice.ensures.keys)
    (c.groups.invariant.are.live (get_or set c.groups.done 0) (has_at set c.groups.done less))

pub groups-preserved : goal.groups-preserved
groups-preserved c =
    let less : c.groups.done < length c.groups.taken.keys = omega (arith, c.groups-test.true, c.len.ensures.len) in
    spread_goes c.args.dir.now c.groups.done (get_or c.as_slice.result.now c.groups.done 0) c.groups.taken.keys
    c.take_group.new.taken.keys c.groups.invariant less
    (ap (λ (keys : List ℕ). get_or keys c.groups.done 0) (sym c.as_slice.ensures.keys)) c.in_ok-take_group.ensures

pub groups-smaller : goal.groups-smaller
groups-smaller c =
    let less : c.groups.done < length c.groups.taken.keys = omega (arith, c.groups-test.true, c.len.ensures.len) in
    let few : length c.groups.taken.keys ≤ length c.args.dir.now.objects = few_live c.args.dir.now c.groups.taken.keys
    c.groups.invariant.are c.len.ensures.unique in
    omega (arith, less, few)

pub returns : goal.returns
returns c =
    let all : length c.groups.taken.keys ≤ c.groups.done = omega (arith, c.groups-test.false, c.len.ensures.len) in
    spread_ends c.args.dir.now c.groups.done c.groups.taken.keys c.groups.invariant all
