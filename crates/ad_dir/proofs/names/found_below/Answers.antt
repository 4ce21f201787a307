use Rattle.std.proofs.Common.{◌∙◌, ◌+◌, ◌≤◌, length, drop, reverse, sym, arith}
use Rattle.ad_dir_model.specs.Names.{found_below}
use Rattle.ad_dir.proofs.NameLaws.{from_end, none_left, below_more, below_none, below_here, by_parts}
use Rattle.ad_dir.proofs.names.found_below.Goals as goal

pub returns-in-None : goal.returns-in-None
returns-in-None c =
    let i = c.loop-i.i in
    let rdns = c.args.rdns.now in
    let rdn = c.index-rdns-rdns.result in
    let rest = drop (i + 1) (reverse rdns) in
    sym (sym c.loop-i.invariant ∙ from_end (found_below c.args.dir.now c.loop-i.at) rdns i rdn c.loop-i-test.true
    c.index-rdns-rdns.is
    ∙ below_none c.args.dir.now c.loop-i.at rdn rest
    (c.in-None.ensures ∙ by_parts c.args.dir.now c.loop-i.at rdn c.as_slice.result.now
    c.as_slice-in-loop-i.result.now c.as_slice.ensures c.as_slice-in-loop-i.ensures))

pub loop-i-preserved : goal.loop-i-preserved
loop-i-preserved c =
    let i = c.loop-i.i in
    let rdns = c.args.rdns.now in
    let rdn = c.index-rdns-rdns.result in
    let rest = drop (i + 1) (reverse rdns) in
    sym (below_more c.args.dir.now c.loop-i.at rdn rest c.in-Some.child
    (c.in-Some.ensures ∙ by_parts c.args.dir.now c.loop-i.at rdn c.as_slice.result.now
    c.as_slice-in-loop-i.result.now c.as_slice.ensures c.as_slice-in-loop-i.ensures))
    ∙ sym (from_end (found_below c.args.dir.now c.loop-i.at) rdns i rdn c.loop-i-test.true c.index-rdns-rdns.is)
    ∙ c.loop-i.invariant

pub returns : goal.returns
returns c =
    let le : length c.args.rdns.now ≤ c.loop-i.i = omega (arith, c.loop-i-test.false) in
    sym (sym c.loop-i.invariant ∙ none_left (found_below c.args.dir.now c.loop-i.at) c.args.rdns.now c.loop-i.i le
    ∙ below_here c.args.dir.now c.loop-i.at)
