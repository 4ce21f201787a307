use Rattle.std.proofs.Common.{◌≡◌, ℕ, List, length, vec_len, sym, ap, arith}
use Rattle.std.proofs.lemmas.Bool.{eqb-true}
use Rattle.ad_chains.proofs.Marked.{all_free}
use Rattle.ad_chains.proofs.Levelling.{level_first, chains_are}
use Rattle.ad_chains.proofs.search.mark_all.Goals as goal

pub levels-init : goal.levels-init
levels-init c =
    let marks = c.in_ok-mark.ensures in
    let free = all_free c.args.links.now c.requires.blank in
    let nobody = ap (λ (l : List ℕ). length l) c.new-frontier.ensures.items in
    record {
      long = marks.long;
      level = level_first c.args.edges.now c.args.end c.args.links.now c.mark.new.links c.new-frontier.result.items
          c.mark.new.list.items c.requires.blank c.new-frontier.ensures.items marks;
      within = omega (arith, marks.fewer, free, nobody);
    }

pub returns-clause-chains : goal.returns-clause-chains
returns-clause-chains c =
    let none : vec_len c.levels.frontier ≡ 0 = eqb-true (vec_len c.levels.frontier) 0 (sym c.levels-test.ensures) in
    let nobody : length c.levels.frontier.items ≡ 0 = omega (arith, none, c.levels.frontier.ok.0) in
    chains_are c.args.edges.now c.args.end c.levels.links c.levels.frontier.items c.levels.level nobody
    c.levels.invariant.level
