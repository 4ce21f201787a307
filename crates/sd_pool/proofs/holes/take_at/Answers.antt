use Rattle.std.proofs.Common.{ℕ, suc, ◌+◌, ◌-◌, ◌<◌, ◌≤◌, List, ◌++◌, take, drop, ap, sym, subst, ◌∙◌}
use Rattle.std.proofs.lemmas.List.{set_split}
use Rattle.sd_pool.specs.declared.holes.Hole.{Hole}
use Rattle.sd_pool.specs.Holes.{less}
use Rattle.sd_pool.proofs.HoleLists.{taken_at, less_more, less_all}
use Rattle.sd_pool.proofs.holes.take_at.Goals as goal

pub returns-then-count-saturating_sub-clause-taken : goal.returns-then-count-saturating_sub-clause-taken
returns-then-count-saturating_sub-clause-taken c = λ blocks first.
    let holes : List Hole = c.args.holes.now.items in
    let hole : Hole = c.index-hole.result.now in
    let shorter : Hole = record { block = hole.block + c.args.count; end = hole.end } in
    let more : c.args.count < hole.end - hole.block = subst (λ (n : ℕ). c.args.count < n) c.saturating_sub.ensures
    c.if-count-saturating_sub.true in
    set_split holes c.args.place shorter c.requires
    ∙ ap (λ (hs : List Hole). take c.args.place holes ++ hs)
    (sym (less_more c.args.count hole (drop (suc c.args.place) holes) more))
    ∙ ap (λ (h : Hole). take c.args.place holes ++ less c.args.count h (drop (suc c.args.place) holes))
    c.index-hole.ensures
    ∙ taken_at blocks c.args.count c.args.place holes hole first

pub returns-else-count-saturating_sub-clause-taken : goal.returns-else-count-saturating_sub-clause-taken
returns-else-count-saturating_sub-clause-taken c = λ blocks first.
    let holes : List Hole = c.args.holes.now.items in
    let hole : Hole = c.index-hole.result.now in
    let all : hole.end - hole.block ≤ c.args.count = subst (λ (n : ℕ). n ≤ c.args.count) c.saturating_sub.ensures
    c.if-count-saturating_sub.false in
    c.remove-hole.ensures.items
    ∙ ap (λ (hs : List Hole). take c.args.place holes ++ hs)
    (sym (less_all c.args.count hole (drop (suc c.args.place) holes) all))
    ∙ ap (λ (h : Hole). take c.args.place holes ++ less c.args.count h (drop (suc c.args.place) holes))
    c.index-hole.ensures
    ∙ taken_at blocks c.args.count c.args.place holes hole first
