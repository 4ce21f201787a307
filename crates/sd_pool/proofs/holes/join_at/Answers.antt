use Rattle.std.proofs.Common.{◌≡◌, ℕ, suc, ◌+◌, ◌<◌, Bool, true, false, List, drop, set, get_or, length, ap, sym}
use Rattle.std.proofs.Common.{subst, ◌∙◌, arith}
use Rattle.std.specs.List.{remove}
use Rattle.sd_pool.specs.declared.holes.Hole.{Hole}
use Rattle.sd_pool.specs.Holes.{begins}
use Rattle.sd_pool.proofs.HoleLists.{begins_within, join_next, join_here}
use Rattle.sd_pool.proofs.holes.join_at.Goals as goal

-- what the test of the next hole told of the list
told : (end place : ℕ) (holes now : List Hole) (b : Bool) → now ≡ holes → begins end (drop (place + 1) now) ≡ b
    → begins end (drop (suc place) holes) ≡ b
told end place holes now b same h =
    let one : place + 1 ≡ suc place = omega arith in
    subst (λ (n : ℕ). begins end (drop n holes) ≡ b) one
    (subst (λ (hs : List Hole). begins end (drop (place + 1) hs) ≡ b) same h)

pub remove-next-requires : goal.remove-next-requires
remove-next-requires c =
    let within : c.args.place + 1 < length c.deref.result.now = begins_within c.args.end (c.args.place + 1)
    c.deref.result.now (sym c.begins_at.ensures ∙ c.if-begins_at.true) in
    omega (arith, c.deref.ensures.len)

pub returns-then-begins_at-clause-joined : goal.returns-then-begins_at-clause-joined
returns-then-begins_at-clause-joined c =
    let holes : List Hole = c.args.holes.now.items in
    let place : ℕ = c.args.place in
    let next : Hole = c.remove-next.result in
    let hole : Hole = c.index_mut.result.now in
    let joined : Hole = record { block = hole.block; end = next.end } in
    let one : c.args.place + 1 ≡ suc c.args.place = omega arith in
    let now : c.remove-next.new.self.items ≡ remove holes (suc place) = c.remove-next.ensures.items
    ∙ ap (remove holes) one in
    let begins_next = told c.args.end place holes c.deref.result.now true c.deref.ensures.value
    (sym c.begins_at.ensures ∙ c.if-begins_at.true) in
    let within = begins_within c.args.end (suc place) holes begins_next in
    ap (λ (hs : List Hole). set hs place joined) now
    ∙ join_next c.args.end place holes hole next within begins_next
    (c.index_mut.ensures.value ∙ ap (λ (hs : List Hole). get_or hs place hole) now)
    (c.remove-next.ensures.value ∙ ap (λ (n : ℕ). get_or holes n next) one)

pub returns-else-begins_at-clause-joined : goal.returns-else-begins_at-clause-joined
returns-else-begins_at-clause-joined c =
    let holes : List Hole = c.args.holes.now.items in
    let apart = told c.args.end c.args.place holes c.deref.result.now false c.deref.ensures.value
    (sym c.begins_at.ensures ∙ c.if-begins_at.false) in
    join_here c.args.end c.args.place holes c.index_mut-else-begins_at.result.now c.requires apart
    c.index_mut-else-begins_at.ensures.value
