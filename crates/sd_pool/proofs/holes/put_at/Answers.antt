use Rattle.std.proofs.Common.{◌≡◌, ℕ, ◌<◌, Bool, true, false, List, ◌++◌, take, drop, length, ap, sym, subst, ◌∙◌}
use Rattle.std.proofs.Common.{arith}
use Rattle.sd_pool.specs.declared.holes.Hole.{Hole}
use Rattle.sd_pool.specs.Holes.{begins}
use Rattle.sd_pool.proofs.HoleLists.{begins_within, put_joined, joined_apart}
use Rattle.sd_pool.proofs.holes.put_at.Goals as goal

told : (end place : ℕ) (holes now : List Hole) (b : Bool) → now ≡ holes → begins end (drop place now) ≡ b
    → begins end (drop place holes) ≡ b
told end place holes now b same h = subst (λ (hs : List Hole). begins end (drop place hs) ≡ b) same h

pub index_mut-requires : goal.index_mut-requires
index_mut-requires c =
    let within : c.args.place < length c.deref.result.now = begins_within c.args.end c.args.place c.deref.result.now
    (sym c.begins_at.ensures ∙ c.if-begins_at.true) in
    omega (arith, c.deref.ensures.len)

pub returns-then-begins_at-clause-joined : goal.returns-then-begins_at-clause-joined
returns-then-begins_at-clause-joined c =
    let holes : List Hole = c.args.holes.now.items in
    let touches = told c.args.end c.args.place holes c.deref.result.now true c.deref.ensures.value
    (sym c.begins_at.ensures ∙ c.if-begins_at.true) in
    put_joined c.args.block c.args.end c.args.place holes c.index_mut.result.now
    (begins_within c.args.end c.args.place holes touches) touches c.index_mut.ensures.value

pub returns-clause-joined : goal.returns-clause-joined
returns-clause-joined c =
    let holes : List Hole = c.args.holes.now.items in
    let apart = told c.args.end c.args.place holes c.deref.result.now false c.deref.ensures.value
    (sym c.begins_at.ensures ∙ c.if-begins_at.false) in
    c.in-Ok.ensures.items
    ∙ ap (λ (hs : List Hole). take c.args.place holes ++ hs)
    (sym (joined_apart c.args.block c.args.end (drop c.args.place holes) apart))
