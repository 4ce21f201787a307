use Rattle.std.proofs.Common.{◌≡◌, ℕ, Bool, true, false, List, drop, sym, subst, ◌∙◌}
use Rattle.sd_pool.specs.declared.holes.Hole.{Hole}
use Rattle.sd_pool.specs.Holes.{ends, EndBefore}
use Rattle.sd_pool.proofs.HoleLists.{ends_within, given_touching, given_apart}
use Rattle.sd_pool.proofs.holes.give_back.Goals as goal

told : (block place : ℕ) (holes now : List Hole) (b : Bool) → now ≡ holes → ends block (drop place now) ≡ b
    → ends block (drop place holes) ≡ b
told block place holes now b same h = subst (λ (hs : List Hole). ends block (drop place hs) ≡ b) same h

pub join_at-requires : goal.join_at-requires
join_at-requires c = ends_within c.args.block c.ended_before-place.result c.args.holes.now.items
    (told c.args.block c.ended_before-place.result c.args.holes.now.items c.deref-2.result.now true
    c.deref-2.ensures.value (sym c.ends_at.ensures ∙ c.if-ends_at.true))

pub returns-then-ends_at-clause-given : goal.returns-then-ends_at-clause-given
returns-then-ends_at-clause-given c =
    let holes : List Hole = c.args.holes.now.items in
    let place : ℕ = c.ended_before-place.result in
    let before = subst (EndBefore c.args.block place) c.deref.ensures.value c.ended_before-place.ensures.before in
    c.join_at.ensures.joined
    ∙ given_touching c.args.block c.args.end place holes before
    (told c.args.block place holes c.deref-2.result.now true c.deref-2.ensures.value
    (sym c.ends_at.ensures ∙ c.if-ends_at.true))

pub returns-else-ends_at-clause-given : goal.returns-else-ends_at-clause-given
returns-else-ends_at-clause-given c =
    let holes : List Hole = c.args.holes.now.items in
    let place : ℕ = c.ended_before-place.result in
    let before = subst (EndBefore c.args.block place) c.deref.ensures.value c.ended_before-place.ensures.before in
    c.put_at.ensures.joined
    ∙ given_apart c.args.block c.args.end place holes before
    (told c.args.block place holes c.deref-2.result.now false c.deref-2.ensures.value
    (sym c.ends_at.ensures ∙ c.if-ends_at.false))
