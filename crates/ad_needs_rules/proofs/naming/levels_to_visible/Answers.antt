use Rattle.std.proofs.Common.{◌≡◌, ◌∙◌, ◌≤◌, ◌-◌, ℕ, Some, None, length, drop, sym, ap, subst, arith}
use Rattle.ad_dn.specs.declared.rdn.Dn.{Dn}
use Rattle.ad_dir_model.specs.Directory.{Meta}
use Rattle.ad_dir_model.specs.Names.{found}
use Rattle.ad_dir_model.proofs.Named.{found_live}
use Rattle.ad_needs_rules.proofs.SightLaws.{nearest, matched_nearest}
use Rattle.ad_needs_rules.proofs.AboveLaws.{visible_by, starts, stops, steps, either_within}
use Rattle.ad_needs_rules.proofs.naming.levels_to_visible.Goals as goal

pub returns-then-parts-above_root-clause-nearest : goal.returns-then-parts-above_root-clause-nearest
returns-then-parts-above_root-clause-nearest c =
    let above : c.len-above_root.result ≡ length c.args.dir.now.meta.suffix = c.len-above_root.ensures
    ∙ ap (λ (m : Meta). length m.suffix) c.meta.ensures in
    starts c.args.dir.now c.args.token.now c.args.dn.now.rdns c.len-parts.result 1
    (omega (arith, c.len-parts.ensures)) (omega (arith, c.len-parts.ensures, c.if-parts-above_root.true, above))
    ∙ sym (matched_nearest c.args.dir.now c.args.token.now c.args.dn.now.rdns)

pub each-init : goal.each-init
each-init c =
    let above : c.len-above_root.result ≡ length c.args.dir.now.meta.suffix = c.len-above_root.ensures
    ∙ ap (λ (m : Meta). length m.suffix) c.meta.ensures in (
      omega (arith, c.if-parts-above_root.false),
      omega (arith, c.len-parts.ensures, c.if-parts-above_root.false, above),
      omega (arith, c.len-parts.ensures),
      starts c.args.dir.now c.args.token.now c.args.dn.now.rdns c.len-parts.result
          (c.len-parts.result - c.len-above_root.result)
          (omega (arith, c.len-parts.ensures)) (omega (arith, c.len-parts.ensures, above)),
    )

pub returns-in_default-clause-nearest : goal.returns-in_default-clause-nearest
returns-in_default-clause-nearest c =
    let none : found c.args.dir.now (drop (c.each.levels - 1) c.args.dn.now.rdns) ≡ None =
    ap (λ (d : Dn). found c.args.dir.now d.rdns) (sym c.in_ok-above.ensures)
    ∙ sym (rw c.in_default.is at c.in_ok-number.ensures.found) in
    stops c.args.dir.now c.args.token.now c.args.dn.now.rdns c.each.levels (drop c.each.nearest c.args.dn.now.rdns)
    (omega (arith, c.each-test.true)) c.each.invariant.1 none c.each.invariant.3
    ∙ sym (matched_nearest c.args.dir.now c.args.token.now c.args.dn.now.rdns)

pub is_visible-seen-requires-clause-live : goal.is_visible-seen-requires-clause-live
is_visible-seen-requires-clause-live c =
    found_live c.args.dir.now c.in_ok-above.above.rdns c.in-Some.number c.invariants.ensures.rise
    (sym (rw c.in-Some.is at c.in_ok-number.ensures.found))

pub each-preserved : goal.each-preserved
each-preserved c =
    let dir = c.args.dir.now in
    let token = c.args.token.now in
    let rdns = c.args.dn.now.rdns in
    let leads : found dir (drop (c.each.levels - 1) rdns) ≡ Some c.in-Some.number =
    ap (λ (d : Dn). found dir d.rdns) (sym c.in_ok-above.ensures)
    ∙ sym (rw c.in-Some.is at c.in_ok-number.ensures.found) in
    let is = visible_by dir token (drop (c.each.levels - 1) rdns) c.in-Some.number c.is_visible-seen.result leads
    (sym c.is_visible-seen.ensures) in (
      omega (arith, c.each-test.true),
      omega (arith, c.each-test.true, c.each.invariant.1),
      subst (λ (n : ℕ). n ≤ length rdns) (sym c.nearer-nearest.ensures)
          (either_within c.is_visible-seen.result (c.each.levels - 1) c.each.nearest (length rdns)
          (omega (arith, c.each.invariant.1)) c.each.invariant.2),
      subst (λ (n : ℕ). drop n rdns ≡ nearest dir token (drop (c.each.levels - 1) rdns)) (sym c.nearer-nearest.ensures)
          (steps dir token rdns c.each.levels c.each.nearest c.is_visible-seen.result
          (omega (arith, c.each-test.true)) (omega (arith, c.each.invariant.1)) is c.each.invariant.3),
    )

pub returns-clause-nearest : goal.returns-clause-nearest
returns-clause-nearest c =
    let one : c.each.levels ≡ 1 = omega (arith, c.each-test.false, c.each.invariant.0) in
    c.each.invariant.3
    ∙ ap (λ (n : ℕ). nearest c.args.dir.now c.args.token.now (drop n c.args.dn.now.rdns)) one
    ∙ sym (matched_nearest c.args.dir.now c.args.token.now c.args.dn.now.rdns)
