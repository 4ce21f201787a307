use Rattle.std.proofs.Common.{◌≡◌, ◌∙◌, ◌≤◌, ◌-◌, ℕ, None, length, drop, sym, ap, subst, arith}
use Rattle.ad_dn.specs.declared.rdn.Dn.{Dn}
use Rattle.ad_dn.specs.Text.{rdns_text}
use Rattle.ad_dir_model.specs.Directory.{Meta}
use Rattle.ad_dir_model.specs.Names.{found}
use Rattle.ad_entries.specs.Seen.{view}
use Rattle.ad_search.specs.Scope.{is_there, nearest}
use Rattle.ad_search.proofs.AboveLaws.{starts, stops, steps, either_within}
use Rattle.ad_search.proofs.finding.levels_to_seen.Goals as goal

pub returns-then-parts-above_root-clause-nearest : goal.returns-then-parts-above_root-clause-nearest
returns-then-parts-above_root-clause-nearest c =
    let above : c.len-above_root.result ≡ length c.args.dir.now.meta.suffix = c.len-above_root.ensures
    ∙ ap (λ (m : Meta). length m.suffix) c.meta.ensures in
    starts c.args.dir.now c.args.token.now c.args.dn.now.rdns c.len-parts.result 1 c.invariants.ensures
    (omega (arith, c.len-parts.ensures)) (omega (arith, c.len-parts.ensures, c.if-parts-above_root.true, above))

pub each-init : goal.each-init
each-init c =
    let above : c.len-above_root.result ≡ length c.args.dir.now.meta.suffix = c.len-above_root.ensures
    ∙ ap (λ (m : Meta). length m.suffix) c.meta.ensures in (
      omega (arith, c.if-parts-above_root.false),
      omega (arith, c.len-parts.ensures, c.if-parts-above_root.false, above),
      omega (arith, c.len-parts.ensures),
      starts c.args.dir.now c.args.token.now c.args.dn.now.rdns c.len-parts.result
          (c.len-parts.result - c.len-above_root.result) c.invariants.ensures
          (omega (arith, c.len-parts.ensures)) (omega (arith, c.len-parts.ensures, above)),
    )

pub returns-in_default-clause-nearest : goal.returns-in_default-clause-nearest
returns-in_default-clause-nearest c =
    let none : found c.args.dir.now (drop (c.each.levels - 1) c.args.dn.now.rdns) ≡ None =
    ap (λ (d : Dn). found c.args.dir.now d.rdns) (sym c.in_ok-above.ensures)
    ∙ sym (rw c.in_default.is at c.in_ok-number.ensures.found) in
    stops c.args.dir.now c.args.token.now c.args.dn.now.rdns c.each.levels
    (rdns_text (drop c.each.nearest c.args.dn.now.rdns)) c.invariants.ensures
    (omega (arith, c.each-test.true)) c.each.invariant.1 none c.each.invariant.3

pub each-preserved : goal.each-preserved
each-preserved c =
    let rdns = c.args.dn.now.rdns in
    let seen = view c.args.dir.now c.args.token.now in
    let is : c.in_ok-seen.seen ≡ is_there seen (drop (c.each.levels - 1) rdns) =
    c.in_ok-seen.ensures ∙ ap (is_there seen)
    (c.as_slice.ensures.same ∙ ap (λ (d : Dn). d.rdns) c.in_ok-above.ensures) in (
      omega (arith, c.each-test.true),
      omega (arith, c.each-test.true, c.each.invariant.1),
      subst (λ (n : ℕ). n ≤ length rdns) (sym c.nearer-nearest.ensures)
          (either_within c.in_ok-seen.seen (c.each.levels - 1) c.each.nearest (length rdns)
          (omega (arith, c.each.invariant.1)) c.each.invariant.2),
      subst (λ (n : ℕ). rdns_text (drop n rdns) ≡ nearest seen (drop (c.each.levels - 1) rdns))
          (sym c.nearer-nearest.ensures)
          (steps seen rdns c.each.levels c.each.nearest c.in_ok-seen.seen (omega (arith, c.each-test.true))
          (omega (arith, c.each.invariant.1)) is c.each.invariant.3),
    )
