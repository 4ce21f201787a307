use Rattle.std.proofs.Common.{◌≤◌, ◌∙◌, ◌+◌, List, [], ◌∷◌, length, drop, reverse, sym, arith}
use Rattle.std.proofs.lemmas.List.{at_drop_more, length-reverse}
use Rattle.ad_dn.specs.declared.rdn.Rdn.{Rdn}
use Rattle.ad_dn.specs.Value.{IsRdn}
use Rattle.ad_dir_model.specs.Names.{begins_with}
use Rattle.ad_dir.proofs.NameLaws.{from_end, none_left, begins_more, begins_other, begins_short, begins_all}
use Rattle.ad_dir.proofs.NameLaws.{front_reversed, tested_by, all_taken, no_rdn}
use Rattle.ad_dir.proofs.names.before.Goals as goal

pub returns-then-i-rdns : goal.returns-then-i-rdns
returns-then-i-rdns c =
    let i = c.loop-i.i in
    let rdns = c.args.rdns.now in
    let suffix = c.args.suffix.now in
    let long = length-reverse suffix in
    sym c.loop-i.invariant.0 ∙ none_left (λ (l : List Rdn). begins_with l (drop i (reverse suffix))) rdns i
    (omega (arith, c.if-i-rdns.true))
    ∙ at_drop_more (begins_with []) (reverse suffix) i no_rdn (omega (arith, long, c.loop-i-test.true))
    ∙ begins_short _ (drop (i + 1) (reverse suffix))

pub returns-then-not-same_rdn : goal.returns-then-not-same_rdn
returns-then-not-same_rdn c =
    let i = c.loop-i.i in
    let rdns = c.args.rdns.now in
    let suffix = c.args.suffix.now in
    let a = c.index-rdns-rdns.result in
    let b = c.index-suffix-suffix.result in
    sym c.loop-i.invariant.0 ∙ from_end (λ (l : List Rdn). begins_with l (drop i (reverse suffix))) rdns i a
    (omega (arith, c.if-i-rdns.false)) c.index-rdns-rdns.is
    ∙ from_end (λ (l : List Rdn). begins_with (a ∷ drop (i + 1) (reverse rdns)) l) suffix i b c.loop-i-test.true
    c.index-suffix-suffix.is
    ∙ begins_other a b (drop (i + 1) (reverse rdns)) (drop (i + 1) (reverse suffix))
    (tested_by a b c.same_rdn.result c.same_rdn.ensures ∙ c.if-not-same_rdn.true)

pub loop-i-preserved : goal.loop-i-preserved
loop-i-preserved c =
    let i = c.loop-i.i in
    let rdns = c.args.rdns.now in
    let suffix = c.args.suffix.now in
    let a = c.index-rdns-rdns.result in
    let b = c.index-suffix-suffix.result in (
      sym (begins_more a b (drop (i + 1) (reverse rdns)) (drop (i + 1) (reverse suffix))
          (tested_by a b c.same_rdn.result c.same_rdn.ensures ∙ c.if-not-same_rdn.false))
          ∙ sym (from_end (λ (l : List Rdn). begins_with (a ∷ drop (i + 1) (reverse rdns)) l) suffix i b
          c.loop-i-test.true c.index-suffix-suffix.is)
          ∙ sym (from_end (λ (l : List Rdn). begins_with l (drop i (reverse suffix))) rdns i a
          (omega (arith, c.if-i-rdns.false)) c.index-rdns-rdns.is) ∙ c.loop-i.invariant.0,
      omega (arith, c.if-i-rdns.false),
    )

pub returns : goal.returns
returns c =
    let i = c.loop-i.i in
    let rdns = c.args.rdns.now in
    let suffix = c.args.suffix.now in
    let le : length suffix ≤ i = omega (arith, c.loop-i-test.false) in
    let within : i ≤ length rdns = c.loop-i.invariant.1 in (
      sym c.loop-i.invariant.0 ∙ none_left (λ (l : List Rdn). begins_with (drop i (reverse rdns)) l) suffix i le
          ∙ begins_all (drop i (reverse rdns)),
      front_reversed rdns (length suffix) (omega (arith, le, within)),
      all_taken IsRdn _ rdns c.requires.rdns,
    )
