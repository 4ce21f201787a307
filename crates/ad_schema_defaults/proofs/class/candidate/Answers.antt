use Rattle.std.proofs.Common.{◌∙◌, ◌+◌, ◌∷◌, ℕ, drop, sym, ap, arith}
use Rattle.ad_schema_defaults.specs.NewClass.{lowest_of}
use Rattle.ad_schema_defaults.proofs.Naming.{ids}
use Rattle.ad_schema_defaults.proofs.OnePass.{found, begun, gone_on, ended}
use Rattle.ad_schema_defaults.proofs.class.candidate.Goals as goal

pub loop-one-init : goal.loop-one-init
loop-one-init c = begun c.args.schema.now c.args.classes.now c.args.first c.requires.first

pub loop-one-preserved : goal.loop-one-preserved
loop-one-preserved c =
    let schema = c.args.schema.now in
    let classes = c.args.classes.now in
    ap (λ (n : ℕ). found schema (ids classes) (n ∷ ids (drop (c.loop-one.one-index + 1) classes))) c.lower-class.ensures
    ∙ sym (gone_on schema (c.chains_end.ensures schema c.make_schema.ensures) classes c.loop-one.one-index
    c.loop-one.class.0 _ c.loop-one-test.true)
    ∙ c.loop-one.invariant

pub returns : goal.returns
unfolding lowest_of
returns c = sym c.loop-one.invariant ∙ ended c.args.schema.now c.args.classes.now c.loop-one.one-index
    c.loop-one.class.0 (omega (arith, c.loop-one-test.false))
