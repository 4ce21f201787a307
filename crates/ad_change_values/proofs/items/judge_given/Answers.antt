use Rattle.std.proofs.Common.{map, sym, ◌∙◌}
use Rattle.ad_dir_objects.specs.Seen.{stored_seen}
use Rattle.ad_change_values.proofs.ItemLaws.{given_there, given_twice, given_empty, given_fine}
use Rattle.ad_change_values.proofs.items.judge_given.Goals as goal

pub returns-then-not-fresh : goal.returns-then-not-fresh
returns-then-not-fresh c =
    given_there c.args.schema.now c.args.item.now (map stored_seen c.args.new.now) (map stored_seen c.args.stored.now)
    (sym c.in_ok-fresh.ensures ∙ c.if-not-fresh.true)

pub returns-then-twice : goal.returns-then-twice
returns-then-twice c =
    given_twice c.args.schema.now c.args.item.now (map stored_seen c.args.new.now) (map stored_seen c.args.stored.now)
    c.args.twice c.requires.op c.requires.twice
    (sym c.in_ok-fresh.ensures ∙ c.if-not-fresh.false) c.if-twice.true

pub returns-then-not-is_filled : goal.returns-then-not-is_filled
returns-then-not-is_filled c =
    given_empty c.args.schema.now c.args.item.now (map stored_seen c.args.new.now) (map stored_seen c.args.stored.now)
    c.args.twice c.requires.op c.requires.twice
    (sym c.in_ok-fresh.ensures ∙ c.if-not-fresh.false) c.if-twice.false
    (sym c.is_filled.ensures ∙ c.if-not-is_filled.true)

pub returns : goal.returns
returns c = (
  given_fine c.args.schema.now c.args.item.now (map stored_seen c.args.new.now) (map stored_seen c.args.stored.now)
      c.args.twice c.requires.op c.requires.twice
      (sym c.in_ok-fresh.ensures ∙ c.if-not-fresh.false) c.if-twice.false
      (sym c.is_filled.ensures ∙ c.if-not-is_filled.false),
  tt,
)
