use Rattle.std.proofs.Common.{ℕ, Bool, map, sym, ap, ◌∙◌}
use Rattle.std.specs.Prelude.{Some, if◌then◌else◌}
use Rattle.ad_dir_objects.specs.Seen.{stored_seen}
use Rattle.ad_needs_rules.specs.Checks.{code}
use Rattle.ad_change_values.proofs.ItemLaws.{deletion_absent, deletion_fine}
use Rattle.ad_change_values.proofs.items.judge_deletion.Goals as goal

pub returns-then-not-there : goal.returns-then-not-there
returns-then-not-there c =
    deletion_absent c.args.schema.now c.args.item.now (map stored_seen c.args.new.now)
    (map stored_seen c.args.stored.now)
    c.args.twice c.requires.op c.requires.twice (sym c.in_ok-there.ensures ∙ c.if-not-there.true)
    ∙ sym (ap (λ (n : ℕ). Some (code n)) (c.absent.ensures ∙ ap (λ (b : Bool). if b then 19 else 16)
    c.is_password.ensures))

pub returns : goal.returns
returns c = (
  deletion_fine c.args.schema.now c.args.item.now (map stored_seen c.args.new.now) (map stored_seen c.args.stored.now)
      c.args.twice c.requires.op c.requires.twice (sym c.in_ok-there.ensures ∙ c.if-not-there.false),
  tt,
)
