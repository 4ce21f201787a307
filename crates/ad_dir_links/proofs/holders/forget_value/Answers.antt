use Rattle.std.proofs.Common.{[], ◌∷◌}
use Rattle.ad_dir_links.proofs.Counting.{drops_forgets}
use Rattle.ad_dir_links.proofs.holders.forget_value.Goals as goal

pub returns-in-Ok-Some : goal.returns-in-Ok-Some
returns-in-Ok-Some c = drops_forgets c.args.holder (c.in-Ok-Some.number ∷ []) c.args.links.now.entries
    c.drop_one.new.links.entries c.drop_one.ensures
