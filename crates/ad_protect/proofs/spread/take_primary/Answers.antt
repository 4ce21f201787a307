use Rattle.std.proofs.Common.{List, ℕ, ap, ◌∙◌}
use Rattle.std.specs.Prelude.{◌&&◌}
use Rattle.std.proofs.lemmas.Result.{on_ok_weaker}
use Rattle.ad_dir_model.specs.Objects.{object_at, is_live}
use Rattle.ad_dir_model.specs.Protection.{has, has_as_primary}
use Rattle.ad_protect.specs.Spreading.{listed}
use Rattle.ad_protect.proofs.Sets.{takes_none, takes_same}
use Rattle.ad_protect.proofs.Spreads.{listed_are, none_listed}
use Rattle.ad_protect.proofs.spread.take_primary.Goals as goal

pub returns-in-Some : goal.returns-in-Some
returns-in-Some c =
    on_ok_weaker c.take_all.result
    (takes_same (has c.numbers_at.result.now)
    (λ n. is_live c.args.dir.now.objects n && has_as_primary c.args.dir.now (object_at c.args.dir.now.objects n)
    (object_at c.args.dir.now.objects c.args.group))
    c.args.taken.now.keys c.take_all.new.taken.keys
    (λ n. ap (λ (ns : List ℕ). has ns n) (c.numbers_at.ensures ∙ ap (listed c.args.table.now) c.from.ensures)
    ∙ listed_are c.args.dir.now c.args.group c.in-Some.rid n (listed c.args.table.now) c.requires c.in-Some.ensures))
    c.take_all.ensures

pub returns-in-None : goal.returns-in-None
returns-in-None c =
    takes_none (λ n. is_live c.args.dir.now.objects n && has_as_primary c.args.dir.now
    (object_at c.args.dir.now.objects n) (object_at c.args.dir.now.objects c.args.group))
    c.args.taken.now.keys (λ n. none_listed c.args.dir.now c.args.group n c.in-None.ensures)
