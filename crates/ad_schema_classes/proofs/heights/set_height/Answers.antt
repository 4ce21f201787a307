use Rattle.std.proofs.Common.{◌≡◌, ◌<◌, ◌≤◌, arith}
use Rattle.ad_schema_classes.proofs.HeightLemmas.{known_more}
use Rattle.ad_schema_classes.proofs.heights.set_height.Goals as goal

pub returns-then-class-heights : goal.returns-then-class-heights
returns-then-class-heights c = λ above are is low. known_more above c.args.heights.now c.args.class c.args.height are
    is low c.if-class-heights.true
