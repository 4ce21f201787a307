use Rattle.std.proofs.Common.{◌≡◌, true, refl, rules}
use Rattle.ad_dn.specs.Parts.{begins_part}
use Rattle.ad_dn.proofs.PartRuns.{passes_part, passes_next}
use Rattle.ad_dn.proofs.steps.State.part.Goals as goal

pub returns-then-part : goal.returns-then-part
returns-then-part c =
    let begins : begins_part c.args.self.now.phase ≡ true = search rules in
    let part = c.in-Some.part in
    passes_next c.args.self.now c.put.new.self part.kind.now part.value.now part.comma c.args.text.now _ c.requires
    begins c.in-Some.ensures c.if-part.true c.in_ok-put.ensures refl

pub returns : goal.returns
returns c =
    let begins : begins_part c.args.self.now.phase ≡ true = search rules in
    let part = c.in-Some.part in
    passes_part c.args.self.now c.take.new.self part.kind.now part.value.now part.comma c.args.text.now _ c.requires
    begins c.in-Some.ensures c.in_ok-take.ensures refl
