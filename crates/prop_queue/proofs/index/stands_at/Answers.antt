use Rattle.std.proofs.Common.{◌<◌, length, refl, ap, sym, ◌∙◌, arith}
use Rattle.prop_queue.specs.Pending.{is_of}
use Rattle.prop_queue.proofs.Distinct.{only_stands}
use Rattle.prop_queue.proofs.index.stands_at.Goals as goal

pub returns-in-Some : goal.returns-in-Some
returns-in-Some c = λ here.
    let entry = c.in-Some.entry.now in
    let within : c.args.offset < length c.args.entries.now.items
    = omega (arith, c.args.entries.now.ok.0, c.in-Some.ensures.variant.0 refl) in
    only_stands c.args.parent c.args.entries.now.items c.args.offset entry c.requires within
    (ap (is_of c.args.parent) (sym c.in-Some.ensures.lookup) ∙ here)
