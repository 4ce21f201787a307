use Rattle.std.proofs.Common.{ℕ, List, Some, ◌∙◌, sym, ap, subst}
use Rattle.std.specs.Option.{option_copied_mut}
use Rattle.std.specs.Global.{Vec}
use Rattle.ad_dir_table.specs.Lists.{listed, Drops}
use Rattle.ad_dir_table.proofs.NumberLaws.{none_listed}
use Rattle.ad_dir_table.proofs.by_parent.take_child.Goals as goal

pub returns-in_default : goal.returns-in_default
returns-in_default c =
    let none = sym c.get_mut.ensures.value ∙ ap option_copied_mut c.in_default.is in
    let same = ap (λ (m : _). m.entries) c.get_mut.follows.holds-at-none in
    subst (λ (es : List (ℕ × Vec ℕ)). Drops (Some c.args.parent) c.args.number (listed c.args.children.now.entries)
    (listed es)) (sym same)
    (none_listed c.args.number c.args.parent c.args.children.now.entries none)
