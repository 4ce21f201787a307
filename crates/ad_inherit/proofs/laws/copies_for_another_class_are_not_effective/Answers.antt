use Rattle.std.proofs.lemmas.List.Sums.{AllPass-from_list_all}
use Rattle.ad_inherit.specs.Flags.{inherit_only, has}
use Rattle.ad_inherit.specs.Copies.{copies}
use Rattle.ad_inherit.proofs.CopyFlags.{none_effective}
use Rattle.ad_inherit.proofs.laws.copies_for_another_class_are_not_effective.Goals as goal

pub returns : goal.returns
returns c = λ entry class owner group unfit. AllPass-from_list_all (λ copy. has copy inherit_only)
    (copies entry class owner group) (none_effective entry class owner group unfit)
