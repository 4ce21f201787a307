use Rattle.std.proofs.lemmas.List.Sums.{AllPass-from_list_all}
use Rattle.ad_inherit.specs.Flags.{inherited, has}
use Rattle.ad_inherit.specs.Copies.{copies}
use Rattle.ad_inherit.proofs.CopyFlags.{each_inherited}
use Rattle.ad_inherit.proofs.laws.copies_carry_the_inherited_flag.Goals as goal

pub returns : goal.returns
returns c = λ entry class owner group. AllPass-from_list_all (λ copy. has copy inherited)
    (copies entry class owner group) (each_inherited entry class owner group)
