-- Descriptors that inheritance leaves alone.
use Rattle.std.specs.Prelude.{◌≡◌, true}
use Rattle.std.specs.List.{AllPass}
use Rattle.ad_sd.specs.declared.parts.AceList.{AceList}
use Rattle.ad_sd.specs.declared.parts.Sd.{Sd}
use Rattle.ad_inherit.specs.Whole.{is_explicit}

pub record IsFrozenList (list : AceList) : Type 0 where
  pub protected : list.protected ≡ true
  pub explicit : AllPass is_explicit list.entries

-- both lists are protected, and no entry is inherited
pub record IsFrozen (sd : Sd) : Type 0 where
  pub dacl : IsFrozenList sd.dacl
  pub sacl : IsFrozenList sd.sacl
