-- Three values of truth.
use Rattle.std.specs.Prelude.{◌≡◌, Bool, true, false, List, if◌then◌else◌}
use Rattle.std.specs.List.{list_any, list_all}
use Rattle.ad_filter.specs.declared.outcome.Truth.{Truth}
use Rattle.ad_filter.specs.declared.outcome.Truth.TheVariants as truth

-- false where one is, else undefined where one is, else true
abbrev pub both : Truth → Truth → Truth
both truth.False b = truth.False
both truth.True b = b
both truth.Undefined truth.False = truth.False
both truth.Undefined truth.True = truth.Undefined
both truth.Undefined truth.Undefined = truth.Undefined

-- true where one is, else undefined where one is, else false
abbrev pub either : Truth → Truth → Truth
either truth.True b = truth.True
either truth.False b = b
either truth.Undefined truth.True = truth.True
either truth.Undefined truth.False = truth.Undefined
either truth.Undefined truth.Undefined = truth.Undefined

abbrev pub opposite : Truth → Truth
opposite truth.True = truth.False
opposite truth.False = truth.True
opposite truth.Undefined = truth.Undefined

abbrev pub is_true : Truth → Bool
is_true truth.True = true
is_true _ = false

abbrev pub is_false : Truth → Bool
is_false truth.False = true
is_false _ = false

-- a test that holds or doesn't
abbrev pub truth_of : Bool → Truth
truth_of b = if b then truth.True else truth.False

-- ---- of all of several, and of some

pub record SaysAll (whole : Truth) (parts : List Truth) : Type 0 where
  pub when_false : is_false whole ≡ list_any is_false parts
  pub when_true : is_true whole ≡ list_all is_true parts

pub record SaysSome (whole : Truth) (parts : List Truth) : Type 0 where
  pub when_true : is_true whole ≡ list_any is_true parts
  pub when_false : is_false whole ≡ list_all is_false parts
