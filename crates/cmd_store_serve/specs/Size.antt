-- How large a sample is, as a word of `adsd sample`.
use Rattle.std.specs.Prelude.{ℕ, ◌+◌, ◌==◌, List, Option, Some, None, if◌then◌else◌}
use Rattle.std.specs.Option.{option_and_then}
use Rattle.ad_schema.specs.Numbers.{number_below}
use Rattle.ad_gen.specs.Objects.{max_units}

abbrev pub if_some : ℕ → Option ℕ
if_some n = if n == 0 then None else Some n

abbrev pub max_size : ℕ
max_size = max_units

-- a number from 1 to that, in decimal without leading zero
abbrev pub size_of : List ℕ → Option ℕ
size_of word = option_and_then if_some (number_below (max_size + 1) word)
