use Rattle.std.proofs.Common.{◌≡◌, take}
use Rattle.std.specs.Prelude.{filter}
use Rattle.std.specs.Option.{option_map}
use Rattle.ad_principals.specs.Named.{has_text}
use Rattle.ad_principals.proofs.named.those_with.Given as goal

-- those of the numbers so far
abbrev pub invariant-loop-number : goal.invariant-loop-number
invariant-loop-number l = l.those.items ≡ filter (has_text l.dir (option_map (λ id. id.0) l.attr) l.text)
    (take l.number-index l.numbers)
