use Rattle.std.proofs.Common.{◌≡◌, ◌++◌, ◌<◌, map, length, []}
use Rattle.std.specs.Prelude.{IfSome}
use Rattle.std.specs.Option.{option_map_or}
use Rattle.ad_schema.specs.Classes.{classes_of, chain_of}
use Rattle.ad_dir_model.specs.Shown.{computed, class_name}
use Rattle.ad_dir.proofs.shown.chain_values.Given as goal

-- the classes so far, and those of the chain that is left
abbrev pub invariant-loop-next : goal.invariant-loop-next
invariant-loop-next l =
    (l.values.items ++ map (λ c. computed l.syntax (class_name l.schema c))
    (option_map_or (λ class. chain_of l.schema class.0) l.next [])
    ≡ map (λ c. computed l.syntax (class_name l.schema c)) (chain_of l.schema l.fn.class.0))
    × IfSome l.next (λ class. class.0 < length (classes_of l.schema))

abbrev pub decreases-loop-next : goal.decreases-loop-next
decreases-loop-next l = length (option_map_or (λ class. chain_of l.schema class.0) l.next [])
