use Rattle.std.proofs.Common.{◌≡◌, ◌↔◌, ◌-◌, map}
use Rattle.std.specs.Prelude.{IfSome, IsTrue}
use Rattle.std.specs.Option.{option_copied}
use Rattle.std.specs.List.{AllByRecursion}
use Rattle.ad_bytes.specs.Reading.{many_at}
use Rattle.ad_bytes.proofs.Many.{with_front}
use Rattle.ad_dir_model.specs.Soundness.{IsHeld}
use Rattle.ad_dir_objects.specs.Seen.{held_seen}
use Rattle.ad_rows.specs.Parsing.{held_at}
use Rattle.ad_rows.proofs.attributes.each_attribute.Given as goal

-- the attributes so far and those still to be read are the whole
abbrev pub invariant-loop : goal.invariant-loop
invariant-loop l = IfSome (option_copied l.schema)
    (λ s. IsTrue l.good ↔ AllByRecursion (IsHeld s) (map held_seen l.all.items))
    × (with_front (map held_seen l.all.items)
    (many_at (held_at (option_copied l.schema)) (l.count - l.counter) l.input)
    ≡ many_at (held_at (option_copied l.schema)) l.count l.fn.input)
