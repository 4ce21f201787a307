use Rattle.std.proofs.Common.{◌≡◌, ◌↔◌, ◌<◌, ◌-◌, length, map}
use Rattle.std.specs.Prelude.{IfSome, IsTrue}
use Rattle.std.specs.Option.{option_copied}
use Rattle.std.specs.List.{AllByRecursion}
use Rattle.ad_bytes.specs.Reading.{many_at}
use Rattle.ad_bytes.proofs.Many.{with_front}
use Rattle.ad_schema.specs.Attributes.{attrs_of}
use Rattle.ad_dir_model.specs.Soundness.{IsStored}
use Rattle.ad_dir_objects.specs.Seen.{stored_seen}
use Rattle.ad_rows.specs.Parsing.{stored_at}
use Rattle.ad_rows.proofs.attributes.each_value.Given as goal

-- the values so far and those still to be read are the whole
abbrev pub invariant-loop : goal.invariant-loop
invariant-loop l = (length l.values ≡ l.counter)
    × IfSome (option_copied l.schema) (λ s. l.attr.0 < length (attrs_of s) → IsTrue l.good
    ↔ AllByRecursion (IsStored s l.attr.0) (map stored_seen l.values))
    × (with_front (map stored_seen l.values)
    (many_at (stored_at (option_copied l.schema) l.attr.0) (l.count - l.counter) l.input)
    ≡ many_at (stored_at (option_copied l.schema) l.attr.0) l.count l.fn.input)
