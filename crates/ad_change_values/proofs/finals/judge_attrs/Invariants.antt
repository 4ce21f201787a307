use Rattle.std.proofs.Common.{◌≡◌, map, length}
use Rattle.ad_schema.specs.Attributes.{attrs_of}
use Rattle.ad_dir_objects.specs.Seen.{held_seen}
use Rattle.ad_needs_rules.specs.Checks.{first_failing}
use Rattle.ad_change_values.specs.Items.{final_checks, is_item_named}
use Rattle.ad_change_values.proofs.FinalLaws.{from_on}
use Rattle.ad_change_values.proofs.finals.judge_attrs.Given as goal

-- the checks of the attributes to come decide
abbrev pub invariant-each : goal.invariant-each
invariant-each l =
    first_failing (from_on (final_checks l.schema l.class.0 (map held_seen l.held)) (is_item_named l.items)
    (length (attrs_of l.schema)) l.attr)
    ≡ first_failing (from_on (final_checks l.schema l.class.0 (map held_seen l.held)) (is_item_named l.items)
    (length (attrs_of l.schema)) 0)
