use Rattle.std.proofs.Common.{◌≡◌, drop}
use Rattle.std.specs.List.{list_any}
use Rattle.ad_schema_classes.specs.Names.{same_name}
use Rattle.ad_entries.specs.Entry.{descriptor_name}
use Rattle.ad_entries.proofs.descriptor.is_descriptor_asked.Given as goal

-- none so far asks for it
abbrev pub invariant-loop-name : goal.invariant-loop-name
invariant-loop-name l = list_any (same_name descriptor_name) (drop l.name-index l.sent)
    ≡ list_any (same_name descriptor_name) l.sent
