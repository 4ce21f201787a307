use Rattle.std.proofs.Common.{◌≡◌, [], drop, take}
use Rattle.ad_needs_rules.specs.Adding.{all_naming_checks}
use Rattle.ad_needs.specs.ItemWords.{AreSent}
use Rattle.ad_needs_rules.specs.Judged.{refusal_of}
use Rattle.ad_needs.proofs.sent.unless_named_once.Given as goal

-- none so far is unknown or named before, and the flags are those of the attributes so far
abbrev pub invariant-each : goal.invariant-each
invariant-each l = record {
  said : refusal_of (all_naming_checks l.schema (take l.i l.attrs) (drop l.i l.attrs))
      ≡ refusal_of (all_naming_checks l.schema [] l.attrs);
  named : AreSent l.schema l.named.items (take l.i l.attrs);
}
