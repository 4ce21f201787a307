use Rattle.std.proofs.Common.{◌≡◌, map, drop}
use Rattle.std.specs.String.{string_bytes}
use Rattle.ad_who.specs.Answers.{sids_of}
use Rattle.ad_who.proofs.Sids.{behind}
use Rattle.ad_who.proofs.tokens.sids_of.Given as goal

-- those so far stand before those of the texts that are left
abbrev pub invariant-loop-text : goal.invariant-loop-text
invariant-loop-text l =
    sids_of (map string_bytes l.texts) ≡ behind l.sids.items (sids_of (map string_bytes (drop l.text-index l.texts)))
