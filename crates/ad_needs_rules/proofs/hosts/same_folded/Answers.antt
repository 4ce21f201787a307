use Rattle.std.proofs.lemmas.Str.{IsUtf8-from_is_utf8}
use Rattle.ad_needs_rules.proofs.hosts.same_folded.Goals as goal

pub same_value-requires-clause-a : goal.same_value-requires-clause-a
same_value-requires-clause-a c = IsUtf8-from_is_utf8 c.args.a.now c.requires.a

pub same_value-requires-clause-b : goal.same_value-requires-clause-b
same_value-requires-clause-b c = IsUtf8-from_is_utf8 c.args.b.now c.requires.b
