use Rattle.std.proofs.Common.{length, sym}
use Rattle.std.proofs.lemmas.Bool.{ltb-true}
use Rattle.ad_schema.specs.Attributes.{attrs_of}
use Rattle.ad_entries.proofs.ReadLaws.{unread_unless_live, unread_past}
use Rattle.ad_entries.proofs.reading.SightReadable.values.Goals as goal

pub returns-then-not-is_live : goal.returns-then-not-is_live
returns-then-not-is_live c =
    let sight = c.args.self.now in
    sym (unread_unless_live sight.dir.now sight.token.now sight.number c.args.attr (sym c.if-not-is_live.ensures))

pub returns-then-not-is_of_schema : goal.returns-then-not-is_of_schema
returns-then-not-is_of_schema c =
    let sight = c.args.self.now in
    sym (unread_past sight.dir.now sight.token.now sight.number c.args.attr (sym c.if-not-is_of_schema.ensures))

pub values_at-requires-clause-attr : goal.values_at-requires-clause-attr
values_at-requires-clause-attr c =
    let sight = c.args.self.now in
    ltb-true c.args.attr.0 (length (attrs_of sight.dir.now.schema)) (sym c.if-not-is_of_schema.ensures)
