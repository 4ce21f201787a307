use Rattle.std.proofs.Common.{◌∙◌, List, sym, ap}
use Rattle.ad_schema.specs.declared.line.SchemaRecord.{SchemaRecord}
use Rattle.ad_schema_defaults.specs.NewClass.{is_schema_class}
use Rattle.ad_needs_rules.specs.Renaming.{is_typed}
use Rattle.ad_needs.proofs.AddLaws.{of_schema, untyped, unread_sd}
use Rattle.ad_needs.proofs.adding.judged_of_class.Goals as goal

pub returns-then-is_schema_class : goal.returns-then-is_schema_class
returns-then-is_schema_class c =
    let added = c.args.added.now in
    of_schema c.args.dir.now c.args.token.now added.parent c.args.rdn added.class.0 added.add.now added.flags
    (sym (c.if-is_schema_class.ensures ∙ ap (λ (s : List SchemaRecord). is_schema_class s added.class.0)
    c.schema.ensures))

pub returns-then-not-is_typed : goal.returns-then-not-is_typed
returns-then-not-is_typed c =
    let added = c.args.added.now in
    untyped c.args.dir.now c.args.token.now added.parent c.args.rdn added.class.0 added.add.now added.flags
    (sym (c.if-is_schema_class.ensures ∙ ap (λ (s : List SchemaRecord). is_schema_class s added.class.0)
    c.schema.ensures))
    (sym (c.if-not-is_typed.ensures ∙ ap (λ (s : List SchemaRecord). is_typed s added.class.0 c.args.rdn)
    c.schema-2.ensures))

pub judged_with-requires : goal.judged_with-requires
judged_with-requires c =
    let added = c.args.added.now in
    record {
      parent = c.requires.parent;
      class = c.requires.class;
      other = sym (c.if-is_schema_class.ensures ∙ ap (λ (s : List SchemaRecord). is_schema_class s added.class.0)
          c.schema.ensures);
      typed = sym (c.if-not-is_typed.ensures ∙ ap (λ (s : List SchemaRecord). is_typed s added.class.0 c.args.rdn)
          c.schema-2.ensures);
      sent = rw c.in-Some.is at c.in_ok-sd.ensures;
    }

pub returns-in-None : goal.returns-in-None
returns-in-None c =
    let added = c.args.added.now in
    unread_sd c.args.dir.now c.args.token.now added.parent c.args.rdn added.class.0 added.add.now added.flags
    (sym (c.if-is_schema_class.ensures ∙ ap (λ (s : List SchemaRecord). is_schema_class s added.class.0)
    c.schema.ensures))
    (sym (c.if-not-is_typed.ensures ∙ ap (λ (s : List SchemaRecord). is_typed s added.class.0 c.args.rdn)
    c.schema-2.ensures))
    (rw c.in-None.is at c.in_ok-sd.ensures)
