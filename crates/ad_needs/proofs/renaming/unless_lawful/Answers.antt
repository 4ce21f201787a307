use Rattle.std.proofs.Common.{◌∙◌, ℕ, List, sym, ap}
use Rattle.ad_schema.specs.declared.line.SchemaRecord.{SchemaRecord}
use Rattle.ad_dir.proofs.NameLaws.{if_ok}
use Rattle.ad_needs_rules.specs.Renaming.{is_typed}
use Rattle.ad_needs.proofs.RenameLaws.{rest_root, rest_untyped, rest_inside, rest_needs}
use Rattle.ad_needs.proofs.renaming.unless_lawful.Goals as goal

pub returns-then-number-eq-ROOT : goal.returns-then-number-eq-ROOT
returns-then-number-eq-ROOT c = rest_root c.args.dir.now c.args.token.now c.args.number c.args.rdn.now c.args.superior
    c.if-number-eq-ROOT.true

pub returns-then-not-is_typed : goal.returns-then-not-is_typed
returns-then-not-is_typed c =
    let typed = c.if-not-is_typed.ensures
    ∙ ap (λ (s : List SchemaRecord). is_typed s c.class_of.result.0 c.args.rdn.now) c.schema.ensures
    ∙ ap (λ (k : ℕ). is_typed c.args.dir.now.schema k c.args.rdn.now) c.class_of.ensures.class in
    rest_untyped c.args.dir.now c.args.token.now c.args.number c.args.rdn.now c.args.superior
    c.if-number-eq-ROOT.false (sym typed)

pub returns-then-not-is_outside : goal.returns-then-not-is_outside
returns-then-not-is_outside c =
    let typed = c.if-not-is_typed.ensures
    ∙ ap (λ (s : List SchemaRecord). is_typed s c.class_of.result.0 c.args.rdn.now) c.schema.ensures
    ∙ ap (λ (k : ℕ). is_typed c.args.dir.now.schema k c.args.rdn.now) c.class_of.ensures.class in
    rest_inside c.args.dir.now c.args.token.now c.args.number c.args.rdn.now c.args.superior c.if-number-eq-ROOT.false
    (sym typed) (sym c.if-not-is_outside.ensures)

pub returns : goal.returns
returns c =
    let typed = c.if-not-is_typed.ensures
    ∙ ap (λ (s : List SchemaRecord). is_typed s c.class_of.result.0 c.args.rdn.now) c.schema.ensures
    ∙ ap (λ (k : ℕ). is_typed c.args.dir.now.schema k c.args.rdn.now) c.class_of.ensures.class in
    if_ok c.unless_renames.result
    (λ found is. is ∙ rest_needs c.args.dir.now c.args.token.now c.args.number c.args.rdn.now c.args.superior
    c.new_parent-parent.result c.if-number-eq-ROOT.false (sym typed)
    (sym c.if-not-is_outside.ensures) c.new_parent-parent.ensures.parent)
    c.unless_renames.ensures.refusal
