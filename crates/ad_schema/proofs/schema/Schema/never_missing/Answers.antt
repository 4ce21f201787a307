use Rattle.std.proofs.Common.{◌≡◌, true, false, sym, ap, ◌∙◌, arith}
use Rattle.ad_schema.specs.Meaning.{is_never_missing}
use Rattle.ad_schema.specs.Classes.{naming_of}
use Rattle.std.specs.Prelude.{◌==◌}
use Rattle.std.proofs.lemmas.Bool.Decides.{nat_tests}
use Rattle.ad_schema.proofs.LookupLemmas.{class_naming, never_naming, never_other}
use Rattle.ad_schema.proofs.schema.Schema.never_missing.Goals as goal

pub returns-then-class_info-attr : goal.returns-then-class_info-attr
returns-then-class_info-attr c =
    let named : c.class_info.result.now.naming.0 ≡ naming_of c.args.self.now c.args.class.0
    = class_naming c.args.self.now c.args.class.0 c.class_info.result.now c.class_info.ensures.info in
    let is : (c.class_info.result.now.naming.0 == c.args.attr.0) ≡ true = grind (arith, nat_tests) in
    is ∙ sym (never_naming c.args.self.now c.args.class.0 c.args.attr.0 _ named is)

pub returns-else-class_info-attr : goal.returns-else-class_info-attr
returns-else-class_info-attr c =
    let named : c.class_info.result.now.naming.0 ≡ naming_of c.args.self.now c.args.class.0
    = class_naming c.args.self.now c.args.class.0 c.class_info.result.now c.class_info.ensures.info in
    let is : (c.class_info.result.now.naming.0 == c.args.attr.0) ≡ false = grind (arith, nat_tests) in
    c.is_always_there.ensures ∙ sym (never_other c.args.self.now c.args.class.0 c.args.attr.0 _ c.attr_info.result.now
    c.as_slice.result.now named is c.attr_info.ensures c.as_slice.ensures)
