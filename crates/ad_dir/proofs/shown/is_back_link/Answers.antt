use Rattle.std.proofs.Common.{◌≡◌, ◌≤◌, ◌∙◌, Option, false, length, sym, ap, arith}
use Rattle.std.specs.Prelude.{nat_lt}
use Rattle.std.specs.Option.{option_map_or}
use Rattle.std.proofs.lemmas.Bool.Decides.{nat_tests}
use Rattle.std.proofs.lemmas.Option.{slice_get_past}
use Rattle.ad_schema.specs.declared.info.AttrInfo.{AttrInfo}
use Rattle.ad_schema.specs.Attributes.{attrs_of}
use Rattle.ad_schema.specs.Meaning.{is_back_link, attr_is_back_link}
use Rattle.ad_dir.proofs.shown.is_back_link.Goals as goal

pub returns-else-attr-attrs : goal.returns-else-attr-attrs
unfolding attr_is_back_link
returns-else-attr-attrs c =
    let le : length c.attrs.result.now ≤ c.args.attr.0 = omega (arith, c.if-attr-attrs.false) in
    let test : nat_lt c.args.attr.0 (length c.attrs.result.now) ≡ false = grind (arith, nat_tests) in
    test ∙ sym (ap (λ (found : Option AttrInfo). option_map_or is_back_link found false)
    (slice_get_past (attrs_of c.args.schema.now) c.args.attr.0 (rw (← c.attrs.ensures) le)))
