use Rattle.std.proofs.Common.{length, refl, sym, ap, ◌∙◌}
use Rattle.std.proofs.lemmas.Result.{err_from_is_err_and}
use Rattle.ad_schema.specs.declared.line.SchemaKind.TheVariants.{Class}
use Rattle.ad_schema.specs.declared.fault.SchemaFault.TheVariants.{Unknown, Loop}
use Rattle.ad_schema.specs.Classes.{cn_of}
use Rattle.ad_schema.specs.Records.{none_of}
use Rattle.ad_schema.proofs.SchemaLemmas.{unknown_first, cn_next, loop_next, all_passed, unknown_is, endless_is}
use Rattle.ad_schema.proofs.SchemaLemmas.{links_made, length-names, length-links}
use Rattle.ad_schema.proofs.finish.links_if_sound.Goals as goal

pub returns-in_err-check_known-clause-made : goal.returns-in_err-check_known-clause-made
returns-in_err-check_known-clause-made c =
    let p = err_from_is_err_and c.from_residual.result c.from_residual.ensures.1 in
    let unknown = unknown_is c.args.records.now c.args.records.now c.args.attrs.now c.args.classes.now
    c.requires.attrs c.requires.classes refl in
    rw (p.1, p.2) (λ not. unknown_first c.args.records.now _
    (ap (none_of Unknown) (sym unknown) ∙ c.in_err-check_known.ensures not))

pub returns-in_err-cn-clause-made : goal.returns-in_err-cn-clause-made
returns-in_err-cn-clause-made c =
    let p = err_from_is_err_and c.from_residual-in_err-cn.result c.from_residual-in_err-cn.ensures.1 in
    let unknown = unknown_is c.args.records.now c.args.records.now c.args.attrs.now c.args.classes.now
    c.requires.attrs c.requires.classes refl in
    rw (p.1, p.2) (λ not. cn_next c.args.records.now _
    (ap (none_of Unknown) (sym unknown) ∙ c.in_ok-check_known.ensures)
    (rw c.requires.attrs at (c.in_err-cn.ensures.known not)))

pub all_links-requires : goal.all_links-requires
all_links-requires c = ap length c.requires.classes ∙ length-names Class c.args.records.now

pub returns-in_err-check_ends-clause-made : goal.returns-in_err-check_ends-clause-made
returns-in_err-check_ends-clause-made c =
    let p = err_from_is_err_and c.from_residual-in_err-check_ends.result c.from_residual-in_err-check_ends.ensures.1 in
    let unknown = unknown_is c.args.records.now c.args.records.now c.args.attrs.now c.args.classes.now
    c.requires.attrs c.requires.classes refl in
    let links = c.as_slice.ensures.value ∙ c.in_ok-links.ensures.links ∙ links_made c.args.records.now
    c.args.records.now c.args.attrs.now c.args.classes.now c.requires.attrs c.requires.classes refl in
    let endless = endless_is c.args.records.now c.as_slice.result.now c.args.classes.now links c.requires.classes in
    rw (p.1, p.2) (λ not. loop_next c.args.records.now _
    (ap (none_of Unknown) (sym unknown) ∙ c.in_ok-check_known.ensures)
    (rw c.requires.attrs at c.in_ok-cn.ensures.known)
    (ap (none_of Loop) (sym endless) ∙ c.in_err-check_ends.ensures not))

pub check_ends-requires-clause-few : goal.check_ends-requires-clause-few
check_ends-requires-clause-few c = rw c.as_slice.ensures.value c.in_ok-links.ensures.few

pub check_ends-requires-clause-long : goal.check_ends-requires-clause-long
check_ends-requires-clause-long c =
    let links = c.as_slice.ensures.value ∙ c.in_ok-links.ensures.links ∙ links_made c.args.records.now
    c.args.records.now c.args.attrs.now c.args.classes.now c.requires.attrs c.requires.classes refl in
    ap length c.requires.classes ∙ length-names Class c.args.records.now ∙ sym (length-links c.args.records.now)
    ∙ sym (ap length links)

pub returns-clause-made : goal.returns-clause-made
returns-clause-made c =
    let unknown = unknown_is c.args.records.now c.args.records.now c.args.attrs.now c.args.classes.now
    c.requires.attrs c.requires.classes refl in
    let links = c.as_slice.ensures.value ∙ c.in_ok-links.ensures.links ∙ links_made c.args.records.now
    c.args.records.now c.args.attrs.now c.args.classes.now c.requires.attrs c.requires.classes refl in
    let endless = endless_is c.args.records.now c.as_slice.result.now c.args.classes.now links c.requires.classes in
    all_passed c.args.records.now (ap (none_of Unknown) (sym unknown) ∙ c.in_ok-check_known.ensures)
    (rw c.requires.attrs at c.in_ok-cn.ensures.known)
    (ap (none_of Loop) (sym endless) ∙ c.in_ok-check_ends.ensures)

pub returns-clause-links : goal.returns-clause-links
returns-clause-links c = c.in_ok-links.ensures.links ∙ links_made c.args.records.now c.args.records.now
    c.args.attrs.now c.args.classes.now c.requires.attrs c.requires.classes refl

pub returns-clause-few : goal.returns-clause-few
returns-clause-few c = c.in_ok-links.ensures.few

pub returns-clause-cn : goal.returns-clause-cn
returns-clause-cn c = c.in_ok-cn.ensures.place ∙ ap cn_of c.requires.attrs
