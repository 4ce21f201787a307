use Rattle.std.proofs.Common.{◌≡◌, List, ℕ, [], ◌∷◌, ◌++◌, Some, None, sym, ap, ◌∙◌, arith}
use Rattle.std.proofs.lemmas.Result.{on_ok_weaker}
use Rattle.ad_schema_classes.specs.Names.{place_of}
use Rattle.ad_ldif.specs.Records.{bytes_of, field_of}
use Rattle.ad_ldifmod_message.specs.Grouping.{with_value}
use Rattle.ad_ldifmod_message.proofs.Grouped.{names_of, found, missing, same_names}
use Rattle.ad_ldifmod_message.proofs.grouping.put_line.Goals as goal

pub put_value-requires : goal.put_value-requires
put_value-requires c =
    let at : place_of c.args.names.now c.args.line.now.name ≡ Some c.in-Some.place = ap (place_of c.args.names.now)
    (sym c.as_slice.ensures) ∙ sym c.find.ensures ∙ c.in-Some.is in
    (found c.args.names.now c.args.attrs.now.items (field_of c.args.line.now) c.in-Some.place c.requires at).0

pub returns-in-Some-clause-names : goal.returns-in-Some-clause-names
returns-in-Some-clause-names c =
    on_ok_weaker c.put_value.result (λ e. c.requires
    ∙ sym (same_names c.in-Some.place c.in_ok-value.value c.args.attrs.now.items) ∙ ap names_of (sym e))
    c.put_value.ensures

pub returns-in-Some-clause-attrs : goal.returns-in-Some-clause-attrs
returns-in-Some-clause-attrs c =
    let at : place_of c.args.names.now c.args.line.now.name ≡ Some c.in-Some.place = ap (place_of c.args.names.now)
    (sym c.as_slice.ensures) ∙ sym c.find.ensures ∙ c.in-Some.is in
    let value : c.in_ok-value.value ≡ bytes_of c.args.line.now.held = c.in_ok-value.ensures ∙ c.value.ensures in
    on_ok_weaker c.put_value.result (λ e. e ∙ ap (λ (v : List ℕ). with_value c.in-Some.place v c.args.attrs.now.items)
    value
    ∙ sym (found c.args.names.now c.args.attrs.now.items (field_of c.args.line.now) c.in-Some.place c.requires at).1)
    c.put_value.ensures

pub returns-in-None-clause-attrs : goal.returns-in-None-clause-attrs
returns-in-None-clause-attrs c =
    let at : place_of c.args.names.now c.args.line.now.name ≡ None = ap (place_of c.args.names.now)
    (sym c.as_slice.ensures) ∙ sym c.find.ensures ∙ c.in-None.is in
    let value : c.in_ok-value.value ≡ bytes_of c.args.line.now.held = c.in_ok-value.ensures ∙ c.value.ensures in
    on_ok_weaker c.put_first.result (λ e. e
    ∙ ap (λ (v : List ℕ). c.args.attrs.now.items ++ (c.as_slice-in-None.result.now, v ∷ []) ∷ []) value
    ∙ ap (λ (n : List ℕ). c.args.attrs.now.items ++ (n, bytes_of c.args.line.now.held ∷ []) ∷ [])
    c.as_slice-in-None.ensures
    ∙ sym (missing c.args.names.now c.args.attrs.now.items (field_of c.args.line.now) c.requires at))
    c.put_first.ensures.attrs
