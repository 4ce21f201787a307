use Rattle.std.proofs.Common.{◌≡◌, List, ◌+◌, [], ◌∷◌, ◌++◌, take, sym, ap, ◌∙◌}
use Rattle.std.proofs.lemmas.List.{take_more}
use Rattle.ad_ldif.specs.declared.record.LdifLine.{LdifLine}
use Rattle.ad_ldif.specs.Records.{field_of}
use Rattle.ad_ldifmod_message.specs.Asked.{and_line}
use Rattle.ad_ldifmod_message.proofs.Grouped.{names_of, none_grouped, one_grouped}
use Rattle.ad_ldifmod_message.proofs.grouping.grouped.Goals as goal

pub lines-init : goal.lines-init
lines-init c = record {
  names = c.new-names.ensures ∙ sym (ap names_of c.new-attrs.ensures.items);
  attrs = c.new-attrs.ensures.items ∙ none_grouped;
}

pub lines-preserved : goal.lines-preserved
lines-preserved c =
    let line = c.line-item.result in
    let i = c.lines.line-index in
    let more : take (i + 1) c.args.lines.now ≡ take i c.args.lines.now ++ line ∷ [] =
    take_more c.args.lines.now i line c.lines-test.true ∙ ap (λ (l : LdifLine). take i c.args.lines.now ++ l ∷ [])
    (sym c.line-item.is) in
    record {
      names = c.in_ok-put_line.ensures.names;
      attrs = c.in_ok-put_line.ensures.attrs ∙ ap (λ attrs. and_line attrs (field_of line)) c.lines.invariant.attrs
          ∙ one_grouped (take i c.args.lines.now) (take (i + 1) c.args.lines.now) line more;
    }
