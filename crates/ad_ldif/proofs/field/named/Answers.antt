use Rattle.std.proofs.Common.{sym, ◌∙◌}
use Rattle.ad_ldif.proofs.NameLemmas.{none_named, other_named, named_line, named_name, named_behind}
use Rattle.ad_ldif.proofs.field.named.Goals as goal

pub returns-in_default-clause-none : goal.returns-in_default-clause-none
returns-in_default-clause-none c = λ _. none_named c.args.text.now (sym c.name_end.ensures ∙ c.in_default.is)

pub returns-then-both-clause-line : goal.returns-then-both-clause-line
returns-then-both-clause-line c = named_line _ _ (sym c.in-Some.is ∙ c.name_end.ensures)
    (sym c.both.ensures ∙ c.if-both.true)

pub returns-then-both-clause-name : goal.returns-then-both-clause-name
returns-then-both-clause-name c = named_name _ _ (sym c.in-Some.is ∙ c.name_end.ensures)
    (sym c.both.ensures ∙ c.if-both.true)

pub returns-then-both-clause-behind : goal.returns-then-both-clause-behind
returns-then-both-clause-behind c = named_behind _ _ (sym c.in-Some.is ∙ c.name_end.ensures)
    (sym c.both.ensures ∙ c.if-both.true)

pub returns-clause-none : goal.returns-clause-none
returns-clause-none c = λ _. other_named _ _ (sym c.in-Some.is ∙ c.name_end.ensures)
    (sym c.both.ensures ∙ c.if-both.false)
