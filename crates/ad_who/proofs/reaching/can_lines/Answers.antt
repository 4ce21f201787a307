use Rattle.std.proofs.Common.{◌∙◌, List, inr, sym, ap}
use Rattle.std.proofs.lemmas.Result.{IfErr-weaker}
use Rattle.std.specs.Option.{option_map}
use Rattle.ad_dir.proofs.NameLaws.{if_ok}
use Rattle.ad_schema.specs.declared.line.SchemaRecord.{SchemaRecord}
use Rattle.ad_questions.specs.Question.{question_of}
use Rattle.ad_who.specs.Faults.{IsNoIdentity}
use Rattle.ad_who.specs.Answers.{IsCanRefusal}
use Rattle.ad_who.proofs.Refused.{can_told}
use Rattle.ad_who.proofs.reaching.can_lines.Goals as goal

pub returns-clause-text : goal.returns-clause-text
returns-clause-text c =
    let dir = c.args.dir.now in
    let base = option_map (λ text. text.now) c.args.base in
    let asked = sym (c.in-Some.ensures.asked ∙ ap (λ (schema : List SchemaRecord). question_of schema c.args.right.now)
    c.schema.ensures) in
    if_ok c.can_from.result
    (λ text told. can_told dir c.args.name.now c.args.right.now base c.in_ok-found.found
    c.in_ok-from.from c.in-Some.question text.items
    c.in_ok-found.ensures.found asked c.in_ok-from.ensures.number told)
    c.can_from.ensures.text

pub returns-clause-refusal : goal.returns-clause-refusal
returns-clause-refusal c =
    let dir = c.args.dir.now in
    let base = option_map (λ text. text.now) c.args.base in
    let found = c.in_ok-found.found in
    let asked = sym (c.in-Some.ensures.asked ∙ ap (λ (schema : List SchemaRecord). question_of schema c.args.right.now)
    c.schema.ensures) in
    IfErr-weaker c.can_from.result (IsNoIdentity dir found)
    (IsCanRefusal dir c.args.name.now c.args.right.now base)
    (λ fault none. inr (
      found,
      c.in_ok-found.ensures.found,
      inr (c.in-Some.question, asked, inr (c.in_ok-from.from, c.in_ok-from.ensures.number, none)),
    ))
    c.can_from.ensures.fault
