use Rattle.std.proofs.Common.{◌++◌, ◌∷◌, [], List, ℕ, ap, sym, ◌∙◌, take}
use Rattle.std.proofs.lemmas.List.{take_more}
use Rattle.gate_log.specs.Reading.{bodies_of}
use Rattle.gate_log.proofs.Parsing.{bodies_push}
use Rattle.gate_log.proofs.resume.copies_of.Goals as goal

pub loop-body-preserved : goal.loop-body-preserved
loop-body-preserved c =
    let bodies = c.args.bodies.now in
    let i = c.loop-body.body-index in
    let body = c.body-item.result in
    ap bodies_of c.in_ok-push.ensures.items ∙ bodies_push c.loop-body.copies.items c.in_ok-copy.copy
    ∙ ap (λ (l : List (List ℕ)). l ++ c.in_ok-copy.copy.items ∷ []) c.loop-body.invariant
    ∙ ap (λ (b : List ℕ). take i bodies ++ b ∷ []) (c.in_ok-copy.ensures ∙ c.body-item.is)
    ∙ sym (take_more bodies i body c.loop-body-test.true)
