use Rattle.std.proofs.Common.{◌≡◌, ◌∙◌, ℕ, ◌<◌, true, Some, List, length, take, get_or, refl, sym, ap, subst}
use Rattle.std.specs.List.{list_any}
use Rattle.std.specs.Prelude.{All}
use Rattle.std.proofs.lemmas.List.{take_all}
use Rattle.ad_ids.specs.declared.token.Token.{Token}
use Rattle.ad_dir_model.specs.Objects.{is_live}
use Rattle.ad_schema.specs.declared.line.SchemaRecord.{SchemaRecord}
use Rattle.ad_questions.specs.Question.{question_of}
use Rattle.ad_policies.specs.Policies.{above}
use Rattle.ad_control_graph.specs.declared.node.Node.{Node}
use Rattle.ad_control_graph.specs.Drawing.{Adds, IsBy}
use Rattle.ad_control_graph.proofs.SetLaws.{keeps_same, keeps_both}
use Rattle.ad_control_graph.proofs.ByLaws.{adds_same, adds_next, adds_any_none}
use Rattle.ad_control.specs.Edges.{asks_there}
use Rattle.ad_control_nodes.specs.Ground.{IsGround}
use Rattle.ad_control_asked.specs.Asked.{is_told_yes}
use Rattle.ad_control_linked.proofs.Linking.{told_yes}
use Rattle.ad_control_linked.proofs.above.draw_above.Goals as goal

pub draw_asked-requires-clause-live : goal.draw_asked-requires-clause-live
draw_asked-requires-clause-live c =
    let P : ℕ → Type 0 = λ n. is_live c.args.dir.now.objects n ≡ true in
    subst (All P) (sym c.as_slice-all.ensures.value) c.in_ok-containers.ensures.live c.loop-container.container-index _
    c.loop-container-test.true

pub draw_asked-requires-clause-ground : goal.draw_asked-requires-clause-ground
draw_asked-requires-clause-ground c =
    subst (λ (l : List Node). IsGround c.args.dir.now l c.args.ground.now) (sym c.loop-container.invariant.nodes)
    c.requires.ground

pub draw_asked-requires-clause-steady : goal.draw_asked-requires-clause-steady
draw_asked-requires-clause-steady c = c.loop-container.invariant.steady

pub draw_asked-requires-clause-judging : goal.draw_asked-requires-clause-judging
draw_asked-requires-clause-judging c = c.loop-container.invariant.judging

pub draw_asked-requires-clause-to : goal.draw_asked-requires-clause-to
draw_asked-requires-clause-to c =
    subst (λ (l : List Node). c.args.to < length l) (sym c.loop-container.invariant.nodes) c.requires.to

pub loop-container-init : goal.loop-container-init
loop-container-init c =
    let ground = c.args.ground.now in
    record {
      nodes = refl;
      steady = c.requires.steady;
      sets = keeps_same c.args.graph.now;
      judging = c.requires.judging;
      adds = adds_any_none c.args.graph.now c.args.kind c.args.to ground.parties.tokens.all.items ground.at.items
          (λ (t : Token) (n : ℕ). asks_there c.args.dir.now (Some t) c.args.text.now n);
    }

pub loop-container-preserved : goal.loop-container-preserved
loop-container-preserved c =
    let dir = c.args.dir.now in
    let ground = c.args.ground.now in
    let tokens = ground.parties.tokens.all.items in
    let at = ground.at.items in
    let old = c.args.graph.now in
    let mid = c.loop-container.graph in
    let new = c.draw_asked.new.graph in
    let was = c.loop-container.invariant in
    let all = c.as_slice-all.result.now in
    let here : ℕ = get_or all c.loop-container.container-index 0 in
    let asked : c.question_of-question.result ≡ question_of dir.schema c.args.text.now
    = c.question_of-question.ensures.asked
    ∙ ap (λ (s : List SchemaRecord). question_of s c.args.text.now) c.schema.ensures in
    let over = c.in_ok-draw_asked.ensures.over old.nodes.items (record { nodes = was.nodes; steady = was.steady }) in
    record {
      nodes = over.nodes;
      steady = over.steady;
      sets = keeps_both old mid new was.sets c.in_ok-draw_asked.ensures.sets;
      judging = c.in_ok-draw_asked.ensures.judging;
      adds = adds_next old mid new c.args.kind c.args.to tokens at
          (λ (t : Token) (n : ℕ). asks_there dir (Some t) c.args.text.now n) all c.loop-container.container-index 0
          c.loop-container-test.true was.adds
          (adds_same mid new c.args.kind c.args.to tokens at
          (λ (t : Token). is_told_yes dir t here c.question_of-question.result)
          (λ (t : Token). asks_there dir (Some t) c.args.text.now here)
          (λ t. told_yes dir t here c.question_of-question.result c.args.text.now asked)
          c.in_ok-draw_asked.ensures.adds);
    }

pub returns-clause-over : goal.returns-clause-over
returns-clause-over c = λ nodes is.
    record { nodes = c.loop-container.invariant.nodes ∙ is.nodes; steady = c.loop-container.invariant.steady }

pub returns-clause-adds : goal.returns-clause-adds
returns-clause-adds c =
    let dir = c.args.dir.now in
    let ground = c.args.ground.now in
    let all = c.as_slice-all.result.now in
    let are : take c.loop-container.container-index all ≡ above dir c.args.number
    = take_all c.loop-container.container-index all c.loop-container-test.false ∙ c.as_slice-all.ensures.value
    ∙ c.in_ok-containers.ensures.above in
    subst (λ (l : List ℕ). Adds c.args.graph.now c.loop-container.graph c.args.kind c.args.to
    (IsBy ground.parties.tokens.all.items ground.at.items
    (λ (t : Token). list_any (λ (n : ℕ). asks_there dir (Some t) c.args.text.now n) l))) are c.loop-container.invariant.adds
