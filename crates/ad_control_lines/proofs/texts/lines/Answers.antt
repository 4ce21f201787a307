use Rattle.std.proofs.Common.{◌∙◌, ℕ, List, ◌++◌, length, ap, subst}
use Rattle.ad_chains.specs.Ways.{way_at}
use Rattle.ad_control_graph.specs.declared.node.Node.{Node}
use Rattle.ad_control.specs.Lines.{IsObjectLine, AreTexts}
use Rattle.ad_control_lines.proofs.texts.lines.Goals as goal

pub returns : goal.returns
returns c =
    let objects = c.in_ok-put_objects.ensures in
    let steps = c.in_ok-put_steps.ensures in
    record {
      objects = objects.0;
      steps = steps.0;
      are_objects = subst (λ (nodes : List Node). AreTexts (λ x line. IsObjectLine c.args.dir.now nodes c.args.ways.now x
          (way_at c.args.ways.now x) line) 0 (length nodes) objects.0) c.as_slice.ensures.value objects.2;
      are_steps = steps.2;
      are = steps.1 ∙ ap (λ (front : List ℕ). front ++ steps.0)
          (objects.1 ∙ ap (λ (front : List ℕ). front ++ objects.0) c.new-text.ensures.items);
    }
