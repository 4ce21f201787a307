use Rattle.std.proofs.Common.{refl, ◌∙◌, sym, arith}
use Rattle.adsd_c.specs.Access.{tree_question}
use Rattle.adsd_c.specs.CallerSeen.{asker_seen}
use Rattle.adsd_c.proofs.access.granted_at.Goals as goal

pub returns : goal.returns
unfolding tree_question
returns c =
    let masks = c.in_ok-check_tree.ensures in (
      record { sd = c.in_ok-kept.kept; asker = asker_seen c.in_ok-caller.caller; nodes = c.in_ok-tree.tree },
      rw (c.in_ok-kept.ensures, c.in_ok-caller.ensures, c.in_ok-tree.ensures) refl,
      sym masks.nodes,
      record {
        each = omega (arith, masks.nodes);
        bits = λ place bit there small. masks.granted place bit there small
            ∙ rw (c.view.ensures, c.as_ref.ensures.value) refl;
      },
    )
