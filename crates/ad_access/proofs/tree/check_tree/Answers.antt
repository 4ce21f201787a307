use Rattle.std.proofs.Common.{◌≡◌, ◌<◌, Bool, ◌&&◌, true, List, ◌++◌, take, drop, ℕ, length, sym, ap, ◌∙◌, subst, arith}
use Rattle.std.specs.Prelude.{if◌then◌else◌}
use Rattle.std.specs.List.{list_all}
use Rattle.std.specs.Option.{option_copied}
use Rattle.ad_ids.specs.declared.guid.Guid.{Guid}
use Rattle.ad_acl.specs.Mask.{has_bit, mapped_has}
use Rattle.ad_sd.specs.Seen.{seen}
use Rattle.ad_types.specs.declared.type_tree.Node.{Node}
use Rattle.ad_types.specs.Tree.{is_tree, children, is_leaf, path_at}
use Rattle.ad_access.specs.Grant.{granted}
use Rattle.ad_access.specs.Rights.{right_at}
use Rattle.ad_access.specs.Tree.{node_granted}
use Rattle.ad_access.proofs.InPlace.{written_back}
use Rattle.ad_access.proofs.LeavesUp.{IsClosed, one_solution}
use Rattle.ad_access.proofs.tree.check_tree.Goals as goal

pub returns-clause-granted : goal.returns-clause-granted
returns-clause-granted c =
    let sd = seen c.args.view in
    let nodes = c.nodes-nodes.result.now in
    let before = c.deref_mut.result.now in
    let after = c.close.new.rights in
    let mapped = c.map_generic.result in
    let self = option_copied c.args.self_sid in
    let items = c.in_ok-rights.rights.items in
    let whole : take c.in_ok-rights.rights.len (after ++ drop (length after) items) ≡ after
    = written_back c.in_ok-rights.rights.len after items
    (omega (
      arith,
      c.close.ensures.len,
      c.in_ok-rights.ensures.len,
      c.deref_mut.ensures.len,
      ap length
          c.deref_mut.ensures.value,
    )) in
    let P : List Node → Type 0 = λ t. (place bit : ℕ) → place < length t → bit < 32
    → right_at (take c.in_ok-rights.rights.len (after ++ drop (length after) items)) bit place
    ≡ mapped_has c.args.want bit && node_granted sd c.args.token.now self t place bit in
    subst P c.nodes-nodes.ensures.nodes
    (λ place bit lt small.
    let grants : List Guid → Bool = λ path. granted sd.owner sd.dacl.entries c.args.token.now self path bit in
    let r : ℕ → Bool = right_at after bit in
    let wanted : Bool = mapped_has c.args.want bit in
    let closed : IsClosed nodes wanted grants r = record {
      at = λ p less.
          c.close.ensures.closed p bit less
          ∙ ap (λ (b : Bool). if is_leaf nodes p then b else has_bit mapped bit && list_all r (children nodes p))
          (ap (λ (l : List ℕ). right_at l bit p) c.deref_mut.ensures.value ∙ c.in_ok-rights.ensures.granted p bit
          less small)
          ∙ ap (λ (w : Bool). if is_leaf nodes p then wanted && grants (path_at nodes p) else w
          && list_all r (children nodes p)) (c.map_generic.ensures bit small);
    } in
    let tree : is_tree nodes ≡ true = subst (λ (t : List Node). is_tree t ≡ true) (sym c.nodes-nodes.ensures.nodes)
    c.nodes-nodes.ensures.tree in
    ap (λ (l : List ℕ). right_at l bit place) whole ∙ one_solution nodes wanted grants r tree closed place lt)
