use Rattle.std.proofs.Common.{Bool, ◌||◌, List, ℕ, length, ap, ◌∙◌, arith}
use Rattle.std.specs.Option.{option_copied}
use Rattle.ad_acl.specs.Mask.{has_bit}
use Rattle.ad_sd.specs.Seen.{seen}
use Rattle.ad_types.specs.Tree.{path_at}
use Rattle.ad_access.specs.Grant.{granted_to_holders}
use Rattle.ad_access.specs.Rights.{right_at}
use Rattle.ad_access.proofs.InPlace.{written_back}
use Rattle.ad_access.proofs.tree.granted_on_paths.Goals as goal

pub returns-clause-granted : goal.returns-clause-granted
returns-clause-granted c = λ place bit lt small.
    let sd = seen c.args.view.now in
    let by = c.split_wanted-asked.result.by_privilege in
    let items = c.in_ok-rights.rights.items in
    let holders : Bool = granted_to_holders sd.owner sd.dacl.entries c.args.token.now (option_copied c.args.self_sid)
    (path_at c.args.nodes.now place) bit in
    ap (λ (l : List ℕ). right_at l bit place)
    (written_back c.in_ok-rights.rights.len c.add.new.rights items (c.add.ensures.len ∙ c.deref_mut.ensures.len))
    ∙ c.add.ensures.added place bit (omega (arith, lt, c.in_ok-rights.ensures.len, ap length c.deref_mut.ensures.value))
    ∙ ap (λ (l : List ℕ). has_bit by bit || right_at l bit place) c.deref_mut.ensures.value
    ∙ ap (λ (b : Bool). has_bit by bit || b) (c.in_ok-rights.ensures.granted place bit lt small)
    ∙ c.split_wanted-asked.ensures bit holders small
