use Rattle.std.proofs.Common.{List, sym, ◌∙◌, subst}
use Rattle.ad_chains.specs.declared.edge.Edge.{Edge}
use Rattle.ad_chains.specs.Work.{IsWithin}
use Rattle.ad_chains.proofs.Turned.{turned_within}
use Rattle.ad_chains.proofs.search.chains_from.Goals as goal

pub chains_to-requires-clause-within : goal.chains_to-requires-clause-within
chains_to-requires-clause-within c =
    subst (λ (l : List Edge). IsWithin c.args.count l) (sym (c.as_slice.ensures.value ∙ c.in_ok-turned.ensures))
    (turned_within c.args.count c.args.edges.now c.requires.within)
