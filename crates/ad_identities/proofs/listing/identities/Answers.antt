use Rattle.std.proofs.Common.{◌∙◌}
use Rattle.std.proofs.lemmas.List.Elements.{All-from_recursion}
use Rattle.ad_identities.specs.Identities.{IsIdentity}
use Rattle.ad_identities.proofs.Listed.{are_listed, all_identities}
use Rattle.ad_identities.proofs.listing.identities.Goals as goal

pub returns-clause-each : goal.returns-clause-each
returns-clause-each c =
    let dir = c.args.dir.now in
    let all = c.put_lone.new.into.items in
    All-from_recursion (IsIdentity dir) all (all_identities dir all
    (are_listed dir c.in_ok-sids.sids.items c.as_slice-2.result.now c.as_slice.result.now c.new-all.result.items
    c.put_of.new.into.items all c.new-all.ensures.items (c.as_slice.ensures.value ∙ c.in_ok-numbers.ensures)
    c.as_slice-2.ensures.value c.in_ok-sids.ensures.rise c.in_ok-sids.ensures.each c.in_ok-put_of.ensures
    c.in_ok-put_lone.ensures))
