use Rattle.std.proofs.Common.{ap, ◌∙◌}
use Rattle.ad_ldap.specs.MessageValue.{search_seen}
use Rattle.ad_search.specs.Reads.{found_among}
use Rattle.ad_search.specs.Indexed.{IsLeftOfAll}
use Rattle.ad_search.proofs.AnswerLaws.{asked_enough}
use Rattle.ad_search.proofs.searching.candidates.Goals as goal

pub returns-in-Some-clause-same : goal.returns-in-Some-clause-same
returns-in-Some-clause-same c =
    let dir = c.args.asking.now.dir.now in
    let search = search_seen c.args.asking.now.search.now in
    let left : IsLeftOfAll dir search c.in-Some.found.items = rw c.in-Some.is at c.in_ok-found.ensures in
    left.same c.args.asking.now.token.now c.args.base.now

pub returns-in-Some-clause-live : goal.returns-in-Some-clause-live
returns-in-Some-clause-live c =
    let dir = c.args.asking.now.dir.now in
    let search = search_seen c.args.asking.now.search.now in
    let left : IsLeftOfAll dir search c.in-Some.found.items = rw c.in-Some.is at c.in_ok-found.ensures in
    left.live

pub returns-clause-same : goal.returns-clause-same
returns-clause-same c =
    let dir = c.args.asking.now.dir.now in
    let token = c.args.asking.now.token.now in
    let search = search_seen c.args.asking.now.search.now in
    let base = c.args.base.now in
    c.in_ok-left.ensures.same token base
    ∙ ap (found_among dir token search base) c.in_ok-asked.ensures.asked
    ∙ asked_enough dir token search base c.args.number c.invariants.ensures c.requires.live c.requires.base
