use Rattle.std.proofs.Common.{List, ◌∙◌, sym, ap, subst}
use Rattle.std.specs.List.{IsDistinct}
use Rattle.ad_ids.specs.SidValue.{SidValue, same_sid, contains_sid}
use Rattle.ad_principals.proofs.Sets.{has_append}
use Rattle.ad_control_nodes.proofs.Listing.{lones, parted, distinct, lone_identities, rise_distinct}
use Rattle.ad_control_nodes.proofs.nodes.others.Goals as goal

pub returns-clause-rise : goal.returns-clause-rise
returns-clause-rise c =
    let p = c.args.parties.now in
    let all = c.requires.0 in
    c.in_order.ensures.rise (subst (IsDistinct same_sid) (sym c.in_ok-sids.ensures.are)
    (distinct c.args.dir.now all p.members.items p.tokens.all.items p.without.items c.requires.2
    (subst (IsDistinct same_sid) (sym (lone_identities c.args.dir.now all c.requires.1))
    (rise_distinct c.requires.1.others c.requires.1.rise))))

pub returns-clause-each : goal.returns-clause-each
returns-clause-each c = λ sid.
    let p = c.args.parties.now in
    let all = c.requires.0 in
    c.in_order.ensures.same sid
    ∙ ap (λ (l : List SidValue). contains_sid l sid) c.in_ok-sids.ensures.are
    ∙ has_append (lones p.members.items) (lones p.without.items) sid
    ∙ parted c.args.dir.now all p.members.items p.tokens.all.items p.without.items sid c.requires.2
    ∙ ap (λ (l : List SidValue). contains_sid l sid) (lone_identities c.args.dir.now all c.requires.1)
    ∙ c.requires.1.each sid
