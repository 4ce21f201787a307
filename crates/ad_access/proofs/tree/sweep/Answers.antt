use Rattle.std.proofs.Common.{◌≡◌, Bool, Option, List, ap, sym, ◌∙◌, subst}
use Rattle.std.specs.Option.{option_copied}
use Rattle.ad_ids.specs.declared.guid.Guid.{Guid}
use Rattle.ad_acl.specs.Entry.{Entry}
use Rattle.ad_acl.specs.EntrySeen.{entry_seen}
use Rattle.ad_sd.specs.Seen.{seen}
use Rattle.ad_sd.specs.View.{to_come}
use Rattle.ad_types.specs.Tree.{path_at}
use Rattle.ad_access.specs.Found.{found_at, Decides}
use Rattle.ad_access.specs.Matching.{is_about}
use Rattle.ad_access.specs.Rank.{holder_of}
use Rattle.ad_access.proofs.NodesSwept.{NodesSwept, nodes_none, nodes_skip, nodes_more, nodes_closed, nodes_all}
use Rattle.ad_access.proofs.tree.sweep.Goals as goal

pub loop-ace-init : goal.loop-ace-init
loop-ace-init c =
    let owner = c.owner-owner.result in
    let holder = holder_of c.args.token.now c.args.rank in
    let self = option_copied c.args.self_sid in
    let nodes = c.args.nodes.now in
    let whole : List Entry = (seen c.args.view.now).dacl.entries in
    let found = c.args.found.now in
    let P : List Entry → Type 0 = λ others. NodesSwept owner holder self nodes whole others c.args.want found
    c.args.want c.rights_as_owner-owned.result in
    let all : to_come c.into_iter-ace-iterator.result ≡ whole
    = ap to_come c.into_iter-ace-iterator.ensures.into_iter_gives ∙ c.dacl_in-ace-items.ensures in
    subst P (sym all) (nodes_none owner holder self nodes whole c.args.want found c.rights_as_owner-owned.result
    c.requires.none c.rights_as_owner-owned.ensures)

pub loop-ace-preserved-then-rights-eq0 : goal.loop-ace-preserved-then-rights-eq0
loop-ace-preserved-then-rights-eq0 c =
    let l = c.loop-ace in
    let owner = c.owner-owner.result in
    let holder = holder_of c.args.token.now c.args.rank in
    let self = option_copied c.args.self_sid in
    let nodes = c.args.nodes.now in
    let whole : List Entry = (seen c.args.view.now).dacl.entries in
    let P : List Entry → Type 0 = λ others. NodesSwept owner holder self nodes whole others c.args.want l.found
    l.still l.owned in
    nodes_skip owner holder self nodes whole (entry_seen c.in-Some.ace) (to_come c.next.new.self) c.args.want l.found
    l.still l.owned c.decided_for-rights.result c.left_by-owned.result
    (subst P c.in-Some.ensures.steps l.invariant) c.decided_for-rights.ensures c.if-rights-eq0.true
    c.left_by-owned.ensures

pub returns-then-still-owned-eq0 : goal.returns-then-still-owned-eq0
returns-then-still-owned-eq0 c =
    let l = c.loop-ace in
    nodes_closed (seen c.args.view.now) c.owner-owner.result (holder_of c.args.token.now c.args.rank)
    (option_copied c.args.self_sid) c.args.nodes.now (to_come l.ace-iterator) c.args.want l.found l.still l.owned
    c.owner-owner.ensures c.if-still-owned-eq0.true l.invariant

pub loop-ace-preserved : goal.loop-ace-preserved
loop-ace-preserved c =
    let l = c.loop-ace in
    let owner = c.owner-owner.result in
    let holder = holder_of c.args.token.now c.args.rank in
    let self = option_copied c.args.self_sid in
    let nodes = c.args.nodes.now in
    let whole : List Entry = (seen c.args.view.now).dacl.entries in
    let entry : Entry = entry_seen c.in-Some.ace in
    let rights = c.decided_for-rights.result in
    let next = c.take-still.new.found in
    let P : List Entry → Type 0 = λ others. NodesSwept owner holder self nodes whole others c.args.want l.found
    l.still l.owned in
    let object : c.object.result ≡ entry.object = c.object.ensures in
    nodes_more owner holder self nodes whole entry (to_come c.next.new.self) c.args.want l.found next l.still
    c.take-still.result l.owned rights c.left_by-owned.result (subst P c.in-Some.ensures.steps l.invariant)
    c.decided_for-rights.ensures c.take-still.ensures.len
    (λ place lt.
    subst (λ (b : Bool). Decides (is_about entry.object (path_at nodes place)) rights b (found_at l.found place)
    (found_at next place)) c.allows.ensures
    (subst (λ (o : Option Guid). Decides (is_about o (path_at nodes place)) rights c.allows.result
    (found_at l.found place) (found_at next place)) object (c.take-still.ensures.decided place lt)))
    c.take-still.ensures.still c.left_by-owned.ensures

pub returns : goal.returns
returns c =
    let l = c.loop-ace in
    nodes_all (seen c.args.view.now) c.owner-owner.result (holder_of c.args.token.now c.args.rank)
    (option_copied c.args.self_sid) c.args.nodes.now (to_come l.ace-iterator) c.args.want l.found l.still l.owned
    c.owner-owner.ensures c.in-None.ensures.steps.0 l.invariant
