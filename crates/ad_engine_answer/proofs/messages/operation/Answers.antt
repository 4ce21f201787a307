use Rattle.std.proofs.Common.{[], sym, ap, subst}
use Rattle.ad_ldap.specs.declared.requests.Op.{Op}
use Rattle.ad_ldap.specs.MessageValue.{op_seen, message_seen}
use Rattle.ad_ldap.specs.Ranges.{HasOpRanges}
use Rattle.ad_needs_rules.specs.Verdicts.{IsChange}
use Rattle.ad_engine_answer.specs.Decided.{IsDecided}
use Rattle.ad_engine_answer.specs.Messages.{op_decided}
use Rattle.ad_engine_answer.proofs.Decisions.{replied, decided_as, decided_here}
use Rattle.ad_engine_answer.proofs.messages.operation.Goals as goal

pub returns-in-Bind : goal.returns-in-Bind
returns-in-Bind c =
    let dir = c.args.dir.now in
    let m = c.args.message.now in
    decided_here c.refused.result dir _ (op_decided dir c.args.token.now (message_seen m) (op_seen m.op))
    (ap (λ (op : Op). op_decided dir c.args.token.now (message_seen m) (op_seen op)) (sym c.in-Bind.is))
    c.refused.ensures

pub returns-in-Unbind : goal.returns-in-Unbind
returns-in-Unbind c =
    let dir = c.args.dir.now in
    let m = c.args.message.now in
    subst (λ (op : Op). IsDecided dir (op_decided dir c.args.token.now (message_seen m) (op_seen op))
    c.dropping.result) (sym c.in-Unbind.is) (c.dropping.ensures dir)

pub returns-in-Search : goal.returns-in-Search
returns-in-Search c =
    let dir = c.args.dir.now in
    let m = c.args.message.now in
    decided_as c.search.result dir _ (op_decided dir c.args.token.now (message_seen m) (op_seen m.op))
    (ap (λ (op : Op). op_decided dir c.args.token.now (message_seen m) (op_seen op)) (sym c.in-Search.is))
    c.search.ensures

pub returns-in-Compare : goal.returns-in-Compare
returns-in-Compare c =
    let dir = c.args.dir.now in
    let m = c.args.message.now in
    decided_as c.comparison.result dir _ (op_decided dir c.args.token.now (message_seen m) (op_seen m.op))
    (ap (λ (op : Op). op_decided dir c.args.token.now (message_seen m) (op_seen op)) (sym c.in-Compare.is))
    c.comparison.ensures

pub change-requires-clause-change : goal.change-requires-clause-change
change-requires-clause-change c = subst (λ (op : Op). IsChange (op_seen op)) (sym c.in-Modify.is)
    (subst (λ (op : Op). HasOpRanges (op_seen op)) c.in-Modify.is c.requires.ranges)

pub returns-in-Modify : goal.returns-in-Modify
returns-in-Modify c =
    let dir = c.args.dir.now in
    let m = c.args.message.now in
    decided_as c.change.result dir _ (op_decided dir c.args.token.now (message_seen m) (op_seen m.op))
    (ap (λ (op : Op). op_decided dir c.args.token.now (message_seen m) (op_seen op)) (sym c.in-Modify.is))
    c.change.ensures

pub change-requires-in-Add-clause-change : goal.change-requires-in-Add-clause-change
change-requires-in-Add-clause-change c = subst (λ (op : Op). IsChange (op_seen op)) (sym c.in-Add.is) tt

pub returns-in-Add : goal.returns-in-Add
returns-in-Add c =
    let dir = c.args.dir.now in
    let m = c.args.message.now in
    decided_as c.change-in-Add.result dir _ (op_decided dir c.args.token.now (message_seen m) (op_seen m.op))
    (ap (λ (op : Op). op_decided dir c.args.token.now (message_seen m) (op_seen op)) (sym c.in-Add.is))
    c.change-in-Add.ensures

pub change-requires-in-Delete-clause-change : goal.change-requires-in-Delete-clause-change
change-requires-in-Delete-clause-change c = subst (λ (op : Op). IsChange (op_seen op)) (sym c.in-Delete.is) tt

pub returns-in-Delete : goal.returns-in-Delete
returns-in-Delete c =
    let dir = c.args.dir.now in
    let m = c.args.message.now in
    decided_as c.change-in-Delete.result dir _ (op_decided dir c.args.token.now (message_seen m) (op_seen m.op))
    (ap (λ (op : Op). op_decided dir c.args.token.now (message_seen m) (op_seen op)) (sym c.in-Delete.is))
    c.change-in-Delete.ensures

pub change-requires-in-Rename-clause-change : goal.change-requires-in-Rename-clause-change
change-requires-in-Rename-clause-change c = subst (λ (op : Op). IsChange (op_seen op)) (sym c.in-Rename.is) tt

pub returns-in-Rename : goal.returns-in-Rename
returns-in-Rename c =
    let dir = c.args.dir.now in
    let m = c.args.message.now in
    decided_as c.change-in-Rename.result dir _ (op_decided dir c.args.token.now (message_seen m) (op_seen m.op))
    (ap (λ (op : Op). op_decided dir c.args.token.now (message_seen m) (op_seen op)) (sym c.in-Rename.is))
    c.change-in-Rename.ensures

pub returns-in-Abandon : goal.returns-in-Abandon
returns-in-Abandon c =
    let dir = c.args.dir.now in
    let m = c.args.message.now in
    subst (λ (op : Op). IsDecided dir (op_decided dir c.args.token.now (message_seen m) (op_seen op))
    c.replying.result) (sym c.in-Abandon.is)
    (replied dir c.new.result.items [] c.replying.result c.new.ensures.items (c.replying.ensures dir))

pub returns-in-Extended : goal.returns-in-Extended
returns-in-Extended c =
    let dir = c.args.dir.now in
    let m = c.args.message.now in
    decided_here c.refused-in-Extended.result dir _ (op_decided dir c.args.token.now (message_seen m) (op_seen m.op))
    (ap (λ (op : Op). op_decided dir c.args.token.now (message_seen m) (op_seen op)) (sym c.in-Extended.is))
    c.refused-in-Extended.ensures
