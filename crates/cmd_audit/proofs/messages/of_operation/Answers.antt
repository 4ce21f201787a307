use Rattle.std.proofs.Common.{sym, ap}
use Rattle.ad_ldap.specs.declared.requests.Op.{Op}
use Rattle.ad_ldap.specs.MessageValue.{op_seen, message_seen}
use Rattle.cmd_audit.specs.Tries.{op_tries}
use Rattle.cmd_audit.proofs.Given.{tried_as, tried_none}
use Rattle.cmd_audit.proofs.messages.of_operation.Goals as goal

pub returns-in-Search : goal.returns-in-Search
returns-in-Search c =
    let m = c.args.message.now in
    tried_as c.of_search.result _ _ (ap (λ (op : Op). op_tries c.args.dir.now c.args.token.now (message_seen m)
    (op_seen op)) (sym c.in-Search.is)) c.of_search.ensures

pub returns-in-Compare : goal.returns-in-Compare
returns-in-Compare c =
    let m = c.args.message.now in
    tried_as c.of_compare.result _ _ (ap (λ (op : Op). op_tries c.args.dir.now c.args.token.now (message_seen m)
    (op_seen op)) (sym c.in-Compare.is)) c.of_compare.ensures

pub returns-in-Modify : goal.returns-in-Modify
returns-in-Modify c =
    let m = c.args.message.now in
    tried_as c.of_change.result _ _ (ap (λ (op : Op). op_tries c.args.dir.now c.args.token.now (message_seen m)
    (op_seen op)) (sym c.in-Modify.is)) c.of_change.ensures

pub returns-in-Add : goal.returns-in-Add
returns-in-Add c =
    let m = c.args.message.now in
    tried_as c.of_change-in-Add.result _ _
    (ap (λ (op : Op). op_tries c.args.dir.now c.args.token.now (message_seen m) (op_seen op)) (sym c.in-Add.is))
    c.of_change-in-Add.ensures

pub returns-in-Delete : goal.returns-in-Delete
returns-in-Delete c =
    let m = c.args.message.now in
    tried_as c.of_change-in-Delete.result _ _
    (ap (λ (op : Op). op_tries c.args.dir.now c.args.token.now (message_seen m) (op_seen op))
    (sym c.in-Delete.is)) c.of_change-in-Delete.ensures

pub returns-in-Rename : goal.returns-in-Rename
returns-in-Rename c =
    let m = c.args.message.now in
    tried_as c.of_change-in-Rename.result _ _
    (ap (λ (op : Op). op_tries c.args.dir.now c.args.token.now (message_seen m) (op_seen op))
    (sym c.in-Rename.is)) c.of_change-in-Rename.ensures

pub returns-in-Bind : goal.returns-in-Bind
returns-in-Bind c =
    let m = c.args.message.now in
    tried_none c.new.result c.new.ensures.items _
    (ap (λ (op : Op). op_tries c.args.dir.now c.args.token.now (message_seen m) (op_seen op)) (sym c.in-Bind.is))

pub returns-in-Unbind : goal.returns-in-Unbind
returns-in-Unbind c =
    let m = c.args.message.now in
    tried_none c.new-in-Unbind.result c.new-in-Unbind.ensures.items _
    (ap (λ (op : Op). op_tries c.args.dir.now c.args.token.now (message_seen m) (op_seen op))
    (sym c.in-Unbind.is))

pub returns-in-Abandon : goal.returns-in-Abandon
returns-in-Abandon c =
    let m = c.args.message.now in
    tried_none c.new-in-Abandon.result c.new-in-Abandon.ensures.items _
    (ap (λ (op : Op). op_tries c.args.dir.now c.args.token.now (message_seen m) (op_seen op))
    (sym c.in-Abandon.is))

pub returns-in-Extended : goal.returns-in-Extended
returns-in-Extended c =
    let m = c.args.message.now in
    tried_none c.new-in-Extended.result c.new-in-Extended.ensures.items _
    (ap (λ (op : Op). op_tries c.args.dir.now c.args.token.now (message_seen m) (op_seen op))
    (sym c.in-Extended.is))
