use Rattle.std.proofs.Common.{◌≡◌, ◌&&◌, ◌<◌, ℕ, List, ap, sym, ◌∙◌, subst, arith}
use Rattle.std.specs.Prelude.{bit_or}
use Rattle.std.specs.Option.{option_copied}
use Rattle.ad_acl.specs.Entry.{Entry}
use Rattle.ad_acl.specs.Mask.{has_bit}
use Rattle.ad_ids.specs.SidValue.{SidValue}
use Rattle.ad_acl.specs.EntrySeen.{entry_seen}
use Rattle.ad_sd.specs.Seen.{seen}
use Rattle.ad_sd.specs.View.{to_come}
use Rattle.ad_access.specs.Grant.{granted_to}
use Rattle.ad_access.specs.Rank.{holder_of}
use Rattle.ad_access.proofs.Swept.{Swept, swept_none, swept_more, swept_closed, swept_all}
use Rattle.ad_access.proofs.sweep.granted_to.Goals as goal

pub loop-ace-init : goal.loop-ace-init
loop-ace-init c =
    let owner = c.owner-owner.result in
    let holder = holder_of c.args.token.now c.args.rank in
    let self = option_copied c.args.self_sid in
    let path = c.args.path.now in
    let want = c.args.want in
    let whole : List Entry = (seen c.args.view.now).dacl.entries in
    let P : List Entry → Type 0 = λ others. Swept owner holder self path whole others want want 0
    c.rights_as_owner-owned.result in
    let all : to_come c.into_iter-ace-iterator.result ≡ whole
    = ap to_come c.into_iter-ace-iterator.ensures.into_iter_gives ∙ c.dacl_in-ace-items.ensures in
    subst P (sym all) (swept_none owner holder self path whole want c.rights_as_owner-owned.result
    c.rights_as_owner-owned.ensures)

pub returns-then-undecided-owned-eq0 : goal.returns-then-undecided-owned-eq0
returns-then-undecided-owned-eq0 c =
    let l = c.loop-ace in
    let holder = holder_of c.args.token.now c.args.rank in
    let self = option_copied c.args.self_sid in
    let path = c.args.path.now in
    let want = c.args.want in
    let whole : List Entry = (seen c.args.view.now).dacl.entries in
    let P : SidValue → Type 0 = λ owner. (bit : ℕ) → bit < 32 → has_bit l.allowed bit ≡ has_bit want bit
    && granted_to owner whole holder self path bit in
    subst P c.owner-owner.ensures (swept_closed c.owner-owner.result holder self path whole (to_come l.ace-iterator)
    want l.undecided l.allowed l.owned l.invariant (omega arith) c.if-undecided-owned-eq0.true)

pub loop-ace-preserved : goal.loop-ace-preserved
loop-ace-preserved c =
    let l = c.loop-ace in
    let owner = c.owner-owner.result in
    let holder = holder_of c.args.token.now c.args.rank in
    let self = option_copied c.args.self_sid in
    let path = c.args.path.now in
    let want = c.args.want in
    let whole : List Entry = (seen c.args.view.now).dacl.entries in
    let P : List Entry → Type 0 = λ others. Swept owner holder self path whole others want l.undecided l.allowed
    l.owned in
    swept_more owner holder self path whole (entry_seen c.in-Some.ace) (to_come c.next.new.self) want l.undecided
    l.allowed l.owned c.decided_by-decided.result c.allowed_by-given.result c.left_by-owned.result
    (subst P c.in-Some.ensures.steps l.invariant) (omega arith) c.decided_by-decided.ensures
    c.allowed_by-given.ensures c.left_by-owned.ensures

pub returns : goal.returns
returns c =
    let l = c.loop-ace in
    let owner = c.owner-owner.result in
    let holder = holder_of c.args.token.now c.args.rank in
    let self = option_copied c.args.self_sid in
    let path = c.args.path.now in
    let want = c.args.want in
    let whole : List Entry = (seen c.args.view.now).dacl.entries in
    let P : List Entry → Type 0 = λ others. Swept owner holder self path whole others want l.undecided l.allowed
    l.owned in
    let Q : SidValue → Type 0 = λ who. (bit : ℕ) → bit < 32 → has_bit (bit_or l.allowed l.owned) bit
    ≡ has_bit want bit && granted_to who whole holder self path bit in
    subst Q c.owner-owner.ensures (swept_all owner holder self path whole want l.undecided l.allowed l.owned
    (subst P c.in-None.ensures.steps.0 l.invariant))
