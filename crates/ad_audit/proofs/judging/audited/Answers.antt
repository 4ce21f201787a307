use Rattle.std.proofs.Common.{◌≡◌, ℕ, Bool, Option, Some, None, sym, ap, ◌∙◌, subst}
use Rattle.std.specs.Option.{option_copied}
use Rattle.ad_ids.specs.SidValue.{SidValue}
use Rattle.ad_acl.specs.Entry.{Entry}
use Rattle.ad_acl.specs.EntrySeen.{entry_seen}
use Rattle.ad_sd.specs.Seen.{seen}
use Rattle.ad_sd.specs.View.{to_come}
use Rattle.ad_audit.specs.Audited.{asks, first_asking, audited}
use Rattle.ad_audit.proofs.Asking.{first_here, first_later}
use Rattle.ad_audit.proofs.judging.audited.Goals as goal

pub loop-ace-init : goal.loop-ace-init
loop-ace-init c =
    let asking : Entry → Bool = λ entry. asks entry c.owner-owner.result c.args.token.now
    (option_copied c.args.self_sid) c.args.path.now c.args.right c.args.success in
    let all : to_come c.into_iter-ace-iterator.result ≡ (seen c.args.view).sacl.entries
    = ap to_come c.into_iter-ace-iterator.ensures.into_iter_gives ∙ c.sacl_in-ace-items.ensures in
    ap (first_asking asking 0) (sym all)

pub returns-then-asks : goal.returns-then-asks
unfolding audited
returns-then-asks c =
    let l = c.loop-ace in
    let asking : Entry → Bool = λ entry. asks entry c.owner-owner.result c.args.token.now
    (option_copied c.args.self_sid) c.args.path.now c.args.right c.args.success in
    let P : SidValue → Type 0 = λ owner. Some l.place
    ≡ first_asking (λ (entry : Entry). asks entry owner c.args.token.now (option_copied c.args.self_sid)
    c.args.path.now c.args.right c.args.success) 0 (seen c.args.view).sacl.entries in
    subst P c.owner-owner.ensures (sym (l.invariant ∙ ap (first_asking asking l.place) c.in-Some.ensures.steps
    ∙ first_here asking l.place (entry_seen c.in-Some.ace) (to_come c.next.new.self)
    (sym c.asks.ensures ∙ c.if-asks.true)))

pub loop-ace-preserved : goal.loop-ace-preserved
loop-ace-preserved c =
    let l = c.loop-ace in
    let asking : Entry → Bool = λ entry. asks entry c.owner-owner.result c.args.token.now
    (option_copied c.args.self_sid) c.args.path.now c.args.right c.args.success in
    l.invariant ∙ ap (first_asking asking l.place) c.in-Some.ensures.steps
    ∙ first_later asking l.place c.saturating_add-place.result (entry_seen c.in-Some.ace) (to_come c.next.new.self)
    (sym c.asks.ensures ∙ c.if-asks.false) c.saturating_add-place.ensures

pub returns : goal.returns
unfolding audited first_asking
returns c =
    let l = c.loop-ace in
    let asking : Entry → Bool = λ entry. asks entry c.owner-owner.result c.args.token.now
    (option_copied c.args.self_sid) c.args.path.now c.args.right c.args.success in
    let none : Option ℕ = None in
    let P : SidValue → Type 0 = λ owner. none
    ≡ first_asking (λ (entry : Entry). asks entry owner c.args.token.now (option_copied c.args.self_sid)
    c.args.path.now c.args.right c.args.success) 0 (seen c.args.view).sacl.entries in
    subst P c.owner-owner.ensures (sym (l.invariant ∙ ap (first_asking asking l.place) c.in-None.ensures.steps.0))
