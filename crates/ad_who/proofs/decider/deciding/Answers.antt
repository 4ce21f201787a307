use Rattle.std.proofs.Common.{◌≡◌, ◌∙◌, ◌+◌, List, ◌∷◌, length, sym, ap, subst, arith}
use Rattle.std.specs.Option.{option_copied}
use Rattle.ad_acl.specs.Entry.{Entry}
use Rattle.ad_acl.specs.declared.kind.AceKind.{AceKind}
use Rattle.ad_acl.specs.EntrySeen.{entry_seen}
use Rattle.ad_sd.specs.Seen.{seen}
use Rattle.ad_sd.specs.View.{to_come}
use Rattle.ad_access.specs.Holder.{first_holder}
use Rattle.ad_who.specs.Decider.{by_kind, deciding_from}
use Rattle.ad_who.proofs.Deciding.{decided_here, decided_later}
use Rattle.ad_who.proofs.decider.deciding.Goals as goal

pub returns-then-decides : goal.returns-then-decides
returns-then-decides c =
    let l = c.loop-ace in
    let holder = first_holder c.args.token.now in
    let self = option_copied c.args.self_sid in
    let P : List Entry → Type 0 = λ entries. deciding_from 1 (seen c.args.view.now).dacl.entries holder self
    c.args.owner.now c.args.path.now c.args.bit
    ≡ deciding_from (l.place + 1) entries holder self c.args.owner.now c.args.path.now c.args.bit in
    let here = subst P c.in-Some.ensures.steps l.invariant.0 in
    c.by_kind.ensures ∙ ap (λ (kind : AceKind). by_kind kind (l.place + 1)) c.kind.ensures
    ∙ sym (here ∙ decided_here (l.place + 1) (entry_seen c.in-Some.ace) (to_come c.next.new.self) holder self
    c.args.owner.now c.args.path.now c.args.bit
    (sym c.decides.ensures ∙ c.if-decides.true))

pub loop-ace-preserved : goal.loop-ace-preserved
loop-ace-preserved c =
    let l = c.loop-ace in
    let holder = first_holder c.args.token.now in
    let self = option_copied c.args.self_sid in
    let P : List Entry → Type 0 = λ entries. deciding_from 1 (seen c.args.view.now).dacl.entries holder self
    c.args.owner.now c.args.path.now c.args.bit
    ≡ deciding_from (l.place + 1) entries holder self c.args.owner.now c.args.path.now c.args.bit in
    let Q : List Entry → Type 0 = λ entries. l.place + length entries ≡ length (seen c.args.view.now).dacl.entries in
    let here = subst P c.in-Some.ensures.steps l.invariant.0 in
    let many : l.place + length (entry_seen c.in-Some.ace ∷ to_come c.next.new.self)
    ≡ length (seen c.args.view.now).dacl.entries = subst Q c.in-Some.ensures.steps l.invariant.1 in (
      here ∙ decided_later (l.place + 1) (entry_seen c.in-Some.ace) (to_come c.next.new.self) holder self
          c.args.owner.now c.args.path.now c.args.bit
          (sym c.decides.ensures ∙ c.if-decides.false),
      omega (arith, many),
    )

pub returns : goal.returns
unfolding deciding_from
returns c =
    let l = c.loop-ace in
    let holder = first_holder c.args.token.now in
    let self = option_copied c.args.self_sid in
    sym (l.invariant.0 ∙ ap (λ (entries : List Entry). deciding_from (l.place + 1) entries holder self
    c.args.owner.now c.args.path.now c.args.bit) c.in-None.ensures.steps.0)
