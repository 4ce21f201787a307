use Rattle.std.proofs.Common.{◌≡◌, ◌∙◌, length, ap, sym, refl}
use Rattle.std.proofs.lemmas.List.{nil_from_length}
use Rattle.ad_dir_model.specs.Directory.{Directory}
use Rattle.cmd_call.proofs.Moments.{IsLawful}
use Rattle.cmd_store.proofs.SettleSteps.{settled_told, made_none}
use Rattle.cmd_store_open.proofs.Readying.{stands_for}
use Rattle.cmd_store.proofs.settling.settle_ready.Goals as goal

pub returns-then-len-eq0 : goal.returns-then-len-eq0
returns-then-len-eq0 g c =
    let s = g.S.Site in
    let law : IsLawful s = record { output = g.met.S.Site.left_output; until = g.met.S.Site.left_until } in
    let engine = c.args.engine.now in
    let dir = engine.dir in
    let now = c.requires.stands c.requires.unspent in
    let queue : c.queue.result.now ≡ dir.pending = c.queue.ensures ∙ ap (λ (d : Directory). d.pending) c.dir.ensures in
    let none : length dir.pending ≡ 0 = sym (ap length queue) ∙ sym c.len.ensures.len ∙ c.if-len-eq0.true in
    λ old ready.
    settled_told s law dir 0 old c.args.site.now c.tell.new.site c.tell.result
    (made_none s dir old c.args.site.now ready now.sound
    (stands_for s engine dir (s.reads c.args.site.now) refl now.held now.sound)
    (nil_from_length dir.pending none)) c.tell.ensures

pub settle_pending-requires-clause-some : goal.settle_pending-requires-clause-some
settle_pending-requires-clause-some g c = λ none.
    let queue : c.queue.result.now ≡ c.args.engine.now.dir.pending = c.queue.ensures
    ∙ ap (λ (d : Directory). d.pending) c.dir.ensures in
    let so_many : length c.queue.result.now ≡ 0 = ap length queue ∙ ap length none in
    c.if-len-eq0.false (c.len.ensures.len ∙ so_many)

pub returns : goal.returns
returns g c = c.settle_pending.ensures
