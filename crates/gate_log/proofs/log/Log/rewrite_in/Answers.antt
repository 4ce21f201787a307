use Rattle.std.proofs.Common.{◌+◌, ◌∙◌, inl, inr, refl, ℕ, List, drop, sym, ap, subst, Ok, Err}
use Rattle.std.proofs.lemmas.Result.{err_from_is_err_and}
use Rattle.gate_log.specs.Changed.{IsRewritten}
use Rattle.gate_log.specs.Layout.{snapshot}
use Rattle.gate_log.specs.declared.fault.LogFault.TheVariants.{Spent}
use Rattle.gate_log.proofs.Answered.{at_ok, at_err}
use Rattle.gate_log.proofs.Calls.{not_rewritten, failed_rewrite, done_rewrite}
use Rattle.gate_log.proofs.log.Log.rewrite_in.Goals as goal

pub returns-then-self : goal.returns-then-self
returns-then-self g c =
    not_rewritten g.S.Site c.args.site.now c.args.self.now (drop 22 c.args.bytes.items) Spent (Err Spent) refl
    (inl (refl, c.if-self.true)) c.requires.stands
    (λ t images out left. g.met.S.Site.left_until c.args.site.now t images out left)

pub returns-in_err-whole : goal.returns-in_err-whole
returns-in_err-whole g c =
    let p = err_from_is_err_and c.from_residual.result c.from_residual.ensures.1 in
    not_rewritten g.S.Site c.args.site.now c.args.self.now (drop 22 c.args.bytes.items) p.0 c.from_residual.result p.1
    (inr (p.2, c.if-self.false)) c.requires.stands
    (λ t images out left. g.met.S.Site.left_until c.args.site.now t images out left)

pub replace-requires-clause-spelled : goal.replace-requires-clause-spelled
replace-requires-clause-spelled g c =
    let body = c.body_in.ensures (c.args.self.now.generation + 1) (drop 22 c.args.bytes.items)
    (c.deref.ensures.value ∙ c.in_ok-whole.ensures) in
    c.deref-2.ensures.value ∙ c.in_ok-whole.ensures ∙ ap (snapshot (c.args.self.now.generation + 1)) (sym body)

pub returns-then-is_err : goal.returns-then-is_err
returns-then-is_err g c =
    let body = c.body_in.ensures (c.args.self.now.generation + 1) (drop 22 c.args.bytes.items)
    (c.deref.ensures.value ∙ c.in_ok-whole.ensures) in
    let failed = at_err c.replace.result (sym c.if-is_err.ensures.value) in
    failed_rewrite g.S.Site c.args.site.now c.replace.new.site c.args.self.now c.body_in.result.now
    (drop 22 c.args.bytes.items) body c.if-self.false refl c.replace.ensures.any_moment (c.replace.ensures.kept failed)
    c.replace.ensures.outside (c.replace.ensures.cause failed)

pub returns : goal.returns
returns g c =
    let body = c.body_in.ensures (c.args.self.now.generation + 1) (drop 22 c.args.bytes.items)
    (c.deref.ensures.value ∙ c.in_ok-whole.ensures) in
    let is = sym c.if-is_err.ensures.value in
    let made = c.replace.ensures in
    subst (λ (b : List ℕ). IsRewritten g.S.Site c.args.site.now c.replace.new.site c.args.self.now c.replace.new.self b
    (Ok tt)) body
    (done_rewrite g.S.Site c.args.site.now c.replace.new.site c.args.self.now c.replace.new.self c.body_in.result.now
    tt c.if-self.false c.requires.stands (at_ok c.replace.result is made.rewritten)
    (at_ok c.replace.result is made.lasts) made.any_moment (at_ok c.replace.result is made.counts)
    (at_ok c.replace.result is made.generation) (at_ok c.replace.result is made.version) made.spent made.outside)
