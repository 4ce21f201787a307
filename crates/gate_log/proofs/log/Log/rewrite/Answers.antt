use Rattle.std.proofs.Common.{inl, inr, refl, sym, Err}
use Rattle.std.proofs.lemmas.Result.{err_from_is_err_and}
use Rattle.gate_log.specs.declared.fault.LogFault.TheVariants.{Spent}
use Rattle.gate_log.proofs.Answered.{at_ok}
use Rattle.gate_log.proofs.Calls.{not_rewritten, done_rewrite}
use Rattle.gate_log.proofs.log.Log.rewrite.Goals as goal

pub returns-then-self : goal.returns-then-self
returns-then-self g c =
    not_rewritten g.S.Site c.args.site.now c.args.self.now c.args.body.now Spent (Err Spent) refl
    (inl (refl, c.if-self.true)) c.requires.stands
    (λ t images out left. g.met.S.Site.left_until c.args.site.now t images out left)

pub returns-in_err-bytes : goal.returns-in_err-bytes
returns-in_err-bytes g c =
    let p = err_from_is_err_and c.from_residual.result c.from_residual.ensures.1 in
    not_rewritten g.S.Site c.args.site.now c.args.self.now c.args.body.now p.0 c.from_residual.result p.1
    (inr (p.2, c.if-self.false)) c.requires.stands
    (λ t images out left. g.met.S.Site.left_until c.args.site.now t images out left)

pub returns : goal.returns
returns g c =
    let is = sym c.if-is_err.ensures.value in
    let made = c.replace.ensures in
    done_rewrite g.S.Site c.args.site.now c.replace.new.site c.args.self.now c.replace.new.self c.args.body.now tt
    c.if-self.false c.requires.stands (at_ok c.replace.result is made.rewritten) (at_ok c.replace.result is made.lasts)
    made.any_moment (at_ok c.replace.result is made.counts) (at_ok c.replace.result is made.generation)
    (at_ok c.replace.result is made.version) made.spent made.outside
