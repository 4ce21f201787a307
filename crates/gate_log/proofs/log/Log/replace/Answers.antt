use Rattle.std.proofs.Common.{refl, sym, subst, ◌+◌, ◌∷◌, []}
use Rattle.gate_log.specs.Rewriting.{is_two}
use Rattle.gate_log.specs.Layout.{snapshot_end}
use Rattle.gate_log.specs.Store.{Rests}
use Rattle.gate_log.specs.declared.version.Version.TheVariants.{Two}
use Rattle.gate_log.proofs.Calls.{settled_prepare, then_switch, rewritten_in}
use Rattle.gate_log.proofs.Outside.{touches_on, looks_touch}
use Rattle.gate_log.proofs.log.Log.replace.Goals as goal

pub returns-in_err-prepare-clause-any_moment : goal.returns-in_err-prepare-clause-any_moment
returns-in_err-prepare-clause-any_moment g c =
    let s = g.S.Site in
    let old = c.args.site.now in
    let mid = c.settle.new.site in
    let new = c.prepare.new.site in
    settled_prepare c.args.self.now c.args.body.now (s.reads old) (s.reads mid) (s.now old) (s.now mid) (s.now new)
    (s.left old) (s.left mid) (s.left new)
    c.settle.ensures.outside.held c.settle.ensures.outside.images c.settle.ensures.outside.moments
    c.prepare.ensures.any_moment

pub returns-in_err-switch-clause-any_moment : goal.returns-in_err-switch-clause-any_moment
returns-in_err-switch-clause-any_moment g c =
    let s = g.S.Site in
    let old = c.args.site.now in
    let mid = c.settle.new.site in
    let ready = c.prepare.new.site in
    let new = c.switch.new.site in
    then_switch c.args.self.now c.args.body.now (s.reads old) (s.reads mid) (s.reads ready) (s.now old) (s.now ready)
    (s.now new) (s.left old) (s.left ready) (s.left new)
    c.settle.ensures.outside.held c.in_ok-prepare.ensures.prepared c.switch.ensures.any_moment
    (settled_prepare c.args.self.now c.args.body.now (s.reads old) (s.reads mid) (s.now old) (s.now mid) (s.now ready)
    (s.left old) (s.left mid) (s.left ready)
    c.settle.ensures.outside.held c.settle.ensures.outside.images c.settle.ensures.outside.moments
    c.prepare.ensures.any_moment)

pub returns-clause-any_moment : goal.returns-clause-any_moment
returns-clause-any_moment g c =
    let s = g.S.Site in
    let old = c.args.site.now in
    let mid = c.settle.new.site in
    let ready = c.prepare.new.site in
    let new = c.switch.new.site in
    then_switch c.args.self.now c.args.body.now (s.reads old) (s.reads mid) (s.reads ready) (s.now old) (s.now ready)
    (s.now new) (s.left old) (s.left ready) (s.left new)
    c.settle.ensures.outside.held c.in_ok-prepare.ensures.prepared c.switch.ensures.any_moment
    (settled_prepare c.args.self.now c.args.body.now (s.reads old) (s.reads mid) (s.now old) (s.now mid) (s.now ready)
    (s.left old) (s.left mid) (s.left ready)
    c.settle.ensures.outside.held c.settle.ensures.outside.images c.settle.ensures.outside.moments
    c.prepare.ensures.any_moment)

pub returns-clause-rewritten : goal.returns-clause-rewritten
returns-clause-rewritten g c =
    let s = g.S.Site in
    let log = c.args.self.now in
    let body = c.args.body.now in
    rewritten_in log _ body (s.reads c.args.site.now) (s.reads c.settle.new.site) (s.reads c.prepare.new.site)
    (s.reads c.switch.new.site) c.settle.ensures.outside.held c.in_ok-prepare.ensures.prepared
    c.in_ok-switch.ensures.switched
    (λ held rests. record {
      rests = subst (λ end. Rests Two c.other_of-self.result (log.generation + 1) end c.is_second-self.result held
          (body ∷ [])) (sym c.snapshot_end-self.ensures)
          (subst (λ is_open. Rests Two c.other_of-self.result (log.generation + 1) (snapshot_end body) is_open held
          (body ∷ [])) (sym c.is_second-self.ensures)
          (subst (λ live. Rests Two live (log.generation + 1) (snapshot_end body) (is_two log.version) held
          (body ∷ [])) (sym c.other_of-self.ensures) rests));
      counts = (refl, refl);
    })

pub returns-in_err-settle-clause-outside : goal.returns-in_err-settle-clause-outside
returns-in_err-settle-clause-outside g c = looks_touch g.S.Site c.args.site.now c.settle.new.site
    c.settle.ensures.outside

pub returns-in_err-prepare-clause-outside : goal.returns-in_err-prepare-clause-outside
returns-in_err-prepare-clause-outside g c = touches_on g.S.Site c.args.site.now c.settle.new.site c.prepare.new.site
    (looks_touch g.S.Site c.args.site.now c.settle.new.site c.settle.ensures.outside) c.prepare.ensures.outside

pub returns-in_err-switch-clause-outside : goal.returns-in_err-switch-clause-outside
returns-in_err-switch-clause-outside g c =
    touches_on g.S.Site c.args.site.now c.prepare.new.site c.switch.new.site
    (touches_on g.S.Site c.args.site.now c.settle.new.site c.prepare.new.site
    (looks_touch g.S.Site c.args.site.now c.settle.new.site c.settle.ensures.outside) c.prepare.ensures.outside)
    c.switch.ensures.outside

pub returns-clause-outside : goal.returns-clause-outside
returns-clause-outside g c =
    touches_on g.S.Site c.args.site.now c.prepare.new.site c.switch.new.site
    (touches_on g.S.Site c.args.site.now c.settle.new.site c.prepare.new.site
    (looks_touch g.S.Site c.args.site.now c.settle.new.site c.settle.ensures.outside) c.prepare.ensures.outside)
    c.switch.ensures.outside
