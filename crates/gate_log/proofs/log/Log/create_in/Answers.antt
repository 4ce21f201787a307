use Rattle.std.proofs.Common.{rules, ◌∙◌, List, ℕ, drop, sym, ap, subst, Ok}
use Rattle.gate_log.specs.Created.{IsCreated}
use Rattle.gate_log.specs.Layout.{snapshot}
use Rattle.gate_log.proofs.Creating.{done_create}
use Rattle.gate_log.proofs.log.Log.create_in.Goals as goal

pub begin-requires : goal.begin-requires
begin-requires g c =
    let body = c.body_in.ensures 1 (drop 22 c.args.bytes.items) (c.deref.ensures.value ∙ c.in_ok-whole.ensures) in
    c.deref-2.ensures.value ∙ c.in_ok-whole.ensures ∙ ap (snapshot 1) (sym body)

pub returns : goal.returns
returns g c =
    let body = c.body_in.ensures 1 (drop 22 c.args.bytes.items) (c.deref.ensures.value ∙ c.in_ok-whole.ensures) in
    subst (λ (b : List ℕ). IsCreated g.S.Site c.args.site.now c.begin.new.site b (Ok c.in_ok-begin.field-0)) body
    (done_create g.S.Site c.args.site.now c.are_empty.new.site c.begin.new.site c.body_in.result.now
    c.in_ok-begin.field-0 c.are_empty.ensures.outside (search rules) c.in_ok-begin.ensures)
