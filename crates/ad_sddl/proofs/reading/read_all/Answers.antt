use Rattle.std.proofs.Common.{sym, ◌∙◌}
use Rattle.std.proofs.lemmas.Result.{err_from_is_err_and}
use Rattle.std.specs.Option.{option_copied}
use Rattle.ad_sddl.specs.Reading.{parts_at}
use Rattle.ad_sddl.proofs.Loops.{parts_more, parts_stop, parts_end}
use Rattle.ad_sddl.proofs.reading.read_all.Goals as goal

pub returns-in_err-read_part : goal.returns-in_err-read_part
returns-in_err-read_part c =
    let p = err_from_is_err_and c.from_residual.result c.from_residual.ensures.1 in
    let i = c.parts.invariant in
    rw (p.1, p.2) (record {
      read = λ known. parts_stop (option_copied c.args.domain) i.0 c.parts.parts c.parts.input
          c.in_err-read_part.field-0.0 (parts_at (option_copied c.args.domain) c.args.parts.now c.args.input.now) i.1.0
          (c.in_err-read_part.ensures.read known) i.1.1;
    })

pub returns-then-is_empty : goal.returns-then-is_empty
returns-then-is_empty c =
    let i = c.parts.invariant in
    record {
      read = parts_end (option_copied c.args.domain) i.0 c.parts.parts c.parts.input c.read_part.new.parts
          c.read_part.new.input (parts_at (option_copied c.args.domain) c.args.parts.now c.args.input.now) i.1.0
          (sym c.is_empty.ensures ∙ c.if-is_empty.true) c.in_ok-read_part.ensures.read i.1.1;
    }

pub parts-preserved : goal.parts-preserved
parts-preserved c =
    let i = c.parts.invariant in
    parts_more (option_copied c.args.domain) i.0 c.parts.parts c.parts.input c.read_part.new.parts
    c.read_part.new.input (parts_at (option_copied c.args.domain) c.args.parts.now c.args.input.now) i.1.0
    c.in_ok-read_part.ensures.left (sym c.is_empty.ensures ∙ c.if-is_empty.false) c.in_ok-read_part.ensures.read
    i.1.1
