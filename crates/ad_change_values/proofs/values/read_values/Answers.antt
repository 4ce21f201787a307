use Rattle.std.proofs.Common.{◌≡◌, ℕ, ◌+◌, Bool, List, [], ◌∷◌, ◌++◌, sym, subst, ap, ◌∙◌}
use Rattle.std.specs.Option.{option_to_list}
use Rattle.std.specs.Result.{result_ok}
use Rattle.std.proofs.lemmas.Result.{err_from_is_err_and}
use Rattle.ad_bytes.specs.Reading.{IsBytes}
use Rattle.ad_needs_rules.specs.Checks.{or_code, first_failing}
use Rattle.ad_change_values.specs.Values.{value_in, reads, is_short}
use Rattle.ad_change_values.specs.Judging.{reading_checks}
use Rattle.ad_change_values.proofs.SentLaws.{AreReadTo, stops, was_held, reads_more, reads_no_more, is_long, are_read}
use Rattle.ad_change_values.proofs.values.read_values.Goals as goal

pub returns-in_err-one : goal.returns-in_err-one
returns-in_err-one c =
    let p = err_from_is_err_and c.from_residual.result c.from_residual.ensures.1 in
    let schema = c.args.schema.now in
    let attr = c.args.attr.0 in
    rw (p.1, p.2) (stops (or_code (reads schema attr c.as_slice.result.now) 21 ∷ [])
    (reading_checks schema attr c.args.sent.now) c.in_err-one.field-0.0
    (λ r is. reads_no_more schema attr c.args.sent.now c.loop-bytes.bytes-index c.bytes-item.result c.loop-bytes.short
    c.loop-bytes.read r
    c.loop-bytes-test.true c.bytes-item.is c.loop-bytes.invariant
    (ap (λ (xs : List ℕ). first_failing (or_code (reads schema attr xs) 21 ∷ [])) (sym c.as_slice.ensures) ∙ is))
    c.in_err-one.ensures)

pub loop-bytes-preserved : goal.loop-bytes-preserved
loop-bytes-preserved c =
    let schema = c.args.schema.now in
    let attr = c.args.attr.0 in
    let e : c.as_slice.result.now ≡ c.bytes-item.result = c.as_slice.ensures in
    subst (λ (b : Bool). AreReadTo schema attr c.args.sent.now (c.loop-bytes.bytes-index + 1) b c.read_more.new.read)
    (sym c.both-short.ensures)
    (reads_more schema attr c.args.sent.now c.loop-bytes.bytes-index c.bytes-item.result c.loop-bytes.short
    c.in_ok-one.one c.loop-bytes.read c.read_more.new.read
    c.loop-bytes-test.true c.bytes-item.is
    (ap (reads schema attr) (sym e) ∙ was_held (reads schema attr c.as_slice.result.now) 21 c.in_ok-one.ensures.0)
    (c.in_ok-one.ensures.1.0 ∙ ap (is_short schema attr) e)
    (c.in_ok-one.ensures.1.1 ∙ ap (λ (xs : List ℕ). c.loop-bytes.read
    ++ option_to_list (result_ok (value_in schema attr xs))) e)
    (subst IsBytes e c.in_ok-one.ensures.1.2) c.loop-bytes.invariant)

pub returns-then-not-short : goal.returns-then-not-short
returns-then-not-short c =
    is_long c.args.schema.now c.args.attr.0 c.args.sent.now c.loop-bytes.bytes-index c.loop-bytes.short
    c.loop-bytes.read c.loop-bytes-test.false
    c.loop-bytes.invariant c.if-not-short.true

pub returns : goal.returns
returns c =
    are_read c.args.schema.now c.args.attr.0 c.args.sent.now c.loop-bytes.bytes-index c.loop-bytes.short
    c.loop-bytes.read c.loop-bytes-test.false
    c.loop-bytes.invariant c.if-not-short.false
