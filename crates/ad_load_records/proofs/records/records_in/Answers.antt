use Rattle.std.proofs.Common.{map, ap, ◌∙◌, arith, length}
use Rattle.std.proofs.lemmas.Result.{err_from_is_err_and}
use Rattle.ad_load_records.specs.Seen.{seen}
use Rattle.ad_load_records.proofs.Cutting.{whole_gives, records_few}
use Rattle.ad_load_records.proofs.Reading.{too_long}
use Rattle.ad_load_records.proofs.records.records_in.Goals as goal

pub returns-then-text-gt-MAX_TEXT-clause-records : goal.returns-then-text-gt-MAX_TEXT-clause-records
returns-then-text-gt-MAX_TEXT-clause-records c = λ m. too_long c.args.text.now c.if-text-gt-MAX_TEXT.true

pub returns-in_err-read_all-clause-records : goal.returns-in_err-read_all-clause-records
returns-in_err-read_all-clause-records c =
    let p = err_from_is_err_and c.from_residual.result c.from_residual.ensures.1 in
    rw (p.1, p.2) (λ m. whole_gives _ c.args.text.now (ap (map seen) c.new-records.ensures.items)
    c.if-text-gt-MAX_TEXT.false ∙ c.in_err-read_all.ensures.fault m)

pub returns-clause-records : goal.returns-clause-records
returns-clause-records c = whole_gives _ c.args.text.now (ap (map seen) c.new-records.ensures.items)
    c.if-text-gt-MAX_TEXT.false ∙ c.in_ok-read_all.ensures.read

pub returns-clause-few : goal.returns-clause-few
returns-clause-few c = omega (
  arith,
  records_few seen _ _ _ _ c.in_ok-read_all.ensures.read,
  ap length
      c.new-records.ensures.items,
  c.if-text-gt-MAX_TEXT.false,
)
