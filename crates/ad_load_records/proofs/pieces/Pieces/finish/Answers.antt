use Rattle.std.proofs.Common.{length, sym, ◌∙◌, ap, arith}
use Rattle.std.specs.Prelude.{option_map}
use Rattle.std.proofs.lemmas.Result.{err_from_is_err_and}
use Rattle.ad_load_records.specs.Faults.{at}
use Rattle.ad_load_records.specs.Pieces.{Came, gives}
use Rattle.ad_load_records.specs.Seen.{seen}
use Rattle.ad_load_records.proofs.Cutting.{stopped_end, open_end, records_few}
use Rattle.ad_load_records.proofs.pieces.Pieces.finish.Goals as goal

pub returns-in-Some-clause-records : goal.returns-in-Some-clause-records
returns-in-Some-clause-records c = λ _.
    rw (sym c.self.view_is) (stopped_end _ _ (ap (option_map (λ s. at s.0 s.1)) c.in-Some.is) c.self.inside.few)

pub returns-in_err-read_all-clause-records : goal.returns-in_err-read_all-clause-records
returns-in_err-read_all-clause-records c =
    let p = err_from_is_err_and c.from_residual.result c.from_residual.ensures.1 in
    rw (p.1, p.2) (λ m. rw (sym c.self.view_is)
    (open_end _ _ (ap (option_map (λ s. at s.0 s.1)) c.in_default.is) c.self.inside.few c.as_slice.ensures.value
    ∙ c.in_err-read_all.ensures.fault m))

pub returns-clause-records : goal.returns-clause-records
returns-clause-records c =
    rw (sym c.self.view_is) (open_end _ _ (ap (option_map (λ s. at s.0 s.1)) c.in_default.is) c.self.inside.few
    c.as_slice.ensures.value ∙ c.in_ok-read_all.ensures.read)

pub returns-clause-few : goal.returns-clause-few
returns-clause-few c =
    omega (
      arith,
      records_few seen _ _ _ _ c.in_ok-read_all.ensures.read,
      ap length c.as_slice.ensures.value,
      c.self.inside.records,
      c.self.inside.few,
    )
