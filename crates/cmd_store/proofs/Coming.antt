-- How a text goes on piece by piece.
use Rattle.std.proofs.Common.{◌≡◌, ℕ, List, ◌++◌, take, Option, ap, ◌∙◌, append_assoc}
use Rattle.site_io.specs.Told.{Took}
use Rattle.site_io.proofs.Reading.{reads_on}
use Rattle.ad_load_records.specs.Pieces.{Came, gives}
use Rattle.ad_load_records.specs.Records.{records_in}
use Rattle.cmd_store.specs.Input.{HasCome}

-- what a piece more gives
gives_on : (text piece behind : List ℕ) (old : Came) → ((more : List ℕ) → records_in (text ++ more) ≡ gives old more)
    → records_in ((text ++ piece) ++ behind) ≡ gives old (piece ++ behind)
gives_on text piece behind old so_far = ap records_in (append_assoc text piece behind) ∙ so_far (piece ++ behind)

pub one_more : (rest mid left : Option (List ℕ)) (old new : Came) (into : List ℕ) (n : ℕ) → HasCome rest mid old
    → Took mid left n into
    → ((behind : List ℕ) → gives old (take n into ++ behind) ≡ gives new behind) → HasCome rest left new
one_more rest mid left old new into n came took next = record {
  text = came.text ++ take n into;
  told = reads_on rest mid left came.text into n came.told took;
  goes_on = λ behind. gives_on came.text (take n into) behind old came.goes_on ∙ next behind;
}
