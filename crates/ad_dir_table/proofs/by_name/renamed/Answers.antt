use Rattle.std.proofs.Common.{refl, sym, ◌∙◌, inl, inr}
use Rattle.std.proofs.lemmas.Bool.{both_ways}
use Rattle.ad_dir_table.proofs.by_name.renamed.Goals as goal

pub returns-then-has_name_of : goal.returns-then-has_name_of
returns-then-has_name_of c = λ sd other. inl
    (record { same = (c.has_name_of.ensures sd other).0 c.if-has_name_of.true; no_put = refl; no_take = refl })

pub returns : goal.returns
returns c = λ sd other. inr (record {
  put = c.in_ok-key_of.ensures other;
  taken = c.in_ok-key_of-2.ensures sd;
  apart = λ v now was. both_ways c.has_name_of.result c.if-has_name_of.false
      ((c.has_name_of.ensures sd other).1 (was ∙ sym now));
})
