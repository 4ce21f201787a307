use Rattle.std.proofs.Common.{Ok, sym, ap, ◌∙◌}
use Rattle.std.specs.Prelude.{is_ok}
use Rattle.std.proofs.lemmas.Result.{err_from_is_err_and}
use Rattle.ad_schema.proofs.finish.schema_of.Goals as goal

pub links_if_sound-requires-clause-attrs : goal.links_if_sound-requires-clause-attrs
links_if_sound-requires-clause-attrs c = rw c.as_slice.ensures.value c.requires.attrs

pub links_if_sound-requires-clause-classes : goal.links_if_sound-requires-clause-classes
links_if_sound-requires-clause-classes c = rw c.as_slice.ensures.value c.requires.classes

pub returns-in_err-found : goal.returns-in_err-found
returns-in_err-found c =
    let p = err_from_is_err_and c.from_residual.result c.from_residual.ensures.1 in
    rw (p.1, p.2) (rw c.as_slice.ensures.value at c.in_err-found.ensures.made)

pub over-requires-clause-links : goal.over-requires-clause-links
over-requires-clause-links c = rw c.as_slice.ensures.value at c.in_ok-found.ensures.links

pub over-requires-clause-cn : goal.over-requires-clause-cn
over-requires-clause-cn c = rw c.as_slice.ensures.value at c.in_ok-found.ensures.cn

pub over-requires-clause-few : goal.over-requires-clause-few
over-requires-clause-few c = c.in_ok-found.ensures.few

pub over-requires-clause-schema : goal.over-requires-clause-schema
over-requires-clause-schema c = record {
  added = c.requires.added;
  finished
      = ap is_ok (rw c.as_slice.ensures.value at c.in_ok-found.ensures.made);
}

pub returns : goal.returns
returns c = (rw c.as_slice.ensures.value at c.in_ok-found.ensures.made) ∙ ap Ok (sym c.in_ok-over.ensures)
