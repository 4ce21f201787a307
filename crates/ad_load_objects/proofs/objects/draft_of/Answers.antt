use Rattle.std.proofs.Common.{Result, Ok, sym, ap, ◌∙◌}
use Rattle.std.proofs.lemmas.Result.{err_from_is_err_and}
use Rattle.ad_bytes.specs.Reading.{◌>>=◌}
use Rattle.ad_load_records.specs.declared.fault.LoadFault.{LoadFault}
use Rattle.ad_load_objects.specs.Drafts.{Draft}
use Rattle.ad_load_objects.specs.Objects.{DraftValues}
use Rattle.ad_load_objects.proofs.objects.draft_of.Goals as goal

pub returns-in_err-at-clause-made : goal.returns-in_err-at-clause-made
returns-in_err-at-clause-made c =
    let p = err_from_is_err_and c.from_residual-in_err-at.result c.from_residual-in_err-at.ensures.1 in
    rw (p.1, p.2) (λ m. c.in_err-at.ensures.fault m)

pub returns-in_err-kept-clause-made : goal.returns-in_err-kept-clause-made
returns-in_err-kept-clause-made c =
    let p = err_from_is_err_and c.from_residual-in_err-kept.result c.from_residual-in_err-kept.ensures.1 in
    let at = c.in_ok-at.at in
    let draft : DraftValues → Draft = λ (kept : DraftValues). record {
      rdns = c.args.one.dn.rdns;
      parent = at.parent;
      class
          = at.class.0;
      given = kept.given;
      sd = kept.sd;
    } in
    rw (p.1, p.2) (λ m. c.in_ok-at.ensures.stands ∙ ap (λ (r : Result DraftValues LoadFault). r >>= λ kept. Ok (draft kept))
    (c.in_err-kept.ensures.made m))

pub returns-clause-made : goal.returns-clause-made
returns-clause-made c =
    let at = c.in_ok-at.at in
    let draft : DraftValues → Draft = λ (kept : DraftValues). record {
      rdns = c.args.one.dn.rdns;
      parent = at.parent;
      class
          = at.class.0;
      given = kept.given;
      sd = kept.sd;
    } in
    c.in_ok-at.ensures.stands ∙ ap (λ (r : Result DraftValues LoadFault). r >>= λ kept. Ok (draft kept))
    c.in_ok-kept.ensures.made
    ∙ ap (λ (d : Draft). Ok d) (sym c.draft_with-draft.ensures)
