use Rattle.std.proofs.Common.{sym, ap, ◌∙◌}
use Rattle.ad_dir_model.specs.Object.{Object}
use Rattle.ad_search.proofs.ParentLaws.{kept_so}
use Rattle.ad_search.proofs.parents.is_seen.Goals as goal

pub returns-in-Some-clause-seen : goal.returns-in-Some-clause-seen
returns-in-Some-clause-seen c =
    sym (c.requires.kept.each c.in-Some.ensures.known c.args.number c.if-number-eq1.false
    (sym (ap (λ (o : Object). o.parent) c.live_object.ensures) ∙ c.in-Some.ensures.number)
    ∙ c.in-Some.ensures.shows)

pub returns-clause-kept : goal.returns-clause-kept
returns-clause-kept c = record {
  mode = c.requires.kept.mode;
  each = λ known. kept_so c.args.dir.now c.args.token.now c.args.number c.live_object.result.now.parent
      c.is_visible-shows.result (sym c.requires.kept.mode ∙ c.if-list_mode.false) c.if-number-eq1.false
      (sym (ap (λ (o : Object). o.parent) c.live_object.ensures)) (sym c.is_visible-shows.ensures);
}
