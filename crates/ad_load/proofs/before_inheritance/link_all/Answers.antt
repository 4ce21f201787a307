use Rattle.std.proofs.Common.{List, length, map, subst, sym, ap, ◌∙◌, arith}
use Rattle.std.proofs.lemmas.Result.{err_from_is_err_and}
use Rattle.std.proofs.lemmas.List.{length-map}
use Rattle.ad_load_objects.specs.declared.drafts.Draft.{Draft as HeldDraft}
use Rattle.ad_load_objects.specs.Drafts.{Draft}
use Rattle.ad_load.specs.Links.{domain_of, objects_of}
use Rattle.ad_load.specs.Counting.{IsCounted}
use Rattle.ad_load_objects.specs.Seen.{draft_seen}
use Rattle.ad_load.proofs.Bounds.{objects_stop}
use Rattle.ad_load.proofs.before_inheritance.link_all.Goals as goal

pub count-requires : goal.count-requires
count-requires g c = record {
  few = omega (arith, c.requires.0, ap length c.as_slice-items.ensures.value);
  domain = c.as_ref-domain.ensures.value ∙ c.domain_of-of_root.ensures;
}

pub objects_with-requires : goal.objects_with-requires
objects_with-requires g c = record {
  few = c.requires.0;
  indexed = c.requires.1.0;
  domain = c.as_ref-domain.ensures.value ∙ c.domain_of-of_root.ensures
      ∙ ap (λ (ds : List HeldDraft). domain_of c.args.schema.now (map draft_seen ds)) c.as_slice-items.ensures.value;
}

pub returns-in_err-objects : goal.returns-in_err-objects
returns-in_err-objects g c =
    let p = err_from_is_err_and c.from_residual-in_err-objects.result c.from_residual-in_err-objects.ensures.1 in
    let all = ap (objects_of c.args.schema.now) c.requires.1.1 in
    rw (p.1, p.2) (λ m. objects_stop c.args.schema.now g.all c.in_err-objects.field-0.0
    (all ∙ c.in_err-objects.ensures m))

pub before_of-requires : goal.before_of-requires
before_of-requires g c =
    let items = c.args.drafts.items.items in
    let schema = c.args.schema.now in
    let same = c.requires.1.1 in (
      omega (arith, c.requires.0, length-map items draft_seen, ap length same),
      (
        c.as_ref-domain.ensures.value ∙ c.domain_of-of_root.ensures
            ∙ ap (λ (ds : List HeldDraft). domain_of schema (map draft_seen ds)) c.as_slice-items.ensures.value
            ∙ ap (domain_of schema) (sym same),
        (
          ap (objects_of schema) same ∙ c.in_ok-objects.ensures,
          subst (λ (ds : List Draft). IsCounted schema ds c.in_ok-counted.counted)
              (ap (λ (ds : List HeldDraft). map draft_seen ds) c.as_slice-items.ensures.value ∙ sym same)
              c.in_ok-counted.ensures,
        ),
      ),
    )
