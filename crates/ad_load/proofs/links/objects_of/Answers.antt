use Rattle.std.proofs.Common.{List, [], length, map, sym, ap, ◌∙◌, ◌≡◌, ◌∷◌, arith}
use Rattle.std.specs.Option.{option_copied}
use Rattle.std.specs.Vec.Iter.{into_iter_items}
use Rattle.std.proofs.lemmas.Result.{err_from_is_err_and}
use Rattle.std.proofs.lemmas.List.{length-map}
use Rattle.ad_load_objects.specs.declared.drafts.Draft.{Draft as HeldDraft}
use Rattle.ad_load_objects.specs.Through.{through}
use Rattle.ad_load.specs.Links.{with_object}
use Rattle.ad_load_objects.specs.Seen.{draft_seen}
use Rattle.ad_load.specs.Seen.{entry_seen}
use Rattle.ad_load_objects.proofs.Through.{taken_through, taken_stops, all_taken}
use Rattle.ad_load.proofs.Grown.{object_more, objects_by}
use Rattle.ad_load.proofs.links.objects_of.Goals as goal

pub returns-in_err-add_object : goal.returns-in_err-add_object
returns-in_err-add_object g c =
    let p = err_from_is_err_and c.from_residual-in_err-add_object.result c.from_residual-in_err-add_object.ensures.1 in
    let at = c.loop-draft in
    let domain = option_copied c.args.domain in
    let step = with_object c.args.schema.now g.all domain in
    let by = objects_by c.args.schema.now (map draft_seen c.args.items.items) g.all domain (sym c.requires.1.1.0)
    c.requires.1.1.1 in
    let all = ap (λ (ds : List HeldDraft). through step [] (map draft_seen ds))
    (sym c.into_iter-draft-iterator.ensures.into_iter_gives.0) in
    rw (p.1, p.2) (λ m. by ∙ all ∙ sym at.invariant.made ∙ taken_stops step draft_seen
    (into_iter_items at.draft-iterator) (into_iter_items c.next.new.self) c.in-Some.draft
    (map entry_seen at.objects.items) c.in_err-add_object.field-0.0 c.in-Some.ensures.steps.0
    (c.in_err-add_object.ensures m))

pub loop-draft-preserved : goal.loop-draft-preserved
loop-draft-preserved g c =
    let at = c.loop-draft in
    let domain = option_copied c.args.domain in
    let steps : into_iter_items at.draft-iterator ≡ c.in-Some.draft ∷ into_iter_items c.next.new.self
    = c.in-Some.ensures.steps.0 in
    let short = ap length steps in
    record {
      made =
          sym (taken_through (with_object c.args.schema.now g.all domain) draft_seen
          (into_iter_items at.draft-iterator) (into_iter_items c.next.new.self) c.in-Some.draft
          (map entry_seen at.objects.items) (map entry_seen c.add_object.new.objects.items) steps
          c.in_ok-add_object.ensures)
          ∙ at.invariant.made;
      len = omega (arith, short, c.in-Some.ensures.steps.1, at.invariant.len);
      few = omega (
        arith,
        short,
        at.invariant.few,
        length-map at.objects.items entry_seen,
        length-map c.add_object.new.objects.items entry_seen,
        object_more c.args.schema.now g.all domain (map entry_seen at.objects.items)
            (map entry_seen c.add_object.new.objects.items) (draft_seen c.in-Some.draft) c.in_ok-add_object.ensures,
      );
    }

pub returns : goal.returns
returns g c =
    let at = c.loop-draft in
    let domain = option_copied c.args.domain in
    let step = with_object c.args.schema.now g.all domain in
    let by = objects_by c.args.schema.now (map draft_seen c.args.items.items) g.all domain (sym c.requires.1.1.0)
    c.requires.1.1.1 in
    let all = ap (λ (ds : List HeldDraft). through step [] (map draft_seen ds))
    (sym c.into_iter-draft-iterator.ensures.into_iter_gives.0) in
    by ∙ all ∙ sym at.invariant.made ∙ all_taken step draft_seen (into_iter_items at.draft-iterator)
    (map entry_seen at.objects.items) (sym at.invariant.len ∙ c.in-None.ensures.steps.0)
