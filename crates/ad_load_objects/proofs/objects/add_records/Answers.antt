use Rattle.std.proofs.Common.{◌≡◌, ◌∷◌, [], List, length, map, sym, ap, ◌∙◌, arith}
use Rattle.std.specs.Vec.Iter.{into_iter_items}
use Rattle.std.proofs.lemmas.Result.{err_from_is_err_and}
use Rattle.std.proofs.lemmas.List.{length-map}
use Rattle.ad_load_records.specs.declared.records.Record.{Record as Held}
use Rattle.ad_load_objects.specs.Through.{through}
use Rattle.ad_load_objects.specs.Objects.{with_record}
use Rattle.ad_load_objects.specs.Index.{drafts_seen}
use Rattle.ad_load_records.specs.Seen.{seen}
use Rattle.ad_load_objects.specs.Seen.{draft_seen}
use Rattle.ad_load_objects.proofs.Through.{taken_through, taken_stops, all_taken}
use Rattle.ad_load_objects.proofs.Grown.{record_more}
use Rattle.ad_load_objects.proofs.objects.add_records.Goals as goal

pub returns-in_err-add_record-clause-drafts : goal.returns-in_err-add_record-clause-drafts
returns-in_err-add_record-clause-drafts c =
    let p = err_from_is_err_and c.from_residual.result c.from_residual.ensures.1 in
    let at = c.loop-one in
    let all = ap (λ (rs : List Held). through (with_record c.args.schema.now) [] (map seen rs))
    (sym c.into_iter-one-iterator.ensures.into_iter_gives.0) in
    rw (p.1, p.2) (λ m. all ∙ sym at.invariant.made ∙ taken_stops
    (with_record c.args.schema.now) seen (into_iter_items at.one-iterator) (into_iter_items c.next.new.self)
    c.in-Some.one
    (drafts_seen at.drafts) c.in_err-add_record.field-0.0 c.in-Some.ensures.steps.0
    (c.in_err-add_record.ensures.made m))

pub loop-one-preserved : goal.loop-one-preserved
loop-one-preserved c =
    let at = c.loop-one in
    let steps : into_iter_items at.one-iterator ≡ c.in-Some.one ∷ into_iter_items c.next.new.self
    = c.in-Some.ensures.steps.0 in
    let short = ap length steps in
    let gone = c.in-Some.ensures.steps.1 in
    record {
      made =
          sym (taken_through
          (with_record c.args.schema.now) seen (into_iter_items at.one-iterator) (into_iter_items c.next.new.self)
          c.in-Some.one
          (drafts_seen at.drafts) (drafts_seen c.add_record.new.drafts) steps c.in_ok-add_record.ensures.made)
          ∙ at.invariant.made;
      len = omega (arith, short, gone, at.invariant.len);
      few = omega (
        arith,
        short,
        at.invariant.few,
        length-map at.drafts.items.items draft_seen,
        length-map c.add_record.new.drafts.items.items draft_seen,
        record_more c.args.schema.now
            (drafts_seen at.drafts) (drafts_seen c.add_record.new.drafts)
            (seen c.in-Some.one) c.in_ok-add_record.ensures.made,
      );
      indexed = c.in_ok-add_record.ensures.indexed;
      sids = c.in_ok-add_record.ensures.sids;
      found = c.in_ok-add_record.ensures.found;
    }

pub returns-clause-drafts : goal.returns-clause-drafts
returns-clause-drafts c =
    let at = c.loop-one in
    let all = ap (λ (rs : List Held). through (with_record c.args.schema.now) [] (map seen rs))
    (sym c.into_iter-one-iterator.ensures.into_iter_gives.0) in
    let none = c.in-None.ensures.steps.0 in
    all ∙ sym at.invariant.made ∙ all_taken
    (with_record c.args.schema.now) seen (into_iter_items at.one-iterator) (drafts_seen at.drafts)
    (sym at.invariant.len ∙ none)
