use Rattle.std.proofs.Common.{◌≡◌, ◌∙◌, ◌≤◌, true, Option, Some, length, sym, ap, subst, arith}
use Rattle.std.specs.List.{AllByRecursion, list_all}
use Rattle.std.proofs.lemmas.Bool.{leb-true, false≢true}
use Rattle.std.proofs.lemmas.List.{length-map}
use Rattle.ad_ids.specs.SidValue.{SidValue}
use Rattle.ad_schema.specs.Classes.{classes_of}
use Rattle.ad_dir_model.specs.Identity.{sid_in}
use Rattle.ad_dir_model.specs.Objects.{object_of}
use Rattle.ad_dir_model.specs.Soundness.{default_reads, is_short_record}
use Rattle.ad_dir_objects.specs.Seen.{meta_seen, object_seen, objects_of}
use Rattle.ad_rows_sound.specs.Parts.{IsCounted}
use Rattle.ad_dir_model.specs.Limits.{max_weight}
use Rattle.ad_dir_model.specs.Weight.{objects_weight}
use Rattle.ad_rows_sound.proofs.Growing.{if_ok_map}
use Rattle.ad_rows_sound.proofs.Framed.{frame_sound, sound_frame, too_heavy}
use Rattle.ad_rows_sound.proofs.judging.is_frame.Goals as goal

pub returns-then-not-are_light : goal.returns-then-not-are_light
returns-then-not-are_light c = λ pending. (
  λ t. absurd (false≢true t),
  λ sound. absurd (too_heavy c.args.schema.now (objects_of c.args.objects.now) pending (meta_seen c.args.meta.now)
      (sym c.are_light.ensures ∙ c.if-not-are_light.true) sound),
)

pub returns-then-not-are_counted : goal.returns-then-not-are_counted
returns-then-not-are_counted c = λ pending. (
  λ t. absurd (false≢true t),
  λ sound.
      let schema = c.args.schema.now in
      let objects = objects_of c.args.objects.now in
      let meta = meta_seen c.args.meta.now in
      let root = object_seen c.in-Some.root.now.0 c.in-Some.root.now.1 in
      let found : object_of objects 1 ≡ Some root = sym c.in-Some.ensures in
      let domain = c.object_sid-domain.ensures c.in-Some.root.now.1 in
      let parts = sound_frame schema objects pending meta root found c.requires.rise sound in
      absurd (false≢true (sym c.if-not-are_counted.true ∙ c.are_counted.ensures.1
      (subst (λ (s : Option SidValue). AllByRecursion (IsCounted schema s meta) objects)
      (sym (c.as_ref.ensures.value ∙ domain)) parts.counted))),
)

pub returns : goal.returns
returns c =
    let schema = c.args.schema.now in
    let objects = objects_of c.args.objects.now in
    let meta = meta_seen c.args.meta.now in
    let root = object_seen c.in-Some.root.now.0 c.in-Some.root.now.1 in
    let found : object_of objects 1 ≡ Some root = sym c.in-Some.ensures in
    let domain = c.object_sid-domain.ensures c.in-Some.root.now.1 in
    let counted : AllByRecursion (IsCounted schema (sid_in schema root) meta) objects
    = subst (λ (s : Option SidValue). AllByRecursion (IsCounted schema s meta) objects)
    (c.as_ref.ensures.value ∙ domain) (c.are_counted.ensures.0 c.if-not-are_counted.false) in
    let within = c.requires.few in
    let count = length-map c.args.objects.now (λ entry. object_seen entry.0 entry.1) in
    let fewer : length objects ≤ 65536 = omega (arith, count, within) in
    let short = sym c.in_ok-is_short_name.ensures ∙ c.if-not-branch.false in
    let records : list_all is_short_record schema ≡ true = ap (list_all is_short_record) (sym c.records.ensures)
    ∙ sym c.are_short.ensures ∙ c.if-not-are_short.false in
    let lighter = leb-true (objects_weight schema objects) max_weight
    (sym c.are_light.ensures ∙ c.if-not-are_light.false) in
    if_ok_map c.defaults_read.result _ _ (λ read is pending. (
      λ t. frame_sound schema objects pending meta root found c.make_schema.ensures c.fits.ensures c.fits-2.ensures
          (record {
            defaults = subst (λ (s : Option SidValue). list_all (default_reads s) (classes_of schema) ≡ true)
                (c.as_ref-2.ensures.value ∙ domain) (sym is ∙ t);
            counted = counted;
            few = fewer;
            light = lighter;
            suffix = short;
            records = records;
          }),
      λ sound.
          let parts = sound_frame schema objects pending meta root found c.requires.rise sound in
          is ∙ subst (λ (s : Option SidValue). list_all (default_reads s) (classes_of schema) ≡ true)
          (sym (c.as_ref-2.ensures.value ∙ domain)) parts.defaults,
    )) c.defaults_read.ensures
