-- The schema, the counters and the limits, in the parts that are judged.
use Rattle.std.proofs.Common.{◌≡◌, ◌∙◌, ℕ, ◌^◌, ◌<◌, ◌≤◌, true, false, List, length, Option, Some, None, sym, ap}
use Rattle.std.proofs.Common.{subst, arith}
use Rattle.std.specs.Prelude.{nat_le}
use Rattle.std.specs.List.{AllByRecursion, list_all}
use Rattle.std.proofs.lemmas.Bool.{false≢true, le-leb}
use Rattle.std.specs.Option.{option_and_then}
use Rattle.std.proofs.lemmas.Option.{none-some}
use Rattle.ad_ids.specs.SidValue.{SidValue}
use Rattle.ad_ids.specs.SidChild.{child_of}
use Rattle.ad_dn.specs.Text.{rdns_text}
use Rattle.ad_schema.specs.declared.line.SchemaRecord.{SchemaRecord}
use Rattle.ad_schema.specs.Classes.{classes_of}
use Rattle.ad_schema.specs.Sound.{MakeSchema}
use Rattle.prop_queue.specs.declared.pending.Pending.{Pending}
use Rattle.ad_dir_model.specs.Limits.{max_objects, max_weight, max_counter}
use Rattle.ad_dir_model.specs.Object.{Object}
use Rattle.ad_dir_model.specs.Objects.{object_of, object_at, Rise}
use Rattle.ad_dir_model.specs.Tree.{root}
use Rattle.ad_dir_model.specs.Identity.{sid_in, domain_sid, domain_child}
use Rattle.ad_dir_model.specs.Weight.{objects_weight, weight}
use Rattle.ad_dir_model.specs.Directory.{Directory, Meta}
use Rattle.ad_dir_model.specs.Soundness.{IsSoundFrame, default_reads, is_short, is_short_record}
use Rattle.ad_dir_model.proofs.Finding.{at-of, of-live, live-of, of_number}
use Rattle.ad_rows_sound.specs.Parts.{dir_of, IsCounted}
use Rattle.ad_rows_sound.proofs.Finds.{find_all}
use Rattle.ad_rows_sound.proofs.Leasts.{all_found}

module _ (schema : List SchemaRecord) (objects : List Object) (pending : List Pending) (meta : Meta) where
  abbrev dir : Directory
  dir = dir_of schema objects pending meta

  domain_is : (o : Object) → object_of objects root ≡ Some o → domain_sid dir ≡ sid_in schema o
  unfolding domain_sid
  domain_is o is = ap (sid_in schema) (at-of objects root o is)

  child_is : (o : Object) (rid : ℕ) → object_of objects root ≡ Some o → domain_child dir rid
      ≡ option_and_then (λ d. child_of d rid) (sid_in schema o)
  unfolding domain_child
  child_is o rid is = ap (option_and_then (λ d. child_of d rid)) (domain_is o is)

  number_fits : (n : ℕ) → n < 2 ^ 32 → n ≤ max_counter
  unfolding max_counter
  number_fits n fits = omega arith

  enough : length objects ≤ 65536 → length objects ≤ max_objects
  unfolding max_objects
  enough less = less

  lighter : objects_weight schema objects ≤ max_weight → weight dir ≤ max_weight
  unfolding weight
  lighter less = less

  -- the parts, of the domain's identifier as the root has it
  pub record AreFramed (o : Object) : Type 0 where
    pub defaults : list_all (default_reads (sid_in schema o)) (classes_of schema) ≡ true
    pub counted : AllByRecursion (IsCounted schema (sid_in schema o) meta) objects
    pub few : length objects ≤ 65536
    pub light : objects_weight schema objects ≤ max_weight
    pub suffix : is_short (rdns_text meta.suffix) ≡ true
    pub records : list_all is_short_record schema ≡ true

  pub frame_sound : (o : Object) → object_of objects root ≡ Some o → MakeSchema schema → meta.next_number < 2 ^ 32
      → meta.next_rid < 2 ^ 32 → AreFramed o → IsSoundFrame dir
  frame_sound o is makes number rid parts = record {
    schema = record {
      makes = makes;
      defaults_read
          = subst (λ (d : Option SidValue). list_all (default_reads d) (classes_of schema) ≡ true)
          (sym (domain_is o is)) parts.defaults;
    };
    counters = record {
      number_above = λ n live.
          let found : object_of objects n ≡ Some (object_at objects n) = of-live objects n live in
          subst (λ (m : ℕ). m < meta.next_number) (of_number objects n (object_at objects n) found)
          (find_all (IsCounted schema (sid_in schema o) meta) objects parts.counted n (object_at objects n)
          found).number;
      rid_above = λ n x r sid found has child.
          (find_all (IsCounted schema (sid_in schema o) meta) objects parts.counted n x found).rid r sid has
          (sym (child_is o r is) ∙ child);
      number_fits = number_fits meta.next_number number;
      rid_fits = number_fits meta.next_rid rid;
    };
    limits = record {
      objects = enough parts.few;
      weight = lighter parts.light;
      suffix = parts.suffix;
      records
          = parts.records;
    };
    root_live = live-of objects root o is;
  }

  no_more : IsSoundFrame dir → length objects ≤ 65536
  unfolding max_objects
  no_more sound = sound.limits.objects

  no_heavier : IsSoundFrame dir → objects_weight schema objects ≤ max_weight
  unfolding weight
  no_heavier sound = sound.limits.weight

  pub sound_frame : (o : Object) → object_of objects root ≡ Some o → Rise objects → IsSoundFrame dir → AreFramed o
  sound_frame o is rise sound = record {
    defaults = subst (λ (d : Option SidValue). list_all (default_reads d) (classes_of schema) ≡ true) (domain_is o is)
        sound.schema.defaults_read;
    counted = all_found (IsCounted schema (sid_in schema o) meta) 0 objects rise (λ n x found. record {
      number = subst (λ (m : ℕ). m < meta.next_number) (sym (of_number objects n x found))
          (sound.counters.number_above n (live-of objects n x found));
      rid = λ rid sid has child. sound.counters.rid_above n x rid sid found has (child_is o rid is ∙ child);
    });
    few = no_more sound;
    light = no_heavier sound;
    suffix = sound.limits.suffix;
    records = sound.limits.records;
  }

  pub rootless : object_of objects root ≡ None → IsSoundFrame dir → ⊥
  rootless none sound = none-some (object_at objects root) (sym none ∙ of-live objects root sound.root_live)

  pub too_many : 65536 < length objects → IsSoundFrame dir → ⊥
  too_many more sound = let less = no_more sound in omega (arith, more, less)

  pub too_heavy : nat_le (objects_weight schema objects) max_weight ≡ false → IsSoundFrame dir → ⊥
  too_heavy heavy sound = false≢true (sym heavy ∙ le-leb (objects_weight schema objects) max_weight (no_heavier sound))
