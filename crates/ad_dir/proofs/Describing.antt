-- What a directory keeps stays right where an object gets another descriptor.
use Rattle.std.proofs.Common.{◌≡◌, ℕ, ◌+◌, true, List, Option, Some, None, Result, Ok, Err, inl, inr, refl, sym}
use Rattle.std.proofs.Common.{subst, ap, ◌∙◌, arith}
use Rattle.std.specs.Prelude.{OnOk, OnErr, Bool}
use Rattle.std.specs.Option.{option_map_or, option_and_then}
use Rattle.std.proofs.lemmas.Option.{none-some}
use Rattle.ad_sd.specs.declared.parts.Sd.{Sd}
use Rattle.ad_schema.specs.declared.line.SchemaRecord.{SchemaRecord}
use Rattle.ad_dir_model.specs.Object.{Object}
use Rattle.ad_dir_model.specs.Objects.{object_of, object_at, is_live, Rise, put}
use Rattle.ad_dir_model.specs.Identity.{sid_in}
use Rattle.ad_dir_model.specs.Weight.{object_weight, objects_weight}
use Rattle.ad_dir_model.proofs.Finding.{of-live, at_number}
use Rattle.ad_dir_model.proofs.Placing.{put_or_before}
use Rattle.ad_dir_model.proofs.StepSound.{sid_with_sd}
use Rattle.ad_dir_table.specs.declared.change.Changes.{Changes}
use Rattle.ad_dir_table.specs.declared.index.Index.{Index}
use Rattle.ad_dir_table.specs.Entry.{Entry, objects_in}
use Rattle.ad_dir_table.specs.Exact.{name_of}
use Rattle.ad_dir_table.specs.KeyChanges.{Edits}
use Rattle.ad_dir_table.specs.Lists.{Moves}
use Rattle.ad_dir_table.specs.Indexed.{IsIndexed, HasOwnKeys, AreChanges, parent_of}
use Rattle.ad_dir_table.proofs.IndexLaws.{put_indexed}
use Rattle.ad_dir_links.specs.Counted.{IsCounted, AreCounted}
use Rattle.ad_dir.specs.Conditions.{with_sd}
use Rattle.ad_dir.specs.Weighing.{Weighs, weight_in}
use Rattle.ad_dir.proofs.WeighingLaws.{put_weighs, weighs_as}

-- whether it went well or not
pub either_holds : {A E : Type 0} (r : Result A E) (P : List Object → Type 0) (before after : List Entry) (o : Object)
    → OnOk r (objects_in after ≡ put o (objects_in before)) → OnErr r (after ≡ before) → P (objects_in before)
    → P (put o (objects_in before)) → P (objects_in after)
either_holds (Ok x) P before after o ok err old new = subst P (sym ok) new
either_holds (Err e) P before after o ok err old new =
    subst (λ (entries : List Entry). P (objects_in entries)) (sym err) old

-- no key changes
abbrev none : Changes
none = record {
  names = record { to = None; from = None };
  sids = record { to = None; from = None };
  parents = record { to = None; from = None };
}

no_edit : {V : Type 0} (number : ℕ) (f : V → Option ℕ) → Edits None None number f f
no_edit number f = record {
  mid = f;
  puts = record { here = λ v is. absurd (none-some v is); others = λ v apart. refl };
  takes = record { here = λ v is. absurd (none-some v is); others = λ v apart. refl };
}

no_move : (number : ℕ) (f : ℕ → List ℕ) → Moves None None number f f
no_move number f = record { mid = f; adds = λ p. refl; drops = λ p. refl }

alike : (schema : List SchemaRecord) (o : Object) (sd : Sd) → object_weight schema (with_sd sd o)
    ≡ object_weight schema o
unfolding object_weight
alike schema o sd = refl

module _ (schema : List SchemaRecord) (objects : List Object) (number : ℕ) (sd : Sd)
    (live : is_live objects number ≡ true) where
  abbrev before : Object
  before = object_at objects number

  abbrev now : Object
  now = with_sd sd before

  at : object_of objects number ≡ Some before
  at = of-live objects number live

  here : object_of objects now.number ≡ Some before
  here = ap (object_of objects) (at_number objects number live) ∙ at

  no_changes : AreChanges schema objects now none
  no_changes = record {
    names = inl (record { same = ap (option_and_then name_of) here; no_put = refl; no_take = refl });
    sids = inl (record {
      same = ap (option_and_then (sid_in schema)) here ∙ sym (sid_with_sd schema before sd);
      no_put = refl;
      no_take = refl;
    });
    parents = inl (record { same = ap (option_and_then parent_of) here; no_put = refl; no_take = refl });
  }

  pub described_indexed : (index : Index) → Rise objects → HasOwnKeys schema objects now
      → IsIndexed schema index objects → IsIndexed schema index (put now objects)
  described_indexed index rise own indexed =
      put_indexed schema index index none now objects rise own no_changes
      (record { names = no_edit now.number _; sids = no_edit now.number _; children = no_move now.number _ }) indexed

  pub described_counted : (flags : List Bool) (links : List (ℕ × ℕ)) → AreCounted flags links objects
      → AreCounted flags links (put now objects)
  described_counted flags links all n x is = elim (put_or_before now objects n x is) [
    | inl itself ↦ subst (IsCounted flags links) itself (all number before at)
    | inr found ↦ all n x found.live
  ]

  pub described_weighs : (known : Option ℕ) → Rise objects → Weighs schema known objects
      → Weighs schema known (put now objects)
  described_weighs known rise weighs =
      weighs_as known (objects_weight schema objects) (objects_weight schema (put now objects)) same weighs
    where
      one : weight_in schema objects now.number ≡ object_weight schema before
      one = ap (λ (found : Option Object). option_map_or (object_weight schema) found 0) here

      same : objects_weight schema objects ≡ objects_weight schema (put now objects)
      same =
          let all : objects_weight schema (put now objects) + weight_in schema objects now.number
          ≡ objects_weight schema objects + object_weight schema now = put_weighs schema 0 now objects rise in
          let own : object_weight schema now ≡ object_weight schema before = alike schema before sd in
          omega (arith, all, one, own)
