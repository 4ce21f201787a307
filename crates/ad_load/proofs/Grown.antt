-- Each draft adds one object.
use Rattle.std.proofs.Common.{◌≡◌, ◌+◌, ◌≤◌, Option, Ok, List, [], ◌∷◌, ◌++◌, length, sym, ap, arith, ◌∙◌}
use Rattle.ad_ids.specs.SidValue.{SidValue}
use Rattle.ad_schema.specs.declared.line.SchemaRecord.{SchemaRecord}
use Rattle.ad_dir_model.specs.Object.{Object}
use Rattle.ad_load_objects.specs.Through.{through}
use Rattle.ad_load_objects.specs.Drafts.{Draft}
use Rattle.ad_load.specs.Links.{domain_of, object_of, with_object, objects_of}
use Rattle.ad_load_records.proofs.Inverting.{bind_ok}
use Rattle.ad_load_objects.proofs.Places.{length_more}

pub object_more : (schema : List SchemaRecord) (drafts : List Draft) (domain : Option SidValue)
    (objects next : List Object) (d : Draft) → with_object schema drafts domain objects d ≡ Ok next
    → length next ≤ length objects + 1
unfolding with_object
object_more schema drafts domain objects next d e =
    let a = bind_ok (object_of schema drafts domain (length objects + 1) d) _ next e in
    let same : objects ++ a.0 ∷ [] ≡ next = cc in
    let long : length (objects ++ a.0 ∷ []) ≡ length next = ap length same in
    omega (arith, long, length_more objects a.0)

pub objects_by : (schema : List SchemaRecord) (items drafts : List Draft) (domain : Option SidValue)
    → items ≡ drafts → domain ≡ domain_of schema items → objects_of schema items
    ≡ through (with_object schema drafts domain) [] items
unfolding objects_of
objects_by schema items drafts domain same is =
    ap (λ (d : Option SidValue). through (with_object schema items d) [] items) (sym is)
    ∙ ap (λ (all : List Draft). through (with_object schema all domain) [] items) same
