-- What a run puts may be put, one after the other, and after it the pending list.
use Rattle.std.proofs.Common.{◌≡◌, ℕ, Bool, true, false, List, [], ◌∷◌, ◌++◌, map, Option, Some, None, inl, inr, refl}
use Rattle.std.proofs.Common.{sym, subst, ap, ◌∙◌}
use Rattle.std.specs.Prelude.{filter, if◌then◌else◌, ◌&&◌}
use Rattle.std.specs.List.{AllByRecursion}
use Rattle.std.proofs.lemmas.Bool.{cases_Bool, and_parts, not-false}
use Rattle.ad_sd.specs.declared.parts.Sd.{Sd}
use Rattle.prop_queue.specs.declared.pending.Pending.{Pending}
use Rattle.prop_queue.specs.Pending.{AreDistinct, marked}
use Rattle.ad_dir_objects.specs.declared.object.Object.{Object as ObjectIn}
use Rattle.ad_dir_objects.specs.Seen.{object_seen}
use Rattle.ad_dir.specs.Conditions.{MayPut}
use Rattle.ad_dir.proofs.AllMay.{MayAll}
use Rattle.ad_dir.proofs.Replacing.{IsAlike, AreAlike, alike_itself, alike_put, may_put}
use Rattle.ad_dir_model.specs.Object.{Object}
use Rattle.ad_dir_model.specs.Objects.{is_live, object_at, sd_at, put}
use Rattle.ad_dir_model.specs.Directory.{Directory, put_object, put_queue, edited}
use Rattle.ad_dir_model.specs.SameSd.{same_sd}
use Rattle.ad_dir_model.specs.Inheritance.{marked_if_changed}
use Rattle.ad_dir_model.specs.Protection.{Mark, admin_count, has_mark, with_mark, protected_object, changes}
use Rattle.ad_dir_model.specs.Edits.{protecting, all_marked}
use Rattle.ad_dir_model.specs.Soundness.{IsSound, IsSoundObject}
use Rattle.ad_dir_model.proofs.Finding.{of-live, at_number}
use Rattle.ad_dir_model.proofs.Marking.{values_marked, number_kept, parent_kept, class_kept, name_kept}
use Rattle.ad_dir_model.proofs.Marking.{sd_given as sd_is_given, content_marked, links_marked, sid_marked}
use Rattle.ad_dir_model.proofs.PendingLaws.{AreLive, live_marked_if, distinct_marked_if, live_in_more}
use Rattle.ad_dir_model.proofs.Alike.{with_those}

pub number_of_put : (dir : Directory) (sd : Sd) (n : ℕ) → is_live dir.objects n ≡ true → (protecting dir sd n).number
    ≡ n
number_of_put dir sd n live = number_kept dir sd (object_at dir.objects n) ∙ at_number dir.objects n live

live_put_of : (dir : Directory) (sd : Sd) (n : ℕ) → is_live dir.objects n ≡ true
    → is_live dir.objects (protecting dir sd n).number ≡ true
live_put_of dir sd n live = ap (is_live dir.objects) (number_of_put dir sd n live) ∙ live

-- ---- what is put

mark_beside : (has : Bool) (mark : Option Mark) (x : Object) (sd : Sd)
    → (if has then record x { sd = sd } else with_mark mark (record x { sd = sd }))
    ≡ record (if has then x else with_mark mark x) { sd = sd }
mark_beside true mark x sd = refl
mark_beside false None x sd = refl
mark_beside false (Some m) x sd = refl

pub put_seen : (dir : Directory) (sd own : Sd) (n : ℕ) (o put : ObjectIn) (has : Bool) (mark : Option Mark)
    → object_seen o own ≡ object_at dir.objects n
    → mark ≡ admin_count dir.schema → has ≡ has_mark mark (object_at dir.objects n)
    → object_seen put sd ≡ (if has then object_seen o sd else with_mark mark (object_seen o sd)) → object_seen put sd
    ≡ protecting dir sd n
unfolding protected_object
put_seen dir sd own n o put has mark seen of_schema has_it is =
    is ∙ ap (λ (y : Object). if has then y else with_mark mark y) (ap (λ (y : Object). record y { sd = sd }) seen)
    ∙ mark_beside has mark (object_at dir.objects n) sd
    ∙ ap (λ (b : Bool). record (if b then object_at dir.objects n else with_mark mark (object_at dir.objects n))
    { sd = sd }) has_it
    ∙ ap (λ (m : Option Mark). record (if has_mark m (object_at dir.objects n) then object_at dir.objects n
    else with_mark m (object_at dir.objects n)) { sd = sd }) of_schema

-- ---- each may be put

alike_of_put : (dir : Directory) (sd : Sd) (n : ℕ) → is_live dir.objects n ≡ true
    → IsAlike dir.schema (protecting dir sd n) (object_at dir.objects (protecting dir sd n).number)
alike_of_put dir sd n live =
    subst (λ (k : ℕ). IsAlike dir.schema (protecting dir sd n) (object_at dir.objects k))
    (sym (number_of_put dir sd n live)) (record {
      parent = parent_kept dir sd (object_at dir.objects n);
      name = name_kept dir sd (object_at dir.objects n);
      sid = sid_marked dir.schema (object_at dir.objects n) (protecting dir sd n)
          (values_marked dir sd (object_at dir.objects n));
    })

one_may : (dir : Directory) (sd : Sd) (n : ℕ) (os : List Object) (ps : List Pending) → IsSound dir
    → AreAlike dir.schema os dir.objects
    → is_live dir.objects n ≡ true → MayPut (with_those dir os ps) (protecting dir sd n)
one_may dir sd n os ps sound alike live =
    let x : Object = object_at dir.objects n in
    let from = values_marked dir sd (object_at dir.objects n) in
    let is : IsSoundObject dir (object_at dir.objects n) = sound.each n (object_at dir.objects n)
    (of-live dir.objects n live) in
    may_put dir os ps (protecting dir sd n) sound alike (live_put_of dir sd n live) (alike_of_put dir sd n live)
    (content_marked dir.schema (object_at dir.objects n) (protecting dir sd n) from
    (class_kept dir sd (object_at dir.objects n)) (name_kept dir sd (object_at dir.objects n)) is.content)
    (links_marked dir.schema (λ (m : ℕ). is_live dir.objects m ≡ true) (object_at dir.objects n).values
    (protecting dir sd n).values from is.links)

all_may_from : (dir : Directory) (sd : Sd) (ns : List ℕ) (os : List Object) (ps pending : List Pending) → IsSound dir
    → AreAlike dir.schema os dir.objects
    → AllByRecursion (λ (n : ℕ). is_live dir.objects n ≡ true) ns → AreLive dir.objects pending → AreDistinct pending
    → MayAll (with_those dir os ps) (map (λ n. put_object (protecting dir sd n)) ns ++ put_queue pending ∷ [])
unfolding edited
all_may_from dir sd [] os ps pending sound alike all live distinct =
    (record { live = live_in_more dir.objects os pending (λ n l. alike.live n ∙ l) live; distinct = distinct }, tt)
all_may_from dir sd (n ∷ ns) os ps pending sound alike all live distinct = (
  one_may dir sd n os ps sound alike all.0,
  all_may_from dir sd ns (put (protecting dir sd n) os) ps pending sound
      (alike_put dir.schema os dir.objects (protecting dir sd n) alike (live_put_of dir sd n all.0)
      (alike_of_put dir sd n all.0)) all.1 live distinct,
)

-- ---- the pending list

pub mark_one : (dir : Directory) (sd : Sd) (n : ℕ) (ps : List Pending) → is_live dir.objects n ≡ true
    → marked_if_changed (sd_at dir.objects (protecting dir sd n).number) (protecting dir sd n) ps
    ≡ (if same_sd (sd_at dir.objects n) sd then ps else marked n ps)
unfolding marked_if_changed
mark_one dir sd n ps live =
    let number = number_of_put dir sd n live in
    ap (λ (k : ℕ). if same_sd (sd_at dir.objects k) (protecting dir sd n).sd then ps
    else marked (protecting dir sd n).number ps) number
    ∙ ap (λ (k : ℕ). if same_sd (sd_at dir.objects n) (protecting dir sd n).sd then ps else marked k ps) number
    ∙ ap (λ (own : Sd). if same_sd (sd_at dir.objects n) own then ps else marked n ps)
    (sd_is_given dir sd (object_at dir.objects n))

marks_live : (dir : Directory) (sd : Sd) (ns : List ℕ) (ps : List Pending)
    → AllByRecursion (λ (n : ℕ). is_live dir.objects n ≡ true) ns
    → AreLive dir.objects ps → AreLive dir.objects (all_marked dir sd ns ps)
unfolding all_marked
marks_live dir sd [] ps all live = live
marks_live dir sd (n ∷ ns) ps all live =
    marks_live dir sd ns (marked_if_changed (sd_at dir.objects (protecting dir sd n).number) (protecting dir sd n) ps)
    all.1
    (live_marked_if dir.objects (sd_at dir.objects (protecting dir sd n).number) (protecting dir sd n) ps
    (live_put_of dir sd n all.0) live)

marks_distinct : (dir : Directory) (sd : Sd) (ns : List ℕ) (ps : List Pending) → AreDistinct ps
    → AreDistinct (all_marked dir sd ns ps)
unfolding all_marked
marks_distinct dir sd [] ps distinct = distinct
marks_distinct dir sd (n ∷ ns) ps distinct =
    marks_distinct dir sd ns (marked_if_changed (sd_at dir.objects (protecting dir sd n).number) (protecting dir sd n)
    ps)
    (distinct_marked_if (sd_at dir.objects (protecting dir sd n).number) (protecting dir sd n) ps distinct)

-- one more object of those that are left
pub marks_more : (dir : Directory) (sd : Sd) (n : ℕ) (ns : List ℕ) (ps new : List Pending) → is_live dir.objects n
    ≡ true
    → new ≡ (if same_sd (sd_at dir.objects n) sd then ps else marked n ps) → all_marked dir sd ns new
    ≡ all_marked dir sd (n ∷ ns) ps
unfolding all_marked
marks_more dir sd n ns ps new live is = ap (all_marked dir sd ns) (is ∙ sym (mark_one dir sd n ps live))

pub marks_done : (dir : Directory) (sd : Sd) (ps : List Pending) → all_marked dir sd [] ps ≡ ps
unfolding all_marked
marks_done dir sd ps = refl

cons_not : (n : ℕ) (ns : List ℕ) → n ∷ ns ≡ [] → ⊥
cons_not n ns e = cc

-- where none changes, none is marked
pub none_marked : (dir : Directory) (sd : Sd) (ns : List ℕ) (ps : List Pending)
    → AllByRecursion (λ (n : ℕ). is_live dir.objects n ≡ true) ns
    → filter (changes dir sd) ns ≡ [] → all_marked dir sd ns ps ≡ ps
none_marked dir sd [] ps all none = marks_done dir sd ps
none_marked dir sd (n ∷ ns) ps all none =
    elim (cases_Bool (changes dir sd n)) [
      | inl change ↦ absurd (cons_not n (filter (changes dir sd) ns) (rw change at none))
      | inr same ↦
          let rest : filter (changes dir sd) ns ≡ [] = rw same at none in
          let parts = and_parts (same_sd (sd_at dir.objects n) sd)
          (has_mark (admin_count dir.schema) (object_at dir.objects n))
          (not-false (same_sd (sd_at dir.objects n) sd && has_mark (admin_count dir.schema) (object_at dir.objects n))
          same) in
          sym (marks_more dir sd n ns ps ps all.0 (sym (ap (λ (b : Bool). if b then ps else marked n ps) parts.0)))
          ∙ none_marked dir sd ns ps all.1 rest
    ]

-- ---- all of them

filter_live : (test : ℕ → Bool) (P : ℕ → Type 0) (ns : List ℕ) → AllByRecursion P ns → AllByRecursion P (filter test ns)
filter_live test P [] all = tt
filter_live test P (n ∷ ns) all =
    elim (cases_Bool (test n)) [
      | inl passes ↦ rw passes (all.0, filter_live test P ns all.1)
      | inr fails ↦ rw fails (filter_live test P ns all.1)
    ]

pub run_may : (dir : Directory) (sd : Sd) (ns : List ℕ) → IsSound dir
    → AllByRecursion (λ (n : ℕ). is_live dir.objects n ≡ true) ns
    → MayAll dir (map (λ n. put_object (protecting dir sd n)) (filter (changes dir sd) ns)
    ++ put_queue (all_marked dir sd ns dir.pending) ∷ [])
run_may dir sd ns sound all =
    all_may_from dir sd (filter (changes dir sd) ns) dir.objects dir.pending (all_marked dir sd ns dir.pending) sound
    (alike_itself dir.schema dir.objects)
    (filter_live (changes dir sd) (λ (n : ℕ). is_live dir.objects n ≡ true) ns all)
    (marks_live dir sd ns dir.pending all sound.live) (marks_distinct dir sd ns dir.pending sound.distinct)
