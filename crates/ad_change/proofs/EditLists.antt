-- Lists of edits that grow at the end.
use Rattle.std.proofs.Common.{◌≡◌, ℕ, Bool, true, false, cond, List, [], ◌∷◌, ◌++◌, map, inl, inr, refl, sym, subst}
use Rattle.std.proofs.Common.{ap, ◌∙◌}
use Rattle.std.specs.List.{AllByRecursion, filter}
use Rattle.std.specs.Global.{Vec}
use Rattle.std.specs.Prelude.{not, Some}
use Rattle.std.proofs.lemmas.Bool.{cases_Bool}
use Rattle.std.proofs.lemmas.List.{map-append, append-nil}
use Rattle.prop_queue.specs.declared.pending.Pending.{Pending}
use Rattle.ad_dir_objects.specs.declared.edit.Edit.{Edit as EditIn}
use Rattle.ad_dir_objects.specs.declared.edit.Edit.TheVariants as edit
use Rattle.ad_dir.specs.Conditions.{HasNormal, AreEdits}
use Rattle.ad_dir_objects.specs.Seen.{edit_seen}
use Rattle.ad_dir_model.specs.Object.{Object}
use Rattle.ad_dir_model.specs.Objects.{Rise, object_of, object_at, numbers}
use Rattle.ad_dir_model.specs.Directory.{Directory, Edit, put_object, remove_object, put_queue}
use Rattle.ad_dir_model.specs.Changes.{goes_with}
use Rattle.ad_dir_model.specs.Protection.{numbers_where}
use Rattle.ad_dir_model.proofs.Finding.{at-of, all_found}
use Rattle.ad_change.specs.Removing.{loses, unlinked_at, losing_among, losing_of, removal_edits, AddsEdits}

both_normal : (first second : List EditIn) → AllByRecursion HasNormal first → AllByRecursion HasNormal second
    → AllByRecursion HasNormal (first ++ second)
both_normal [] second none others = others
both_normal (e ∷ es) second normal others = (normal.0, both_normal es second normal.1 others)

pub adds_one : (old new : List EditIn) (one : EditIn) (f : ℕ → Edit) (n : ℕ) (b : Bool) → b ≡ true → new ≡ old ++ one
    ∷ [] → edit_seen one ≡ f n
    → HasNormal one → AddsEdits old new (map f (cond b (n ∷ []) []))
adds_one old new one f n b is made seen normal = rw is (record {
  are = ap (map edit_seen) made ∙ map-append edit_seen old (one ∷ []) ∙ ap (λ (e : Edit). map edit_seen old ++ e ∷ [])
      seen;
  normal = λ before. subst (AllByRecursion HasNormal) (sym made) (both_normal old (one ∷ []) before (normal, tt));
})

pub adds_none : (old : List EditIn) (f : ℕ → Edit) (n : ℕ) (b : Bool) → b ≡ false
    → AddsEdits old old (map f (cond b (n ∷ []) []))
adds_none old f n b is = rw is (record { are = sym (append-nil (map edit_seen old)); normal = λ before. before })

-- ---- the objects that lose links, by their numbers

among_where : (test : Object → Bool) (os xs : List Object)
    → AllByRecursion (λ (o : Object). object_of os o.number ≡ Some o) xs
    → filter (λ (n : ℕ). test (object_at os n)) (map (λ (o : Object). o.number) xs) ≡ numbers_where test xs
among_where test os [] found = refl
among_where test os (x ∷ xs) found =
    let at : object_at os x.number ≡ x = at-of os x.number x found.0 in
    elim (cases_Bool (test x)) [
      | inl passes ↦ rw (at, passes) (ap (λ (ns : List ℕ). x.number ∷ ns) (among_where test os xs found.1))
      | inr fails ↦ rw (at, fails) (among_where test os xs found.1)
    ]

pub losing_all : (dir : Directory) (target : ℕ) → Rise dir.objects → losing_among dir target (numbers dir.objects)
    ≡ losing_of dir target
unfolding numbers
losing_all dir target rise = among_where (loses (goes_with dir target)) dir.objects dir.objects
    (all_found 0 dir.objects rise)

-- ---- the edits of a deletion

pub removal_edits_are : (dir : Directory) (target : ℕ) (going ns : List ℕ) (entries : Vec Pending)
    (first second third : List EditIn)
    → losing_among dir target ns ≡ losing_of dir target → first ≡ [] ++ edit.PutQueue entries ∷ []
    → entries.items ≡ filter (λ (entry : Pending). not (goes_with dir target entry.parent)) dir.pending
    → AddsEdits first second (map (λ (n : ℕ). put_object (unlinked_at dir target n)) (losing_among dir target ns))
    → AddsEdits second third (map (λ (n : ℕ). remove_object n) going) → AreEdits (removal_edits dir target going) third
removal_edits_are dir target going ns entries first second third are queue staying unlinks removes = record {
  are = removes.are ∙ ap (λ (es : List Edit). es ++ map (λ (n : ℕ). remove_object n) going)
      (unlinks.are ∙ ap (λ (es : List Edit). es ++ map (λ (n : ℕ). put_object (unlinked_at dir target n))
      (losing_among dir target ns))
      (ap (map edit_seen) queue ∙ ap (λ (ps : List Pending). put_queue ps ∷ []) staying)
      ∙ ap (λ (ks : List ℕ). put_queue (filter (λ (entry : Pending). not (goes_with dir target entry.parent))
      dir.pending)
      ∷ map (λ (n : ℕ). put_object (unlinked_at dir target n)) ks) are);
  normal = removes.normal (unlinks.normal (subst (AllByRecursion HasNormal) (sym queue) (tt, tt)));
}
