-- A protection run keeps a directory sound, and gives each protected object the frozen descriptor.
use Rattle.std.proofs.Common.{◌≡◌, ℕ, zero, suc, ◌+◌, ◌<◌, ◌≤◌, Bool, true, false, not, List, [], ◌∷◌, length, Option}
use Rattle.std.proofs.Common.{Some, None, ◌⊎◌, inl, inr, refl, sym, subst, ap, arith, ◌∙◌}
use Rattle.std.specs.Prelude.{nat_eq, nat_lt, if◌then◌else◌, ◌&&◌, ◌||◌}
use Rattle.std.specs.List.{AllByRecursion, list_any}
use Rattle.std.specs.Str.{bytes_eq}
use Rattle.std.proofs.lemmas.Bool.{eqb-true, eqb-false, ne_eqb, eq-eqb, ltb-true, cases_Bool, false≢true, or_cases}
use Rattle.std.proofs.lemmas.Bool.{or_left, or_right, or_parts, and_from}
use Rattle.std.proofs.lemmas.Option.{none-some, same_Some}
use Rattle.std.proofs.lemmas.Bool.Decides.{Decides-int_eq}
use Rattle.std.proofs.lemmas.Slice.Eq.{bytes_eq-Decides}
use Rattle.ad_dn.specs.Fold.{folded}
use Rattle.ad_sd.specs.declared.parts.Sd.{Sd}
use Rattle.ad_inherit.specs.Whole.{explicit_part, whole}
use Rattle.ad_inherit.specs.Frozen.{IsFrozen}
use Rattle.ad_inherit.proofs.Wholes.{whole-frozen, explicit_part-frozen}
use Rattle.ad_value.specs.declared.value.Key.{Key}
use Rattle.ad_value.specs.declared.value.Key.TheVariants as key
use Rattle.ad_value.specs.Value.{same_key}
use Rattle.prop_queue.specs.declared.pending.Pending.{Pending}
use Rattle.ad_dir_model.specs.Object.{Object, plain, stored_in, links_in}
use Rattle.ad_dir_model.specs.Objects.{RiseAbove, Rise, object_of, is_live, object_at, sd_at, put, parent_at}
use Rattle.ad_dir_model.specs.Tree.{root}
use Rattle.ad_schema.specs.declared.line.SchemaRecord.{SchemaRecord}
use Rattle.ad_dir_model.specs.Identity.{sid_in}
use Rattle.ad_dir_model.specs.Directory.{Directory}
use Rattle.ad_dir_model.specs.SameSd.{same_sd}
use Rattle.ad_dir_model.specs.Inheritance.{guid_at, whole_at, IsSettledOrCovered, marked_if_changed, stored}
use Rattle.ad_dir_model.specs.Changes.{with_values}
use Rattle.ad_dir_model.specs.Protection.{frozen, is_protected_alone, spread, has, Mark, admin_count, is_one_value}
use Rattle.ad_dir_model.specs.Protection.{has_mark, with_mark, protected_object, all_protected, protected, run_from}
use Rattle.ad_dir_model.specs.Protection.{protection_run}
use Rattle.ad_dir_model.specs.Names.{admin_sd_holder}
use Rattle.ad_dir_model.specs.Soundness.{HasOwnName, HasOwnSid, IsSoundObject, IsSound}
use Rattle.ad_dir_model.specs.Conditions.{Fits, MayReplace, KeepsParent}
use Rattle.ad_dir_model.proofs.Finding.{of_number, at-of, of-live, at_number, live-of, of_above, live-put}
use Rattle.ad_dir_model.proofs.Finding.{at-put_same, at-put_other}
use Rattle.ad_dir_model.proofs.SameSdLaws.{same_sd-refl}
use Rattle.ad_dir_model.proofs.Inheriting.{whole_below}
use Rattle.ad_dir_model.proofs.Placing.{all_live_more}
use Rattle.ad_dir_model.proofs.Frames.{lighter}
use Rattle.ad_dir_model.proofs.Writing.{stored_sound}
use Rattle.ad_dir_model.proofs.LeastSet.{where_live}
use Rattle.ad_dir_model.proofs.WithValues.{stored_same}
use Rattle.ad_dir_model.proofs.Marking.{IsMarkedFrom, values_marked, number_kept, parent_kept, class_kept, name_kept}
use Rattle.ad_dir_model.proofs.Marking.{sd_given, content_marked, links_marked, lighter_marked, sid_marked}
use Rattle.ad_dir_model.proofs.Freezing.{frozen_is, frozen_twice}

-- ---- one object

-- what the run puts for the object of a number
abbrev pub putting : Directory → Sd → ℕ → Object
putting dir sd n = protected_object dir sd (object_at dir.objects n)

pub putting_number : (dir : Directory) (sd : Sd) (n : ℕ) → is_live dir.objects n ≡ true → (putting dir sd n).number ≡ n
putting_number dir sd n live = number_kept dir sd (object_at dir.objects n) ∙ at_number dir.objects n live

name_free : (dir : Directory) (x y : Object) → y.number ≡ x.number → y.parent ≡ x.parent → y.name ≡ x.name
    → HasOwnName dir.objects x → HasOwnName dir.objects y
name_free dir x y number parent name own m other is same_parent same_name =
    own m other is (same_parent ∙ parent) (same_name ∙ ap folded name) ∙ sym number

sid_free : (dir : Directory) (x y : Object) → y.number ≡ x.number → IsMarkedFrom dir.schema x.values y.values
    → HasOwnSid dir.schema dir.objects x → HasOwnSid dir.schema dir.objects y
sid_free dir x y number from own m other sid is has_sid own_sid =
    own m other sid is has_sid (sym (sid_marked dir.schema x y from) ∙ own_sid) ∙ sym number

putting_fits : (dir : Directory) (sd : Sd) (n : ℕ) → IsSound dir → is_live dir.objects n ≡ true
    → Fits dir (putting dir sd n)
putting_fits dir sd n sound live =
    let x : Object = object_at dir.objects n in
    let before : IsSoundObject dir (object_at dir.objects n) = sound.each n (object_at dir.objects n)
    (of-live dir.objects n live) in
    let from = values_marked dir sd (object_at dir.objects n) in
    record {
      content = content_marked dir.schema (object_at dir.objects n) (putting dir sd n) from
          (class_kept dir sd (object_at dir.objects n)) (name_kept dir sd (object_at dir.objects n)) before.content;
      links = links_marked dir.schema (λ (m : ℕ). is_live (put (putting dir sd n) dir.objects) m ≡ true)
          (object_at dir.objects n).values (putting dir sd n).values from
          (all_live_more dir.objects (put (putting dir sd n) dir.objects) (links_in (object_at dir.objects n).values)
          (live-put (putting dir sd n) dir.objects) before.links);
      own_name = name_free dir (object_at dir.objects n) (putting dir sd n)
          (number_kept dir sd (object_at dir.objects n)) (parent_kept dir sd (object_at dir.objects n))
          (name_kept dir sd (object_at dir.objects n)) before.own_name;
      own_sid = sid_free dir (object_at dir.objects n) (putting dir sd n)
          (number_kept dir sd (object_at dir.objects n)) from before.own_sid;
    }

putting_replaces : (dir : Directory) (sd : Sd) (n : ℕ) → IsSound dir → is_live dir.objects n ≡ true
    → MayReplace dir (putting dir sd n)
putting_replaces dir sd n sound live = record {
  live = rw number live;
  fits = putting_fits dir sd n sound live;
  same_sid = sid_marked dir.schema (object_at dir.objects n) (putting dir sd n)
      (values_marked dir sd (object_at dir.objects n)) ∙ ap (λ (k : ℕ). sid_in dir.schema (object_at dir.objects k))
      (sym number);
  weight = lighter dir (putting dir sd n) (object_at dir.objects n) sound.rise sound.frame.limits
      (subst (λ (k : ℕ). object_of dir.objects k ≡ Some (object_at dir.objects n)) (sym number)
      (of-live dir.objects n live))
      (lighter_marked dir.schema (object_at dir.objects n) (putting dir sd n)
      (values_marked dir sd (object_at dir.objects n)) (name_kept dir sd (object_at dir.objects n)));
}
  where
    number : (putting dir sd n).number ≡ n
    number = putting_number dir sd n live

putting_keeps : (dir : Directory) (sd : Sd) (n : ℕ) → is_live dir.objects n ≡ true → KeepsParent dir (putting dir sd n)
putting_keeps dir sd n live = parent_kept dir sd (object_at dir.objects n) ∙ ap (parent_at dir.objects)
    (sym (putting_number dir sd n live))

-- a frozen descriptor is settled below any parent
frozen_settled : (dir : Directory) (o : Object) → IsFrozen o.sd → (o.number ≡ root → ⊥) → o.sd ≡ whole_at dir o
frozen_settled dir o is_frozen not_root = sym
    (whole-frozen (sd_at dir.objects o.parent) o.sd (guid_at dir.schema o.class) is_frozen)
    ∙ sym (whole_below dir o not_root)

pub put_sound : (dir : Directory) (sd : Sd) (n : ℕ) → IsSound dir → IsFrozen sd → is_live dir.objects n ≡ true
    → IsSound (stored dir (putting dir sd n))
put_sound dir sd n sound is_frozen live =
    stored_sound dir (putting dir sd n) sound (putting_replaces dir sd n sound live) (putting_keeps dir sd n live)
    (λ is_root. explicit_part-frozen (putting dir sd n).sd frozen_so)
    (λ not_root. inl (frozen_settled (stored dir (putting dir sd n)) (putting dir sd n) frozen_so not_root))
  where
    frozen_so : IsFrozen (putting dir sd n).sd
    frozen_so = subst IsFrozen (sym (sd_given dir sd (object_at dir.objects n))) is_frozen

-- ---- what one put does

objects_put : (dir : Directory) (o : Object) → (stored dir o).objects ≡ put o dir.objects
unfolding stored
objects_put dir o = refl

schema_put : (dir : Directory) (o : Object) → (stored dir o).schema ≡ dir.schema
unfolding stored
schema_put dir o = refl

live_stored : (dir : Directory) (o : Object) (n : ℕ) → is_live dir.objects n ≡ true → is_live (stored dir o).objects n
    ≡ true
unfolding stored
live_stored dir o n live = live-put o dir.objects n live

pub all_live_stored : (dir : Directory) (o : Object) (numbers : List ℕ)
    → AllByRecursion (λ (n : ℕ). is_live dir.objects n ≡ true) numbers
    → AllByRecursion (λ (n : ℕ). is_live (stored dir o).objects n ≡ true) numbers
unfolding stored
all_live_stored dir o numbers all = all_live_more dir.objects (put o dir.objects) numbers (live-put o dir.objects) all

-- ---- the run keeps soundness

pub all_sound : (sd : Sd) (numbers : List ℕ) (dir : Directory) → IsSound dir → IsFrozen sd
    → AllByRecursion (λ (n : ℕ). is_live dir.objects n ≡ true) numbers → IsSound (all_protected sd numbers dir)
unfolding all_protected
all_sound sd [] dir sound is_frozen all = sound
all_sound sd (n ∷ ns) dir sound is_frozen all =
    all_sound sd ns (stored dir (putting dir sd n)) (put_sound dir sd n sound is_frozen all.0) is_frozen
    (all_live_stored dir (putting dir sd n) ns all.1)

all_of_has : (P : ℕ → Type 0) (set : List ℕ) → ((n : ℕ) → has set n ≡ true → P n) → AllByRecursion P set
all_of_has P [] each = tt
all_of_has P (n ∷ ns) each = (
  each n (or_left (nat_eq n n) (has ns n) (eq-eqb n n refl)),
  all_of_has P ns
      (λ m is. each m (or_right (nat_eq n m) (has ns m) is)),
)

pub protected_live : (dir : Directory) → Rise dir.objects → AllByRecursion (λ (n : ℕ). is_live dir.objects n ≡ true)
    (protected dir)
unfolding protected
protected_live dir rise = all_of_has (λ (n : ℕ). is_live dir.objects n ≡ true) (protected dir)
    (λ n is. where_live (λ (o : Object). has (spread dir) o.number || is_protected_alone dir (sid_in dir.schema o))
    dir.objects n rise is)

run_from_sound : (dir : Directory) (holder : Option ℕ) → IsSound dir → IsSound (run_from dir holder).directory
run_from_sound dir None sound = sound
run_from_sound dir (Some n) sound = all_sound (frozen (sd_at dir.objects n)) (protected dir) dir sound
    (frozen_is (sd_at dir.objects n)) (protected_live dir sound.rise)

pub run_sound : (dir : Directory) → IsSound dir → IsSound (protection_run dir).directory
unfolding protection_run
run_sound dir sound = run_from_sound dir (admin_sd_holder dir) sound

-- ---- the descriptor, and adminCount

same_key_refl : (k : Key) → same_key k k ≡ true
same_key_refl (key.Bytes bytes) = (bytes_eq-Decides bytes bytes).1 refl
same_key_refl (key.Number n) = (Decides-int_eq n n).1 refl

mark_put : (mark : Option Mark) (o : Object) → has_mark mark (if has_mark mark o then o else with_mark mark o) ≡ true
mark_put None o = refl
mark_put (Some mark) o =
    elim (cases_Bool (has_mark (Some mark) o)) [
      | inl has_it ↦ rw has_it has_it
      | inr lacks ↦ rw lacks (rw (stored_same mark.attr (plain mark.value ∷ []) o.values)
          (and_from (bytes_eq mark.value.shown mark.value.shown) (same_key mark.value.key mark.value.key)
          ((bytes_eq-Decides mark.value.shown mark.value.shown).1 refl) (same_key_refl mark.value.key)))
    ]

-- the test looks at values alone
mark_any_sd : (mark : Option Mark) (o : Object) (sd : Sd) → has_mark mark (record o { sd = sd }) ≡ has_mark mark o
mark_any_sd None o sd = refl
mark_any_sd (Some mark) o sd = refl

-- the object has both
pub record IsDone (sd : Sd) (dir : Directory) (n : ℕ) : Type 0 where
  pub sd_is : sd_at dir.objects n ≡ sd
  pub marked : has_mark (admin_count dir.schema) (object_at dir.objects n) ≡ true

put_done : (dir : Directory) (sd : Sd) (n : ℕ) → is_live dir.objects n ≡ true
    → IsDone sd (stored dir (putting dir sd n)) n
unfolding stored protected_object
put_done dir sd n live =
    let number : (putting dir sd n).number ≡ n = putting_number dir sd n live in
    let at : object_at (put (putting dir sd n) dir.objects) n ≡ putting dir sd n
    = ap (object_at (put (putting dir sd n) dir.objects)) (sym number) ∙ at-put_same (putting dir sd n)
    dir.objects in
    record {
      sd_is = ap (λ (x : Object). x.sd) at;
      marked = ap (has_mark (admin_count dir.schema)) at
          ∙ mark_any_sd (admin_count dir.schema) (if has_mark (admin_count dir.schema) (object_at dir.objects n)
          then object_at dir.objects n else with_mark (admin_count dir.schema) (object_at dir.objects n)) sd
          ∙ mark_put (admin_count dir.schema) (object_at dir.objects n);
    }

put_other : (dir : Directory) (sd : Sd) (n m : ℕ) → is_live dir.objects n ≡ true → (n ≡ m → ⊥)
    → object_at (stored dir (putting dir sd n)).objects m ≡ object_at dir.objects m
unfolding stored
put_other dir sd n m live apart = at-put_other (putting dir sd n) dir.objects m
    (λ (e : (putting dir sd n).number ≡ m). apart (sym (putting_number dir sd n live) ∙ e))

stays_done : (dir : Directory) (sd : Sd) (n m : ℕ) → is_live dir.objects n ≡ true → IsDone sd dir m
    → IsDone sd (stored dir (putting dir sd n)) m
stays_done dir sd n m live done =
    elim (cases_Bool (nat_eq n m)) [
      | inl same ↦ subst (IsDone sd (stored dir (putting dir sd n))) (eqb-true n m same) (put_done dir sd n live)
      | inr differ ↦
          let other = put_other dir sd n m live (eqb-false n m differ) in
          record {
            sd_is = ap (λ (x : Object). x.sd) other ∙ done.sd_is;
            marked = ap (has_mark (admin_count (stored dir (putting dir sd n)).schema)) other
                ∙ ap (λ (schema : List SchemaRecord). has_mark (admin_count schema) (object_at dir.objects m))
                (schema_put dir (putting dir sd n)) ∙ done.marked;
          }
    ]

pub keeps_done : (sd : Sd) (numbers : List ℕ) (dir : Directory) (m : ℕ)
    → AllByRecursion (λ (n : ℕ). is_live dir.objects n ≡ true) numbers → IsDone sd dir m
    → IsDone sd (all_protected sd numbers dir) m
unfolding all_protected
keeps_done sd [] dir m all done = done
keeps_done sd (n ∷ ns) dir m all done = keeps_done sd ns (stored dir (putting dir sd n)) m
    (all_live_stored dir (putting dir sd n) ns all.1) (stays_done dir sd n m all.0 done)

pub all_done : (sd : Sd) (numbers : List ℕ) (dir : Directory) (m : ℕ)
    → AllByRecursion (λ (n : ℕ). is_live dir.objects n ≡ true) numbers → has numbers m ≡ true
    → IsDone sd (all_protected sd numbers dir) m
unfolding all_protected
all_done sd [] dir m all is = absurd (false≢true is)
all_done sd (n ∷ ns) dir m all is =
    elim (or_cases (nat_eq n m) (has ns m) is) [
      | inl same ↦ keeps_done sd ns (stored dir (putting dir sd n)) m (all_live_stored dir (putting dir sd n) ns all.1)
          (subst (IsDone sd (stored dir (putting dir sd n))) (eqb-true n m same) (put_done dir sd n all.0))
      | inr behind ↦ all_done sd ns (stored dir (putting dir sd n)) m
          (all_live_stored dir (putting dir sd n) ns all.1) behind
    ]

-- and every other object is as it was
pub all_others : (sd : Sd) (numbers : List ℕ) (dir : Directory) (m : ℕ)
    → AllByRecursion (λ (n : ℕ). is_live dir.objects n ≡ true) numbers → has numbers m ≡ false
    → object_at (all_protected sd numbers dir).objects m ≡ object_at dir.objects m
unfolding all_protected
all_others sd [] dir m all is = refl
all_others sd (n ∷ ns) dir m all is =
    let parts = or_parts (nat_eq n m) (has ns m) is in
    all_others sd ns (stored dir (putting dir sd n)) m (all_live_stored dir (putting dir sd n) ns all.1) parts.1
    ∙ put_other dir sd n m all.0 (eqb-false n m parts.0)
