-- The edits of a run make it.
use Rattle.std.proofs.Common.{◌≡◌, ℕ, ◌<◌, ◌≤◌, ◌^◌, Bool, true, List, [], ◌∷◌, ◌++◌, map, length, Some, None, inl}
use Rattle.std.proofs.Common.{inr, refl, sym, subst, ap, ◌∙◌, arith}
use Rattle.std.specs.Prelude.{filter, ◌||◌, codes}
use Rattle.std.proofs.lemmas.Bool.{cases_Bool, cases_eq}
use Rattle.std.proofs.lemmas.List.{length-map}
use Rattle.std.proofs.lemmas.Option.{same_Some, option_and_then_some}
use Rattle.ad_sd.specs.declared.parts.Sd.{Sd}
use Rattle.prop_queue.specs.declared.pending.Pending.{Pending}
use Rattle.ad_dir_objects.specs.declared.edit.Edit.{Edit as EditIn}
use Rattle.ad_dir_objects.specs.Seen.{edit_seen}
use Rattle.ad_dir.specs.Applying.{MayApplyAll}
use Rattle.ad_dir.proofs.AllMay.{MayAll, may_all}
use Rattle.ad_dir.proofs.NameLaws.{child_lives}
use Rattle.ad_dn.specs.declared.rdn.Rdn.{Rdn}
use Rattle.ad_dir_model.specs.Limits.{max_objects}
use Rattle.ad_dir_model.specs.Object.{Object}
use Rattle.ad_dir_model.specs.Objects.{Rise, is_live, sd_at, numbers}
use Rattle.ad_dir_model.specs.Tree.{root}
use Rattle.ad_dir_model.specs.Identity.{sid_in}
use Rattle.ad_dir_model.specs.Directory.{Directory, Edit, put_object, put_queue, with_pending, edited, all_edited}
use Rattle.ad_dir_model.specs.Names.{admin_sd_holder, child_of_rdn, found_below, common_name}
use Rattle.ad_dir_model.specs.Protection.{frozen, protected, changes, has, spread, is_protected_alone, Run}
use Rattle.ad_dir_model.specs.Protection.{protection_run}
use Rattle.ad_dir_model.specs.Edits.{protecting, all_marked, protect_edits, holder_edits, run_edits}
use Rattle.ad_dir_model.specs.Soundness.{IsSound}
use Rattle.ad_dir_model.proofs.Running.{protected_live}
use Rattle.ad_dir_model.proofs.RunEdits.{run_edited}
use Rattle.ad_dir_model.proofs.SecondRun.{second_run}
use Rattle.ad_protect.specs.Putting.{AreRunEdits, puts_of}
use Rattle.ad_dir.specs.Conditions.{AreEdits}
use Rattle.ad_protect.specs.Run.{MakeRun}
use Rattle.ad_protect.proofs.Applying.{run_may, none_marked}

-- ---- the holder

behind : (dir : Directory) (parent holder : ℕ) (first second : Rdn) → Rise dir.objects
    → found_below dir parent (first ∷ second ∷ []) ≡ Some holder → is_live dir.objects holder ≡ true
unfolding found_below
behind dir parent holder first second rise is =
    option_and_then_some (λ (child : ℕ). found_below dir child (second ∷ [])) (child_of_rdn dir parent first) holder
    is (λ mid at rest.
    option_and_then_some (λ (child : ℕ). found_below dir child []) (child_of_rdn dir mid second) holder rest
    (λ last found same.
    subst (λ (n : ℕ). is_live dir.objects n ≡ true) (same_Some last holder same)
    (child_lives dir mid last second rise found)))

pub holder_live : (dir : Directory) (holder : ℕ) → Rise dir.objects → admin_sd_holder dir ≡ Some holder
    → is_live dir.objects holder ≡ true
unfolding admin_sd_holder
holder_live dir holder rise is = behind dir root holder (common_name (codes "System"))
    (common_name (codes "AdminSDHolder")) rise is

-- ---- how many

few_filtered : {X : Type 0} (test : X → Bool) (xs : List X) → length (filter test xs) ≤ length xs
few_filtered test [] = omega arith
few_filtered test (x ∷ xs) =
    let rest : length (filter test xs) ≤ length xs = few_filtered test xs in
    elim (cases_Bool (test x)) [
      | inl passes ↦ rw passes (omega (arith, rest))
      | inr fails ↦ rw fails (omega (arith, rest))
    ]

few_protected : (dir : Directory) → length (protected dir) ≤ length dir.objects
unfolding protected
few_protected dir =
    let long : length (protected dir) ≡ length
    (filter (λ (o : Object). has (spread dir) o.number || is_protected_alone dir (sid_in dir.schema o))
    dir.objects)
    = length-map (filter (λ (o : Object). has (spread dir) o.number || is_protected_alone dir (sid_in dir.schema o))
    dir.objects) (λ (o : Object). o.number) in
    let few : length (filter (λ (o : Object). has (spread dir) o.number || is_protected_alone dir
    (sid_in dir.schema o)) dir.objects) ≤ length dir.objects
    = few_filtered (λ (o : Object). has (spread dir) o.number || is_protected_alone dir (sid_in dir.schema o))
    dir.objects in
    omega (arith, long, few)

pub protected_fits : (dir : Directory) → IsSound dir → length (protected dir) < 2 ^ 32
unfolding max_objects
protected_fits dir sound =
    let few : length (protected dir) ≤ length dir.objects = few_protected dir in
    let limit : length dir.objects ≤ 65536 = sound.frame.limits.objects in
    omega (arith, few, limit)

puts_long : (dir : Directory) (sd : Sd) (ns : List ℕ) → length (puts_of dir sd ns) ≡ length (filter (changes dir sd) ns)
puts_long dir sd ns = length-map (filter (changes dir sd) ns) (λ (n : ℕ). put_object (protecting dir sd n))

pub changed_fits : (dir : Directory) (sd : Sd) (numbers : List ℕ) (edits : List EditIn) (changed : ℕ) → IsSound dir
    → numbers ≡ protected dir → AreRunEdits dir sd numbers edits changed
    → changed < 2 ^ 32
changed_fits dir sd numbers edits changed sound those are =
    let count : changed ≡ length (puts_of dir sd numbers) = are.count in
    let long : length (puts_of dir sd numbers) ≡ length (filter (changes dir sd) numbers) = puts_long dir sd numbers in
    let few : length (filter (changes dir sd) numbers) ≤ length numbers = few_filtered (changes dir sd) numbers in
    let many : length numbers ≡ length (protected dir) = ap (λ (ns : List ℕ). length ns) those in
    let fits : length (protected dir) < 2 ^ 32 = protected_fits dir sound in
    omega (arith, count, long, few, many, fits)

no_puts : {X : Type 0} (xs : List X) → length xs ≡ 0 → xs ≡ []
no_puts [] is = refl
no_puts (x ∷ xs) is = absurd (omega (arith, is))

-- ---- a run

run_edits_are : (dir : Directory) (holder : ℕ) → admin_sd_holder dir ≡ Some holder → run_edits dir
    ≡ protect_edits dir (frozen (sd_at dir.objects holder)) (protected dir)
run_edits_are dir holder is = ap (holder_edits dir) is

changed_by : (dir : Directory) (holder : ℕ) → admin_sd_holder dir ≡ Some holder
    → (protection_run dir).changed ≡ length (filter (changes dir (frozen (sd_at dir.objects holder))) (protected dir))
unfolding protection_run
changed_by dir holder is = rw is refl

protected_by : (dir : Directory) (holder : ℕ) → admin_sd_holder dir ≡ Some holder → (protection_run dir).protected
    ≡ length (protected dir)
unfolding protection_run
protected_by dir holder is = rw is refl

all_nothing : (dir : Directory) (pending : List Pending) → pending ≡ dir.pending → all_edited (put_queue pending ∷ [])
    dir ≡ dir
unfolding all_edited edited
all_nothing dir pending same = ap (λ (ps : List Pending). with_pending ps dir) same

none_edited : (dir : Directory) → all_edited [] dir ≡ dir
unfolding all_edited
none_edited dir = refl

-- where nothing changes
nothing_made : (dir : Directory) (holder : ℕ) → IsSound dir → admin_sd_holder dir ≡ Some holder
    → filter (changes dir (frozen (sd_at dir.objects holder))) (protected dir) ≡ [] → dir
    ≡ (protection_run dir).directory
nothing_made dir holder sound is none =
    let only : run_edits dir ≡ put_queue (all_marked dir (frozen (sd_at dir.objects holder)) (protected dir)
    dir.pending) ∷ []
    = run_edits_are dir holder is
    ∙ ap (λ (ns : List ℕ). map (λ n. put_object (protecting dir (frozen (sd_at dir.objects holder)) n)) ns
    ++ put_queue (all_marked dir (frozen (sd_at dir.objects holder)) (protected dir) dir.pending) ∷ []) none in
    sym (all_nothing dir (all_marked dir (frozen (sd_at dir.objects holder)) (protected dir) dir.pending)
    (none_marked dir (frozen (sd_at dir.objects holder)) (protected dir) dir.pending (protected_live dir sound.rise)
    none))
    ∙ ap (λ (es : List Edit). all_edited es dir) (sym only) ∙ run_edited dir sound.rise

-- Where a run leaves the directory as it was, a second one at once changes as many objects as it does, which are
-- none.
none_changed : (dir : Directory) → IsSound dir → (protection_run dir).directory ≡ dir → (protection_run dir).changed ≡ 0
none_changed dir sound same =
    ap (λ (d : Directory). (protection_run d).changed) (sym same) ∙ ap (λ (run : Run). run.changed)
    (second_run dir sound)

pub made_by : (dir : Directory) (holder : ℕ) (sd : Sd) (numbers : List ℕ) (edits : List EditIn) (changed count : ℕ)
    → IsSound dir → admin_sd_holder dir ≡ Some holder → sd ≡ frozen (sd_at dir.objects holder) → numbers
    ≡ protected dir → count ≡ length numbers
    → AreRunEdits dir sd numbers edits changed → MakeRun dir edits changed count
made_by dir holder sd numbers edits changed count sound is own those many are =
    let of_run : AreRunEdits dir (frozen (sd_at dir.objects holder)) (protected dir) edits changed
    = subst (λ (x : Sd). AreRunEdits dir x (protected dir) edits changed) own
    (subst (λ (ns : List ℕ). AreRunEdits dir sd ns edits changed) those are) in
    from_run of_run
  where
    long : length (puts_of dir (frozen (sd_at dir.objects holder)) (protected dir))
        ≡ length (filter (changes dir (frozen (sd_at dir.objects holder))) (protected dir))
    long = puts_long dir (frozen (sd_at dir.objects holder)) (protected dir)

    count_is : AreRunEdits dir (frozen (sd_at dir.objects holder)) (protected dir) edits changed → changed
        ≡ (protection_run dir).changed
    count_is run = run.count ∙ long ∙ sym (changed_by dir holder is)

    from_run : AreRunEdits dir (frozen (sd_at dir.objects holder)) (protected dir) edits changed
        → MakeRun dir edits changed count
    from_run run = elim (cases_eq changed 0) [
      | inl none ↦
          let no_edit : edits ≡ [] = run.nothing none in
          let none_put : filter (changes dir (frozen (sd_at dir.objects holder))) (protected dir) ≡ []
          = no_puts (filter (changes dir (frozen (sd_at dir.objects holder))) (protected dir))
          (sym long ∙ sym run.count ∙ none) in
          record {
            may = subst (λ (es : List EditIn). MayApplyAll dir es) (sym no_edit) tt;
            make = ap (λ (es : List EditIn). all_edited (map edit_seen es) dir) no_edit ∙ none_edited dir
                ∙ nothing_made dir holder sound is none_put;
            changed_is = count_is run;
            protected_is = many ∙ ap (λ (ns : List ℕ). length ns) those ∙ sym (protected_by dir holder is);
            nothing = λ same. run.nothing (count_is run ∙ none_changed dir sound same);
          }
      | inr some ↦
          let edits_are : AreEdits (protect_edits dir (frozen (sd_at dir.objects holder)) (protected dir)) edits
          = run.some some in
          record {
            may = may_all dir edits edits_are.normal
                (subst (MayAll dir) (sym edits_are.are)
                (run_may dir (frozen (sd_at dir.objects holder)) (protected dir) sound
                (protected_live dir sound.rise)));
            make = ap (λ (es : List Edit). all_edited es dir) (edits_are.are ∙ sym (run_edits_are dir holder is))
                ∙ run_edited dir sound.rise;
            changed_is = count_is run;
            protected_is = many ∙ ap (λ (ns : List ℕ). length ns) those ∙ sym (protected_by dir holder is);
            nothing = λ same. run.nothing (count_is run ∙ none_changed dir sound same);
          }
    ]

-- without a holder
run_none : (dir : Directory) → admin_sd_holder dir ≡ None → protection_run dir
    ≡ record { directory = dir; changed = 0; protected = 0 }
unfolding protection_run
run_none dir none = rw none refl

pub made_none : (dir : Directory) (edits : List EditIn) → admin_sd_holder dir ≡ None → edits ≡ []
    → MakeRun dir edits 0 0
made_none dir edits none no_edit = record {
  may = subst (λ (es : List EditIn). MayApplyAll dir es) (sym no_edit) tt;
  make = ap (λ (es : List EditIn). all_edited (map edit_seen es) dir) no_edit ∙ none_edited dir
      ∙ sym (ap (λ (run : Run). run.directory) (run_none dir none));
  changed_is = sym (ap (λ (run : Run). run.changed) (run_none dir none));
  protected_is = sym (ap (λ (run : Run). run.protected) (run_none dir none));
  nothing = λ e. no_edit;
}
