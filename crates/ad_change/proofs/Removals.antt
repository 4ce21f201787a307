-- The edits of a deletion may be applied, and make it.
use Rattle.std.proofs.Common.{◌≡◌, ◌≢◌, ℕ, ◌<◌, Bool, true, false, not, List, [], ◌∷◌, ◌++◌, map, Option, Some, None}
use Rattle.std.proofs.Common.{◌⊎◌, inl, inr, refl, sym, subst, ap, ◌∙◌}
use Rattle.std.specs.Prelude.{nat_eq, filter, is_some}
use Rattle.std.specs.List.{AllByRecursion}
use Rattle.std.specs.Option.{option_map}
use Rattle.std.proofs.lemmas.Bool.{cases_Bool, both_ways, eqb-true, eqb-false, or_parts, or_cases, or_left, or_right}
use Rattle.std.proofs.lemmas.Bool.{or_from, false≢true, false_from_ne_true}
use Rattle.std.proofs.lemmas.Option.{none-some, same_Some}
use Rattle.ad_ids.specs.declared.token.Token.{Token}
use Rattle.prop_queue.specs.declared.pending.Pending.{Pending}
use Rattle.ad_dir_objects.specs.declared.act.Act.TheVariants as act
use Rattle.ad_dir_objects.specs.declared.edit.Edit.{Edit as EditIn}
use Rattle.ad_dir.specs.Conditions.{MayRemove, MayPend, AreEdits}
use Rattle.ad_dir.proofs.AllMay.{MayAll, may_all}
use Rattle.ad_dir.proofs.Replacing.{IsAlike, AreAlike, alike_itself, alike_put, may_put}
use Rattle.ad_dir_model.specs.Object.{Held, Object, names, links_in}
use Rattle.ad_dir_model.specs.Objects.{Rise, has_number, object_of, is_live, object_at, put, removed}
use Rattle.ad_dir_model.specs.Tree.{root}
use Rattle.ad_dir_model.specs.Directory.{Directory, Edit, parents, put_object, remove_object, with_pending, edited}
use Rattle.ad_dir_model.specs.Directory.{all_edited}
use Rattle.ad_dir_model.specs.Changes.{goes_with, unlinked, remaining, deleted}
use Rattle.ad_dir_model.specs.Protection.{has}
use Rattle.ad_dir_model.specs.Soundness.{IsSound, IsSoundObject, IsContent, LinksAreLive}
use Rattle.ad_dir_model.proofs.Alike.{with_those}
use Rattle.ad_dir_model.proofs.Deleting.{of-gone, of-stays, rise_remaining, was_live, deleted_sound}
use Rattle.ad_dir_model.proofs.EditLaws.{edited_append, puts, puts_edited, puts_other, puts_has, rise_puts, all_by}
use Rattle.ad_dir_model.proofs.Extent.{same_objects}
use Rattle.ad_dir_model.proofs.Finding.{of-live, at_number, at-of, live-of, live_above, rise_filter, of-removed_same}
use Rattle.ad_dir_model.proofs.Finding.{of-removed_other}
use Rattle.ad_dir_model.proofs.LeastSet.{where_live, where_from}
use Rattle.ad_dir_model.proofs.PendingLaws.{AreLive}
use Rattle.ad_dir_model.proofs.ScratchLaws.{sound_at}
use Rattle.ad_dir_model.proofs.Unlinking.{content_unlinked, links_stay, sid_unlinked}
use Rattle.ad_needs_rules.specs.Checks.{first_failing}
use Rattle.ad_change.specs.Effects.{later_checks, made}
use Rattle.ad_change.specs.Plans.{AreEditsOf}
use Rattle.ad_change.specs.Removing.{loses, unlinked_at, losing_of, ChildrenFirst, AreGoing, removal_edits}
use Rattle.ad_change.proofs.Needed.{deleted_differs}
use Rattle.ad_change.proofs.Resolved.{IsDeletion}
use Rattle.ad_change.proofs.Unlinked.{idle, no_link, unlinked_same}

-- ---- edits one after the other

pub may_append : (dir : Directory) (first second : List Edit) → MayAll dir first → MayAll (all_edited first dir)
    second → MayAll dir (first ++ second)
unfolding all_edited
may_append dir [] second may others = others
may_append dir (edit ∷ edits) second may others = (may.0, may_append (edited edit dir) edits second may.1 others)

-- an object that may stand in the place of the one of its number
pub record IsLike (base : Directory) (o : Object) : Type 0 where
  pub live : is_live base.objects o.number ≡ true
  pub alike : IsAlike base.schema o (object_at base.objects o.number)
  pub content : IsContent base.schema o
  pub links : LinksAreLive base.objects o

-- such objects may be put one after the other
pub puts_may : (base : Directory) (f : ℕ → Object) (os : List Object) (ps : List Pending) (ns : List ℕ) → IsSound base
    → AreAlike base.schema os base.objects → AllByRecursion (λ (n : ℕ). IsLike base (f n)) ns
    → MayAll (with_those base os ps) (map (λ n. put_object (f n)) ns)
unfolding edited
puts_may base f os ps [] sound alike each = tt
puts_may base f os ps (n ∷ ns) sound alike each = (
  may_put base os ps (f n) sound alike each.0.live each.0.alike each.0.content each.0.links,
  puts_may base f (put (f n) os) ps ns sound
      (alike_put base.schema os base.objects (f n) alike each.0.live each.0.alike) each.1,
)

-- ---- objects that lost their links

-- an object that was there before
record Was (goes : ℕ → Bool) (os : List Object) (n : ℕ) (o : Object) : Type 0 where
  pub old : Object
  pub there : object_of os n ≡ Some old
  pub is : unlinked goes old ≡ o

was : (goes : ℕ → Bool) (os : List Object) (n : ℕ) (o : Object) → option_map (unlinked goes) (object_of os n) ≡ Some o
    → Was goes os n o
was goes os n o is = by_found (object_of os n) refl is
  where
    by_found : (found : Option Object) → object_of os n ≡ found → option_map (unlinked goes) found ≡ Some o
        → Was goes os n o
    by_found None at is' = absurd (none-some o is')
    by_found (Some x) at is' = record { old = x; there = at; is = same_Some (unlinked goes x) o is' }

none_live : (os : List Object) (n : ℕ) → is_live os n ≡ false → object_of os n ≡ None
none_live os n gone = by_found (object_of os n) gone
  where
    by_found : (found : Option Object) → is_some found ≡ false → found ≡ None
    by_found None is = refl
    by_found (Some x) is = absurd (false≢true (sym is))

-- what holds of each of a list
each_of : (P : ℕ → Type 0) (ns : List ℕ) (n : ℕ) → AllByRecursion P ns → has ns n ≡ true → P n
each_of P [] n all is = absurd (false≢true is)
each_of P (k ∷ ks) n all is =
    elim (cases_Bool (nat_eq k n)) [
      | inl same ↦ subst P (eqb-true k n same) all.0
      | inr differ ↦ each_of P ks n all.1 (rw differ at is)
    ]

module _ (dir : Directory) (target : ℕ) (sound : IsSound dir) where
  -- all objects, without links to those that go
  base : List Object
  base = puts (unlinked_at dir target) (losing_of dir target) dir.objects

  staying : List Pending
  staying = filter (λ (entry : Pending). not (goes_with dir target entry.parent)) dir.pending

  losing_live : (n : ℕ) → has (losing_of dir target) n ≡ true → is_live dir.objects n ≡ true
  losing_live n is = where_live (loses (goes_with dir target)) dir.objects n sound.rise is

  numbers_are : AllByRecursion (λ (k : ℕ). (unlinked_at dir target k).number ≡ k) (losing_of dir target)
  numbers_are = all_by (λ (k : ℕ). (unlinked_at dir target k).number ≡ k) (losing_of dir target)
      (λ n is. at_number dir.objects n (losing_live n is))

  like : (n : ℕ) → is_live dir.objects n ≡ true → IsLike dir (unlinked_at dir target n)
  like n live =
      let is : IsSoundObject dir (object_at dir.objects n) = sound_at dir sound.each n live in
      let number : (object_at dir.objects n).number ≡ n = at_number dir.objects n live in
      record {
        live = subst (λ (k : ℕ). is_live dir.objects k ≡ true) (sym number) live;
        alike = subst (λ (k : ℕ). IsAlike dir.schema (unlinked_at dir target n) (object_at dir.objects k)) (sym number)
            (record {
              parent = refl;
              name = refl;
              sid = sid_unlinked dir.schema (goes_with dir target)
                  (object_at dir.objects n) is.content.each;
            });
        content = content_unlinked dir.schema (goes_with dir target) (object_at dir.objects n) is.content;
        links = live_only (links_in (unlinked_at dir target n).values)
            (links_stay (λ (k : ℕ). is_live dir.objects k ≡ true) (goes_with dir target)
            (object_at dir.objects n).values is.links);
      }
    where
      live_only : (ns : List ℕ) → AllByRecursion
          (λ (k : ℕ). (is_live dir.objects k ≡ true) × (goes_with dir target k ≡ false)) ns
          → AllByRecursion (λ (k : ℕ). is_live dir.objects k ≡ true) ns
      live_only [] all = tt
      live_only (k ∷ ks) all = (all.0.0, live_only ks all.1)

  found : (n : ℕ) → object_of base n ≡ option_map (unlinked (goes_with dir target)) (object_of dir.objects n)
  unfolding base
  found n =
      elim (cases_Bool (has (losing_of dir target) n)) [
        | inl is ↦
            puts_has (unlinked_at dir target) (losing_of dir target) dir.objects n numbers_are is
            ∙ ap (option_map (unlinked (goes_with dir target))) (sym (of-live dir.objects n (losing_live n is)))
        | inr none ↦
            puts_other (unlinked_at dir target) (losing_of dir target) dir.objects n numbers_are none
            ∙ by_live none (cases_Bool (is_live dir.objects n))
      ]
    where
      by_live : has (losing_of dir target) n ≡ false → (is_live dir.objects n ≡ true) ⊎ (is_live dir.objects n ≡ false)
          → object_of dir.objects n ≡ option_map (unlinked (goes_with dir target)) (object_of dir.objects n)
      by_live none (inl live) =
          let keeps : loses (goes_with dir target) (object_at dir.objects n) ≡ false
          = false_from_ne_true (loses (goes_with dir target) (object_at dir.objects n))
          (λ is. both_ways (has (losing_of dir target) n) none
          (where_from (loses (goes_with dir target)) dir.objects n live is)) in
          let same : unlinked (goes_with dir target) (object_at dir.objects n) ≡ object_at dir.objects n
          = unlinked_same dir.schema (goes_with dir target) (object_at dir.objects n)
          (sound_at dir sound.each n live).content keeps in
          of-live dir.objects n live ∙ ap (λ (x : Object). Some x) (sym same)
          ∙ ap (option_map (unlinked (goes_with dir target))) (sym (of-live dir.objects n live))
      by_live none (inr gone) =
          none_live dir.objects n gone ∙ ap (option_map (unlinked (goes_with dir target)))
          (sym (none_live dir.objects n gone))

  rise_base : Rise base
  unfolding base
  rise_base = rise_puts (unlinked_at dir target) (losing_of dir target) dir.objects sound.rise
      (all_by (λ (k : ℕ). 0 < (unlinked_at dir target k).number) (losing_of dir target)
      (λ n is. subst (λ (k : ℕ). 0 < k) (sym (at_number dir.objects n (losing_live n is)))
      (live_above 0 dir.objects n sound.rise (losing_live n is))))

  -- ---- those that go

  -- the objects without those that are gone
  record IsWithout (gone : List ℕ) (os : List Object) : Type 0 where
    pub rise : Rise os
    pub none : (n : ℕ) → has gone n ≡ true → object_of os n ≡ None
    pub others : (n : ℕ) → has gone n ≡ false → object_of os n ≡ object_of base n

  without_none : IsWithout [] base
  without_none = record { rise = rise_base; none = λ n is. absurd (false≢true is); others = λ n is. refl }

  without_more : (gone : List ℕ) (os : List Object) (n : ℕ) → IsWithout gone os → IsWithout (n ∷ gone) (removed n os)
  unfolding removed
  without_more gone os n is = record {
    rise = rise_filter (λ (o : Object). not (has_number n o)) 0 os is.rise;
    none = λ m e. elim (cases_Bool (nat_eq n m)) [
      | inl same ↦ subst (λ (k : ℕ). object_of (removed n os) k ≡ None) (eqb-true n m same) (of-removed_same n os)
      | inr differ ↦ of-removed_other n os m (eqb-false n m differ) ∙ is.none m (rw differ at e)
    ];
    others = λ m e.
        let parts = or_parts (nat_eq n m) (has gone m) e in
        of-removed_other n os m (eqb-false n m parts.0) ∙ is.others m parts.1;
  }

  remove_may : (gone : List ℕ) (os : List Object) (n : ℕ) → IsWithout gone os → is_live dir.objects n ≡ true
      → goes_with dir target n ≡ true
      → has gone n ≡ false → ((child : ℕ) → is_live dir.objects child ≡ true → parents dir child ≡ n → has gone child
      ≡ true)
      → MayRemove (with_those dir os staying) n
  unfolding staying
  remove_may gone os n without live away here children = record {
    live = ap is_some (without.others n here ∙ found n ∙ ap (option_map (unlinked (goes_with dir target)))
        (of-live dir.objects n live));
    idle = idle (goes_with dir target) n dir.pending away;
    no_child = λ other o at differ is.
        let before : Was (goes_with dir target) dir.objects other o = came other o at in
        let child_live : is_live dir.objects other ≡ true = live-of dir.objects other before.old before.there in
        let parent : parents dir other ≡ n = ap (λ (x : Object). x.parent)
        (at-of dir.objects other before.old before.there)
        ∙ ap (λ (x : Object). x.parent) before.is ∙ is in
        both_ways (has gone other) (stays other o at) (children other child_live parent);
    no_link = λ other o at differ.
        let before : Was (goes_with dir target) dir.objects other o = came other o at in
        subst (λ (x : Object). AllByRecursion (λ (held : Held). names n held.values ≡ false) x.values) before.is
        (no_link (goes_with dir target) n before.old.values away);
  }
    where
      stays : (other : ℕ) (o : Object) → object_of os other ≡ Some o → has gone other ≡ false
      stays other o at = false_from_ne_true (has gone other) (λ is. none-some o (sym (without.none other is) ∙ at))

      came : (other : ℕ) (o : Object) → object_of os other ≡ Some o → Was (goes_with dir target) dir.objects other o
      came other o at = was (goes_with dir target) dir.objects other o
          (sym (found other) ∙ sym (without.others other (stays other o at)) ∙ at)

  removals_may : (gone ns : List ℕ) (os : List Object) → IsWithout gone os → ChildrenFirst dir gone ns
      → AllByRecursion (λ (n : ℕ). (is_live dir.objects n ≡ true) × (goes_with dir target n ≡ true)) ns
      → MayAll (with_those dir os staying) (map (λ n. remove_object n) ns)
  unfolding edited
  removals_may gone [] os without order each = tt
  removals_may gone (n ∷ ns) os without order each = (
    remove_may gone os n without each.0.0 each.0.1 order.0.0 order.0.1,
    removals_may (n ∷ gone) ns (removed n os) (without_more gone os n without) order.1 each.1,
  )

  -- what the removals leave
  record Leaves (gone ns : List ℕ) (os : List Object) : Type 0 where
    pub left : List Object
    pub made : all_edited (map (λ n. remove_object n) ns) (with_those dir os staying) ≡ with_those dir left staying
    pub rise : Rise left
    pub none : (n : ℕ) → (has ns n ≡ true) ⊎ (has gone n ≡ true) → object_of left n ≡ None
    pub others : (n : ℕ) → has ns n ≡ false → has gone n ≡ false → object_of left n ≡ object_of base n

  leaves : (gone ns : List ℕ) (os : List Object) → IsWithout gone os → Leaves gone ns os
  unfolding all_edited edited
  leaves gone [] os without = record {
    left = os;
    made = refl;
    rise = without.rise;
    none = λ n is. elim is [
      | inl never ↦ absurd (false≢true never)
      | inr gone_before ↦ without.none n gone_before
    ];
    others = λ n none here. without.others n here;
  }
  leaves gone (k ∷ ks) os without =
      let rest : Leaves (k ∷ gone) ks (removed k os) = leaves (k ∷ gone) ks (removed k os)
      (without_more gone os k without) in
      record {
        left = rest.left;
        made = rest.made;
        rise = rest.rise;
        none = λ n is. rest.none n (moved n is);
        others = λ n none here.
            let parts = or_parts (nat_eq k n) (has ks n) none in
            rest.others n parts.1 (or_from (nat_eq k n) (has gone n) parts.0 here);
      }
    where
      moved : (n : ℕ) → (has (k ∷ ks) n ≡ true) ⊎ (has gone n ≡ true) → (has ks n ≡ true) ⊎ (has (k ∷ gone) n ≡ true)
      moved n (inl is) = elim (or_cases (nat_eq k n) (has ks n) is) [
        | inl same ↦ inr (or_left (nat_eq k n) (has gone n) same)
        | inr behind ↦ inl behind
      ]
      moved n (inr is) = inr (or_right (nat_eq k n) (has gone n) is)

  -- ---- the whole

  module _ (going : List ℕ) (below : target ≢ root) (are : AreGoing dir target going) where
    puts_first : all_edited (map (λ n. put_object (unlinked_at dir target n)) (losing_of dir target))
        (with_pending staying dir)
        ≡ with_those dir base staying
    unfolding base
    puts_first = puts_edited (unlinked_at dir target) (losing_of dir target) (with_pending staying dir)

    left_is : (os : Leaves [] going base) → os.left ≡ remaining (goes_with dir target) dir.objects
    left_is os = same_objects 0 os.left (remaining (goes_with dir target) dir.objects) os.rise
        (rise_remaining (goes_with dir target) dir.objects sound.rise) each
      where
        away : (n : ℕ) → has going n ≡ true → goes_with dir target n ≡ true
        away n is = (each_of (λ (k : ℕ). (is_live dir.objects k ≡ true) × (goes_with dir target k ≡ true)) going n
            are.each is).1

        by_going : (n : ℕ) → (has going n ≡ true) ⊎ (has going n ≡ false) → object_of os.left n
            ≡ object_of (remaining (goes_with dir target) dir.objects) n
        by_going n (inl is) = os.none n (inl is) ∙ sym (of-gone (goes_with dir target) dir.objects n (away n is))
        by_going n (inr stays) = os.others n stays refl ∙ found n ∙ by_goes (cases_Bool (goes_with dir target n))
            (cases_Bool (is_live dir.objects n))
          where
            by_goes : (goes_with dir target n ≡ true) ⊎ (goes_with dir target n ≡ false)
                → (is_live dir.objects n ≡ true) ⊎ (is_live dir.objects n ≡ false)
                → option_map (unlinked (goes_with dir target)) (object_of dir.objects n)
                ≡ object_of (remaining (goes_with dir target) dir.objects) n
            by_goes (inr keeps) live = sym (of-stays (goes_with dir target) dir.objects n keeps)
            by_goes (inl goes') (inl live) = absurd (both_ways (has going n) stays (are.all n live goes'))
            by_goes (inl goes') (inr gone) = ap (option_map (unlinked (goes_with dir target)))
                (none_live dir.objects n gone)
                ∙ sym (of-gone (goes_with dir target) dir.objects n goes')

        each : (n : ℕ) → object_of os.left n ≡ object_of (remaining (goes_with dir target) dir.objects) n
        each n = by_going n (cases_Bool (has going n))

    removal_makes : all_edited (removal_edits dir target going) dir ≡ deleted dir target
    unfolding deleted all_edited edited staying
    removal_makes =
        let rest : Leaves [] going base = leaves [] going base without_none in
        edited_append (map (λ n. put_object (unlinked_at dir target n)) (losing_of dir target))
        (map (λ n. remove_object n) going) (with_pending staying dir)
        ∙ ap (all_edited (map (λ n. remove_object n) going)) puts_first
        ∙ rest.made ∙ ap (λ (os : List Object). with_those dir os staying) (left_is rest)

    pend_may : MayPend dir staying
    unfolding deleted staying
    pend_may =
        let after : IsSound (deleted dir target) = deleted_sound dir target sound below in
        record {
          live = all_were (filter (λ (entry : Pending). not (goes_with dir target entry.parent)) dir.pending)
              after.live;
          distinct = after.distinct;
        }
      where
        all_were : (es : List Pending) → AreLive (remaining (goes_with dir target) dir.objects) es
            → AreLive dir.objects es
        all_were [] live = tt
        all_were (e ∷ es) live = (was_live (goes_with dir target) dir.objects e.parent live.0, all_were es live.1)

    removal_may : MayAll dir (removal_edits dir target going)
    unfolding edited staying
    removal_may = (
      pend_may,
      may_append (with_pending staying dir) (map (λ n. put_object (unlinked_at dir target n)) (losing_of dir target))
          (map (λ n. remove_object n) going)
          (puts_may dir (unlinked_at dir target) dir.objects staying (losing_of dir target) sound
          (alike_itself dir.schema dir.objects)
          (all_by (λ (n : ℕ). IsLike dir (unlinked_at dir target n)) (losing_of dir target)
          (λ n is. like n (losing_live n is))))
          (subst (λ (d : Directory). MayAll d (map (λ n. remove_object n) going)) (sym puts_first)
          (removals_may [] going base without_none are.order are.each)),
    )

pub removal_is : (dir : Directory) (token : Token) (target : ℕ) (tree : Bool) (going : List ℕ) (edits : List EditIn)
    → IsSound dir
    → IsDeletion dir target → AreGoing dir target going → AreEdits (removal_edits dir target going) edits
    → first_failing (later_checks dir token (act.Delete target tree)) ≡ None
    → AreEditsOf dir token (act.Delete target tree) edits
unfolding made
removal_is dir token target tree going edits sound is are edits_are none = record {
  holds = none;
  may = may_all dir edits edits_are.normal
      (subst (MayAll dir) (sym edits_are.are) (removal_may dir target sound going is.below are));
  make = ap (λ (es : List Edit). all_edited es dir) edits_are.are ∙ removal_makes dir target sound going is.below are;
  nothing = λ same. absurd (deleted_differs dir target is.live same);
}
