-- Each object is settled or covered: what keeps it so when one object is put.
use Rattle.std.proofs.Common.{◌≡◌, ℕ, Bool, true, List, Some, ◌⊎◌, inl, inr, refl, sym, subst, ap, ◌∙◌}
use Rattle.std.specs.Prelude.{nat_eq}
use Rattle.std.proofs.lemmas.Bool.{eqb-true, eqb-false, ne_eqb, eq-eqb, cases_Bool}
use Rattle.std.proofs.lemmas.Option.{same_Some}
use Rattle.ad_sd.specs.declared.parts.AceList.{AceList}
use Rattle.ad_sd.specs.declared.parts.Sd.{Sd}
use Rattle.ad_inherit.specs.Whole.{explicit_list, explicit_part, whole}
use Rattle.ad_inherit.proofs.Passing.{explicit-twice}
use Rattle.ad_inherit.proofs.Wholes.{whole-whole}
use Rattle.ad_acl.specs.Entry.{Entry}
use Rattle.prop_queue.specs.declared.pending.Pending.{Pending}
use Rattle.ad_dir_model.specs.Object.{Object}
use Rattle.ad_dir_model.specs.Objects.{Rise, object_of, sd_at, put}
use Rattle.ad_dir_model.specs.Tree.{root}
use Rattle.ad_dir_model.specs.SameSd.{same_sd}
use Rattle.ad_dir_model.specs.Directory.{Directory}
use Rattle.ad_dir_model.specs.Inheritance.{guid_at, whole_at, IsSettled, covers, IsSettledOrCovered}
use Rattle.ad_dir_model.specs.Inheritance.{marked_if_changed, stored, settled, written}
use Rattle.ad_dir_model.proofs.Finding.{of_number, of_above, of-put_same, of-put_other, at-put_same, at-put_other}
use Rattle.ad_dir_model.proofs.SameSdLaws.{same_sd-is}
use Rattle.ad_dir_model.proofs.PendingLaws.{marked_if_keeps, marked_if_changed_covers}

-- the object put, with another pending list
abbrev pub placed : Directory → Object → List Pending → Directory
placed dir o pending = record dir { objects = put o dir.objects; pending = pending }

-- ---- wholes

explicit_list_twice : (list : AceList) → explicit_list (explicit_list list) ≡ explicit_list list
explicit_list_twice list = ap (with_protected list.protected) (explicit-twice list.entries)
  where
    with_protected : Bool → List Entry → AceList
    with_protected protected entries = record { protected = protected; entries = entries }

with_lists : Sd → AceList → AceList → Sd
with_lists sd dacl sacl = record sd { dacl = dacl; sacl = sacl }

pub explicit-explicit : (sd : Sd) → explicit_part (explicit_part sd) ≡ explicit_part sd
unfolding explicit_part with_lists
explicit-explicit sd =
    ap (λ (list : AceList). with_lists sd list (explicit_list (explicit_list sd.sacl))) (explicit_list_twice sd.dacl)
    ∙ ap (λ (list : AceList). with_lists sd (explicit_list sd.dacl) list) (explicit_list_twice sd.sacl)

-- below the root
pub whole_below : (dir : Directory) (o : Object) → (o.number ≡ root → ⊥) → whole_at dir o
    ≡ whole (sd_at dir.objects o.parent) o.sd (guid_at dir.schema o.class)
unfolding whole_at
whole_below dir o not_root = rw (ne_eqb o.number root not_root) refl

pub whole_root : (dir : Directory) (o : Object) → o.number ≡ root → whole_at dir o ≡ explicit_part o.sd
unfolding whole_at
whole_root dir o is_root = rw (eq-eqb o.number root is_root) refl

-- ---- each object but the root, and but one

pub record InheritsBut (n : ℕ) (dir : Directory) : Type 0 where
  pub each : (m : ℕ) (x : Object) → object_of dir.objects m ≡ Some x → (m ≡ root → ⊥) → (m ≡ n → ⊥)
      → IsSettledOrCovered dir x

pub record Inherits (dir : Directory) : Type 0 where
  pub each : (m : ℕ) (x : Object) → object_of dir.objects m ≡ Some x → (m ≡ root → ⊥) → IsSettledOrCovered dir x

pub inherits_but : (n : ℕ) (dir : Directory) → Inherits dir → InheritsBut n dir
inherits_but n dir inherits = record { each = λ m x is not_root _. inherits.each m x is not_root }

-- What keeps it: the object that is put, the covers of the others, and its children, whose parent's descriptor is
-- the old one or who are covered.
pub record KeepsCover (dir : Directory) (o : Object) (pending : List Pending) : Type 0 where
  pub self : (o.number ≡ root → ⊥) → IsSettledOrCovered (placed dir o pending) o
  pub others : (m : ℕ) (x : Object) → object_of dir.objects m ≡ Some x → covers dir.pending x.parent m ≡ true
      → covers pending x.parent m ≡ true
  pub children : (sd_at dir.objects o.number ≡ o.sd)
      ⊎ ((m : ℕ) (x : Object) → object_of dir.objects m ≡ Some x → x.parent ≡ o.number → covers pending o.number m
      ≡ true)

pub keep : (dir : Directory) (o : Object) (pending : List Pending) → InheritsBut o.number dir
    → KeepsCover dir o pending → Inherits (placed dir o pending)
keep dir o pending before keeps = record { each = each }
  where
    after : Directory
    after = placed dir o pending

    other_parent : (x : Object) → (x.number ≡ root → ⊥) → (o.number ≡ x.parent → ⊥) → x.sd ≡ whole_at dir x → x.sd
        ≡ whole_at (placed dir o pending) x
    other_parent x not_root apart settled =
        settled ∙ whole_below dir x not_root
        ∙ ap (λ (parent : Object). whole parent.sd x.sd (guid_at dir.schema x.class))
        (sym (at-put_other o dir.objects x.parent apart))
        ∙ sym (whole_below (placed dir o pending) x not_root)

    same_parent : (x : Object) → (x.number ≡ root → ⊥) → x.parent ≡ o.number → sd_at dir.objects o.number ≡ o.sd
        → x.sd ≡ whole_at dir x → x.sd ≡ whole_at (placed dir o pending) x
    same_parent x not_root is unchanged settled =
        let old : sd_at dir.objects x.parent ≡ o.sd = rw is unchanged in
        let new : sd_at (put o dir.objects) x.parent ≡ o.sd
        = rw is (ap (λ (y : Object). y.sd) (at-put_same o dir.objects)) in
        settled ∙ whole_below dir x not_root
        ∙ ap (λ (sd : Sd). whole sd x.sd (guid_at dir.schema x.class)) (old ∙ sym new)
        ∙ sym (whole_below (placed dir o pending) x not_root)

    was_settled : (m : ℕ) (x : Object) → object_of dir.objects m ≡ Some x → (x.number ≡ root → ⊥) → IsSettled dir x
        → IsSettledOrCovered (placed dir o pending) x
    was_settled m x is not_root settled =
        elim (cases_Bool (nat_eq o.number x.parent)) [
          | inl child ↦
              let parent : x.parent ≡ o.number = sym (eqb-true o.number x.parent child) in
              elim keeps.children [
                | inl unchanged ↦ inl (same_parent x not_root parent unchanged settled)
                | inr covered ↦
                    let number : x.number ≡ m = of_number dir.objects m x is in
                    inr (rw (parent, number) (covered m x is parent))
              ]
          | inr apart ↦ inl (other_parent x not_root (eqb-false o.number x.parent apart) settled)
        ]

    was_covered : (m : ℕ) (x : Object) → object_of dir.objects m ≡ Some x → covers dir.pending x.parent x.number
        ≡ true → IsSettledOrCovered (placed dir o pending) x
    was_covered m x is covered =
        let number : x.number ≡ m = of_number dir.objects m x is in
        inr (rw number (keeps.others m x is (rw number at covered)))

    each : (m : ℕ) (x : Object) → object_of (put o dir.objects) m ≡ Some x → (m ≡ root → ⊥)
        → IsSettledOrCovered (placed dir o pending) x
    each m x is not_root =
        elim (cases_Bool (nat_eq o.number m)) [
          | inl same ↦
              let number : o.number ≡ m = eqb-true o.number m same in
              let itself : o ≡ x = same_Some o x
              (sym (of-put_same o dir.objects) ∙ subst (λ (n : ℕ). object_of (put o dir.objects) n ≡ Some x)
              (sym number) is) in
              subst (λ (y : Object). IsSettledOrCovered (placed dir o pending) y) itself
              (keeps.self (λ (e : o.number ≡ root). not_root (sym number ∙ e)))
          | inr differ ↦
              let apart : o.number ≡ m → ⊥ = eqb-false o.number m differ in
              let old : object_of dir.objects m ≡ Some x = sym (of-put_other o dir.objects m apart) ∙ is in
              let number : x.number ≡ m = of_number dir.objects m x old in
              let below : x.number ≡ root → ⊥ = λ (e : x.number ≡ root). not_root (sym number ∙ e) in
              elim (before.each m x old not_root (λ (e : m ≡ o.number). apart (sym e))) [
                | inl settled ↦ was_settled m x old below settled
                | inr covered ↦ was_covered m x old covered
              ]
        ]

-- ---- writing

-- an object that is put with the descriptor that it should have is settled
pub settled_is : (dir : Directory) (o : Object) (pending : List Pending) → (o.number ≡ root → ⊥)
    → (o.number ≡ o.parent → ⊥) → IsSettled (placed dir (settled dir o) pending) (settled dir o)
settled_is dir o pending not_root apart =
    let before : sd_at (put (settled dir o) dir.objects) o.parent ≡ sd_at dir.objects o.parent
    = ap (λ (x : Object). x.sd) (at-put_other (settled dir o) dir.objects o.parent apart) in
    whole_below dir o not_root
    ∙ sym (whole-whole (sd_at dir.objects o.parent) (sd_at dir.objects o.parent) o.sd (guid_at dir.schema o.class)
    (guid_at dir.schema o.class))
    ∙ ap (λ (sd : Sd). whole sd (whole (sd_at dir.objects o.parent) o.sd (guid_at dir.schema o.class))
    (guid_at dir.schema o.class)) (sym before)
    ∙ ap (λ (sd : Sd). whole (sd_at (put (settled dir o) dir.objects) o.parent) sd (guid_at dir.schema o.class))
    (sym (whole_below dir o not_root))
    ∙ sym (whole_below (placed dir (settled dir o) pending) (settled dir o) not_root)

-- the one rule: the object gets what it should have and is marked where its descriptor changed
pub stored_inherits : (dir : Directory) (o : Object) → Rise dir.objects → InheritsBut o.number dir
    → ((o.number ≡ root → ⊥) → IsSettledOrCovered (stored dir o) o) → Inherits (stored dir o)
unfolding stored
stored_inherits dir o rise before self = keep dir o (marked_if_changed (sd_at dir.objects o.number) o dir.pending)
    before (record {
      self = self;
      others = λ m x is covered. marked_if_keeps (sd_at dir.objects o.number) o x.parent m dir.pending
          (of_above 0 dir.objects m x rise is) covered;
      children = elim (cases_Bool (same_sd (sd_at dir.objects o.number) o.sd)) [
        | inl same ↦ inl (same_sd-is (sd_at dir.objects o.number) o.sd same)
        | inr differ ↦ inr (λ m x is _. marked_if_changed_covers (sd_at dir.objects o.number) o m dir.pending
            (of_above 0 dir.objects m x rise is) differ)
      ];
    })

pub written_inherits : (dir : Directory) (o : Object) → Rise dir.objects → InheritsBut o.number dir
    → (o.number ≡ o.parent → ⊥) → Inherits (written dir o)
unfolding written stored
written_inherits dir o rise before apart = stored_inherits dir (settled dir o) rise before
    (λ not_root. inl (settled_is dir o (marked_if_changed (sd_at dir.objects o.number) (settled dir o) dir.pending)
    not_root apart))
