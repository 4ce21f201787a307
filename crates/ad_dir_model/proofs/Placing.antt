-- What is asked of each object, after one was put.
use Rattle.std.proofs.Common.{◌≡◌, ℕ, true, List, [], ◌∷◌, Some, ◌⊎◌, inl, inr, sym, subst, ap, ◌∙◌}
use Rattle.std.specs.Prelude.{nat_eq}
use Rattle.std.specs.List.{AllByRecursion}
use Rattle.std.proofs.lemmas.Bool.{eqb-true, eqb-false, cases_Bool}
use Rattle.std.proofs.lemmas.Option.{same_Some}
use Rattle.ad_dn.specs.Fold.{folded}
use Rattle.prop_queue.specs.declared.pending.Pending.{Pending}
use Rattle.ad_dir_model.specs.Object.{Object, links_in}
use Rattle.ad_dir_model.specs.Objects.{object_of, is_live, put}
use Rattle.ad_dir_model.specs.Identity.{sid_in}
use Rattle.ad_dir_model.specs.Directory.{Directory}
use Rattle.ad_dir_model.specs.Soundness.{HasOwnName, HasOwnSid, Stands, IsSoundObject, EachIsSound}
use Rattle.ad_dir_model.specs.Conditions.{Fits}
use Rattle.ad_dir_model.proofs.Finding.{of_number, of-put_same, of-put_other, live-put}
use Rattle.ad_dir_model.proofs.Inheriting.{placed}

-- an object in the list after one was put: that one, or one from before with another number
pub record IsFromBefore (o : Object) (objects : List Object) (m : ℕ) (x : Object) : Type 0 where
  pub apart : o.number ≡ m → ⊥
  pub live : object_of objects m ≡ Some x
  pub number : x.number ≡ m

abbrev pub PutOrBefore : Object → List Object → ℕ → Object → Type 0
PutOrBefore o objects m x = (o ≡ x) ⊎ IsFromBefore o objects m x

pub put_or_before : (o : Object) (objects : List Object) (m : ℕ) (x : Object) → object_of (put o objects) m ≡ Some x
    → PutOrBefore o objects m x
put_or_before o objects m x is =
    elim (cases_Bool (nat_eq o.number m)) [
      | inl same ↦
          let number : o.number ≡ m = eqb-true o.number m same in
          inl (same_Some o x (sym (of-put_same o objects) ∙ subst (λ (n : ℕ). object_of (put o objects) n ≡ Some x)
          (sym number) is))
      | inr differ ↦
          let apart : o.number ≡ m → ⊥ = eqb-false o.number m differ in
          let old : object_of objects m ≡ Some x = sym (of-put_other o objects m apart) ∙ is in
          inr (record { apart = apart; live = old; number = of_number objects m x old })
    ]

pub all_live_more : (objects more : List Object) (numbers : List ℕ)
    → ((n : ℕ) → is_live objects n ≡ true → is_live more n ≡ true)
    → AllByRecursion (λ (n : ℕ). is_live objects n ≡ true) numbers → AllByRecursion (λ (n : ℕ). is_live more n ≡ true)
    numbers
all_live_more objects more [] keeps all = tt
all_live_more objects more (n ∷ ns) keeps all = (keeps n all.0, all_live_more objects more ns keeps all.1)

-- ---- names and identifiers

pub put_name : (dir : Directory) (o : Object) → Fits dir o → HasOwnName (put o dir.objects) o
put_name dir o may m other is same_parent same_name =
    elim (put_or_before o dir.objects m other is) [
      | inl itself ↦ ap (λ (x : Object). x.number) (sym itself)
      | inr before ↦ may.own_name m other before.live same_parent same_name
    ]

pub put_sid : (dir : Directory) (o : Object) → Fits dir o → HasOwnSid dir.schema (put o dir.objects) o
put_sid dir o may m other sid is has_sid own =
    elim (put_or_before o dir.objects m other is) [
      | inl itself ↦ ap (λ (x : Object). x.number) (sym itself)
      | inr before ↦ may.own_sid m other sid before.live has_sid own
    ]

pub before_name : (dir : Directory) (o : Object) → Fits dir o → (m : ℕ) (x : Object) → object_of dir.objects m
    ≡ Some x → HasOwnName dir.objects x → HasOwnName (put o dir.objects) x
before_name dir o may m x live own k other is same_parent same_name =
    elim (put_or_before o dir.objects k other is) [
      | inl itself ↦
          let parent : x.parent ≡ o.parent = rw itself (sym same_parent) in
          let name : folded x.name ≡ folded o.name = rw itself (sym same_name) in
          ap (λ (y : Object). y.number) (sym itself) ∙ sym (may.own_name m x live parent name)
      | inr before ↦ own k other before.live same_parent same_name
    ]

pub before_sid : (dir : Directory) (o : Object) → Fits dir o → (m : ℕ) (x : Object) → object_of dir.objects m ≡ Some x
    → HasOwnSid dir.schema dir.objects x → HasOwnSid dir.schema (put o dir.objects) x
before_sid dir o may m x live own k other sid is has_sid x_sid =
    elim (put_or_before o dir.objects k other is) [
      | inl itself ↦
          let put_has : sid_in dir.schema o ≡ Some sid = rw itself has_sid in
          ap (λ (y : Object). y.number) (sym itself) ∙ sym (may.own_sid m x sid live x_sid put_has)
      | inr before ↦ own k other sid before.live has_sid x_sid
    ]

-- Each object is sound in the new directory, where it stands right there.
pub each_placed : (dir : Directory) (o : Object) (pending : List Pending) → EachIsSound dir → Fits dir o
    → ((m : ℕ) (x : Object) → object_of (put o dir.objects) m ≡ Some x → Stands (placed dir o pending) x)
    → EachIsSound (placed dir o pending)
each_placed dir o pending each may stands m x is =
    elim (put_or_before o dir.objects m x is) [
      | inl itself ↦ subst (IsSoundObject (placed dir o pending)) itself (record {
        content = may.content;
        stands = subst (Stands (placed dir o pending)) (sym itself) (stands m x is);
        links = may.links;
        own_name = put_name dir o may;
        own_sid = put_sid dir o may;
      })
      | inr before ↦
          let old : IsSoundObject dir x = each m x before.live in
          record {
            content = old.content;
            stands = stands m x is;
            links = all_live_more dir.objects (put o dir.objects) (links_in x.values) (live-put o dir.objects)
                old.links;
            own_name = before_name dir o may m x before.live old.own_name;
            own_sid = before_sid dir o may m x before.live old.own_sid;
          }
    ]
