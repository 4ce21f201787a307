-- Controls of which none stands again, one more at a time, and the first fault of controls of which one does.
use Rattle.std.proofs.Common.{◌≡◌, ℕ, suc, ◌+◌, ◌<◌, Bool, true, false, List, [], ◌∷◌, ◌++◌, length, take, drop}
use Rattle.std.proofs.Common.{get_or, cond, not, Option, Some, None, inl, inr, refl, sym, ap, subst, ◌∙◌}
use Rattle.std.proofs.Common.{append_assoc}
use Rattle.std.specs.Prelude.{◌||◌, if◌then◌else◌}
use Rattle.std.specs.Str.{bytes_eq}
use Rattle.std.specs.Ordering.{nat_cmp, is_eq}
use Rattle.std.specs.BTreeSet.{contains, BTreeSet, Updates}
use Rattle.std.proofs.Math.Bool.{or-false}
use Rattle.std.proofs.lemmas.Bool.{cases_Bool, false≢true}
use Rattle.std.proofs.lemmas.Slice.Eq.{bytes_eq-Decides}
use Rattle.std.proofs.Math.Seq.{drop-cons}
use Rattle.std.proofs.lemmas.List.{take_more, take-append-drop, append-nil, get_or_default}
use Rattle.std.proofs.lemmas.List.Folds.{list_any-append}
use Rattle.ad_ldap.specs.declared.controls.Control.{Control}
use Rattle.ad_ldap.specs.MessageValue.{OpValue}
use Rattle.ad_ldap.specs.Settings.{role_of, fault_by, first_of, first_fault}
use Rattle.ad_ldap.specs.OwnFaults.{first_own}
use Rattle.ad_ldap.specs.Again.{stands, AreNew, IsAgainAt, digest, AreSeen}

-- ---- one more

pub stands-more : (cs : List Control) (c : Control) (oid : List ℕ) → stands (cs ++ c ∷ []) oid ≡ stands cs oid
    || bytes_eq c.oid oid
stands-more cs c oid =
    list_any-append (λ d. bytes_eq d.oid oid) cs (c ∷ [])
    ∙ ap (λ (b : Bool). stands cs oid || b) (or-false (bytes_eq c.oid oid))

pub new-more : (earlier cs : List Control) (c : Control) → AreNew earlier cs → stands (earlier ++ cs) c.oid ≡ false
    → AreNew earlier (cs ++ c ∷ [])
new-more earlier [] c new none = (sym (ap (λ (l : List Control). stands l c.oid) (append-nil earlier)) ∙ none, tt)
new-more earlier (d ∷ cs) c new none = (
  new.0,
  new-more (earlier ++ d ∷ []) cs c new.1
      (ap (λ (l : List Control). stands l c.oid) (append_assoc earlier (d ∷ []) cs) ∙ none),
)

-- the same at a place
pub new_at : (cs : List Control) (i : ℕ) (d : Control) → i < length cs → AreNew [] (take i cs)
    → stands (take i cs) (get_or cs i d).oid ≡ false → AreNew [] (take (i + 1) cs)
new_at cs i d lt new none = subst (AreNew []) (sym (take_more cs i d lt))
    (new-more [] (take i cs) (get_or cs i d) new none)

-- the control that stands there
pub new_here : (cs : List Control) (i : ℕ) (c : Control) → i < length cs → c ≡ get_or cs i c → AreNew [] (take i cs)
    → stands (take i cs) c.oid ≡ false → AreNew [] (take (i + 1) cs)
new_here cs i c lt is new none = new_at cs i c lt new (ap (λ (x : Control). stands (take i cs) x.oid) (sym is) ∙ none)

pub again_here : (cs : List Control) (i : ℕ) (c : Control) → i < length cs → c ≡ get_or cs i c → AreNew [] (take i cs)
    → stands (take i cs) c.oid ≡ true → IsAgainAt i cs
again_here cs i c lt is new again = record {
  within = lt;
  new = new;
  again = λ d. ap (λ (x : Control). stands (take i cs) x.oid) (get_or_default cs i d c lt ∙ sym is) ∙ again;
}

-- ---- digests

cond_true : (b : Bool) → cond b true true ≡ true
cond_true true = refl
cond_true false = refl

seen_more : (s t : BTreeSet ℕ) (cs : List Control) (c : Control) → AreSeen s cs → Updates nat_cmp s t (digest c.oid)
    true → AreSeen t (cs ++ c ∷ [])
seen_more s t cs c seen up = λ oid there. elim (cases_Bool (stands cs oid)) [
  | inl before ↦
      up.0 (digest oid) ∙ ap (λ (b : Bool). cond (is_eq (nat_cmp (digest c.oid) (digest oid))) true b)
      (seen oid before) ∙ cond_true (is_eq (nat_cmp (digest c.oid) (digest oid)))
  | inr apart ↦
      let same : bytes_eq c.oid oid ≡ true = sym (ap (λ (b : Bool). b || bytes_eq c.oid oid) apart)
      ∙ sym (stands-more cs c oid) ∙ there in
      let one : c.oid ≡ oid = (bytes_eq-Decides c.oid oid).0 same in
      ap (λ (o : List ℕ). contains nat_cmp t (digest o)) (sym one) ∙ up.1
]

pub seen_here : (s t : BTreeSet ℕ) (cs : List Control) (i : ℕ) (c : Control) → i < length cs → c ≡ get_or cs i c
    → AreSeen s (take i cs) → Updates nat_cmp s t (digest c.oid) true → AreSeen t (take (i + 1) cs)
seen_here s t cs i c lt is seen up =
    subst (AreSeen t) (ap (λ (x : Control). take i cs ++ x ∷ []) is ∙ sym (take_more cs i c lt))
    (seen_more s t (take i cs) c seen up)

-- what isn't in the set doesn't stand among them
pub not_seen : (s : BTreeSet ℕ) (cs : List Control) (oid : List ℕ) → AreSeen s cs → contains nat_cmp s (digest oid)
    ≡ false → stands cs oid ≡ false
not_seen s cs oid seen absent = elim (cases_Bool (stands cs oid)) [
  | inl there ↦ absurd (false≢true (sym absent ∙ seen oid there))
  | inr apart ↦ apart
]

not_true : (b : Bool) → not b ≡ true → b ≡ false
not_true false e = refl
not_true true e = sym e

-- where its digest was put into the set anew, it doesn't stand among them
pub new_digest : (s : BTreeSet ℕ) (cs : List Control) (oid : List ℕ) (number : ℕ) (is_new : Bool) → AreSeen s cs
    → number ≡ digest oid → is_new ≡ not (contains nat_cmp s number)
    → is_new ≡ true → stands cs oid ≡ false
new_digest s cs oid number is_new seen is added new =
    not_seen s cs oid seen (ap (contains nat_cmp s) (sym is) ∙ not_true (contains nat_cmp s number) (sym added ∙ new))

-- ---- the first fault

first_of-assoc : (a b c : Option ℕ) → first_of (first_of a b) c ≡ first_of a (first_of b c)
first_of-assoc None b c = refl
first_of-assoc (Some x) b c = refl

-- where none stands again, the faults are their own
pub own_alone : (op : OpValue) (earlier cs : List Control) → AreNew earlier cs → first_own op cs
    ≡ first_fault op earlier cs
own_alone op earlier [] new = refl
own_alone op earlier (c ∷ cs) new =
    let own : Option ℕ = fault_by (role_of op c.oid) c in
    ap (first_of own) (own_alone op (earlier ++ c ∷ []) cs new.1)
    ∙ ap (λ (b : Bool). first_of (if b then Some 2 else own) (first_fault op (earlier ++ c ∷ []) cs)) (sym new.0)

-- where one stands again, it is faulty if none before it is
own_then_again : (op : OpValue) (earlier cs : List Control) (c : Control) (others : List Control) → AreNew earlier cs
    → stands (earlier ++ cs) c.oid ≡ true
    → first_of (first_own op cs) (Some 2) ≡ first_fault op earlier (cs ++ c ∷ others)
own_then_again op earlier [] c others new again =
    let here : true ≡ stands earlier c.oid = sym again ∙ ap (λ (l : List Control). stands l c.oid)
    (append-nil earlier) in
    ap (λ (b : Bool). first_of (if b then Some 2 else fault_by (role_of op c.oid) c)
    (first_fault op (earlier ++ c ∷ []) others)) here
own_then_again op earlier (d ∷ cs) c others new again =
    let own : Option ℕ = fault_by (role_of op d.oid) d in
    first_of-assoc own (first_own op cs) (Some 2)
    ∙ ap (first_of own) (own_then_again op (earlier ++ d ∷ []) cs c others new.1
    (ap (λ (l : List Control). stands l c.oid) (append_assoc earlier (d ∷ []) cs) ∙ again))
    ∙ ap (λ (b : Bool). first_of (if b then Some 2 else own) (first_fault op (earlier ++ d ∷ []) (cs ++ c ∷ others)))
    (sym new.0)

nobody : Control
nobody = record { oid = []; critical = false; value = None }

pub own_up_to : (op : OpValue) (cs : List Control) (place : ℕ) → IsAgainAt place cs
    → first_of (first_own op (take place cs)) (Some 2) ≡ first_fault op [] cs
own_up_to op cs place h =
    let c : Control = get_or cs place nobody in
    let lt : place < length cs = h.within in
    let parts : take place cs ++ c ∷ drop (suc place) cs ≡ cs =
    sym (ap (λ (l : List Control). take place cs ++ l) (drop-cons cs place nobody lt)) ∙ take-append-drop place cs in
    own_then_again op [] (take place cs) c (drop (suc place) cs) h.new (h.again nobody) ∙ ap (first_fault op []) parts
