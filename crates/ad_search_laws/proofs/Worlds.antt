-- The three ways in which two directories may differ without a token being able to tell.
use Rattle.std.proofs.Common.{◌≡◌, ℕ, Bool, true, false, not, cond, List, [], ◌∷◌, map, Option, Some, inl, inr, refl}
use Rattle.std.proofs.Common.{sym, ap, ◌∙◌}
use Rattle.std.specs.Prelude.{nat_eq, unwrap_or, is_some}
use Rattle.std.specs.List.{AllByRecursion}
use Rattle.std.proofs.lemmas.Bool.{cases_Bool, eqb-true, eqb-false, ne_eqb, false≢true}
use Rattle.ad_ids.specs.declared.guid.Guid.{Guid}
use Rattle.ad_ids.specs.declared.token.Token.{Token}
use Rattle.ad_ids.specs.SidValue.{SidValue}
use Rattle.ad_acl.specs.Mask.{read_control, access_system_security}
use Rattle.ad_access.specs.Grant.{granted}
use Rattle.ad_sd.specs.declared.parts.Sd.{Sd}
use Rattle.ad_sd.specs.declared.parts.SdParts.{SdParts}
use Rattle.ad_sd.specs.Shown.{asked}
use Rattle.ad_schema.specs.declared.line.SchemaRecord.{SchemaRecord}
use Rattle.ad_dir_model.specs.Object.{Object, no_object, names, stored_in}
use Rattle.ad_dir_model.specs.Objects.{numbers, object_of, object_at, parent_at, sd_at, is_live, removed}
use Rattle.ad_dir_model.specs.Identity.{sid_in, self_sid}
use Rattle.ad_dir_model.specs.Directory.{Directory}
use Rattle.ad_dir_model.proofs.Finding.{of-removed_other}
use Rattle.ad_access_dir.specs.Sight.{is_granted, is_visible}
use Rattle.ad_entries.specs.Seen.{Seen, parts_read, seen_of, seen_among, view}
use Rattle.ad_search.proofs.SeenLaws.{seen_more, unseen_more}
use Rattle.ad_search_laws.specs.Worlds.{HasSameFrame, IsHidden, StandsAlone, IsReadAlike, IsGrantedAlike}
use Rattle.ad_search_laws.specs.Worlds.{without_values, without_sd}
use Rattle.ad_search_laws.proofs.Alike.{LooksSame, AreAlike}
use Rattle.ad_search_laws.proofs.Views.{same_among}

-- ---- rights and parts, from a descriptor and an identifier

granted_is : (dir : Directory) (token : Token) (n : ℕ) (path : List Guid) (bit : ℕ)
    → is_granted dir token n path bit ≡ granted (sd_at dir.objects n).owner (sd_at dir.objects n).dacl.entries token
    (self_sid dir n) path bit
unfolding is_granted
granted_is dir token n path bit = refl

same_granted : (dir other : Directory) (token : Token) (n : ℕ) → sd_at other.objects n ≡ sd_at dir.objects n
    → self_sid other n ≡ self_sid dir n
    → (path : List Guid) (bit : ℕ) → is_granted other token n path bit ≡ is_granted dir token n path bit
same_granted dir other token n sd self path bit =
    granted_is other token n path bit
    ∙ ap (λ (d : Sd). granted d.owner d.dacl.entries token (self_sid other n) path bit) sd
    ∙ ap (λ (s : Option SidValue). granted (sd_at dir.objects n).owner (sd_at dir.objects n).dacl.entries token s path
    bit) self
    ∙ sym (granted_is dir token n path bit)

parts_by : Sd → Bool → Bool → SdParts
parts_by sd control security = record {
  owner = asked control sd.owner;
  group = asked control sd.group;
  dacl
      = asked control sd.dacl;
  sacl = asked security sd.sacl;
}

parts_is : (dir : Directory) (token : Token) (n : ℕ)
    → parts_read dir token n ≡ parts_by (sd_at dir.objects n) (is_granted dir token n [] read_control)
    (is_granted dir token n [] access_system_security)
unfolding parts_read parts_by
parts_is dir token n = refl

same_parts : (dir other : Directory) (token : Token) (n : ℕ) → sd_at other.objects n ≡ sd_at dir.objects n
    → ((path : List Guid) (bit : ℕ) → is_granted other token n path bit ≡ is_granted dir token n path bit)
    → parts_read other token n ≡ parts_read dir token n
same_parts dir other token n sd rights =
    parts_is other token n
    ∙ ap (λ (d : Sd). parts_by d (is_granted other token n [] read_control)
    (is_granted other token n [] access_system_security)) sd
    ∙ ap (λ (b : Bool). parts_by (sd_at dir.objects n) b (is_granted other token n [] access_system_security))
    (rights [] read_control)
    ∙ ap (parts_by (sd_at dir.objects n) (is_granted dir token n [] read_control)) (rights [] access_system_security)
    ∙ sym (parts_is dir token n)

-- ---- what is left of objects that were made less

-- an object by its number, of a list whose objects were each made less and keep their numbers
at_mapped : (f : Object → Object) → ((o : Object) → (f o).number ≡ o.number) → f no_object ≡ no_object
    → (os : List Object) (n : ℕ) → object_at (map f os) n ≡ f (object_at os n)
unfolding object_at object_of
at_mapped f keeps none [] n = sym none
at_mapped f keeps none (o ∷ os) n =
    ap (λ (k : ℕ). unwrap_or (cond (nat_eq k n) (Some (f o)) (object_of (map f os) n)) no_object) (keeps o)
    ∙ by_bool (at_mapped f keeps none os n) (nat_eq o.number n)
  where
    by_bool : unwrap_or (object_of (map f os) n) no_object ≡ f (unwrap_or (object_of os n) no_object) → (b : Bool)
        → unwrap_or (cond b (Some (f o)) (object_of (map f os) n)) no_object
        ≡ f (unwrap_or (cond b (Some o) (object_of os n)) no_object)
    by_bool others true = refl
    by_bool others false = others

at_both : (f : Object → Object) → ((o : Object) → (f o).number ≡ o.number) → f no_object ≡ no_object
    → (os others : List Object) → map f others ≡ map f os
    → (n : ℕ) → f (object_at others n) ≡ f (object_at os n)
at_both f keeps none os others same n =
    sym (at_mapped f keeps none others n) ∙ ap (λ (xs : List Object). object_at xs n) same ∙ at_mapped f keeps none os n

numbers_mapped : (f : Object → Object) → ((o : Object) → (f o).number ≡ o.number) → (os : List Object)
    → numbers (map f os) ≡ numbers os
unfolding numbers
numbers_mapped f keeps [] = refl
numbers_mapped f keeps (o ∷ os) = ap (λ (k : ℕ). k ∷ numbers (map f os)) (keeps o)
    ∙ ap (λ (ks : List ℕ). o.number ∷ ks) (numbers_mapped f keeps os)

numbers_both : (f : Object → Object) → ((o : Object) → (f o).number ≡ o.number) → (os others : List Object)
    → map f others ≡ map f os → numbers others ≡ numbers os
numbers_both f keeps os others same = sym (numbers_mapped f keeps others) ∙ ap numbers same ∙ numbers_mapped f keeps os

-- ---- none left out

none_out : ℕ → Bool
none_out n = false

all_kept : (ns : List ℕ) → AllByRecursion (λ (n : ℕ). none_out n ≡ false) ns
unfolding none_out
all_kept [] = tt
all_kept (n ∷ ns) = (refl, all_kept ns)

same_view : (dir other : Directory) (token : Token) → AreAlike dir other token none_out → numbers other.objects
    ≡ numbers dir.objects → view other token ≡ view dir token
unfolding view
same_view dir other token alike same =
    ap (seen_among other token) same ∙ same_among dir other token none_out alike (numbers dir.objects)
    (all_kept (numbers dir.objects))

-- ---- other values

pub values_differ : (dir other : Directory) (token : Token) → HasSameFrame dir other
    → map without_values other.objects ≡ map without_values dir.objects
    → ((n : ℕ) → IsReadAlike dir other token n) → view other token ≡ view dir token
unfolding none_out
values_differ dir other token frame same each =
    same_view dir other token (record { frame = frame; each = looks })
    (numbers_both without_values (λ o. refl) dir.objects other.objects same)
  where
    at : (n : ℕ) → without_values (object_at other.objects n) ≡ without_values (object_at dir.objects n)
    at n = at_both without_values (λ o. refl) refl dir.objects other.objects same n

    rights : (n : ℕ) (path : List Guid) (bit : ℕ) → is_granted other token n path bit ≡ is_granted dir token n path bit
    rights n = same_granted dir other token n (ap (λ (o : Object). o.sd) (at n)) (each n).identifier

    looks : (n : ℕ) → none_out n ≡ false → LooksSame dir other token none_out n
    looks n kept = record {
      parent = ap (λ (o : Object). o.parent) (at n);
      class = ap (λ (o : Object). o.class) (at n);
      name = ap (λ (o : Object). o.name) (at n);
      rights = rights n;
      parts = λ visible. same_parts dir other token n (ap (λ (o : Object). o.sd) (at n)) (rights n);
      values = (each n).values;
      above = refl;
      linked = λ attr target is. refl;
    }

-- ---- other descriptors

pub descriptors_differ : (dir other : Directory) (token : Token) → HasSameFrame dir other
    → map without_sd other.objects ≡ map without_sd dir.objects
    → ((n : ℕ) → IsGrantedAlike dir other token n) → view other token ≡ view dir token
unfolding none_out
descriptors_differ dir other token frame same each =
    same_view dir other token (record { frame = frame; each = looks })
    (numbers_both without_sd (λ o. refl) dir.objects other.objects same)
  where
    at : (n : ℕ) → without_sd (object_at other.objects n) ≡ without_sd (object_at dir.objects n)
    at n = at_both without_sd (λ o. refl) refl dir.objects other.objects same n

    looks : (n : ℕ) → none_out n ≡ false → LooksSame dir other token none_out n
    looks n kept = record {
      parent = ap (λ (o : Object). o.parent) (at n);
      class = ap (λ (o : Object). o.class) (at n);
      name = ap (λ (o : Object). o.name) (at n);
      rights = (each n).rights;
      parts = (each n).parts;
      values = λ visible attr info is readable. ap (λ (o : Object). stored_in o.values attr) (at n);
      above = refl;
      linked = λ attr target is. refl;
    }

-- ---- a hidden object

-- what is left of the list without an object that isn't seen
left_out : (dir : Directory) (token : Token) (number : ℕ) (os : List Object)
    → (is_live os number ≡ true → is_visible dir token number ≡ false)
    → seen_among dir token (numbers os) ≡ seen_among dir token (numbers (removed number os))
unfolding numbers removed object_of
left_out dir token number [] hidden = refl
left_out dir token number (o ∷ os) hidden = elim (cases_Bool (nat_eq o.number number)) [
  | inl here ↦
      let unseen : is_visible dir token o.number ≡ false
      = ap (is_visible dir token) (eqb-true o.number number here)
      ∙ hidden (ap (λ (b : Bool). is_some (cond b (Some o) (object_of os number))) here) in
      unseen_more dir token o.number (numbers os) unseen
      ∙ left_out dir token number os (λ live. ap (is_visible dir token) (sym (eqb-true o.number number here)) ∙ unseen)
      ∙ ap (λ (b : Bool). seen_among dir token (numbers (cond (not b) (o ∷ removed number os) (removed number os))))
      (sym here)
  | inr apart ↦
      one_more (is_visible dir token o.number) refl
      (left_out dir token number os (λ live.
      hidden (ap (λ (b : Bool). is_some (cond b (Some o) (object_of os number))) apart ∙ live)))
      ∙ ap (λ (b : Bool). seen_among dir token (numbers (cond (not b) (o ∷ removed number os) (removed number os))))
      (sym apart)
]
  where
    one_more : (b : Bool) → is_visible dir token o.number ≡ b → seen_among dir token (numbers os)
        ≡ seen_among dir token (numbers (removed number os))
        → seen_among dir token (o.number ∷ numbers os) ≡ seen_among dir token (o.number ∷ numbers (removed number os))
    one_more true is same = seen_more dir token o.number (numbers os) is
        ∙ ap (λ (ss : List Seen). seen_of dir token o.number ∷ ss) same
        ∙ sym (seen_more dir token o.number (numbers (removed number os)) is)
    one_more false is same = unseen_more dir token o.number (numbers os) is ∙ same
        ∙ sym (unseen_more dir token o.number (numbers (removed number os)) is)

-- no number that is left is the one that was taken out
all_others : (number : ℕ) (os : List Object) → AllByRecursion (λ (n : ℕ). nat_eq n number ≡ false)
    (numbers (removed number os))
unfolding numbers removed
all_others number [] = tt
all_others number (o ∷ os) = elim (cases_Bool (nat_eq o.number number)) [
  | inl here ↦ rw here (all_others number os)
  | inr apart ↦ rw apart (apart, all_others number os)
]

pub hidden_differs : (dir other : Directory) (token : Token) (number : ℕ) → HasSameFrame dir other
    → removed number other.objects ≡ removed number dir.objects
    → IsHidden dir token number → IsHidden other token number → StandsAlone dir number → view other token
    ≡ view dir token
unfolding view object_at
hidden_differs dir other token number frame same hidden hidden_there alone =
    left_out other token number other.objects hidden_there
    ∙ ap (λ (os : List Object). seen_among other token (numbers os)) same
    ∙ same_among dir other token out (record { frame = frame; each = looks }) (numbers (removed number dir.objects))
    (all_others number dir.objects)
    ∙ sym (left_out dir token number dir.objects hidden)
  where
    out : ℕ → Bool
    out n = nat_eq n number

    at : (n : ℕ) → nat_eq n number ≡ false → object_at other.objects n ≡ object_at dir.objects n
    at n apart =
        let differ : number ≡ n → ⊥ = λ (e : number ≡ n). eqb-false n number apart (sym e) in
        ap (λ (found : Option Object). unwrap_or found no_object)
        (sym (of-removed_other number other.objects n differ) ∙ ap (λ (os : List Object). object_of os n) same
        ∙ of-removed_other number dir.objects n differ)

    self_at : (n : ℕ) → nat_eq n number ≡ false → self_sid other n ≡ self_sid dir n
    self_at n apart =
        ap (λ (s : List SchemaRecord). sid_in s (object_at other.objects n)) frame.schema
        ∙ ap (sid_in dir.schema) (at n apart)

    rights : (n : ℕ) → nat_eq n number ≡ false → (path : List Guid) (bit : ℕ) → is_granted other token n path bit
        ≡ is_granted dir token n path bit
    rights n apart = same_granted dir other token n (ap (λ (o : Object). o.sd) (at n apart)) (self_at n apart)

    not_named : (n : ℕ) → nat_eq n number ≡ false → (attr target : ℕ)
        → names target (stored_in (object_at dir.objects n).values attr) ≡ true → nat_eq target number ≡ false
    not_named n apart attr target is = elim (cases_Bool (nat_eq target number)) [
      | inl same_one ↦ absurd (false≢true (sym (alone.unnamed n attr (eqb-false n number apart))
          ∙ ap (λ (k : ℕ). names k (stored_in (object_at dir.objects n).values attr))
          (sym (eqb-true target number same_one)) ∙ is))
      | inr other_one ↦ other_one
    ]

    looks : (n : ℕ) → out n ≡ false → LooksSame dir other token out n
    looks n apart = record {
      parent = ap (λ (o : Object). o.parent) (at n apart);
      class = ap (λ (o : Object). o.class) (at n apart);
      name = ap (λ (o : Object). o.name) (at n apart);
      rights = rights n apart;
      parts = λ visible. same_parts dir other token n (ap (λ (o : Object). o.sd) (at n apart)) (rights n apart);
      values = λ visible attr info is readable. ap (λ (o : Object). stored_in o.values attr) (at n apart);
      above = ne_eqb (parent_at dir.objects n) number (alone.childless n (eqb-false n number apart));
      linked = not_named n apart;
    }
