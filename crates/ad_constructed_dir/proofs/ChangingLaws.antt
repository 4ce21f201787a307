-- What a token may change at an object, as code finds it, and of objects of one kind.
use Rattle.std.proofs.Common.{◌≡◌, ℕ, zero, suc, ◌+◌, ◌-◌, ◌<◌, ◌≤◌, Bool, true, false, ◌&&◌, List, [], ◌∷◌, ◌++◌}
use Rattle.std.proofs.Common.{Option, Some, None, length, refl, sym, ap, ◌∙◌, if◌then◌else◌, arith, get_or, inl, inr}
use Rattle.std.proofs.Common.{lit<, subst, drop, add-one}
use Rattle.std.specs.Prelude.{not, slice_get}
use Rattle.std.specs.Option.{option_map_or}
use Rattle.std.proofs.lemmas.List.{length-append, get_or_append_left, get_or-drop, length-drop}
use Rattle.std.proofs.lemmas.Option.{slice_get_within}
use Rattle.std.proofs.Math.Seq.{get_or-append_seam}
use Rattle.std.proofs.Math.Nat.{eq-or-lt_of_le}
use Rattle.ad_ids.specs.declared.token.Token.{Token}
use Rattle.ad_acl.specs.Mask.{has_bit, mapped_has, write_owner, write_dac, access_system_security}
use Rattle.ad_schema.specs.declared.line.SchemaRecord.{SchemaRecord}
use Rattle.ad_schema.specs.declared.info.AttrId.{AttrId}
use Rattle.ad_schema.specs.declared.info.ClassId.{ClassId}
use Rattle.ad_schema.specs.declared.info.AttrInfo.{AttrInfo}
use Rattle.ad_schema.specs.declared.info.ClassInfo.{ClassInfo}
use Rattle.ad_schema.specs.Attributes.{attrs_of}
use Rattle.ad_schema.specs.Classes.{classes_of, is_allowed, is_under}
use Rattle.ad_schema_defaults.specs.NewClass.{is_structural, is_schema_class}
use Rattle.ad_constructed.specs.Rights.{RightsValue, if_may, parts_of}
use Rattle.ad_constructed.specs.Listed.{name_if, is_replaceable, is_listed, attribute_at, attributes_below}
use Rattle.ad_constructed.specs.Listed.{attributes, is_child_listed, child_at, children_below, children}
use Rattle.ad_dir_model.specs.Objects.{is_live, object_at}
use Rattle.ad_dir_model.specs.Directory.{Directory}
use Rattle.ad_access_dir.specs.Sight.{is_granted}
use Rattle.ad_types.specs.TypesOf.{path_of}
use Rattle.ad_access_dir.specs.Passwords.{is_password, force_change}
use Rattle.ad_access_dir.specs.Allowed.{allowed_below, allowed_attrs}
use Rattle.ad_access_dir.specs.Masks.{IsMask}
use Rattle.ad_access_dir.proofs.AllowedLaws.{allowed_at}
use Rattle.ad_constructed_dir.specs.Changing.{is_writer, may_write, may_create, rights_at}
use Rattle.ad_constructed_dir.specs.Writes.{writes_below, writes_of, AreWriteMasks, rights_by}

both : {a b c d : List (List ℕ)} → a ≡ c → b ≡ d → a ++ b ≡ c ++ d
both {a} {b} {c} {d} e f = ap (λ (x : List (List ℕ)). x ++ b) e ∙ ap (λ (x : List (List ℕ)). c ++ x) f

-- ---- the lists say what the rights say

same_and : (x y p q : Bool) → (x && p) ≡ (x && q) → ((x && y) && p) ≡ ((x && y) && q)
same_and true true p q e = e
same_and true false p q e = refl
same_and false y p q e = refl

module _ (schema : List SchemaRecord) (class : ℕ) (a b : RightsValue) where
  attribute_alike : (place : ℕ) → (is_allowed schema class place && a.may_write place)
      ≡ (is_allowed schema class place && b.may_write place)
      → attribute_at schema class a place ≡ attribute_at schema class b place
  unfolding attribute_at
  attribute_alike place same = by_info (slice_get (attrs_of schema) place)
    where
      by_info : (found : Option AttrInfo)
          → option_map_or (λ (i : AttrInfo). name_if (is_listed schema class a place i) i.name) found []
          ≡ option_map_or (λ (i : AttrInfo). name_if (is_listed schema class b place i) i.name) found []
      by_info None = refl
      by_info (Some i) = ap (λ (t : Bool). name_if t i.name)
          (same_and (is_allowed schema class place) (is_replaceable schema class place i) (a.may_write place)
          (b.may_write place) same)

  pub attributes_alike : (n : ℕ) → ((place : ℕ) → place < n → (is_allowed schema class place && a.may_write place)
      ≡ (is_allowed schema class place && b.may_write place))
      → attributes_below schema class a n ≡ attributes_below schema class b n
  unfolding attributes_below
  attributes_alike zero same = refl
  attributes_alike (suc n) same = both (attributes_alike n (λ place lt. same place (omega (arith, lt))))
      (attribute_alike n (same n (omega arith)))

  child_alike : (place : ℕ) → a.may_create place ≡ b.may_create place → child_at schema class a place
      ≡ child_at schema class b place
  unfolding child_at
  child_alike place same = by_info (slice_get (classes_of schema) place)
    where
      by_info : (found : Option ClassInfo)
          → option_map_or (λ (i : ClassInfo). name_if (is_child_listed schema class a place) i.name) found []
          ≡ option_map_or (λ (i : ClassInfo). name_if (is_child_listed schema class b place) i.name) found []
      by_info None = refl
      by_info (Some i) = ap (λ (t : Bool). name_if
          (((is_structural schema place && not (is_schema_class schema place)) && is_under schema place class) && t)
          i.name) same

  pub children_alike : (n : ℕ) → ((place : ℕ) → a.may_create place ≡ b.may_create place) → children_below schema class
      a n ≡ children_below schema class b n
  unfolding children_below
  children_alike zero same = refl
  children_alike (suc n) same = both (children_alike n same) (child_alike n (same n))

pub parts_alike : (a b : RightsValue) → a.may_write_owner ≡ b.may_write_owner → a.may_write_list ≡ b.may_write_list
    → a.may_write_system_list ≡ b.may_write_system_list → parts_of a ≡ parts_of b
unfolding parts_of
parts_alike a b owner list system_list =
    ap (λ (t : Bool). (if_may t 3 + if_may a.may_write_list 4) + if_may a.may_write_system_list 8) owner
    ∙ ap (λ (t : Bool). (if_may b.may_write_owner 3 + if_may t 4) + if_may a.may_write_system_list 8) list
    ∙ ap (λ (t : Bool). (if_may b.may_write_owner 3 + if_may b.may_write_list 4) + if_may t 8) system_list

-- ---- the rights as code has them

twice : (x p : Bool) → (x && (x && p)) ≡ (x && p)
twice true p = refl
twice false p = refl

module _ (dir : Directory) (token : Token) (number class : ℕ) where
  writes_long : (n : ℕ) → length (writes_below dir token number class n) ≡ n
  unfolding writes_below
  writes_long zero = refl
  writes_long (suc n) = let long : length (writes_below dir token number class n) ≡ n = writes_long n in
      length-append (writes_below dir token number class n)
      ((is_allowed dir.schema class n && may_write dir token number n) ∷ []) ∙ omega (arith, long)

  pub written_at : (n place : ℕ) → place < n → get_or (writes_below dir token number class n) place false
      ≡ (is_allowed dir.schema class place && may_write dir token number place)
  unfolding writes_below
  written_at zero place lt = absurd (omega (arith, lt))
  written_at (suc n) place lt =
      let one : Bool = is_allowed dir.schema class n && may_write dir token number n in
      let long : length (writes_below dir token number class n) ≡ n = writes_long n in
      elim (eq-or-lt_of_le {n = place} {m = n} (omega (arith, lt))) [
        | inl last ↦
            ap (λ (k : ℕ). get_or (writes_below dir token number class n ++ one ∷ []) k false) (last ∙ sym long)
            ∙ get_or-append_seam (writes_below dir token number class n) one [] false
            ∙ ap (λ (k : ℕ). is_allowed dir.schema class k && may_write dir token number k) (sym last)
        | inr before ↦
            get_or_append_left (writes_below dir token number class n) (one ∷ []) false place
            (omega (arith, before, long))
            ∙ written_at n place before
      ]

  pub attributes_by : (written : List Bool) → written ≡ writes_of dir token number class
      → attributes dir.schema class (rights_by dir token number written) ≡ attributes dir.schema class
      (rights_at dir token number)
  attributes_by written is =
      attributes_alike dir.schema class (rights_by dir token number written) (rights_at dir token number)
      (length (attrs_of dir.schema))
      (λ place lt.
      ap (λ (ws : List Bool). is_allowed dir.schema class place && get_or ws place false) is
      ∙ ap (λ (t : Bool). is_allowed dir.schema class place && t) (written_at (length (attrs_of dir.schema)) place lt)
      ∙ twice (is_allowed dir.schema class place) (may_write dir token number place))

module _ (dir : Directory) (token : Token) (number : ℕ) (live : is_live dir.objects number ≡ true) where
  if_live : (t : Bool) → (is_live dir.objects number && t) ≡ t
  if_live t = ap (λ (l : Bool). l && t) live

  pub children_by : (class : ℕ) (written : List Bool) → children dir.schema class (rights_by dir token number written)
      ≡ children dir.schema class (rights_at dir token number)
  children_by class written =
      children_alike dir.schema class (rights_by dir token number written) (rights_at dir token number)
      (length (classes_of dir.schema)) (λ place. if_live (may_create dir token number place))

  pub parts_by : (written : List Bool) → parts_of (rights_by dir token number written)
      ≡ parts_of (rights_at dir token number)
  parts_by written =
      parts_alike (rights_by dir token number written) (rights_at dir token number)
      (if_live (is_granted dir token number [] write_owner)) (if_live (is_granted dir token number [] write_dac))
      (if_live (is_granted dir token number [] access_system_security))

-- ---- at an object that isn't live

pub no_parts : (dir : Directory) (token : Token) (number : ℕ) (written : List Bool) → false
    ≡ is_live dir.objects number → 0 ≡ parts_of (rights_by dir token number written)
unfolding parts_of
no_parts dir token number written dead =
    ap (λ (l : Bool). (if_may (l && is_granted dir token number [] write_owner) 3
    + if_may (l && is_granted dir token number [] write_dac) 4)
    + if_may (l && is_granted dir token number [] access_system_security) 8) dead

-- ---- one attribute more

-- of one that objects may have there is a mask
pub mask_there : (dir : Directory) (token : Token) (number : ℕ) (class : ClassId) (attr : ℕ) (masks : List ℕ)
    (next : ℕ) → attr < length (attrs_of dir.schema) → is_allowed dir.schema class.0 attr ≡ true
    → AreWriteMasks dir token number class (allowed_attrs dir.schema class.0) masks → next
    ≡ length (allowed_below dir.schema class.0 attr) → next < length masks
mask_there dir token number class attr masks next within is are is_next =
    let there = allowed_at dir.schema class.0 attr (length (attrs_of dir.schema)) within is in
    let lt : length (allowed_below dir.schema class.0 attr) < length (allowed_attrs dir.schema class.0) =
    slice_get_within (allowed_attrs dir.schema class.0) (length (allowed_below dir.schema class.0 attr))
    (record { 0 = attr }) there in
    omega (arith, lt, are.long, is_next)

write_has : mapped_has 32 5 ≡ true
unfolding has_bit
write_has = refl

-- it says whether it may be written
pub written_by : (dir : Directory) (token : Token) (number : ℕ) (class : ClassId) (attr : AttrId) (info : AttrInfo)
    (masks : List ℕ) (next : ℕ) (allowed so : Bool)
    → slice_get (attrs_of dir.schema) attr.0 ≡ Some info → allowed ≡ is_allowed dir.schema class.0 attr.0 → allowed
    ≡ true → class.0 ≡ (object_at dir.objects number).class
    → AreWriteMasks dir token number class (allowed_attrs dir.schema class.0) masks → next
    ≡ length (allowed_below dir.schema class.0 attr.0)
    → so ≡ (if is_password info.name then is_granted dir token number (force_change ∷ []) 8
    else has_bit (get_or masks next 0) 5)
    → so ≡ (is_allowed dir.schema class.0 attr.0 && may_write dir token number attr.0)
unfolding may_write
written_by dir token number class attr info masks next allowed so there is_allowed_is is class_is are is_next so_is =
    let within : attr.0 < length (attrs_of dir.schema) = slice_get_within (attrs_of dir.schema) attr.0 info there in
    let mask = are.each next attr (ap (slice_get (allowed_attrs dir.schema class.0)) is_next
    ∙ allowed_at dir.schema class.0 attr.0 (length (attrs_of dir.schema)) within (sym is_allowed_is ∙ is)) in
    let bit : has_bit (get_or masks next 0) 5 ≡ is_granted dir token number (path_of dir.schema class attr) 5 =
    mask.bits 5 (lit< tt) ∙ ap (λ (b : Bool). b && is_granted dir token number (path_of dir.schema class attr) 5)
    (write_has) in
    so_is
    ∙ ap (λ (b : Bool). if is_password info.name then is_granted dir token number (force_change ∷ []) 8 else b)
    (bit ∙ ap (λ (c : ℕ). is_granted dir token number (path_of dir.schema (record { 0 = c }) attr) 5) class_is)
    ∙ ap (λ (found : Option AttrInfo). option_map_or (is_writer dir token number attr.0) found false) (sym there)
    ∙ ap (λ (b : Bool). b && option_map_or (is_writer dir token number attr.0)
    (slice_get (attrs_of dir.schema) attr.0) false) (sym (sym is_allowed_is ∙ is))

pub writes_more : (dir : Directory) (token : Token) (number class n : ℕ) (before after : List Bool) (so : Bool)
    → before ≡ writes_below dir token number class n
    → so ≡ (is_allowed dir.schema class n && may_write dir token number n) → after ≡ before ++ so ∷ [] → after
    ≡ writes_below dir token number class (n + 1)
unfolding writes_below
writes_more dir token number class n before after so is so_is new =
    new
    ∙ ap (λ (ws : List Bool). ws ++ so ∷ []) is
    ∙ ap (λ (b : Bool). writes_below dir token number class n ++ b ∷ []) so_is
    ∙ ap (writes_below dir token number class) (sym (add-one n))

counted : (ids : List AttrId) (n : ℕ) (wanted : Bool) → (if wanted then length ids + 1 else length ids)
    ≡ length (ids ++ (if wanted then record { 0 = n } ∷ [] else []))
counted ids n true = sym (length-append ids (record { 0 = n } ∷ []))
counted ids n false = sym (length-append ids [] ∙ omega arith)

pub next_more : (schema : List SchemaRecord) (class n next after : ℕ) (allowed : Bool) → next
    ≡ length (allowed_below schema class n) → allowed ≡ is_allowed schema class n
    → after ≡ (if allowed then next + 1 else next) → after ≡ length (allowed_below schema class (n + 1))
unfolding allowed_below
next_more schema class n next after allowed is allowed_is new =
    new
    ∙ ap (λ (k : ℕ). if allowed then k + 1 else k) is
    ∙ ap (λ (b : Bool). if b then length (allowed_below schema class n) + 1
    else length (allowed_below schema class n)) allowed_is
    ∙ counted (allowed_below schema class n) n (is_allowed schema class n)
    ∙ ap (λ (k : ℕ). length (allowed_below schema class k)) (sym (add-one n))

-- ---- the masks of the attributes are the last ones

pub last_masks : (dir : Directory) (token : Token) (number : ℕ) (class : ClassId) (ids : List AttrId)
    (masks last : List ℕ) (count : ℕ) → count ≡ length ids → length ids ≤ length masks
    → ((i : ℕ) (id : AttrId) → slice_get ids i ≡ Some id
    → IsMask 32 (is_granted dir token number (path_of dir.schema class id))
    (get_or masks ((length masks - length ids) + i) 0))
    → last ≡ drop (length masks - count) masks → AreWriteMasks dir token number class ids last
last_masks dir token number class ids masks last count is_count le each is = record {
  long = ap (λ (xs : List ℕ). length xs) is ∙ length-drop (length masks - count) masks ∙ omega (arith, is_count, le);
  each = λ i id there.
      let at : get_or last i 0 ≡ get_or masks ((length masks - length ids) + i) 0 =
      ap (λ (xs : List ℕ). get_or xs i 0) is ∙ get_or-drop (length masks - count) masks i 0
      ∙ ap (λ (k : ℕ). get_or masks ((length masks - k) + i) 0) is_count in
      subst (λ (mask : ℕ). IsMask 32 (is_granted dir token number (path_of dir.schema class id)) mask) (sym at)
      (each i id there);
}
