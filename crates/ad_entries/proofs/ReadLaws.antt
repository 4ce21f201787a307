-- What may be read of an object's attributes.
use Rattle.std.proofs.Common.{◌≡◌, ℕ, zero, suc, ◌+◌, Bool, true, false, ◌&&◌, ◌||◌, ◌≤◌, List, [], ◌∷◌, length}
use Rattle.std.proofs.Common.{Option, Some, None, refl, sym, ap, ◌∙◌, arith}
use Rattle.std.specs.Prelude.{not, nat_lt, slice_get, option_and_then, unwrap_or}
use Rattle.std.proofs.lemmas.Bool.{ltb-false}
use Rattle.std.proofs.lemmas.Option.{none-some, same_Some}
use Rattle.ad_ids.specs.declared.guid.Guid.{Guid}
use Rattle.ad_ids.specs.declared.token.Token.{Token}
use Rattle.ad_acl.specs.Mask.{read_property, control_access}
use Rattle.ad_access.specs.Grant.{granted, granted_as_owner, granted_by_entries}
use Rattle.ad_value.specs.Value.{Value}
use Rattle.ad_schema.specs.declared.info.AttrId.{AttrId}
use Rattle.ad_schema.specs.declared.info.ClassId.{ClassId}
use Rattle.ad_schema.specs.declared.info.AttrInfo.{AttrInfo}
use Rattle.ad_schema.specs.Attributes.{attrs_of}
use Rattle.ad_dir_model.specs.Object.{Object}
use Rattle.ad_dir_model.specs.Objects.{is_live, object_at}
use Rattle.ad_dir_model.specs.Identity.{self_sid}
use Rattle.ad_dir_model.specs.Directory.{Directory}
use Rattle.ad_dir_model.proofs.Finding.{at-not_live}
use Rattle.ad_types.specs.TypesOf.{path_of}
use Rattle.ad_dir_model.specs.Shown.{shown}
use Rattle.ad_access_dir.specs.Sight.{is_granted}
use Rattle.ad_entries.specs.Seen.{is_never_read, is_granted_on, is_readable, read_of, reads_from, seen_of, values_at}
use Rattle.ad_entries.specs.Seen.{readable_at, readable_of}

-- ---- an attribute at its place

pub read_at : (dir : Directory) (token : Token) (number place : ℕ) (infos : List AttrInfo) (i : ℕ) (info : AttrInfo)
    → slice_get infos i ≡ Some info
    → slice_get (reads_from dir token number place infos) i ≡ Some (read_of dir token number (place + i) info)
unfolding reads_from
read_at dir token number place [] i info is = absurd (none-some info is)
read_at dir token number place (x ∷ xs) zero info is = ap (λ (y : AttrInfo). Some (read_of dir token number place y))
    (same_Some x info is) ∙ ap (λ (n : ℕ). Some (read_of dir token number n info))
    (let e : place ≡ place + 0 = omega arith in e)
read_at dir token number place (x ∷ xs) (suc i) info is =
    let further : suc place + i ≡ place + suc i = omega arith in
    read_at dir token number (suc place) xs i info is ∙ ap (λ (n : ℕ). Some (read_of dir token number n info)) further

pub readable_is : (dir : Directory) (token : Token) (number : ℕ) (id : AttrId) (info : AttrInfo)
    → slice_get (attrs_of dir.schema) id.0 ≡ Some info
    → readable_of dir.schema (seen_of dir token number) id ≡ readable_at info (read_of dir token number id.0 info)
unfolding seen_of
readable_is dir token number id info is =
    ap (option_and_then (λ (i : AttrInfo). readable_at i (values_at (seen_of dir token number) id.0))) is
    ∙ ap (λ (found : Option (Option (List Value))). readable_at info (unwrap_or found None))
    (read_at dir token number 0 (attrs_of dir.schema) id.0 info is)
    ∙ ap (λ (n : ℕ). readable_at info (read_of dir token number n info)) (let e : 0 + id.0 ≡ id.0 = omega arith in e)

pub not_readable : (dir : Directory) (token : Token) (number attr : ℕ) (info : AttrInfo)
    → is_readable dir token number attr info ≡ false → read_of dir token number attr info ≡ None
unfolding read_of
not_readable dir token number attr info is = rw is refl

pub is_read : (dir : Directory) (token : Token) (number attr : ℕ) (info : AttrInfo) → is_readable dir token number
    attr info ≡ true → read_of dir token number attr info ≡ Some (shown dir number attr)
unfolding read_of
is_read dir token number attr info is = rw is refl

-- as the code finds it
pub never_read : (dir : Directory) (token : Token) (number attr : ℕ) (info : AttrInfo) → true
    ≡ is_never_read info.name → false ≡ is_readable dir token number attr info
unfolding is_readable
never_read dir token number attr info is =
    ap (λ (b : Bool). (not b && is_granted_on dir token number attr read_property)
    && (not info.confidential || is_granted_on dir token number attr control_access)) is

pub readable_by : (dir : Directory) (token : Token) (number : ℕ) (attr : AttrId) (class : ClassId) (path : List Guid)
    (info : AttrInfo) (r : Bool) → false ≡ is_never_read info.name
    → path ≡ path_of dir.schema class attr → class.0 ≡ (object_at dir.objects number).class
    → r ≡ (is_granted dir token number path read_property
    && (not info.confidential || is_granted dir token number path control_access)) → r
    ≡ is_readable dir token number attr.0 info
unfolding is_readable
readable_by dir token number attr class path info r never is_path is_class is =
    let by_path : List Guid → Bool = λ (p : List Guid). is_granted dir token number p read_property
    && (not info.confidential || is_granted dir token number p control_access) in
    is
    ∙ ap by_path (is_path ∙ ap (λ (n : ℕ). path_of dir.schema (record { 0 = n }) attr) is_class)
    ∙ ap (λ (b : Bool). (not b && is_granted_on dir token number attr.0 read_property)
    && (not info.confidential || is_granted_on dir token number attr.0 control_access)) never

-- ---- an object that isn't live

nothing_granted : (dir : Directory) (token : Token) (number : ℕ) (path : List Guid) → is_live dir.objects number
    ≡ false → is_granted dir token number path read_property ≡ false
unfolding is_granted granted_as_owner granted_by_entries
nothing_granted dir token number path dead =
    ap (λ (o : Object). granted o.sd.owner o.sd.dacl.entries token (self_sid dir number) path read_property)
    (at-not_live dir.objects number dead)

none_read : (dir : Directory) (token : Token) (number attr : ℕ) (info : AttrInfo) → is_live dir.objects number ≡ false
    → read_of dir token number attr info ≡ None
unfolding is_readable
none_read dir token number attr info dead =
    not_readable dir token number attr info
    (ap (λ (b : Bool). (not (is_never_read info.name) && b)
    && (not info.confidential || is_granted_on dir token number attr control_access))
    (nothing_granted dir token number (path_of dir.schema (record { 0 = (object_at dir.objects number).class })
    (record { 0 = attr })) dead)
    ∙ ap (λ (b : Bool). b && (not info.confidential || is_granted_on dir token number attr control_access))
    (and_false (not (is_never_read info.name))))
  where
    and_false : (b : Bool) → (b && false) ≡ false
    and_false true = refl
    and_false false = refl

by_info : (dir : Directory) (token : Token) (number : ℕ) (id : AttrId) (found : Option AttrInfo)
    → slice_get (attrs_of dir.schema) id.0 ≡ found → is_live dir.objects number ≡ false
    → readable_of dir.schema (seen_of dir token number) id ≡ None
by_info dir token number id None is dead = ap
    (option_and_then (λ (i : AttrInfo). readable_at i (values_at (seen_of dir token number) id.0))) is
by_info dir token number id (Some info) is dead =
    readable_is dir token number id info is ∙ ap (readable_at info) (none_read dir token number id.0 info dead)

-- nothing is read of one
pub unread_unless_live : (dir : Directory) (token : Token) (number : ℕ) (id : AttrId) → is_live dir.objects number
    ≡ false → readable_of dir.schema (seen_of dir token number) id ≡ None
unread_unless_live dir token number id dead = by_info dir token number id (slice_get (attrs_of dir.schema) id.0) refl
    dead

-- nor of what is no attribute of the schema
none_past : {X : Type 0} (xs : List X) (i : ℕ) → length xs ≤ i → slice_get xs i ≡ None
none_past [] i le = refl
none_past (x ∷ xs) zero le = absurd (omega (arith, le))
none_past (x ∷ xs) (suc i) le = none_past xs i (omega (arith, le))

pub unread_past : (dir : Directory) (token : Token) (number : ℕ) (id : AttrId)
    → nat_lt id.0 (length (attrs_of dir.schema)) ≡ false → readable_of dir.schema (seen_of dir token number) id ≡ None
unread_past dir token number id past =
    ap (option_and_then (λ (i : AttrInfo). readable_at i (values_at (seen_of dir token number) id.0)))
    (none_past (attrs_of dir.schema) id.0 (ltb-false id.0 (length (attrs_of dir.schema)) past))
