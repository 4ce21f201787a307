-- When a directory is sound, in parts; and which number is reported of one that isn't.
use Rattle.std.specs.Prelude.{◌≡◌, ℕ, suc, ◌<◌, ◌≤◌, nat_le, Bool, true, false, ◌==◌, Option, Some, codes, List, []}
use Rattle.std.specs.Prelude.{◌∷◌, length, Ok, is_ok}
use Rattle.std.specs.List.{AllByRecursion, list_all}
use Rattle.std.specs.Option.{option_map_or}
use Rattle.ad_ids.specs.SidValue.{SidValue}
use Rattle.ad_dn.specs.Value.{IsValue}
use Rattle.ad_dn.specs.Fold.{folded}
use Rattle.ad_dn.specs.Text.{rdns_text}
use Rattle.ad_sddl.specs.Reading.{read_of}
use Rattle.ad_inherit.specs.Whole.{explicit_part}
use Rattle.ad_value.specs.declared.syntax.Syntax.{Syntax}
use Rattle.ad_value.specs.Value.{Value, as_shown}
use Rattle.ad_value.specs.ValueOf.{normal_or_fault}
use Rattle.prop_queue.specs.declared.pending.Pending.{Pending}
use Rattle.prop_queue.specs.Pending.{AreDistinct}
use Rattle.ad_schema.specs.declared.line.SchemaRecord.{SchemaRecord}
use Rattle.ad_schema.specs.declared.info.ClassInfo.{ClassInfo}
use Rattle.ad_schema.specs.Attributes.{attrs_of}
use Rattle.ad_schema.specs.Classes.{classes_of}
use Rattle.ad_schema.specs.Sound.{MakeSchema}
use Rattle.ad_dir_model.specs.Limits.{max_objects, max_weight, max_text, max_counter}
use Rattle.ad_dir_model.specs.Object.{Stored, plain, link, Held, Object, links_in}
use Rattle.ad_dir_model.specs.Objects.{object_of, is_live, Rise}
use Rattle.ad_dir_model.specs.Tree.{root, IsPlaced}
use Rattle.ad_schema.specs.Meaning.{attr_is_link}
use Rattle.ad_dir_model.specs.Attributes.{is_named, syntax_at}
use Rattle.ad_dir_model.specs.Identity.{sid_in, domain_sid, domain_child}
use Rattle.ad_dir_model.specs.Directory.{Directory, parents}
use Rattle.ad_dir_model.specs.Inheritance.{IsSettledOrCovered}
use Rattle.ad_dir_model.specs.Weight.{weight}

-- ---- the schema

-- the text of a class's default descriptor is read with the domain's identifier
abbrev pub default_reads : Option SidValue → ClassInfo → Bool
default_reads domain info = option_map_or (λ text. is_ok (read_of domain text)) info.default_sd true

-- The records make a schema, and the default texts are read.
pub record IsSchema (schema : List SchemaRecord) (domain : Option SidValue) : Type 0 where
  pub makes : MakeSchema schema
  pub defaults_read : list_all (default_reads domain) (classes_of schema) ≡ true

-- ---- values

-- A value of unicodePwd is a digest of 32 bytes. Every other value is the normal form of what it shows.
abbrev pub IsValueBy : Bool → Syntax → Value → Type 0
IsValueBy true syntax value = (length value.shown ≡ 32) × (value ≡ as_shown value.shown)
IsValueBy false syntax value = normal_or_fault syntax value.shown ≡ Ok value

abbrev pub IsPlainValue : List SchemaRecord → ℕ → Value → Type 0
IsPlainValue schema attr value = IsValueBy (is_named schema (codes "unicodePwd") attr) (syntax_at schema attr) value

-- A value is a link exactly where the attribute is one.
abbrev pub IsStored : List SchemaRecord → ℕ → Stored → Type 0
IsStored schema attr (plain value) = (attr_is_link schema attr ≡ false) × IsPlainValue schema attr value
IsStored schema attr (link number) = attr_is_link schema attr ≡ true

-- an attribute of the schema, with at least one value
pub record IsHeld (schema : List SchemaRecord) (held : Held) : Type 0 where
  pub of_schema : held.attr < length (attrs_of schema)
  pub some : 0 < length held.values
  pub each : AllByRecursion (IsStored schema held.attr) held.values

-- each attribute above the one before it, the first from this one on
abbrev pub AttrsRiseFrom : ℕ → List Held → Type 0
AttrsRiseFrom least [] = Unit {0}
AttrsRiseFrom least (held ∷ others) = (least ≤ held.attr) × AttrsRiseFrom (suc held.attr) others

-- Class and attributes are of the schema, the naming value is 1 to 1,024 bytes of UTF-8, and the attributes rise.
pub record IsContent (schema : List SchemaRecord) (o : Object) : Type 0 where
  pub class_of_schema : o.class < length (classes_of schema)
  pub name : IsValue o.name
  pub attrs_rise : AttrsRiseFrom 0 o.values
  pub each : AllByRecursion (IsHeld schema) o.values

-- ---- one object among the others

-- each link names a live object
abbrev pub LinksAreLive : List Object → Object → Type 0
LinksAreLive objects o = AllByRecursion (λ number. is_live objects number ≡ true) (links_in o.values)

-- no other child of its parent has its name after folding
abbrev pub HasOwnName : List Object → Object → Type 0
HasOwnName objects o = (number : ℕ) (other : Object) → object_of objects number ≡ Some other
    → other.parent ≡ o.parent → folded other.name ≡ folded o.name → other.number ≡ o.number

-- no other object has its identifier
abbrev pub HasOwnSid : List SchemaRecord → List Object → Object → Type 0
HasOwnSid schema objects o = (number : ℕ) (other : Object) (sid : SidValue) → object_of objects number ≡ Some other
    → sid_in schema other ≡ Some sid → sid_in schema o ≡ Some sid → other.number ≡ o.number

-- The root has no parent and no inherited entry.
pub record IsRoot (o : Object) : Type 0 where
  pub no_parent : o.parent ≡ 0
  pub explicit : explicit_part o.sd ≡ o.sd

-- Every other object has a live parent and stands at most 64 parents deep; and it has what its parent passes down, or
-- a pending entry that still reaches it.
pub record IsBelowRoot (dir : Directory) (o : Object) : Type 0 where
  pub parent_live : is_live dir.objects o.parent ≡ true
  pub placed : IsPlaced (parents dir) o.number
  pub inherits : IsSettledOrCovered dir o

abbrev pub StandsBy : Bool → Directory → Object → Type 0
StandsBy true dir o = IsRoot o
StandsBy false dir o = IsBelowRoot dir o

abbrev pub Stands : Directory → Object → Type 0
Stands dir o = StandsBy (o.number == root) dir o

-- all that is asked of one object
pub record IsSoundObject (dir : Directory) (o : Object) : Type 0 where
  pub content : IsContent dir.schema o
  pub stands : Stands dir o
  pub links : LinksAreLive dir.objects o
  pub own_name : HasOwnName dir.objects o
  pub own_sid : HasOwnSid dir.schema dir.objects o

abbrev pub EachIsSound : Directory → Type 0
EachIsSound dir = (number : ℕ) (o : Object) → object_of dir.objects number ≡ Some o → IsSoundObject dir o

-- ---- the whole

-- next_number is above each number, and next_rid above each that follows the domain's identifier in one of an object
pub record AreCounters (dir : Directory) : Type 0 where
  pub number_above : (number : ℕ) → is_live dir.objects number ≡ true → number < dir.meta.next_number
  pub rid_above : (number : ℕ) (o : Object) (rid : ℕ) (sid : SidValue) → object_of dir.objects number ≡ Some o
      → sid_in dir.schema o ≡ Some sid → domain_child dir rid ≡ Some sid → rid < dir.meta.next_rid
  pub number_fits : dir.meta.next_number ≤ max_counter
  pub rid_fits : dir.meta.next_rid ≤ max_counter

-- the values of a schema's record are no longer than a text may be
abbrev pub is_short : List ℕ → Bool
is_short text = nat_le (length text) max_text

abbrev pub is_short_record : SchemaRecord → Bool
is_short_record r = list_all (λ line. is_short line.value) r.lines

pub record AreWithinLimits (dir : Directory) : Type 0 where
  pub objects : length dir.objects ≤ max_objects
  pub weight : weight dir ≤ max_weight
  pub suffix : is_short (rdns_text dir.meta.suffix) ≡ true
  pub records : list_all is_short_record dir.schema ≡ true

-- all that isn't asked of one object or of the pending list
pub record IsSoundFrame (dir : Directory) : Type 0 where
  pub schema : IsSchema dir.schema (domain_sid dir)
  pub counters : AreCounters dir
  pub limits : AreWithinLimits dir
  pub root_live : is_live dir.objects root ≡ true

-- each pending parent is live, and none is pending twice
abbrev pub IsPendingLive : Directory → Pending → Type 0
IsPendingLive dir entry = is_live dir.objects entry.parent ≡ true

pub record IsSound (dir : Directory) : Type 0 where
  pub rise : Rise dir.objects
  pub frame : IsSoundFrame dir
  pub each : EachIsSound dir
  pub live : AllByRecursion (IsPendingLive dir) dir.pending
  pub distinct : AreDistinct dir.pending
