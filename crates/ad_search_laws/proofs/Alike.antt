-- What two directories have to share, object by object, so that a token sees the same of them. Some objects may be
-- left out.
use Rattle.std.proofs.Common.{◌≡◌, ℕ, Bool, true, false, not, ◌&&◌, ◌||◌, List, [], refl, sym, ap, Some, ◌∙◌}
use Rattle.std.specs.Prelude.{nat_eq, slice_get}
use Rattle.ad_ids.specs.declared.guid.Guid.{Guid}
use Rattle.ad_ids.specs.declared.token.Token.{Token}
use Rattle.ad_acl.specs.Mask.{read_property, control_access}
use Rattle.ad_schema.specs.declared.line.SchemaRecord.{SchemaRecord}
use Rattle.ad_schema.specs.declared.info.AttrInfo.{AttrInfo}
use Rattle.ad_schema.specs.Attributes.{attrs_of}
use Rattle.ad_types.specs.TypesOf.{path_of}
use Rattle.ad_dir_model.specs.Object.{names, stored_in}
use Rattle.ad_dir_model.specs.Objects.{object_at, parent_at}
use Rattle.ad_dir_model.specs.Tree.{root}
use Rattle.ad_dir_model.specs.Settings.{list_object_mode}
use Rattle.ad_dir_model.specs.Directory.{Directory}
use Rattle.ad_access_dir.specs.Sight.{is_granted, is_visible}
use Rattle.ad_entries.specs.Seen.{is_never_read, is_granted_on, is_readable, parts_read}
use Rattle.ad_search_laws.specs.Worlds.{HasSameFrame}

-- One object: its place, class and name, what is granted there, and where it is seen what may be read. What it leads
-- to isn't left out either: the object above it, and those that its values name.
pub record LooksSame (dir other : Directory) (token : Token) (out : ℕ → Bool) (n : ℕ) : Type 0 where
  pub parent : parent_at other.objects n ≡ parent_at dir.objects n
  pub class : (object_at other.objects n).class ≡ (object_at dir.objects n).class
  pub name : (object_at other.objects n).name ≡ (object_at dir.objects n).name
  pub rights : (path : List Guid) (bit : ℕ) → is_granted other token n path bit ≡ is_granted dir token n path bit
  pub parts : is_visible dir token n ≡ true → parts_read other token n ≡ parts_read dir token n
  pub values : is_visible dir token n ≡ true → (attr : ℕ) (info : AttrInfo) → slice_get (attrs_of dir.schema) attr
      ≡ Some info
      → is_readable dir token n attr info ≡ true
      → stored_in (object_at other.objects n).values attr ≡ stored_in (object_at dir.objects n).values attr
  pub above : out (parent_at dir.objects n) ≡ false
  pub linked : (attr target : ℕ) → names target (stored_in (object_at dir.objects n).values attr) ≡ true → out target
      ≡ false

pub record AreAlike (dir other : Directory) (token : Token) (out : ℕ → Bool) : Type 0 where
  pub frame : HasSameFrame dir other
  pub each : (n : ℕ) → out n ≡ false → LooksSame dir other token out n

-- ---- which objects are seen

seen_by : ℕ → Bool → Bool → Bool → Bool → Bool
seen_by n mode children object own = nat_eq n root || (children || (mode && (object && own)))

visible_is : (dir : Directory) (token : Token) (n : ℕ) → is_visible dir token n
    ≡ seen_by n (list_object_mode dir) (is_granted dir token (parent_at dir.objects n) [] 2)
    (is_granted dir token (parent_at dir.objects n) [] 7) (is_granted dir token n [] 7)
unfolding is_visible is_granted seen_by
visible_is dir token n = refl

-- ---- which attributes are read

read_by : Bool → Bool → Bool → Bool → Bool
read_by never confidential reads controls = (not never && reads) && (not confidential || controls)

readable_is : (dir : Directory) (token : Token) (n attr : ℕ) (info : AttrInfo) → is_readable dir token n attr info
    ≡ read_by (is_never_read info.name) info.confidential (is_granted_on dir token n attr read_property)
    (is_granted_on dir token n attr control_access)
unfolding is_readable read_by
readable_is dir token n attr info = refl

path_in : List SchemaRecord → ℕ → ℕ → List Guid
path_in schema attr class = path_of schema (record { 0 = class }) (record { 0 = attr })

granted_is : (dir : Directory) (token : Token) (n attr bit : ℕ)
    → is_granted_on dir token n attr bit ≡ is_granted dir token n
    (path_in dir.schema attr (object_at dir.objects n).class) bit
unfolding path_in
granted_is dir token n attr bit = refl

module _ (dir other : Directory) (token : Token) (out : ℕ → Bool) (alike : AreAlike dir other token out) where
  pub same_visible : (n : ℕ) → out n ≡ false → is_visible other token n ≡ is_visible dir token n
  same_visible n kept =
      let it = alike.each n kept in
      let above = alike.each (parent_at dir.objects n) it.above in
      let p : ℕ = parent_at dir.objects n in
      let same : (bit : ℕ) → is_granted other token (parent_at other.objects n) [] bit ≡ is_granted dir token p [] bit
      = λ bit. ap (λ (k : ℕ). is_granted other token k [] bit) it.parent ∙ above.rights [] bit in
      visible_is other token n
      ∙ ap (λ (b : Bool). seen_by n b (is_granted other token (parent_at other.objects n) [] 2)
      (is_granted other token (parent_at other.objects n) [] 7) (is_granted other token n [] 7)) alike.frame.mode
      ∙ ap (λ (b : Bool). seen_by n (list_object_mode dir) b (is_granted other token (parent_at other.objects n) [] 7)
      (is_granted other token n [] 7)) (same 2)
      ∙ ap (λ (b : Bool). seen_by n (list_object_mode dir) (is_granted dir token p [] 2) b
      (is_granted other token n [] 7)) (same 7)
      ∙ ap (seen_by n (list_object_mode dir) (is_granted dir token p [] 2) (is_granted dir token p [] 7))
      (it.rights [] 7)
      ∙ sym (visible_is dir token n)

  same_granted_on : (n : ℕ) → out n ≡ false → (attr bit : ℕ) → is_granted_on other token n attr bit
      ≡ is_granted_on dir token n attr bit
  same_granted_on n kept attr bit =
      let it = alike.each n kept in
      granted_is other token n attr bit
      ∙ ap (λ (s : List SchemaRecord). is_granted other token n (path_in s attr (object_at other.objects n).class)
      bit) alike.frame.schema
      ∙ ap (λ (c : ℕ). is_granted other token n (path_in dir.schema attr c) bit) it.class
      ∙ it.rights (path_in dir.schema attr (object_at dir.objects n).class) bit
      ∙ sym (granted_is dir token n attr bit)

  pub same_readable : (n : ℕ) → out n ≡ false → (attr : ℕ) (info : AttrInfo) → is_readable other token n attr info
      ≡ is_readable dir token n attr info
  same_readable n kept attr info =
      readable_is other token n attr info
      ∙ ap (λ (b : Bool). read_by (is_never_read info.name) info.confidential b
      (is_granted_on other token n attr control_access)) (same_granted_on n kept attr read_property)
      ∙ ap (read_by (is_never_read info.name) info.confidential (is_granted_on dir token n attr read_property))
      (same_granted_on n kept attr control_access)
      ∙ sym (readable_is dir token n attr info)
