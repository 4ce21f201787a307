-- What an object that two directories share shows of an attribute.
use Rattle.std.proofs.Common.{◌≡◌, ℕ, Bool, true, false, ◌||◌, List, [], ◌∷◌, map, refl, sym, ap, ◌∙◌}
use Rattle.std.specs.Prelude.{codes, nat_eq, slice_get, Some, if◌then◌else◌}
use Rattle.std.proofs.lemmas.Bool.{eq-eqb}
use Rattle.ad_ids.specs.declared.token.Token.{Token}
use Rattle.ad_value.specs.declared.syntax.Syntax.{Syntax}
use Rattle.ad_value.specs.Value.{Value}
use Rattle.ad_schema.specs.declared.line.SchemaRecord.{SchemaRecord}
use Rattle.ad_schema.specs.declared.info.AttrInfo.{AttrInfo}
use Rattle.ad_schema.specs.Attributes.{attrs_of}
use Rattle.ad_schema.specs.Meaning.{attr_is_back_link}
use Rattle.ad_dir_model.specs.Object.{Stored, plain, link, names, stored_in}
use Rattle.ad_dir_model.specs.Objects.{object_at}
use Rattle.ad_dir_model.specs.Attributes.{is_named, syntax_at}
use Rattle.ad_dir_model.specs.Directory.{Directory}
use Rattle.ad_dir_model.specs.Names.{name_text}
use Rattle.ad_dir_model.specs.Shown.{computed, class_names, shown_value, is_naming, shown}
use Rattle.ad_access_dir.specs.Sight.{is_visible}
use Rattle.ad_entries.specs.Seen.{is_readable}
use Rattle.ad_search_laws.proofs.Alike.{AreAlike}
use Rattle.ad_search_laws.proofs.Names.{same_text}

-- ---- from its parts

shown_by : List SchemaRecord → ℕ → ℕ → List ℕ → List ℕ → List Value → List Value
shown_by schema attr class name text stored =
    if is_named schema (codes "objectClass") attr then map (computed (syntax_at schema attr)) (class_names schema class)
    else (if is_named schema (codes "distinguishedName") attr then computed (syntax_at schema attr) text ∷ []
    else (if is_naming schema class attr then computed (syntax_at schema attr) name ∷ []
    else (if attr_is_back_link schema attr then []
    else stored)))

values_shown : Directory → List SchemaRecord → ℕ → List Stored → List Value
values_shown dir schema attr stored = map (shown_value dir (syntax_at schema attr)) stored

shown_is : (dir : Directory) (n attr : ℕ) → shown dir n attr
    ≡ shown_by dir.schema attr (object_at dir.objects n).class (object_at dir.objects n).name (name_text dir n)
    (values_shown dir dir.schema attr (stored_in (object_at dir.objects n).values attr))
unfolding shown shown_by values_shown
shown_is dir n attr = refl

-- ---- in both

or_more : (a b : Bool) → b ≡ true → (a || b) ≡ true
or_more true b is = refl
or_more false b is = is

module _ (dir other : Directory) (token : Token) (out : ℕ → Bool) (alike : AreAlike dir other token out) where
  same_mapped : (syntax : Syntax) (stored : List Stored)
      → ((target : ℕ) → names target stored ≡ true → out target ≡ false)
      → map (shown_value other syntax) stored ≡ map (shown_value dir syntax) stored
  same_mapped syntax [] kept = refl
  same_mapped syntax (plain v ∷ others) kept = ap (λ (vs : List Value). v ∷ vs)
      (same_mapped syntax others (λ target is. kept target is))
  same_mapped syntax (link m ∷ others) kept =
      let itself : out m ≡ false = kept m (ap (λ (b : Bool). b || names m others) (eq-eqb m m refl)) in
      ap (λ (t : List ℕ). computed syntax t ∷ map (shown_value other syntax) others)
      (same_text dir other token out alike m itself)
      ∙ ap (λ (vs : List Value). computed syntax (name_text dir m) ∷ vs)
      (same_mapped syntax others (λ target is. kept target (or_more (nat_eq m target) (names target others) is)))

  pub same_shown : (n : ℕ) → out n ≡ false → is_visible dir token n ≡ true → (attr : ℕ) (info : AttrInfo)
      → slice_get (attrs_of dir.schema) attr ≡ Some info
      → is_readable dir token n attr info ≡ true → shown other n attr ≡ shown dir n attr
  unfolding values_shown
  same_shown n kept visible attr info at readable =
      let it = alike.each n kept in
      let stored = stored_in (object_at dir.objects n).values attr in
      let all : values_shown other other.schema attr (stored_in (object_at other.objects n).values attr)
      ≡ values_shown dir dir.schema attr stored
      = ap (λ (s : List SchemaRecord). values_shown other s attr (stored_in (object_at other.objects n).values attr))
      alike.frame.schema
      ∙ ap (values_shown other dir.schema attr) (it.values visible attr info at readable)
      ∙ same_mapped (syntax_at dir.schema attr) stored (it.linked attr) in
      shown_is other n attr
      ∙ ap (λ (s : List SchemaRecord). shown_by s attr (object_at other.objects n).class
      (object_at other.objects n).name (name_text other n)
      (values_shown other other.schema attr (stored_in (object_at other.objects n).values attr))) alike.frame.schema
      ∙ ap (λ (c : ℕ). shown_by dir.schema attr c (object_at other.objects n).name (name_text other n)
      (values_shown other other.schema attr (stored_in (object_at other.objects n).values attr))) it.class
      ∙ ap (λ (t : List ℕ). shown_by dir.schema attr (object_at dir.objects n).class t (name_text other n)
      (values_shown other other.schema attr (stored_in (object_at other.objects n).values attr))) it.name
      ∙ ap (λ (t : List ℕ). shown_by dir.schema attr (object_at dir.objects n).class (object_at dir.objects n).name t
      (values_shown other other.schema attr (stored_in (object_at other.objects n).values attr)))
      (same_text dir other token out alike n kept)
      ∙ ap (shown_by dir.schema attr (object_at dir.objects n).class (object_at dir.objects n).name (name_text dir n))
      all
      ∙ sym (shown_is dir n attr)
