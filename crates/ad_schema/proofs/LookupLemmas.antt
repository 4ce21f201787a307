-- What a look-up gives is of the schema.
use Rattle.std.proofs.Common.{◌≡◌, ℕ, zero, suc, ◌+◌, ◌<◌, ◌≤◌, true, false, ◌||◌, List, [], ◌∷◌, length, map, refl}
use Rattle.std.proofs.Common.{sym, ap, subst, ◌∙◌, Option, Some, None, IfSome, unwrap_or, arith}
use Rattle.std.specs.Prelude.{slice_get, position, ◌==◌}
use Rattle.std.specs.Option.{option_map}
use Rattle.std.proofs.lemmas.List.{length-map}
use Rattle.std.proofs.lemmas.List.Quantifiers.{position-Some}
use Rattle.ad_schema.specs.declared.line.SchemaKind.TheVariants.{Attribute, Class}
use Rattle.ad_schema.specs.declared.line.Line.{Line}
use Rattle.ad_schema.specs.declared.line.SchemaRecord.{SchemaRecord}
use Rattle.ad_schema.specs.declared.info.AttrId.{AttrId}
use Rattle.ad_schema.specs.declared.info.ClassId.{ClassId}
use Rattle.ad_schema.specs.declared.info.ClassInfo.{ClassInfo}
use Rattle.ad_schema_classes.specs.Names.{same_name}
use Rattle.ad_schema.specs.Attributes.{lines_of, names_of, attrs_of, attr_info, attr_named}
use Rattle.ad_schema_classes.specs.Names.{place_of}
use Rattle.ad_schema_classes.specs.Chains.{option_at, chain, contains}
use Rattle.ad_schema.specs.Classes.{superclasses, own_namings, cn_of, naming_of, class_info, class_infos, classes_of}
use Rattle.ad_schema.specs.Classes.{class_named, chain_of}
use Rattle.ad_schema_classes.specs.Chains.{naming_by}
use Rattle.ad_schema.specs.declared.info.AttrInfo.{AttrInfo}
use Rattle.ad_schema_classes.specs.declared.links.ClassLinks.{ClassLinks}
use Rattle.ad_schema.specs.Links.{links_of}
use Rattle.ad_schema.specs.Meaning.{is_computed, is_given, is_never_missing, is_in_chain}
use Rattle.ad_schema.proofs.SchemaLemmas.{length-names, length-classes, links_above}

pub length-attrs : (records : List SchemaRecord) → length (attrs_of records) ≡ length (lines_of Attribute records)
unfolding attrs_of
length-attrs records = length-map (lines_of Attribute records) attr_info

pub place_within : (names : List (List ℕ)) (name : List ℕ) (place : ℕ) → place_of names name ≡ Some place → place
    < length names
unfolding place_of
place_within names name place is = (position-Some (λ other. same_name other name) names place [] is).0

pub attr_within : (records : List SchemaRecord) (names : List (List ℕ)) (name : List ℕ) (place : ℕ) → names
    ≡ names_of Attribute records → place_of names name ≡ Some place → place < length (attrs_of records)
attr_within records names name place are is =
    let lt = place_within names name place is in
    omega (arith, lt, ap length are, length-names Attribute records, length-attrs records)

pub class_within : (records : List SchemaRecord) (names : List (List ℕ)) (name : List ℕ) (place : ℕ) → names
    ≡ names_of Class records → place_of names name ≡ Some place → place < length (classes_of records)
class_within records names name place are is =
    let lt = place_within names name place is in
    omega (arith, lt, ap length are, length-names Class records, length-classes records)

-- an attribute that was found by its name
pub named_within : (records : List SchemaRecord) (name : List ℕ) (found : Option AttrId) (attr : AttrId) → found
    ≡ attr_named records name → found ≡ Some attr → IfSome found (λ id. id.0 < length (attrs_of records)) → attr.0
    < length (attrs_of records)
named_within records name found attr are is range
    = subst (λ (o : Option AttrId). IfSome o (λ id. id.0 < length (attrs_of records))) is range

-- ---- what a class tells

some_one : {X : Type 0} (a b : X) → Some a ≡ Some b → a ≡ b
some_one a b e = ap (λ (o : Option _). unwrap_or o a) e

infos_naming : (above own : List (Option ℕ)) (cn n i : ℕ) (lines : List (List Line)) (info : ClassInfo)
    → slice_get (class_infos above own cn n lines) i ≡ Some info → info.naming.0 ≡ naming_by above own cn (n + i)
unfolding class_infos class_info
infos_naming above own cn n i [] info is = absurd cc
infos_naming above own cn n zero (first ∷ lines) info is =
    let same : n + 0 ≡ n = omega arith in
    rw same (sym (ap (λ (k : ClassInfo). k.naming.0) (some_one _ info is)))
infos_naming above own cn n (suc i) (first ∷ lines) info is =
    let same : n + 1 + i ≡ n + suc i = omega arith in
    subst (λ (k : ℕ). info.naming.0 ≡ naming_by above own cn k) same (infos_naming above own cn (n + 1) i lines info is)

pub class_naming : (records : List SchemaRecord) (class : ℕ) (info : ClassInfo) → slice_get (classes_of records) class
    ≡ Some info → info.naming.0 ≡ naming_of records class
unfolding classes_of naming_of
class_naming records class info is =
    let same : 0 + class ≡ class = omega arith in
    rw same at (infos_naming (superclasses records) (own_namings records) (cn_of (names_of Attribute records)) 0 class
    (lines_of Class records) info is)

infos_above : (above own : List (Option ℕ)) (cn n i : ℕ) (lines : List (List Line)) (info : ClassInfo)
    → slice_get (class_infos above own cn n lines) i ≡ Some info → info.above ≡ option_map (λ k. record { 0 = k })
    (option_at above (n + i))
unfolding class_infos class_info
infos_above above own cn n i [] info is = absurd cc
infos_above above own cn n zero (first ∷ lines) info is =
    let same : n + 0 ≡ n = omega arith in
    rw same (sym (ap (λ (k : ClassInfo). k.above) (some_one _ info is)))
infos_above above own cn n (suc i) (first ∷ lines) info is =
    let same : n + 1 + i ≡ n + suc i = omega arith in
    subst (λ (k : ℕ). info.above ≡ option_map (λ k. record { 0 = k }) (option_at above k)) same
    (infos_above above own cn (n + 1) i lines info is)

pub class_above : (records : List SchemaRecord) (class : ℕ) (info : ClassInfo) → slice_get (classes_of records) class
    ≡ Some info → info.above ≡ option_map (λ k. record { 0 = k }) (option_at (superclasses records) class)
unfolding classes_of
class_above records class info is =
    let same : 0 + class ≡ class = omega arith in
    rw same at (infos_above (superclasses records) (own_namings records) (cn_of (names_of Attribute records)) 0 class
    (lines_of Class records) info is)

-- ---- attributes that no object lacks

pub never_naming : (records : List SchemaRecord) (class attr naming : ℕ) → naming ≡ naming_of records class
    → (naming == attr) ≡ true → is_never_missing records class attr ≡ true
unfolding is_never_missing
never_naming records class attr naming named is = rw (ap (λ (k : ℕ). k == attr) (sym named) ∙ is) refl

pub never_other : (records : List SchemaRecord) (class attr naming : ℕ) (info : AttrInfo) (name : List ℕ) → naming
    ≡ naming_of records class → (naming == attr) ≡ false
    → slice_get (attrs_of records) attr ≡ Some info → name ≡ info.name → is_never_missing records class attr
    ≡ is_computed name || is_given name
unfolding is_never_missing
never_other records class attr naming info name named not there spelled
    = rw (ap (λ (k : ℕ). k == attr) (sym named) ∙ not, there, spelled) refl

-- ---- the chain

pub in_chain_is : (records : List SchemaRecord) (links : List ClassLinks) (class superior : ℕ) → links
    ≡ links_of records → contains (chain (map (λ link. link.above) links) class) superior ≡ is_in_chain records class
    superior
unfolding is_in_chain chain_of
in_chain_is records links class superior one = ap (λ (above : List (Option ℕ)). contains (chain above class) superior)
    (ap (map (λ link. link.above)) one ∙ links_above records)
