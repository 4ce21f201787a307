-- What the records of the classes name, class by class, and the rows of the attributes that each class must or may
-- have.
use Rattle.std.specs.Prelude.{◌≡◌, ℕ, ◌<◌, Bool, false, ◌||◌, ◌==◌, List, map, slice_get, Option, Some}
use Rattle.std.specs.Option.{option_map_or}
use Rattle.ad_ids.specs.declared.guid.Guid.{Guid}
use Rattle.ad_schema_classes.specs.declared.links.ClassLinks.{ClassLinks}
use Rattle.ad_schema_classes.specs.declared.links.Part.{Part}
use Rattle.ad_schema_classes.specs.declared.links.Part.TheVariants.{Must, May}
use Rattle.ad_schema_classes.specs.declared.rows.ClassRows.{ClassRows}
use Rattle.ad_schema_classes.specs.Chains.{naming_by, listed, set_of}
use Rattle.ad_schema_classes.specs.Flags.{flag_at}

-- each class's superclass, its own naming attribute, the classes next to it, its possible superiors, its GUID
abbrev pub aboves : List ClassLinks → List (Option ℕ)
aboves links = map (λ link. link.above) links

abbrev pub namings : List ClassLinks → List (Option ℕ)
namings links = map (λ link. link.naming) links

abbrev pub nexts : List ClassLinks → List (List ℕ)
nexts links = map (λ link. link.neighbours) links

abbrev pub superiors_of : List ClassLinks → List (List ℕ)
superiors_of links = map (λ link. link.superiors) links

abbrev pub guids_of : List ClassLinks → List Guid
guids_of links = map (λ link. link.guid) links

-- the attributes that it names as must or may
abbrev pub part_of : Part → ClassLinks → List ℕ
part_of Must link = link.musts
part_of May link = link.mays

-- what the sets of the classes list
abbrev pub listed_must : List ClassLinks → ℕ → ℕ → Bool
listed_must links class attr = listed (set_of (nexts links) class) 0 (map (part_of Must) links) attr

abbrev pub listed_may : List ClassLinks → ℕ → ℕ → Bool
listed_may links class attr = listed (set_of (nexts links) class) 0 (map (part_of May) links) attr

abbrev pub naming_in : List ClassLinks → ℕ → ℕ → ℕ
naming_in links cn class = naming_by (aboves links) (namings links) cn class

-- the rows of one class, over so many attributes
pub record AreRowsOf (links : List ClassLinks) (cn attrs class : ℕ) (rows : ClassRows) : Type 0 where
  pub must : (attr : ℕ) → attr < attrs → flag_at rows.must.items attr ≡ listed_must links class attr
  pub allowed : (attr : ℕ) → attr < attrs → flag_at rows.allowed.items attr
      ≡ (listed_must links class attr || listed_may links class attr || naming_in links cn class == attr)

-- each class has its rows
abbrev pub HaveRows : List ClassLinks → ℕ → ℕ → List ClassRows → Type 0
HaveRows links cn attrs all = (class : ℕ) (rows : ClassRows) → slice_get all class ≡ Some rows
    → AreRowsOf links cn attrs class rows

-- a flag of a class's rows
unfoldable pub must_in : List ClassRows → ℕ → ℕ → Bool
must_in all class attr = option_map_or (λ rows. flag_at rows.must.items attr) (slice_get all class) false

unfoldable pub allowed_in : List ClassRows → ℕ → ℕ → Bool
allowed_in all class attr = option_map_or (λ rows. flag_at rows.allowed.items attr) (slice_get all class) false
