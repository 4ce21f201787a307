-- The hash of a name, and the places of the names of one hash.
use Rattle.std.specs.Prelude.{◌≡◌, ℕ, ◌+◌, ◌*◌, ◌%◌, ◌<◌, ◌==◌, nat_eq, Bool, false, List, [], ◌∷◌, Option, position}
use Rattle.std.specs.Prelude.{slice_get, if◌then◌else◌}
use Rattle.std.specs.Char.{to_ascii_lowercase}
use Rattle.std.specs.declared.hash.DefaultHasher.{DefaultHasher}
use Rattle.std.specs.Hash.DefaultHasher.{initial, write, finish}
use Rattle.std.specs.Option.{option_map_or}
use Rattle.indexmap.specs.IndexMap.{IndexMap, get}
use Rattle.std.specs.Str.{bytes_eq}
use Rattle.ad_schema_classes.specs.declared.names.Case.{Case}
use Rattle.ad_schema_classes.specs.declared.names.Case.TheVariants.{Ignored, Kept}
use Rattle.ad_schema_classes.specs.Names.{same_name}

-- the state of std's hasher after bytes in whatever case, each taken as its lower-case letter
unfoldable pub hash_behind : DefaultHasher → List ℕ → DefaultHasher
hash_behind state [] = state
hash_behind state (b ∷ bytes) = hash_behind (write state (to_ascii_lowercase b ∷ [])) bytes

-- the hash of a name, below 2^32
unfoldable pub hash_of : List ℕ → ℕ
hash_of name = finish (hash_behind initial name) % 4294967296

-- the places of the names of this hash, in order, of those from place n on
unfoldable pub bucket : ℕ → ℕ → List (List ℕ) → List ℕ
bucket hash n [] = []
bucket hash n (name ∷ names) = if hash_of name == hash then n ∷ bucket hash (n + 1) names else bucket hash (n + 1) names

-- Two names are the same, in whatever case or as they are.
abbrev pub same_by : Case → List ℕ → List ℕ → Bool
same_by Ignored a b = same_name a b
same_by Kept a b = bytes_eq a b

-- the first place of a name
unfoldable pub place_by : Case → List (List ℕ) → List ℕ → Option ℕ
place_by case names name = position (λ other. same_by case other name) names

-- whether the name at a place is the same as this one
unfoldable pub is_at : Case → List (List ℕ) → List ℕ → ℕ → Bool
is_at case names name place = option_map_or (λ other. same_by case other name) (slice_get names place) false

-- a key for each place in a bucket
abbrev pub key : ℕ → ℕ → ℕ
key hash n = hash * 4294967296 + n

-- Under the key of a hash and n stands the nth place of its bucket.
pub record IsIndexOf {S : Type 0} (names : List (List ℕ)) (places : IndexMap ℕ ℕ S) : Type 0 where
  pub found : (hash n : ℕ) → n < 4294967296 → get nat_eq places (key hash n) ≡ slice_get (bucket hash 0 names) n
