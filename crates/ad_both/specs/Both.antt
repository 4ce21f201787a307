-- What stands in two directories: objects of one name.
use Rattle.std.specs.Prelude.{◌≡◌, ℕ, true, Option, Some, None, List, [], ◌∷◌}
use Rattle.std.specs.List.{flat_map}
use Rattle.ad_dir_model.specs.Directory.{Directory}
use Rattle.ad_dir_model.specs.Objects.{is_live, numbers}
use Rattle.ad_dir_model.specs.Names.{rdns_of, found}
use Rattle.ad_both.specs.declared.both.Both.{Both}

-- the object of the other directory that has the name of an object
unfoldable pub counterpart : Directory → Directory → ℕ → Option ℕ
counterpart dir other number = found other (rdns_of dir number)

-- an object that stands in both, by its number in each
abbrev pub both : ℕ → ℕ → Both
both before after = record { before = before; after = after }

abbrev pub with_other : ℕ → Option ℕ → List Both
with_other number None = []
with_other number (Some other) = both number other ∷ []

-- those of these objects of the first directory that the second has by their name
abbrev pub both_among : Directory → Directory → List ℕ → List Both
both_among before after objects = flat_map (λ number. with_other number (counterpart before after number)) objects

-- all of them, by rising number in the first
abbrev pub objects_of_both : Directory → Directory → List Both
objects_of_both before after = both_among before after (numbers before.objects)

-- live in both
pub record IsLiveBoth (before after : Directory) (o : Both) : Type 0 where
  pub first : is_live before.objects o.before ≡ true
  pub second : is_live after.objects o.after ≡ true
