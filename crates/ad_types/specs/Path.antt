-- A path, as contracts see it.
use Rattle.std.specs.Prelude.{Option, None, Some, List, [], ◌∷◌}
use Rattle.ad_ids.specs.declared.guid.Guid.{Guid}
use Rattle.ad_types.specs.declared.type_path.Path.{Path}
use Rattle.ad_types.specs.declared.type_path.Guids.{Guids}
use Rattle.ad_types.specs.declared.type_path.Guids.TheVariants.{Zero, One, Two, Three}

abbrev pub listed : Guids → List Guid
listed Zero = []
listed (One guids) = guids
listed (Two guids) = guids
listed (Three guids) = guids

-- the GUIDs of the path in order
abbrev pub guids_of : Path → List Guid
guids_of path = listed path.guids

-- the last of them, which is what an access is about itself
abbrev pub last_guid : List Guid → Option Guid
last_guid [] = None
last_guid (guid ∷ []) = Some guid
last_guid (guid ∷ other ∷ others) = last_guid (other ∷ others)
