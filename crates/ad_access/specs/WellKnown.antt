-- The identifiers that represent something of the object whose entries name them.
use Rattle.std.specs.Prelude.{[], ◌∷◌}
use Rattle.ad_ids.specs.SidValue.{SidValue}

-- S-1-3-4 represents the object's owner.
abbrev pub owner_rights : SidValue
owner_rights = record { authority = 3; sub_authorities = 4 ∷ [] }

-- S-1-5-10 represents the object itself.
abbrev pub principal_self : SidValue
principal_self = record { authority = 5; sub_authorities = 10 ∷ [] }
