-- The sample of a size, as a text of LDIF.
use Rattle.std.specs.Prelude.{ℕ, List, ◌++◌}
use Rattle.ad_gen.specs.Schema.{schema}
use Rattle.ad_gen.specs.Objects.{domain, containers, administrators, units}

-- the base schema, the domain with its containers and administrators, and n units of ten users
unfoldable pub ldif : ℕ → List ℕ
ldif n = schema ++ (domain ++ (containers ++ (administrators ++ units n)))
