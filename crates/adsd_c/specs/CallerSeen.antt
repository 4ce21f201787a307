-- Who asks, as the code keeps it.
use Rattle.adsd_c.specs.declared.access.Caller.{Caller}
use Rattle.adsd_c.specs.Access.{Asker}

abbrev pub asker_seen : Caller → Asker
asker_seen caller = record { token = caller.token; own = caller.own }
