-- What stays of a directory whose DACLs are written.
use Rattle.ad_sd.specs.declared.parts.AceList.{AceList}
use Rattle.ad_sd.specs.declared.parts.Sd.{Sd}
use Rattle.ad_dir_model.specs.Object.{Object, no_sd}

-- an object's place, class, name and values
abbrev pub without_sd : Object → Object
without_sd o = record {
  number = o.number;
  parent = o.parent;
  class = o.class;
  name = o.name;
  values = o.values;
  sd
      = no_sd;
}

-- a descriptor with another DACL
abbrev pub with_dacl : AceList → Sd → Sd
with_dacl list sd = record { owner = sd.owner; group = sd.group; dacl = list; sacl = sd.sacl }

-- an object with another DACL
abbrev pub with_list : AceList → Object → Object
with_list list o = record {
  number = o.number;
  parent = o.parent;
  class = o.class;
  name = o.name;
  values
      = o.values;
  sd = with_dacl list o.sd;
}
