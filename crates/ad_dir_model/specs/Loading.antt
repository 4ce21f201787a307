-- Inheritance computed from the root, as a directory gets it when it is loaded.
use Rattle.std.specs.Prelude.{[], map}
use Rattle.ad_dir_model.specs.Object.{Object}
use Rattle.ad_dir_model.specs.Directory.{Directory}
use Rattle.ad_dir_model.specs.Inheritance.{scratch}

abbrev pub from_root : Directory → Object → Object
from_root dir o = record o { sd = scratch dir o.number }

-- each object has its descriptor from the root, and nothing is pending
unfoldable pub recomputed : Directory → Directory
recomputed dir = record dir {
  objects = map (from_root dir) dir.objects;
  pending = [];
}
