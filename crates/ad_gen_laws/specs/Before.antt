-- The directory of the sample before its descriptors are computed.
use Rattle.std.specs.Prelude.{ℕ, ◌+◌, ◌*◌, []}
use Rattle.ad_dir_model.specs.Directory.{Meta, Directory}
use Rattle.ad_gen_laws.specs.Base.{base_schema}
use Rattle.ad_gen_laws.specs.Made.{made_objects}

-- the counters after the last object and the last user; the root has no name above it
abbrev pub sample_meta : ℕ → Meta
sample_meta n = record { next_number = 11 * n + 5; next_rid = 10 * n + 1001; suffix = [] }

abbrev pub unsettled_sample : ℕ → Directory
unsettled_sample n = record { schema = base_schema; objects = made_objects n; pending = []; meta = sample_meta n }
