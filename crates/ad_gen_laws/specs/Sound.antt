-- The sample's directory, and what one of its objects inherits.
use Rattle.std.specs.Prelude.{ℕ, false, [], ◌∷◌}
use Rattle.ad_sd.specs.declared.parts.Sd.{Sd}
use Rattle.prop_queue.specs.Pending.{from_the_start}
use Rattle.ad_dir_model.specs.Directory.{Directory, with_pending}
use Rattle.ad_dir_model.specs.Loading.{recomputed}
use Rattle.ad_dir_model.specs.Tree.{root}
use Rattle.ad_gen.specs.Frames.{builtin_administrators, well_known}
use Rattle.ad_gen_laws.specs.Before.{unsettled_sample}
use Rattle.ad_gen_laws.specs.Sent.{allows}

-- each object has its descriptor from the root, and nothing is pending
abbrev pub sample_directory : ℕ → Directory
sample_directory n = recomputed (unsettled_sample n)

-- the same, as if the children of the root were still to be looked at
abbrev pub pending_sample : ℕ → Directory
pending_sample n = with_pending (from_the_start root ∷ []) (sample_directory n)

-- the object System, below the root
abbrev pub child : ℕ
child = 2

-- Its own entry is that of its class: the system may do everything. After it stand the root's two, for it and further
-- down (2), as inherited (16).
abbrev pub child_sd : Sd
child_sd = record {
  owner = builtin_administrators;
  group = builtin_administrators;
  dacl = record {
    protected = false;
    entries = allows 0 0x10000000 (well_known 5 18)
        ∷ allows 18 0x10000000 builtin_administrators
        ∷ allows 18 0x20094 (well_known 5 11)
        ∷ [];
  };
  sacl = record { protected = false; entries = [] };
}
