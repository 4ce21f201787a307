-- How many objects have another descriptor than the one that is recomputed from the root.
use Rattle.std.specs.Prelude.{ℕ, Bool, not}
use Rattle.ad_dir_model.specs.Objects.{numbers, sd_at}
use Rattle.ad_dir_model.specs.Directory.{Directory}
use Rattle.ad_dir_model.specs.Inheritance.{scratch}
use Rattle.ad_dir_model.specs.SameSd.{same_sd}
use Rattle.ad_dir_model.specs.Steps.{count}

abbrev pub is_stale : Directory → ℕ → Bool
is_stale dir number = not (same_sd (sd_at dir.objects number) (scratch dir number))

unfoldable pub stale : Directory → ℕ
stale dir = count (is_stale dir) (numbers dir.objects)
