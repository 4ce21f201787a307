-- The parents of objects where one has another one.
use Rattle.std.specs.Prelude.{ℕ, ◌==◌, if◌then◌else◌}
use Rattle.ad_dir_model.specs.Directory.{Directory, parents}

abbrev pub parent_then : Directory → ℕ → ℕ → ℕ → ℕ
parent_then dir moved parent number = if number == moved then parent else parents dir number
