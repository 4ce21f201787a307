-- An engine and its store.
use Rattle.std.specs.Prelude.{◌≡◌, ℕ, List, false, Option, IfSome}
use Rattle.site_io.specs.Disk.{Images}
use Rattle.row_store.specs.Rows.{HoldsTable, StandsIn as store_stands}
use Rattle.row_store.specs.Table.{Table}
use Rattle.row_store.specs.declared.store.Store.{Store}
use Rattle.ad_dir_model.specs.Directory.{Directory}
use Rattle.ad_dir_model.specs.Soundness.{IsSound}
use Rattle.ad_rows_write.specs.Rows.{AreRowsOf}
use Rattle.ad_engine_store.specs.declared.dir_store.DirStore.{DirStore}

-- The slots hold what a store knows of them, and the rows of a directory.
pub record HoldsRows (the_store : Store) (dir : Directory) (held : Images) : Type 0 where
  pub table : Table
  pub holds : HoldsTable the_store held table
  pub rows : AreRowsOf dir table

-- The same of an engine's store and directory.
pub record HoldsDir (engine : DirStore) (held : Images) : Type 0 where
  pub table : Table
  pub holds : HoldsTable engine.store held table
  pub rows : AreRowsOf engine.dir table

-- A store isn't poisoned, and where the slots are observable they hold the directory.
pub record IsKept (the_store : Store) (dir : Directory) (reads : Option Images) (now : ℕ)
    (left : ℕ → Images → List ℕ → Type 0) : Type 0 where
  pub held : IfSome reads (HoldsRows the_store dir)
  pub unspent : the_store.log.spent ≡ false
  pub store : store_stands the_store reads now left

-- The directory is sound, the store isn't poisoned, and where the slots are observable they hold the directory.
pub record Stands (engine : DirStore) (reads : Option Images) (now : ℕ) (left : ℕ → Images → List ℕ → Type 0) : Type 0
  where
    pub sound : IsSound engine.dir
    pub held : IfSome reads (HoldsDir engine)
    pub unspent : engine.store.log.spent ≡ false
    pub store : store_stands engine.store reads now left

-- What a call on an engine takes and leaves, unless an earlier one failed.
abbrev pub StandsIn : DirStore → Option Images → ℕ → (ℕ → Images → List ℕ → Type 0) → Type 0
StandsIn engine reads now left = engine.spent ≡ false → Stands engine reads now left
