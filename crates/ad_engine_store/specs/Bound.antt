-- How long a store's journal gets.
use Rattle.std.specs.Prelude.{ℕ, ◌+◌, ◌-◌, ◌^◌, ◌<◌, ◌≤◌, Option, unwrap_or, IfSome}
use Rattle.site_io.specs.Disk.{Images}
use Rattle.gate_log.specs.declared.log.Log.{Log}
use Rattle.row_store.specs.Rows.{EndsWith}
use Rattle.row_store.specs.declared.store.Store.{Store}

-- so many bytes may follow the first body however short that one is
abbrev pub short_journal : ℕ
short_journal = 1048576

-- No more than the greater of that and the length of the first body, and so much besides.
pub data IsWithin (first : Option ℕ) (more behind : ℕ) : Type 0 where
  by_limit : behind ≤ short_journal + more → IsWithin first more behind
  by_first : behind ≤ unwrap_or first 0 + more → IsWithin first more behind

-- The bodies after the first have room for one more, unless the generation can't rise any more.
pub record HasRoom (log : Log) : Type 0 where
  pub room : log.generation < 2 ^ 64 - 1 → IsWithin log.first 0 log.behind

-- The bodies after the first are no longer than the greater of 1,048,576 bytes and the first, and the last of them
-- besides.
pub record IsBounded (the_store : Store) (reads : Option Images) : Type 0 where
  pub last : ℕ
  pub ends : IfSome reads (λ held. EndsWith the_store held last)
  pub within : the_store.log.generation < 2 ^ 64 - 1 → IsWithin the_store.log.first last the_store.log.behind
