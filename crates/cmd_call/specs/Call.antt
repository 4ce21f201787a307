-- A call of the program as it is seen from outside: what is observable of the source and the site before it and
-- after it.
use Rattle.std.specs.Prelude.{ℕ, Option, Some, None, List}
use Rattle.site_io.specs.Counts.{HasRisen}

pub record Call : Type 0 where
  -- the input that is still to come, where that is observable: before the call, and what it left
  pub input : Option (List ℕ)
  pub left : Option (List ℕ)
  -- what was emitted, where that is observable: before the call and after it
  pub emitted_before : Option (List ℕ)
  pub emitted_after : Option (List ℕ)
  -- how often the source failed, and how often the output did
  pub source_before : ℕ
  pub source_after : ℕ
  pub output_before : ℕ
  pub output_after : ℕ

-- no fault of the source was counted
abbrev pub IsSourceHealthy : Call → Type 0
IsSourceHealthy call = HasRisen call.source_before call.source_after → ⊥

-- no fault was counted
pub record Healthy (call : Call) : Type 0 where
  pub source : IsSourceHealthy call
  pub output : HasRisen call.output_before call.output_after → ⊥

-- the input is told, and meets P
abbrev pub IsTold : {A : Type 0} → (A → Type 0) → Option A → Type 0
IsTold P None = ⊥
IsTold P (Some input) = P input
