-- Objects that tell beforehand which of their calls fail.
use Rattle.std.specs.Prelude.{◌≡◌, ◌⊎◌, ◌↔◌, ℕ, ◌+◌, ◌-◌, ◌^◌, List, Contains, Option, IfSome, Result, IsErr}

-- Where a site tells the moments at which its calls fail, a call fails at those, and else only for another cause or
-- where it found no memory: then it isn't counted, and the moment is the same.
pub record FailsAsTold {T E : Type 0} (old new : Option (List ℕ)) (before after : ℕ) (result : Result T E)
    (other : Type 0) : Type 0 where
  pub stays : new ≡ old
  pub told : IfSome old (λ moments. Contains moments before → IsErr result)
  pub only : IfSome old (λ moments. IsErr result → Contains moments before ⊎ (after ≡ before) ⊎ other)

-- Where a source tells the numbers of its takes that fail, exactly those fail. The number of takes stands still at
-- the end of its type, of 32 bits.
pub record TakesAsTold {T E : Type 0} (old new : Option (List ℕ)) (before after : ℕ) (result : Result T E) : Type 0
  where
    pub stays : new ≡ old
    pub told : IfSome old (λ takes. IsErr result ↔ Contains takes before)
    pub counted : IfSome old (λ takes. (after ≡ before + 1) ⊎ ((before ≡ 2 ^ 32 - 1) × (after ≡ before)))
