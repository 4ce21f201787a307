-- One more user, and one more unit.
use Rattle.std.proofs.Common.{◌≡◌, ℕ, suc, ◌+◌, ◌++◌, refl, arith}
use Rattle.ad_gen.specs.Objects.{unit, user, users, units}

pub users_more : (i j : ℕ) → users i (j + 1) ≡ users i j ++ user i (j + 1)
unfolding users
users_more i j = let e : j + 1 ≡ suc j = omega arith in rw e refl

pub units_more : (i : ℕ) → units (i + 1) ≡ units i ++ (unit i ++ users i 10)
unfolding units
units_more i = let e : i + 1 ≡ suc i = omega arith in rw e refl
