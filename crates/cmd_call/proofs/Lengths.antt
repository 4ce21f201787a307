-- How long the parts of an input are.
use Rattle.std.proofs.Common.{ℕ, ◌≤◌, List, length, ap, arith}
use Rattle.ad_ids.specs.SidValue.{SidValue}
use Rattle.ad_ids.specs.Sid.{SpellsSid}
use Rattle.ad_ids.proofs.SidWriting.{length-sid_bytes}

pub sid_length : (s : SidValue) (text : List ℕ) → SpellsSid s text → length text ≤ 68
sid_length s text p = omega (arith, ap length p.1, length-sid_bytes s, p.0.at_most_15)
