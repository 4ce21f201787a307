use Rattle.std.proofs.Common.{◌≡◌, ◌-◌, length, take, drop, replicate}
use Rattle.ad_bytes.specs.Reading.{many_at}
use Rattle.ad_bytes.specs.Numbers.{le_at}
use Rattle.ad_bytes.proofs.Many.{with_front}
use Rattle.ad_ids.proofs.sid.sub_authorities.Given as goal

-- what was read so far and what is still to be read are the whole, and zeros stand after what was read
abbrev pub invariant-loop-place : goal.invariant-loop-place
invariant-loop-place l = record {
  so_far : with_front (take l.place l.places) (many_at (le_at 4) (l.count - l.place) l.input)
      ≡ many_at (le_at 4) l.count l.fn.input;
  all : length l.places ≡ 15;
  padded : drop l.place l.places ≡ replicate (15 - l.place) 0;
}
