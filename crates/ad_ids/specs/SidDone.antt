-- The sub-authorities that were read so far, in their fixed places.
use Rattle.std.specs.Prelude.{◌≡◌, ◌-◌, ◌≤◌, length, drop, replicate}
use Rattle.ad_ids.specs.declared.sid.reading.Places.TheInside.{Inside}

-- after the sub-authorities stand zeros
pub record IsDone (s : Inside) : Type 0 where
  pub count : s.count ≤ 15
  pub places : length s.places ≡ 15
  pub padded : drop s.count s.places ≡ replicate (15 - s.count) 0
