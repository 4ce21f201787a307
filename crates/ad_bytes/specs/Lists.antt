-- What lists hold that keep a little in themselves.
use Rattle.std.specs.Prelude.{ℕ, List, take}
use Rattle.ad_bytes.specs.declared.bytes.Held.{Held}
use Rattle.ad_bytes.specs.declared.bytes.Held.TheVariants as held
use Rattle.ad_bytes.specs.declared.one_or_many.Items.{Items}
use Rattle.ad_bytes.specs.declared.one_or_many.Items.TheVariants as items

-- the bytes that count
abbrev pub held_bytes : Held → List ℕ
held_bytes (held.Inline few) = take few.len few.bytes
held_bytes (held.Spilled all) = all.items

-- the values
abbrev pub items_in : {T : Type 0} → Items T → List T
items_in (items.One one) = one
items_in (items.Many all) = all.items
