-- How an element is read, with the fault that stands first.
use Rattle.std.specs.Prelude.{◌≡◌, ℕ, ◌-◌, ◌^◌, ◌%◌, List, nat_lt, nat_eq, if◌then◌else◌, Result, Ok, Err}
use Rattle.ad_bytes.specs.Reading.{Reading, ◌>>=◌, need, or_fault}
use Rattle.ad_bytes.specs.Numbers.{byte_at, be_at, part_at}
use Rattle.ad_ber.specs.declared.finding.Tagged.{Tagged}
use Rattle.ad_ber.specs.declared.finding.Tlv.{Tlv}
use Rattle.ad_ber.specs.declared.fault.BerFault.{BerFault}
use Rattle.ad_ber.specs.declared.fault.BerFault.TheVariants as fault

unfoldable pub tag_at : List ℕ → Reading ℕ BerFault
tag_at bytes = do
  tag ← or_fault fault.Short (byte_at bytes)
  _ ← need (nat_lt (tag.0 % 32) 31) fault.Tag
  Ok tag

-- a length in that many bytes
unfoldable pub long_at : ℕ → List ℕ → Reading ℕ BerFault
long_at count bytes = do
  n ← or_fault fault.Short (be_at count bytes)
  _ ← need (nat_lt n.0 (2 ^ 32)) fault.Long
  Ok n

-- a length whose first byte is this
unfoldable pub length_behind : ℕ → List ℕ → Reading ℕ BerFault
length_behind first bytes =
    if nat_eq first 128 then Err fault.Indefinite
    else if nat_lt first 128 then Ok (first, bytes)
    else long_at (first - 128) bytes

unfoldable pub length_at : List ℕ → Reading ℕ BerFault
length_at bytes = do
  first ← or_fault fault.Short (byte_at bytes)
  length_behind first.0 first.1

unfoldable pub element_at : List ℕ → Reading Tagged BerFault
element_at bytes = do
  tag ← tag_at bytes
  n ← length_at tag.1
  body ← or_fault fault.Short (part_at n.0 n.1)
  Ok (record { tag = tag.0; body = body.0 }, body.1)

-- the element that was found at a place
abbrev pub element_of : Tlv → Tagged
element_of t = record { tag = t.tag; body = t.body.now }

-- it has this fault
abbrev pub FaultOf : {A E B : Type 0} → Result A E → Result B E → Type 0
FaultOf (Ok x) read = Unit {0}
FaultOf (Err e) read = read ≡ Err e
