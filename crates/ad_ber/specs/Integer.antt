-- The bytes of an integer (X.690 8.3): two's complement, the most significant first. More bytes than needed are read.
use Rattle.std.specs.Prelude.{ℕ, List, length, ℤ, nat_lt, nat_le, ◌&&◌, if◌then◌else◌, Result, Ok, Err}
use Rattle.byteorder.specs.Endian.{big_number, twos_complement}
use Rattle.ad_ber.specs.declared.fault.BerFault.{BerFault}
use Rattle.ad_ber.specs.declared.fault.BerFault.TheVariants as fault

-- the integer in one to eight bytes
abbrev pub integer_of : List ℕ → Result ℤ BerFault
integer_of body = if nat_lt 0 (length body) && nat_le (length body) 8
    then Ok (twos_complement (length body) (big_number (length body) body)) else Err fault.Integer
