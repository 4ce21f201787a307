-- The settings of a directory: single characters of dSHeuristics ([MS-ADTS] 6.1.1.2.4.1.2).
use Rattle.std.specs.Prelude.{ℕ, ◌-◌, nat_le, Bool, false, ◌==◌, ◌&&◌, if◌then◌else◌, slice_get, List, [], chars}
use Rattle.std.specs.Option.{option_map_or, option_and_then}
use Rattle.std.specs.Int.{bit_at}
use Rattle.ad_dir_model.specs.Objects.{object_at}
use Rattle.ad_dir_model.specs.Attributes.{heuristics}
use Rattle.ad_dir_model.specs.Identity.{first_of_attr}
use Rattle.ad_dir_model.specs.Directory.{Directory}
use Rattle.ad_dir_model.specs.Names.{directory_service}

-- the characters of the first dSHeuristics of the object of the directory service, none where there is no such value
unfoldable pub settings : Directory → List ℕ
settings dir =
    option_map_or (λ v. chars v.shown)
    (option_and_then (λ number. first_of_attr (heuristics dir.schema) (object_at dir.objects number))
    (directory_service dir))
    []

-- List-object mode is on where the third character is 1 (49).
unfoldable pub list_object_mode : Directory → Bool
list_object_mode dir = option_map_or (λ character. character == 49) (slice_get (settings dir) 2) false

-- what a hexadecimal digit says, in either case; 0 for any other character
unfoldable pub digit_of : ℕ → ℕ
digit_of c =
    if nat_le 48 c && nat_le c 57 then c - 48
    else (if nat_le 65 c && nat_le c 70 then c - 55
    else (if nat_le 97 c && nat_le c 102 then c - 87
    else 0))

-- the number that the 16th character says, 0 where there is none
unfoldable pub taken_out : Directory → ℕ
taken_out dir = option_map_or digit_of (slice_get (settings dir) 15) 0

-- whether the number has this bit, counted from 0
abbrev pub takes_out : Directory → ℕ → Bool
takes_out dir bit = bit_at (taken_out dir) bit == 1
