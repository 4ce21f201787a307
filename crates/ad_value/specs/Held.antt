-- A value as the code has it: the bytes that are shown and, after them or as they are, the text of its key.
use Rattle.std.specs.Prelude.{ℕ, Bool, List, take, drop, if◌then◌else◌}
use Rattle.std.specs.Option.{option_map_or}
use Rattle.ad_value.specs.declared.value.Key.{Key}
use Rattle.ad_value.specs.declared.value.Key.TheVariants as key
use Rattle.ad_value.specs.declared.held.KeyIn.{KeyIn}
use Rattle.ad_value.specs.declared.held.KeyIn.TheVariants as key_in
use Rattle.ad_value.specs.Value.{Value, value}
use Rattle.ad_value.specs.ValueOf.{number_of}

-- the text of the key: what stands after the bytes that are shown, or these bytes
abbrev pub key_text : Bool → ℕ → List ℕ → List ℕ
key_text behind end bytes = if behind then drop end bytes else take end bytes

-- the number that a text is written for; bytes that are none are themselves
abbrev pub number_key : List ℕ → Key
number_key text = option_map_or key.Number (number_of 63 text) (key.Bytes text)

abbrev pub key_by : Bool → List ℕ → Key
key_by number text = if number then number_key text else key.Bytes text

abbrev pub held_value : List ℕ → ℕ → Bool → Bool → Value
held_value bytes end behind number = value (take end bytes) (key_by number (key_text behind end bytes))

-- the key that this one is, wherever its bytes lie
abbrev pub key_seen : KeyIn → Key
key_seen (key_in.Bytes bytes) = key.Bytes bytes.now
key_seen (key_in.Number number) = key.Number number
