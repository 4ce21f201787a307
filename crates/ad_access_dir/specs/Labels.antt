-- What a line of rights is about: something of a kind, as an attribute or a class, that has a name.
use Rattle.std.specs.Prelude.{ℕ, nat_lt, ◌==◌, Bool, false, not, ◌&&◌, if◌then◌else◌, List, [], ◌∷◌, ◌++◌}
use Rattle.std.specs.List.{list_all}
use Rattle.ad_bytes.specs.Puts.{spaced}
use Rattle.ad_ids.specs.GuidText.{guid_text}
use Rattle.ad_schema.specs.declared.info.RightInfo.{RightInfo}

abbrev pub label_of : List ℕ → List ℕ → List ℕ
label_of kind name = kind ++ spaced name

-- ---- rights

-- a printable character of ASCII, but the blank
abbrev pub is_graphic : ℕ → Bool
is_graphic b = nat_lt 32 b && nat_lt b 127

-- one or more of these, and not a hyphen (45) alone, which stands for nothing
abbrev pub is_title : List ℕ → Bool
is_title [] = false
is_title (b ∷ []) = is_graphic b && not (b == 45)
is_title (b ∷ c ∷ bytes) = list_all is_graphic (b ∷ c ∷ bytes)

-- The cn of a right may be any bytes. A line names the right by its cn where that is a word, else by its GUID.
abbrev pub right_title : RightInfo → List ℕ
right_title r = if is_title r.name then r.name else guid_text r.guid
