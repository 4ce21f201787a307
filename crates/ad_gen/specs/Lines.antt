-- Lines of LDIF (RFC 2849).
use Rattle.std.specs.Prelude.{ℕ, List, [], ◌∷◌, ◌++◌, codes}
use Rattle.base64.specs.Engines.{standard}
use Rattle.base64.specs.GeneralPurpose.{encode_of}

-- a name and a text
unfoldable pub line : List ℕ → List ℕ → List ℕ
line name value = name ++ (codes ": " ++ (value ++ 10 ∷ []))

-- a name and bytes in base64
unfoldable pub encoded_line : List ℕ → List ℕ → List ℕ
encoded_line name bytes = name ++ (codes ":: " ++ (encode_of standard bytes ++ 10 ∷ []))
