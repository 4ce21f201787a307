-- The two parts of bytes are bytes.
use Rattle.std.proofs.Common.{◌≡◌, ℕ, List, ◌++◌, subst}
use Rattle.ad_bytes.specs.Reading.{IsBytes}
use Rattle.ad_bytes.proofs.Codec.{IsBytes-front, IsBytes-back}

pub front_of : (text front behind : List ℕ) → text ≡ front ++ behind → IsBytes text → IsBytes front
front_of text front behind parts fits = IsBytes-front front behind (subst IsBytes parts fits)

pub behind_of : (text front behind : List ℕ) → text ≡ front ++ behind → IsBytes text → IsBytes behind
behind_of text front behind parts fits = IsBytes-back front behind (subst IsBytes parts fits)
