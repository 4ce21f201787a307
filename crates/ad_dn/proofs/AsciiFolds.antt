-- Of ASCII, folding is lowering.
use Rattle.std.proofs.Common.{◌≡◌, ◌∙◌, ℕ, zero, suc, ◌<◌, List, [], ◌∷◌, ◌++◌, map, refl, sym, ap, ap₂, arith}
use Rattle.std.specs.Prelude.{encode_utf8_all}
use Rattle.std.specs.Char.{to_ascii_lowercase}
use Rattle.std.specs.List.{All}
use Rattle.std.specs.Str.{IsAscii}
use Rattle.std.proofs.lemmas.Str.{chars-IsAscii, encode_ascii}
use Rattle.std.proofs.lemmas.Str.Ascii.{All-from_ascii, lowercase_ascii}
use Rattle.caseless.specs.Caseless.{default_case_fold}
use Rattle.caseless.proofs.CaselessLemmas.{default_case_fold-ascii}
use Rattle.ad_dn.specs.Fold.{folded}

-- lower-case letters are their own bytes
spelled_lower : (bytes : List ℕ) → All (λ b. b < 128) bytes → encode_utf8_all (map to_ascii_lowercase bytes)
    ≡ map to_ascii_lowercase bytes
spelled_lower [] all = refl
spelled_lower (b ∷ bytes) all =
    ap₂ ◌++◌ (encode_ascii (to_ascii_lowercase b) (lowercase_ascii b (all zero 0 (omega arith))))
    (spelled_lower bytes (λ k d lt. all (suc k) d (omega (arith, lt))))

pub ascii_folds : (value lower : List ℕ) → IsAscii value → lower ≡ map to_ascii_lowercase value → lower ≡ folded value
unfolding folded
ascii_folds value lower ascii is =
    let all = All-from_ascii value ascii in
    is ∙ sym (ap encode_utf8_all (ap default_case_fold (chars-IsAscii value ascii) ∙ default_case_fold-ascii value
    all) ∙ spelled_lower value all)
