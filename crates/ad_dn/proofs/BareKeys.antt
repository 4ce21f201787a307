-- A value of bytes that need no \ is written into a key as it is, but for its case.
use Rattle.std.proofs.Common.{◌≡◌, ◌∙◌, ℕ, zero, suc, ◌<◌, true, List, [], ◌∷◌, ◌++◌, map, length, take, drop, refl}
use Rattle.std.proofs.Common.{sym, ap, ap₂, append_assoc, arith}
use Rattle.std.specs.Char.{to_ascii_lowercase}
use Rattle.std.specs.List.{list_all}
use Rattle.std.specs.Str.{IsAscii}
use Rattle.std.proofs.lemmas.Bool.{and_parts}
use Rattle.std.proofs.lemmas.Bool.Decides.{nat_tests}
use Rattle.std.proofs.lemmas.List.{take_at, drop_at}
use Rattle.std.proofs.lemmas.Str.Ascii.{IsAscii-nil}
use Rattle.ad_dn.specs.Fold.{folded}
use Rattle.ad_dn.specs.NameKey.{is_bare, escaped, closed}
use Rattle.ad_dn.proofs.AsciiFolds.{ascii_folds}

below : (b : ℕ) → is_bare b ≡ true → b < 128
below b h = grind (arith, nat_tests)

is_ascii : (value : List ℕ) → list_all is_bare value ≡ true → IsAscii value
is_ascii [] e i = IsAscii-nil i
is_ascii (b ∷ value) e zero = below b (and_parts (is_bare b) (list_all is_bare value) e).0
is_ascii (b ∷ value) e (suc i) = is_ascii value (and_parts (is_bare b) (list_all is_bare value) e).1 i

-- its case changed, it is neither a comma nor \
lowered : (b : ℕ) → is_bare b ≡ true → escaped (to_ascii_lowercase b) ≡ to_ascii_lowercase b ∷ []
lowered b e = grind (arith, nat_tests)

bare_closed : (value : List ℕ) → list_all is_bare value ≡ true → closed (map to_ascii_lowercase value)
    ≡ map to_ascii_lowercase value ++ 44 ∷ []
unfolding closed
bare_closed [] e = refl
bare_closed (b ∷ value) e =
    let p = and_parts (is_bare b) (list_all is_bare value) e in
    ap (λ k. k ++ closed (map to_ascii_lowercase value)) (lowered b p.0) ∙ ap (λ k. to_ascii_lowercase b ∷ k)
    (bare_closed value p.1)

bare_folded : (value : List ℕ) → list_all is_bare value ≡ true → map to_ascii_lowercase value ++ 44 ∷ []
    ≡ closed (folded value)
bare_folded value e = sym (bare_closed value e)
    ∙ ap closed (ascii_folds value (map to_ascii_lowercase value) (is_ascii value e) refl)

-- put at the end, and made small there
pub bare_written : (key longer small value : List ℕ) (start : ℕ) → list_all is_bare value ≡ true → start ≡ length key
    → longer ≡ key ++ value
    → small ≡ take start longer ++ map to_ascii_lowercase (drop start longer) → small ++ 44 ∷ [] ≡ key
    ++ closed (folded value)
bare_written key longer small value start bare at more low =
    let front : take start longer ≡ key = ap (take start) more ∙ take_at key value start (sym at) in
    let rest : drop start longer ≡ value = ap (drop start) more ∙ drop_at key value start (sym at) in
    ap (λ (k : List ℕ). k ++ 44 ∷ []) (low ∙ ap₂ (λ (x y : List ℕ). x ++ map to_ascii_lowercase y) front rest)
    ∙ append_assoc key (map to_ascii_lowercase value) (44 ∷ [])
    ∙ ap (λ (k : List ℕ). key ++ k) (bare_folded value bare)
