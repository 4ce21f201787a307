-- When two names are the same.
use Rattle.std.specs.Prelude.{◌≡◌, ℕ, List, [], ◌∷◌, chars, encode_utf8_all}
use Rattle.std.specs.Str.{str_to_ascii_uppercase}
use Rattle.caseless.specs.Caseless.{default_case_fold}
use Rattle.ad_dn.specs.declared.rdn.Rdn.{Rdn}
use Rattle.ad_dn.specs.declared.rdn.Dn.{Dn}

-- the UTF-8 of the characters after full case folding (The Unicode Standard 3.13)
unfoldable pub folded : List ℕ → List ℕ
folded value = encode_utf8_all (default_case_fold (chars value))

-- types without regard to ASCII case, and values after folding
pub record IsSameRdn (a b : Rdn) : Type 0 where
  pub kind : str_to_ascii_uppercase a.kind ≡ str_to_ascii_uppercase b.kind
  pub value : folded a.value ≡ folded b.value

-- part by part
abbrev pub AreSameRdns : List Rdn → List Rdn → Type 0
AreSameRdns [] [] = Unit {0}
AreSameRdns (a ∷ as') (b ∷ bs) = IsSameRdn a b × AreSameRdns as' bs
AreSameRdns _ _ = ⊥

abbrev pub IsSameDn : Dn → Dn → Type 0
IsSameDn a b = AreSameRdns a.rdns b.rdns
