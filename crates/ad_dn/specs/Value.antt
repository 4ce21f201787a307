-- What a distinguished name consists of.
use Rattle.std.specs.Prelude.{◌≡◌, ℕ, ◌≤◌, List, length}
use Rattle.std.specs.List.{AllByRecursion}
use Rattle.std.specs.Str.{IsUtf8, str_to_ascii_uppercase}
use Rattle.ad_dn.specs.declared.rdn.Rdn.{Rdn}
use Rattle.ad_dn.specs.AttributeType.{IsType}

-- a type without lower-case letters
pub record IsAttributeType (kind : List ℕ) : Type 0 where
  pub form : IsType kind
  pub upper : str_to_ascii_uppercase kind ≡ kind

-- 1 to 1,024 bytes of UTF-8
pub record IsValue (value : List ℕ) : Type 0 where
  pub utf8 : IsUtf8 value
  pub at_least_one : 1 ≤ length value
  pub at_most_1024 : length value ≤ 1024

pub record IsRdn (rdn : Rdn) : Type 0 where
  pub kind : IsAttributeType rdn.kind
  pub value : IsValue rdn.value

abbrev pub AreRdns : List Rdn → Type 0
AreRdns rdns = AllByRecursion IsRdn rdns
