-- Where the identifier of a control stands again.
use Rattle.std.specs.Prelude.{◌≡◌, ℕ, Bool, ◌+◌, ◌*◌, ◌<◌, true, false, List, [], ◌∷◌, ◌++◌, length, take, get_or}
use Rattle.std.specs.Prelude.{Option, None, Some}
use Rattle.std.specs.List.{list_any}
use Rattle.std.specs.Str.{bytes_eq}
use Rattle.std.specs.Ordering.{nat_cmp}
use Rattle.std.specs.BTreeSet.{contains, BTreeSet}
use Rattle.std.specs.Hash.DefaultHasher as sip
use Rattle.std.specs.declared.hash.DefaultHasher.{DefaultHasher}
use Rattle.ad_ldap.specs.declared.controls.Control.{Control}

-- one of the controls has this identifier
abbrev pub stands : List Control → List ℕ → Bool
stands cs oid = list_any (λ c. bytes_eq c.oid oid) cs

-- each of these, after the earlier ones, has an identifier that doesn't stand before it
abbrev pub AreNew : List Control → List Control → Type 0
AreNew earlier [] = Unit {0}
AreNew earlier (c ∷ cs) = (stands earlier c.oid ≡ false) × AreNew (earlier ++ c ∷ []) cs

-- the control at this place is the first whose identifier stands before it
pub record IsAgainAt (place : ℕ) (cs : List Control) : Type 0 where
  pub within : place < length cs
  pub new : AreNew [] (take place cs)
  pub again : (d : Control) → stands (take place cs) (get_or cs place d).oid ≡ true

-- it is that one, or there is none
abbrev pub IsFirstAgain : Option ℕ → List Control → Type 0
IsFirstAgain None cs = AreNew [] cs
IsFirstAgain (Some place) cs = IsAgainAt place cs

-- two numbers of 64 bits out of one state of SipHash
abbrev pub both_of : DefaultHasher → ℕ
both_of state = sip.finish state * 18446744073709551616 + sip.finish (sip.write state (1 ∷ []))

unfoldable pub digest : List ℕ → ℕ
digest oid = both_of (sip.write sip.initial oid)

-- the digest of each of their identifiers is in the set
abbrev pub AreSeen : BTreeSet ℕ → List Control → Type 0
AreSeen seen cs = (oid : List ℕ) → stands cs oid ≡ true → contains nat_cmp seen (digest oid) ≡ true
