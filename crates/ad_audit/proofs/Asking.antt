-- Where no entry asks.
use Rattle.std.proofs.Common.{◌≡◌, ◌||◌, ℕ, Bool, true, false, List, [], ◌∷◌, Option, None, Some, sym, refl, ap}
use Rattle.std.specs.List.{list_any}
use Rattle.ad_ids.specs.SidValue.{SidValue}
use Rattle.ad_ids.specs.declared.guid.Guid.{Guid}
use Rattle.ad_ids.specs.declared.token.Token.{Token}
use Rattle.ad_acl.specs.Entry.{Entry}
use Rattle.ad_audit.specs.Audited.{asks, is_audit, first_asking, next_place}

none_asks : (entry : Entry) (owner : SidValue) (token : Token) (self : Option SidValue) (path : List Guid) (right : ℕ)
    (success : Bool)
    → is_audit entry ≡ false → asks entry owner token self path right success ≡ false
unfolding asks
none_asks entry owner token self path right success none = rw none refl

or_left : (a b : Bool) → a || b ≡ false → a ≡ false
or_left false b e = refl
or_left true b e = e

or_right : (a b : Bool) → a || b ≡ false → b ≡ false
or_right false b e = e
or_right true b e = absurd cc

pub none_of_them : (entries : List Entry) (place : ℕ) (owner : SidValue) (token : Token) (self : Option SidValue)
    (path : List Guid) (right : ℕ)
    (success : Bool) → list_any is_audit entries ≡ false
    → first_asking (λ (entry : Entry). asks entry owner token self path right success) place entries ≡ None
unfolding first_asking
none_of_them [] place owner token self path right success none = refl
none_of_them (entry ∷ others) place owner token self path right success none =
    rw (none_asks entry owner token self path right success (or_left (is_audit entry) (list_any is_audit others) none))
    (none_of_them others (next_place place) owner token self path right success
    (or_right (is_audit entry) (list_any is_audit others) none))

-- ---- one entry after the other

pub first_here : (asking : Entry → Bool) (place : ℕ) (entry : Entry) (others : List Entry) → asking entry ≡ true
    → first_asking asking place (entry ∷ others) ≡ Some place
unfolding first_asking
first_here asking place entry others so = rw so refl

pub first_later : (asking : Entry → Bool) (place next : ℕ) (entry : Entry) (others : List Entry) → asking entry
    ≡ false → next ≡ next_place place
    → first_asking asking place (entry ∷ others) ≡ first_asking asking next others
unfolding first_asking
first_later asking place next entry others so is = rw so (ap (λ (n : ℕ). first_asking asking n others) (sym is))
