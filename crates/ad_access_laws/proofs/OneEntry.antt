-- What is granted with one entry more or less in the list.
use Rattle.std.proofs.Common.{◌≡◌, ◌∙◌, ℕ, Bool, true, false, not, ◌&&◌, ◌||◌, List, [], ◌∷◌, ◌++◌, length, Option, refl}
use Rattle.std.proofs.Common.{sym, ap}
use Rattle.std.specs.Prelude.{if◌then◌else◌, ◌==◌}
use Rattle.std.specs.List.{list_any}
use Rattle.ad_ids.specs.SidValue.{SidValue, same_sid}
use Rattle.ad_ids.specs.declared.guid.Guid.{Guid}
use Rattle.ad_ids.specs.declared.token.Token.{Token}
use Rattle.ad_acl.specs.Entry.{Entry}
use Rattle.ad_acl.specs.Mask.{has_bit, mapped_has, write_owner, access_system_security}
use Rattle.ad_access.specs.Privileges.{security, take_ownership}
use Rattle.ad_access.specs.WellKnown.{owner_rights}
use Rattle.ad_access.specs.Holder.{Holder, first_holder, second_holder, holds}
use Rattle.ad_access.specs.Matching.{matches, speaks, is_inherit_only, is_about, decides_access}
use Rattle.ad_access.specs.Grant.{decides, is_allow, granted_by_entries, granted_as_owner, granted_to, granted}
use Rattle.ad_access.specs.Grant.{granted_to_holders, sets_owner_rights, is_implicit_owner_right}

-- what has the first has the second
abbrev pub OnlyWith : Bool → Bool → Type 0
OnlyWith a b = a ≡ true → b ≡ true

-- ---- truth values

pub or_with : (a b x y : Bool) → OnlyWith a x → OnlyWith b y → OnlyWith (a || b) (x || y)
or_with true b x y first second is = ap (λ (z : Bool). z || y) (first refl)
or_with false b true y first second is = refl
or_with false b false y first second is = second is

pub and_with : (a b x y : Bool) → OnlyWith a x → OnlyWith b y → OnlyWith (a && b) (x && y)
and_with true b x y first second is = ap (λ (z : Bool). z && y) (first refl) ∙ second is
and_with false b x y first second is = absurd cc

pub not_with : (a b : Bool) → OnlyWith b a → OnlyWith (not a) (not b)
not_with a true more is = absurd (clash a (more refl) is)
  where
    clash : (a : Bool) → a ≡ true → not a ≡ true → ⊥
    clash true one other = cc
    clash false one other = cc
not_with a false more is = refl

pub same_with : (a b : Bool) → a ≡ b → OnlyWith a b
same_with a b same is = sym same ∙ is

-- the first entry decides alike, and what the others grant is granted
head_with : (decided allows x y : Bool) → OnlyWith x y
    → OnlyWith (if decided then allows else x) (if decided then allows else y)
head_with true allows x y more is = is
head_with false allows x y more is = more is

-- an entry that doesn't allow, or one that does
no_more : (decided allows x : Bool) → allows ≡ false → OnlyWith (if decided then allows else x) x
no_more true allows x never is = absurd (clash allows never is)
  where
    clash : (a : Bool) → a ≡ false → a ≡ true → ⊥
    clash true one other = cc
    clash false one other = cc
no_more false allows x never is = is

no_less : (decided allows x : Bool) → allows ≡ true → OnlyWith x (if decided then allows else x)
no_less true allows x always is = always
no_less false allows x always is = is

-- ---- all of the rules, from what holds of one principal

pub granted_with : (owner : SidValue) (dacl other : List Entry) (token : Token) (self : Option SidValue)
    (path : List Guid) (bit : ℕ)
    → ((holder : Holder) → OnlyWith (granted_to owner dacl holder self path bit)
    (granted_to owner other holder self path bit))
    → OnlyWith (granted owner dacl token self path bit) (granted owner other token self path bit)
granted_with owner dacl other token self path bit each =
    inner (bit == access_system_security) ((bit == write_owner) && has_bit token.privileges take_ownership)
    (has_bit token.privileges security) (granted_to_holders owner dacl token self path bit)
    (granted_to_holders owner other token self path bit)
    (and_with _ _ _ _ (each (first_holder token)) (or_with (length token.restricting == 0) _ _ _ (λ is. is)
    (each (second_holder token))))
  where
    inner : (first second privilege x y : Bool) → OnlyWith x y
        → OnlyWith (if first then privilege else (if second then true else x))
        (if first then privilege else (if second then true else y))
    inner true second privilege x y more is = is
    inner false true privilege x y more is = refl
    inner false false privilege x y more is = more is

-- ---- entries that set the owner's rights

sets_more : (front behind : List Entry) (entry : Entry)
    → OnlyWith (list_any sets_owner_rights (front ++ behind)) (list_any sets_owner_rights (front ++ entry ∷ behind))
sets_more [] behind entry is = shown (sets_owner_rights entry) is
  where
    shown : (a : Bool) → OnlyWith (list_any sets_owner_rights behind) (a || list_any sets_owner_rights behind)
    shown true is = refl
    shown false is = is
sets_more (e ∷ front) behind entry is = or_with (sets_owner_rights e) (list_any sets_owner_rights (front ++ behind))
    (sets_owner_rights e) (list_any sets_owner_rights (front ++ entry ∷ behind)) (λ one. one)
    (sets_more front behind entry) is

sets_same : (front behind : List Entry) (entry : Entry) → sets_owner_rights entry ≡ false
    → list_any sets_owner_rights (front ++ entry ∷ behind) ≡ list_any sets_owner_rights (front ++ behind)
sets_same [] behind entry never = ap (λ (a : Bool). a || list_any sets_owner_rights behind) never
sets_same (e ∷ front) behind entry never = ap (λ (a : Bool). sets_owner_rights e || a)
    (sets_same front behind entry never)

owner_with : (owner : SidValue) (dacl other : List Entry) (holder : Holder) (bit : ℕ)
    → OnlyWith (list_any sets_owner_rights other) (list_any sets_owner_rights dacl)
    → OnlyWith (granted_as_owner owner dacl holder bit) (granted_as_owner owner other holder bit)
unfolding granted_as_owner
owner_with owner dacl other holder bit sets = and_with (is_implicit_owner_right bit && holds holder owner) _ _ _
    (λ is. is) (not_with _ _ sets)

-- ---- an entry more that doesn't allow

entries_more : (front behind : List Entry) (entry : Entry) (holder : Holder) (self : Option SidValue)
    (owner : SidValue) (path : List Guid) (bit : ℕ) → is_allow entry.kind ≡ false
    → OnlyWith (granted_by_entries (front ++ entry ∷ behind) holder self owner path bit)
    (granted_by_entries (front ++ behind) holder self owner path bit)
unfolding granted_by_entries
entries_more [] behind entry holder self owner path bit never =
    no_more (decides entry holder self owner path bit) (is_allow entry.kind) _ never
entries_more (e ∷ front) behind entry holder self owner path bit never =
    head_with (decides e holder self owner path bit) (is_allow e.kind) _ _
    (entries_more front behind entry holder self owner path bit never)

pub grants_no_more : (owner : SidValue) (front behind : List Entry) (entry : Entry) (token : Token)
    (self : Option SidValue) (path : List Guid) (bit : ℕ) → is_allow entry.kind ≡ false
    → granted owner (front ++ entry ∷ behind) token self path bit ≡ true
    → granted owner (front ++ behind) token self path bit ≡ true
grants_no_more owner front behind entry token self path bit never =
    granted_with owner (front ++ entry ∷ behind) (front ++ behind) token self path bit (λ holder. or_with _ _ _ _
    (owner_with owner (front ++ entry ∷ behind) (front ++ behind) holder bit (sets_more front behind entry))
    (entries_more front behind entry holder self owner path bit never))

-- ---- an entry less that allows

entries_less : (front behind : List Entry) (entry : Entry) (holder : Holder) (self : Option SidValue)
    (owner : SidValue) (path : List Guid) (bit : ℕ) → is_allow entry.kind ≡ true
    → OnlyWith (granted_by_entries (front ++ behind) holder self owner path bit)
    (granted_by_entries (front ++ entry ∷ behind) holder self owner path bit)
unfolding granted_by_entries
entries_less [] behind entry holder self owner path bit always =
    no_less (decides entry holder self owner path bit) (is_allow entry.kind) _ always
entries_less (e ∷ front) behind entry holder self owner path bit always =
    head_with (decides e holder self owner path bit) (is_allow e.kind) _ _
    (entries_less front behind entry holder self owner path bit always)

pub grants_no_less : (owner : SidValue) (front behind : List Entry) (entry : Entry) (token : Token)
    (self : Option SidValue) (path : List Guid) (bit : ℕ) → is_allow entry.kind ≡ true
    → sets_owner_rights entry ≡ false → granted owner (front ++ behind) token self path bit ≡ true
    → granted owner (front ++ entry ∷ behind) token self path bit ≡ true
grants_no_less owner front behind entry token self path bit always never =
    granted_with owner (front ++ behind) (front ++ entry ∷ behind) token self path bit (λ holder. or_with _ _ _ _
    (owner_with owner (front ++ behind) (front ++ entry ∷ behind) holder bit
    (same_with _ _ (sets_same front behind entry never)))
    (entries_less front behind entry holder self owner path bit always))

-- ---- an entry that is there to be inherited alone

decides_not : (entry : Entry) (holder : Holder) (self : Option SidValue) (owner : SidValue) (path : List Guid)
    (bit : ℕ) → is_inherit_only entry ≡ true → decides entry holder self owner path bit ≡ false
unfolding speaks
decides_not entry holder self owner path bit below = silent (decides_access entry.kind) (is_inherit_only entry)
    (is_about entry.object path) (matches entry holder self owner) (mapped_has entry.mask bit) below
  where
    silent : (access below about matched mask : Bool) → below ≡ true
        → ((access && not below && about) && matched && mask) ≡ false
    silent true true about matched mask is = refl
    silent false true about matched mask is = refl
    silent access false about matched mask is = absurd cc

sets_not : (entry : Entry) → is_inherit_only entry ≡ true → sets_owner_rights entry ≡ false
sets_not entry below = silent (same_sid entry.sid owner_rights) (is_inherit_only entry) below
  where
    silent : (for below : Bool) → below ≡ true → (for && not below) ≡ false
    silent true true is = refl
    silent false true is = refl
    silent true false is = absurd cc
    silent false false is = refl

entries_same : (front behind : List Entry) (entry : Entry) (holder : Holder) (self : Option SidValue)
    (owner : SidValue) (path : List Guid) (bit : ℕ) → is_inherit_only entry ≡ true
    → granted_by_entries (front ++ entry ∷ behind) holder self owner path bit
    ≡ granted_by_entries (front ++ behind) holder self owner path bit
unfolding granted_by_entries
entries_same [] behind entry holder self owner path bit below =
    ap (λ (b : Bool). if b then is_allow entry.kind else granted_by_entries behind holder self owner path bit)
    (decides_not entry holder self owner path bit below)
entries_same (e ∷ front) behind entry holder self owner path bit below =
    ap (λ (b : Bool). if decides e holder self owner path bit then is_allow e.kind else b)
    (entries_same front behind entry holder self owner path bit below)

owner_same : (owner : SidValue) (front behind : List Entry) (entry : Entry) (holder : Holder) (bit : ℕ)
    → is_inherit_only entry ≡ true
    → granted_as_owner owner (front ++ entry ∷ behind) holder bit ≡ granted_as_owner owner (front ++ behind) holder bit
unfolding granted_as_owner
owner_same owner front behind entry holder bit below =
    ap (λ (b : Bool). is_implicit_owner_right bit && holds holder owner && not b)
    (sets_same front behind entry (sets_not entry below))

pub grants_the_same : (owner : SidValue) (front behind : List Entry) (entry : Entry) (token : Token)
    (self : Option SidValue) (path : List Guid) (bit : ℕ) → is_inherit_only entry ≡ true
    → granted owner (front ++ entry ∷ behind) token self path bit ≡ granted owner (front ++ behind) token self path bit
grants_the_same owner front behind entry token self path bit below =
    ap (λ (b : Bool). if bit == access_system_security then has_bit token.privileges security
    else (if (bit == write_owner) && has_bit token.privileges take_ownership then true else b))
    (ap (λ (b : Bool). b && ((length token.restricting == 0)
    || granted_to owner (front ++ entry ∷ behind) (second_holder token) self path bit)) (one (first_holder token))
    ∙ ap (λ (b : Bool). granted_to owner (front ++ behind) (first_holder token) self path bit
    && ((length token.restricting == 0) || b)) (one (second_holder token)))
  where
    one : (holder : Holder) → granted_to owner (front ++ entry ∷ behind) holder self path bit
        ≡ granted_to owner (front ++ behind) holder self path bit
    one holder = ap (λ (b : Bool). b || granted_by_entries (front ++ entry ∷ behind) holder self owner path bit)
        (owner_same owner front behind entry holder bit below)
        ∙ ap (λ (b : Bool). granted_as_owner owner (front ++ behind) holder bit || b)
        (entries_same front behind entry holder self owner path bit below)
