-- What is granted to a token with one group more or less.
use Rattle.std.proofs.Common.{◌≡◌, ◌∙◌, ℕ, Bool, true, false, not, ◌&&◌, ◌||◌, List, [], ◌∷◌, ◌++◌, Option, Some}
use Rattle.std.proofs.Common.{None, refl, sym, ap, subst}
use Rattle.std.specs.Prelude.{if◌then◌else◌, ◌==◌}
use Rattle.ad_ids.specs.SidValue.{SidValue, same_sid, contains_sid}
use Rattle.ad_ids.specs.declared.guid.Guid.{Guid}
use Rattle.ad_ids.specs.declared.token.Token.{Token}
use Rattle.ad_acl.specs.declared.kind.AceKind.{AceKind}
use Rattle.ad_acl.specs.declared.kind.AceKind.TheVariants.{Allow, Deny, Audit}
use Rattle.ad_acl.specs.Entry.{Entry}
use Rattle.ad_acl.specs.Mask.{has_bit, mapped_has, write_owner, access_system_security}
use Rattle.ad_access.specs.Privileges.{security, take_ownership}
use Rattle.ad_access.specs.WellKnown.{owner_rights, principal_self}
use Rattle.ad_access.specs.Holder.{Holder, first_holder, holds, denies_by, answers_to}
use Rattle.ad_access.specs.Matching.{answers_to_self, matches, speaks, is_inherit_only, is_about, decides_access}
use Rattle.ad_access.specs.Grant.{decides, is_allow, granted_by_entries, granted_as_owner, granted}
use Rattle.ad_access.specs.Grant.{is_implicit_owner_right}
use Rattle.ad_access_laws.specs.Fewer.{grouped, alone, is_deny, denies, some_denies}
use Rattle.ad_access_laws.proofs.OneEntry.{OnlyWith, or_with, and_with}

-- ---- identifiers in lists

in_more : (front behind : List SidValue) (group sid : SidValue)
    → OnlyWith (contains_sid (front ++ behind) sid) (contains_sid (front ++ group ∷ behind) sid)
in_more [] behind group sid is = shown (same_sid group sid) is
  where
    shown : (a : Bool) → OnlyWith (contains_sid behind sid) (a || contains_sid behind sid)
    shown true is = refl
    shown false is = is
in_more (s ∷ front) behind group sid is = or_with (same_sid s sid) (contains_sid (front ++ behind) sid)
    (same_sid s sid) (contains_sid (front ++ group ∷ behind) sid) (λ one. one) (in_more front behind group sid) is

-- one of a list is the one or stands among the others
in_less : (front behind : List SidValue) (group sid : SidValue)
    → contains_sid (front ++ group ∷ behind) sid ≡ (same_sid group sid || contains_sid (front ++ behind) sid)
in_less [] behind group sid = refl
in_less (s ∷ front) behind group sid =
    ap (λ (b : Bool). same_sid s sid || b) (in_less front behind group sid)
    ∙ turned (same_sid s sid) (same_sid group sid) (contains_sid (front ++ behind) sid)
  where
    turned : (a b c : Bool) → (a || (b || c)) ≡ (b || (a || c))
    turned true true c = refl
    turned true false c = refl
    turned false b c = refl

in_both : (first second : List SidValue) (sid : SidValue)
    → contains_sid (first ++ second) sid ≡ (contains_sid first sid || contains_sid second sid)
in_both [] second sid = refl
in_both (s ∷ first) second sid =
    ap (λ (b : Bool). same_sid s sid || b) (in_both first second sid)
    ∙ joined (same_sid s sid) (contains_sid first sid) (contains_sid second sid)
  where
    joined : (a b c : Bool) → (a || (b || c)) ≡ ((a || b) || c)
    joined true b c = refl
    joined false b c = refl

-- ---- two principals, of which the one answers to less

-- what the first holds the second does
abbrev HoldsLess : Holder → Holder → Type 0
HoldsLess less more = (sid : SidValue) → OnlyWith (holds less sid) (holds more sid)

-- an entry that denies to the second denies to the first
abbrev KeepsDenial : Holder → Holder → Option SidValue → SidValue → List Guid → Entry → Type 0
KeepsDenial less more self owner path entry = entry.kind ≡ Deny → speaks entry path ≡ true
    → OnlyWith (matches entry more self owner) (matches entry less self owner)

abbrev KeepsDenials : Holder → Holder → Option SidValue → SidValue → List Guid → List Entry → Type 0
KeepsDenials less more self owner path [] = Unit {0}
KeepsDenials less more self owner path (entry ∷ others) = KeepsDenial less more self owner path entry
    × KeepsDenials less more self owner path others

self_with : (kind : AceKind) (less more : Holder) (self : Option SidValue)
    → ((sid : SidValue) → OnlyWith (answers_to kind less sid) (answers_to kind more sid))
    → OnlyWith (answers_to_self kind less self) (answers_to_self kind more self)
self_with kind less more None each is = absurd cc
self_with kind less more (Some sid) each is = each sid is

-- the entry is for the second where it is for the first
matches_with : (entry : Entry) (less more : Holder) (self : Option SidValue) (owner : SidValue)
    → ((sid : SidValue) → OnlyWith (answers_to entry.kind less sid) (answers_to entry.kind more sid))
    → OnlyWith (matches entry less self owner) (matches entry more self owner)
unfolding matches
matches_with entry less more self owner each = chosen (same_sid entry.sid principal_self)
    (same_sid entry.sid owner_rights) _ _ _ _ _ _ (self_with entry.kind less more self each) (each owner)
    (each entry.sid)
  where
    chosen : (for_self for_owner a b c x y z : Bool) → OnlyWith a x → OnlyWith b y → OnlyWith c z
        → OnlyWith (if for_self then a else (if for_owner then b else c))
        (if for_self then x else (if for_owner then y else z))
    chosen true for_owner a b c x y z first second third is = first is
    chosen false true a b c x y z first second third is = second is
    chosen false false a b c x y z first second third is = third is

-- an allow entry that decides for the first does for the second
allow_step : (spoken less more mask x y : Bool) → OnlyWith less more → OnlyWith x y
    → OnlyWith (if spoken && less && mask then true else x) (if spoken && more && mask then true else y)
allow_step false less more mask x y found others is = others is
allow_step true true more true x y found others is = ap (λ (b : Bool). if b && true then true else y) (found refl)
allow_step true less true true x y found others is = refl
allow_step true false false true x y found others is = others is
allow_step true less more false x y found others is = last less more is
  where
    last : (less more : Bool) → (if less && false then true else x) ≡ true → (if more && false then true else y) ≡ true
    last true true is = others is
    last true false is = others is
    last false true is = others is
    last false false is = others is

-- a deny entry that decides for the second does for the first
deny_step : (spoken less more mask x y : Bool) → (spoken ≡ true → OnlyWith more less) → OnlyWith x y
    → OnlyWith (if spoken && less && mask then false else x) (if spoken && more && mask then false else y)
deny_step false less more mask x y found others is = others is
deny_step true true more true x y found others is = absurd cc
deny_step true false true true x y found others is = let both = found refl refl in absurd cc
deny_step true false false true x y found others is = others is
deny_step true less more false x y found others is = last less more is
  where
    last : (less more : Bool) → (if less && false then false else x) ≡ true → (if more && false then false else y) ≡ true
    last true true is = others is
    last true false is = others is
    last false true is = others is
    last false false is = others is

-- an entry that asks for an audit event speaks of nothing
never : (entry : Entry) (path : List Guid) → entry.kind ≡ Audit → speaks entry path ≡ false
unfolding speaks
never entry path is = ap (λ (k : AceKind). decides_access k && not (is_inherit_only entry) && is_about entry.object path)
    is

step : (kind : AceKind) (entry : Entry) (less more : Holder) (self : Option SidValue) (owner : SidValue)
    (path : List Guid) (bit : ℕ) (x y : Bool) → entry.kind ≡ kind → HoldsLess less more
    → KeepsDenial less more self owner path entry → OnlyWith x y
    → OnlyWith (if decides entry less self owner path bit then is_allow kind else x)
    (if decides entry more self owner path bit then is_allow kind else y)
step Allow entry less more self owner path bit x y is held denials others =
    allow_step (speaks entry path) (matches entry less self owner) (matches entry more self owner)
    (mapped_has entry.mask bit) x y (matches_with entry less more self owner (subst (λ (k : AceKind). (sid : SidValue)
    → OnlyWith (answers_to k less sid) (answers_to k more sid)) (sym is) held)) others
step Deny entry less more self owner path bit x y is held denials others =
    deny_step (speaks entry path) (matches entry less self owner) (matches entry more self owner)
    (mapped_has entry.mask bit) x y (denials is) others
step Audit entry less more self owner path bit x y is held denials others =
    let none : speaks entry path ≡ false = never entry path is in
    audit_step (speaks entry path) (matches entry less self owner) (matches entry more self owner)
    (mapped_has entry.mask bit) x y none others
  where
    audit_step : (spoken less more mask x y : Bool) → spoken ≡ false → OnlyWith x y
        → OnlyWith (if spoken && less && mask then false else x) (if spoken && more && mask then false else y)
    audit_step false less more mask x y none others is = others is
    audit_step true less more mask x y none others is = absurd cc

entries_with : (dacl : List Entry) (less more : Holder) (self : Option SidValue) (owner : SidValue)
    (path : List Guid) (bit : ℕ) → HoldsLess less more → KeepsDenials less more self owner path dacl
    → OnlyWith (granted_by_entries dacl less self owner path bit) (granted_by_entries dacl more self owner path bit)
unfolding granted_by_entries
entries_with [] less more self owner path bit held denials is = absurd cc
entries_with (e ∷ others) less more self owner path bit held denials is =
    step e.kind e less more self owner path bit _ _ refl held denials.0
    (entries_with others less more self owner path bit held denials.1) is

owner_holds : (owner : SidValue) (dacl : List Entry) (less more : Holder) (bit : ℕ) → HoldsLess less more
    → OnlyWith (granted_as_owner owner dacl less bit) (granted_as_owner owner dacl more bit)
unfolding granted_as_owner
owner_holds owner dacl less more bit held = and_with _ _ _ _ (and_with (is_implicit_owner_right bit) _ _ _
    (λ is. is) (held owner)) (λ is. is)

-- ---- all of the rules, for tokens that differ in these groups

granted_less : (owner : SidValue) (dacl : List Entry) (token : Token) (groups deny_only others other_deny : List SidValue)
    (self : Option SidValue) (path : List Guid) (bit : ℕ)
    → HoldsLess (first_holder (grouped token groups deny_only)) (first_holder (grouped token others other_deny))
    → KeepsDenials (first_holder (grouped token groups deny_only)) (first_holder (grouped token others other_deny))
    self owner path dacl
    → OnlyWith (granted owner dacl (grouped token groups deny_only) self path bit)
    (granted owner dacl (grouped token others other_deny) self path bit)
granted_less owner dacl token groups deny_only others other_deny self path bit held denials =
    inner (bit == access_system_security) ((bit == write_owner) && has_bit token.privileges take_ownership)
    (has_bit token.privileges security) _ _
    (and_with _ _ _ _ (or_with _ _ _ _
    (owner_holds owner dacl less more bit held) (entries_with dacl less more self owner path bit held denials))
    (λ is. is))
  where
    less : Holder
    less = first_holder (grouped token groups deny_only)

    more : Holder
    more = first_holder (grouped token others other_deny)

    inner : (first second privilege x y : Bool) → OnlyWith x y
        → OnlyWith (if first then privilege else (if second then true else x))
        (if first then privilege else (if second then true else y))
    inner true second privilege x y more is = is
    inner false true privilege x y more is = refl
    inner false false privilege x y more is = more is

holds_less : (token : Token) (front behind : List SidValue) (group : SidValue) (deny_only other_deny : List SidValue)
    → HoldsLess (first_holder (grouped token (front ++ behind) deny_only))
    (first_holder (grouped token (front ++ group ∷ behind) other_deny))
holds_less token front behind group deny_only other_deny sid = in_more (token.user ∷ front) behind group sid

-- ---- a group less

-- the second denies by what the first does, or by the group
by_group : (token : Token) (front behind : List SidValue) (group sid : SidValue)
    → denies_by (first_holder (grouped token (front ++ group ∷ behind) token.deny_only)) sid
    ≡ (same_sid group sid || denies_by (first_holder (grouped token (front ++ behind) token.deny_only)) sid)
by_group token front behind group sid =
    in_both (token.user ∷ (front ++ group ∷ behind)) token.deny_only sid
    ∙ ap (λ (b : Bool). b || contains_sid token.deny_only sid) (in_less (token.user ∷ front) behind group sid)
    ∙ joined (same_sid group sid) (contains_sid (token.user ∷ (front ++ behind)) sid)
    (contains_sid token.deny_only sid)
    ∙ ap (λ (b : Bool). same_sid group sid || b) (sym (in_both (token.user ∷ (front ++ behind)) token.deny_only sid))
  where
    joined : (a b c : Bool) → ((a || b) || c) ≡ (a || (b || c))
    joined true b c = refl
    joined false b c = refl

-- an entry is for one that answers to less, or for the group
split : (entry : Entry) (less more : Holder) (self : Option SidValue) (owner group : SidValue) → entry.kind ≡ Deny
    → ((sid : SidValue) → denies_by more sid ≡ (same_sid group sid || denies_by less sid))
    → matches entry (alone group) self owner ≡ false
    → OnlyWith (matches entry more self owner) (matches entry less self owner)
unfolding matches
split entry less more self owner group is by none = chosen (same_sid entry.sid principal_self)
    (same_sid entry.sid owner_rights) _ _ _ _ _ _ _ _ _ (at_self self) (at owner) (at entry.sid) none
  where
    one_of : (more same less other : Bool) → more ≡ (same || less) → (same || false) ≡ false → OnlyWith more less
    one_of more true less other is none told = absurd cc
    one_of more false less other is none told = sym is ∙ told

    at : (sid : SidValue) → answers_to entry.kind (alone group) sid ≡ false
        → OnlyWith (answers_to entry.kind more sid) (answers_to entry.kind less sid)
    at sid = subst (λ (k : AceKind). answers_to k (alone group) sid ≡ false
        → OnlyWith (answers_to k more sid) (answers_to k less sid)) (sym is)
        (one_of (denies_by more sid) (same_sid group sid) (denies_by less sid) false (by sid))

    at_self : (self : Option SidValue) → answers_to_self entry.kind (alone group) self ≡ false
        → OnlyWith (answers_to_self entry.kind more self) (answers_to_self entry.kind less self)
    at_self None none told = told
    at_self (Some sid) none told = at sid none told

    chosen : (for_self for_owner a b c p q r x y z : Bool) → (p ≡ false → OnlyWith a x) → (q ≡ false → OnlyWith b y)
        → (r ≡ false → OnlyWith c z)
        → (if for_self then p else (if for_owner then q else r)) ≡ false
        → OnlyWith (if for_self then a else (if for_owner then b else c))
        (if for_self then x else (if for_owner then y else z))
    chosen true for_owner a b c p q r x y z first second third none told = first none told
    chosen false true a b c p q r x y z first second third none told = second none told
    chosen false false a b c p q r x y z first second third none told = third none told

or_first : (a b : Bool) → (a || b) ≡ false → a ≡ false
or_first true b is = is
or_first false b is = refl

or_second : (a b : Bool) → (a || b) ≡ false → b ≡ false
or_second true b is = absurd cc
or_second false b is = is

not_for : (denies spoken matched : Bool) → denies ≡ true → spoken ≡ true → (denies && (spoken && matched)) ≡ false
    → matched ≡ false
not_for true true matched a b none = none
not_for false spoken matched a b none = absurd cc
not_for true false matched a b none = absurd cc

denials_kept : (dacl : List Entry) (less more : Holder) (self : Option SidValue) (owner group : SidValue)
    (path : List Guid) → ((sid : SidValue) → denies_by more sid ≡ (same_sid group sid || denies_by less sid))
    → some_denies dacl self owner path group ≡ false → KeepsDenials less more self owner path dacl
denials_kept [] less more self owner group path by none = tt
denials_kept (e ∷ others) less more self owner group path by none = (
  (λ is spoken. split e less more self owner group is by
      (not_for (is_deny e.kind) (speaks e path) (matches e (alone group) self owner) (ap is_deny is) spoken
      (or_first (denies self owner path group e) _ none))),
  denials_kept others less more self owner group path by (or_second (denies self owner path group e) _ none),
)

pub group_less : (owner : SidValue) (dacl : List Entry) (token : Token) (front behind : List SidValue)
    (group : SidValue) (self : Option SidValue) (path : List Guid) (bit : ℕ)
    → some_denies dacl self owner path group ≡ false
    → granted owner dacl (grouped token (front ++ behind) token.deny_only) self path bit ≡ true
    → granted owner dacl (grouped token (front ++ group ∷ behind) token.deny_only) self path bit ≡ true
group_less owner dacl token front behind group self path bit none =
    granted_less owner dacl token (front ++ behind) token.deny_only (front ++ group ∷ behind) token.deny_only self
    path bit (holds_less token front behind group token.deny_only token.deny_only)
    (denials_kept dacl _ _ self owner group path (by_group token front behind group) none)

-- ---- a group that only denies

-- the first denies by what the second does
by_denying : (token : Token) (front behind : List SidValue) (group sid : SidValue)
    → denies_by (first_holder (grouped token (front ++ group ∷ behind) token.deny_only)) sid
    ≡ denies_by (first_holder (grouped token (front ++ behind) (group ∷ token.deny_only))) sid
by_denying token front behind group sid =
    by_group token front behind group sid
    ∙ ap (λ (b : Bool). same_sid group sid || b) (in_both (token.user ∷ (front ++ behind)) token.deny_only sid)
    ∙ turned (same_sid group sid) (contains_sid (token.user ∷ (front ++ behind)) sid)
    (contains_sid token.deny_only sid)
    ∙ sym (in_both (token.user ∷ (front ++ behind)) (group ∷ token.deny_only) sid)
  where
    turned : (a b c : Bool) → (a || (b || c)) ≡ (b || (a || c))
    turned true true c = refl
    turned true false c = refl
    turned false b c = refl

all_denials : (dacl : List Entry) (less more : Holder) (self : Option SidValue) (owner : SidValue) (path : List Guid)
    → ((sid : SidValue) → OnlyWith (denies_by more sid) (denies_by less sid))
    → KeepsDenials less more self owner path dacl
all_denials [] less more self owner path by = tt
all_denials (e ∷ others) less more self owner path by = (
  (λ is spoken. matches_with e more less self owner (subst (λ (k : AceKind). (sid : SidValue)
      → OnlyWith (answers_to k more sid) (answers_to k less sid)) (sym is) by)),
  all_denials others less more self owner path by,
)

pub group_denying : (owner : SidValue) (dacl : List Entry) (token : Token) (front behind : List SidValue)
    (group : SidValue) (self : Option SidValue) (path : List Guid) (bit : ℕ)
    → granted owner dacl (grouped token (front ++ behind) (group ∷ token.deny_only)) self path bit ≡ true
    → granted owner dacl (grouped token (front ++ group ∷ behind) token.deny_only) self path bit ≡ true
group_denying owner dacl token front behind group self path bit =
    granted_less owner dacl token (front ++ behind) (group ∷ token.deny_only) (front ++ group ∷ behind)
    token.deny_only self path bit (holds_less token front behind group (group ∷ token.deny_only) token.deny_only)
    (all_denials dacl _ _ self owner path (λ sid is. sym (by_denying token front behind group sid) ∙ is))
