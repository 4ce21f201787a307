-- A principal has one token at most, and more members give it no fewer groups.
use Rattle.std.proofs.Common.{◌≡◌, ℕ, Bool, true, false, List, ◌∷◌, Option, inl, inr, refl, sym, ap, subst, ◌∙◌}
use Rattle.std.specs.Prelude.{◌||◌, ◌&&◌, not, if◌then◌else◌}
use Rattle.std.specs.Option.{option_map_or, option_and_then}
use Rattle.std.proofs.lemmas.Bool.{and_parts, and_from}
use Rattle.std.proofs.lemmas.Option.{same_Some}
use Rattle.ad_ids.specs.declared.token.Token.{Token}
use Rattle.ad_ids.specs.SidValue.{SidValue, same_sid, contains_sid}
use Rattle.ad_ids.specs.SidChild.{child_of}
use Rattle.ad_ids.specs.WellKnown.{everyone, authenticated_users, administrators}
use Rattle.ad_dir_model.specs.Tree.{root}
use Rattle.ad_dir_model.specs.Identity.{is_sid, self_sid, domain_child, domain_sid}
use Rattle.ad_dir_model.specs.Protection.{is_of_domain}
use Rattle.ad_dir_model.specs.Directory.{Directory}
use Rattle.ad_principals.specs.Groups.{primary_of, anonymous, is_unauthenticated, first_with, first_groups, IsIn}
use Rattle.ad_principals.specs.Groups.{Brings, IsClosed}
use Rattle.ad_principals.specs.Tokens.{IsTokenFrom, IsTokenOf}
use Rattle.ad_principals.specs.Alike.{HasTheMembersOf, AreTheSame}
use Rattle.ad_principals.proofs.Rising.{rising_same}

-- ---- what is closed in the larger directory is closed in the smaller one

in_more : (dir more : Directory) (sid group : SidValue) → HasTheMembersOf dir more → IsIn dir sid group
    → IsIn more sid group
in_more dir more sid group has is = record {
  group = is.group;
  member = is.member;
  is_group = has.sids is.group ∙ is.is_group;
  is_member = has.sids is.member ∙ is.is_member;
  enabled = has.enabled is.group is.enabled;
  names = has.members is.group is.member is.names;
}

brings_more : (dir more : Directory) (sid other : SidValue) → HasTheMembersOf dir more → Brings dir sid other
    → Brings more sid other
brings_more dir more sid other has (inl is) = inl (in_more dir more sid other has is)
brings_more dir more sid other has (inr had) = inr (record {
  number = had.number;
  own = has.sids had.number ∙ had.own;
  had = has.history had.number other had.had;
})

closed_in_less : (dir more : Directory) (user : SidValue) (first others set : List SidValue) → HasTheMembersOf dir more
    → ((sid : SidValue) → contains_sid first sid ≡ true → contains_sid others sid ≡ true)
    → IsClosed more user others set → IsClosed dir user first set
closed_in_less dir more user first others set has within closed = record {
  begins = λ sid is. closed.begins sid (within sid is);
  of_user = λ other is. closed.of_user other (brings_more dir more user other has is);
  of_groups = λ sid other there is. closed.of_groups sid other there (brings_more dir more sid other has is);
}

-- ---- what the first groups are in both

domain_same : (dir more : Directory) (rid : ℕ) → HasTheMembersOf dir more → domain_child dir rid
    ≡ domain_child more rid
unfolding domain_child domain_sid
domain_same dir more rid has = ap (option_and_then (λ domain. child_of domain rid)) (sym (has.sids root))

of_domain_same : (dir more : Directory) (sid : Option SidValue) (rid : ℕ) → HasTheMembersOf dir more
    → is_of_domain dir sid rid ≡ is_of_domain more sid rid
of_domain_same dir more sid rid has =
    ap (λ (own : Option SidValue). option_map_or (λ o. is_sid o sid) own false) (domain_same dir more rid has)

authenticated_same : (dir more : Directory) (number : ℕ) → HasTheMembersOf dir more
    → is_unauthenticated dir (self_sid dir number) ≡ is_unauthenticated more (self_sid more number)
unfolding is_unauthenticated
authenticated_same dir more number has =
    ap (λ (b : Bool). b || (is_sid anonymous (self_sid dir number) || is_sid everyone (self_sid dir number)))
    (of_domain_same dir more (self_sid dir number) 501 has)
    ∙ ap (λ (sid : Option SidValue). is_of_domain more sid 501 || (is_sid anonymous sid || is_sid everyone sid))
    (sym (has.sids number))

-- the same identifiers after the first ones give the same
further_same : (unauthenticated : Bool) (further others : List SidValue) → AreTheSame further others
    → (sid : SidValue) → contains_sid (first_with unauthenticated further) sid
    ≡ contains_sid (first_with unauthenticated others) sid
further_same true further others same sid = ap (λ (b : Bool). same_sid everyone sid || b) (same sid)
further_same false further others same sid =
    ap (λ (b : Bool). same_sid everyone sid || (same_sid authenticated_users sid || b)) (same sid)

pub first_within : (dir more : Directory) (number : ℕ) (extra others : List SidValue) → HasTheMembersOf dir more
    → AreTheSame extra others
    → (sid : SidValue) → contains_sid (first_groups dir number extra) sid
    ≡ contains_sid (first_groups more number others) sid
first_within dir more number extra others has same sid =
    ap (λ (p : SidValue). contains_sid (first_with (is_unauthenticated dir (self_sid dir number)) (p ∷ extra)) sid)
    (sym (has.primary number))
    ∙ ap (λ (b : Bool). contains_sid (first_with b (primary_of more number ∷ extra)) sid)
    (authenticated_same dir more number has)
    ∙ further_same (is_unauthenticated more (self_sid more number)) (primary_of more number ∷ extra)
    (primary_of more number ∷ others)
    (λ s. ap (λ (b : Bool). same_sid (primary_of more number) s || b) (same s)) sid

-- ---- two tokens of one user, where the second has all first groups of the first

abbrev Within : List SidValue → List SidValue → Type 0
Within first others = (sid : SidValue) → contains_sid first sid ≡ true → contains_sid others sid ≡ true

module _ (dir more : Directory) (self : Option SidValue) (group other_group : SidValue) (first others : List SidValue)
    (a b : Token) (has : HasTheMembersOf dir more) (within : Within first others)
    (one : IsTokenFrom dir self group first a) (other : IsTokenFrom more self other_group others b) where
  one_user : a.user ≡ b.user
  one_user = same_Some a.user b.user (sym one.user ∙ other.user)

  set_within : Within one.set other.set
  set_within sid is = one.least.reached sid is other.set
      (closed_in_less dir more a.user first others other.set has within
      (subst (λ (u : SidValue). IsClosed more u others other.set) (sym one_user) other.least.closed))

  groups_in : Within a.groups b.groups
  groups_in sid is =
      let parts = and_parts (contains_sid one.set sid) (not (same_sid sid a.user)) (sym (one.groups sid) ∙ is) in
      let not_user : not (same_sid sid b.user) ≡ true = subst (λ (u : SidValue). not (same_sid sid u) ≡ true)
      one_user parts.1 in
      other.groups sid
      ∙ and_from (contains_sid other.set sid) (not (same_sid sid b.user)) (set_within sid parts.0) not_user

-- the same of the tokens of an object
from_self : (dir more : Directory) (number : ℕ) (extra : List SidValue) (t : Token) → HasTheMembersOf dir more
    → IsTokenOf more number extra t
    → IsTokenFrom more (self_sid dir number) (primary_of more number) (first_groups more number extra) t
from_self dir more number extra t has is = subst (λ (self : Option SidValue). IsTokenFrom more self
    (primary_of more number) (first_groups more number extra) t) (has.sids number) is

pub groups_within : (dir more : Directory) (number : ℕ) (extra : List SidValue) (a b : Token) (sid : SidValue)
    → HasTheMembersOf dir more
    → IsTokenOf dir number extra a → IsTokenOf more number extra b → contains_sid a.groups sid ≡ true
    → contains_sid b.groups sid ≡ true
groups_within dir more number extra a b sid has one other is =
    groups_in dir more (self_sid dir number) (primary_of dir number) (primary_of more number)
    (first_groups dir number extra) (first_groups more number extra) a b has
    (λ s there. sym (first_within dir more number extra extra has (λ q. refl) s) ∙ there) one
    (from_self dir more number extra b has other) sid is

-- ---- the same token

either_way : (x y : Bool) → (x ≡ true → y ≡ true) → (y ≡ true → x ≡ true) → x ≡ y
either_way true y to from = sym (to refl)
either_way false true to from = from refl
either_way false false to from = refl

-- tokens are the same where their parts are
by_parts : (a b : Token) → a.version ≡ b.version → a.privileges ≡ b.privileges → a.user ≡ b.user → a.owner ≡ b.owner
    → a.primary ≡ b.primary
    → a.groups ≡ b.groups → a.deny_only ≡ b.deny_only → a.restricting ≡ b.restricting → a ≡ b
by_parts a b version privileges user owner primary groups deny_only restricting = λ i. record {
  version = version i;
  privileges = privileges i;
  user = user i;
  owner = owner i;
  primary = primary i;
  groups = groups i;
  deny_only = deny_only i;
  restricting = restricting i;
}

-- of one user, with one primary group and the same first groups
pub same_from : (dir other : Directory) (self : Option SidValue) (group : SidValue) (first others : List SidValue)
    (a b : Token) → HasTheMembersOf dir other → HasTheMembersOf other dir → AreTheSame first others
    → IsTokenFrom dir self group first a → IsTokenFrom other self group others b → a ≡ b
same_from dir other self group first others a b has back same one two =
    by_parts a b (one.version ∙ sym two.version)
    (one.privileges ∙ ap (λ (s : Bool). if s then 3 else 0) (sets administrators) ∙ sym two.privileges)
    user (one.owner ∙ user ∙ sym two.owner) (one.primary ∙ sym two.primary) groups
    (one.deny_only ∙ sym two.deny_only) (one.restricting ∙ sym two.restricting)
  where
    user : a.user ≡ b.user
    user = one_user dir other self group group first others a b has (λ s is. sym (same s) ∙ is) one two

    sets : (sid : SidValue) → contains_sid one.set sid ≡ contains_sid two.set sid
    sets sid = either_way (contains_sid one.set sid) (contains_sid two.set sid)
        (set_within dir other self group group first others a b has (λ s is. sym (same s) ∙ is) one two sid)
        (set_within other dir self group group others first b a back (λ s is. same s ∙ is) two one sid)

    groups : a.groups ≡ b.groups
    groups = rising_same a.groups b.groups one.rise two.rise (λ sid.
        one.groups sid ∙ ap (λ (s : Bool). s && not (same_sid sid a.user)) (sets sid)
        ∙ ap (λ (u : SidValue). contains_sid two.set sid && not (same_sid sid u)) user ∙ sym (two.groups sid))

pub same_token : (dir other : Directory) (number : ℕ) (extra others : List SidValue) (a b : Token)
    → HasTheMembersOf dir other → HasTheMembersOf other dir → AreTheSame extra others
    → IsTokenOf dir number extra a → IsTokenOf other number others b → a ≡ b
same_token dir other number extra others a b has back same one two =
    same_from dir other (self_sid dir number) (primary_of dir number) (first_groups dir number extra)
    (first_groups other number others) a b has back (first_within dir other number extra others has same) one
    (subst (λ (group : SidValue). IsTokenFrom other (self_sid dir number) group (first_groups other number others) b)
    (has.primary number) (from_self dir other number others b has two))

pub same_directory : (dir : Directory) → HasTheMembersOf dir dir
same_directory dir = record {
  sids = λ number. refl;
  primary = λ number. refl;
  enabled = λ group is. is;
  members = λ group member is. is;
  history = λ number sid is. is;
}
