-- Directories that agree in what tokens depend on give the same tokens.
use Rattle.std.proofs.Common.{◌≡◌, ℕ, true, false, List, [], Option, Some, None, inl, inr, refl, sym, ap}
use Rattle.std.proofs.Common.{◌∙◌}
use Rattle.std.specs.Prelude.{codes, unwrap_or, filter_map}
use Rattle.std.specs.Option.{option_map_or, option_and_then}
use Rattle.ad_ids.specs.SidValue.{SidValue, contains_sid}
use Rattle.ad_ids.specs.SidChild.{child_of}
use Rattle.ad_ids.specs.WellKnown.{users}
use Rattle.ad_ids.specs.declared.token.Token.{Token}
use Rattle.ad_value.specs.Value.{Value}
use Rattle.ad_value.specs.ValueOf.{sid_of}
use Rattle.ad_schema.specs.declared.line.SchemaRecord.{SchemaRecord}
use Rattle.ad_dir_model.specs.Object.{Object, stored_in, first_plain, names}
use Rattle.ad_dir_model.specs.Objects.{object_at}
use Rattle.ad_dir_model.specs.Tree.{root}
use Rattle.ad_dir_model.specs.Attributes.{attr_place, object_sid, primary_group, member}
use Rattle.ad_dir_model.specs.Identity.{first_of_attr, sid_in, self_sid, domain_child, domain_sid}
use Rattle.ad_dir_model.specs.Directory.{Directory}
use Rattle.ad_principals.specs.Groups.{rid_in, primary_rid, primary_of, has_security_bit}
use Rattle.ad_principals.specs.Groups.{is_security_enabled, has_member}
use Rattle.ad_principals.specs.Groups.{sid_stored, history_of, first_groups, Brings, IsClosed, IsReached}
use Rattle.ad_principals.specs.Tokens.{IsTokenOf, HasTooManyGroups}
use Rattle.ad_principals.specs.Alike.{HasTheMembersOf}
use Rattle.ad_principals.proofs.TokenLaws.{first_within}
use Rattle.ad_principal_laws.specs.Agreeing.{values_of, AgreeOnTokens}

-- ---- what each rule reads of an object

first_is : (attr : Option ℕ) (o : Object) → first_of_attr attr o ≡ first_plain (values_of attr o)
unfolding first_of_attr
first_is None o = refl
first_is (Some place) o = refl

first_same : (attr : Option ℕ) (a b : Object) → values_of attr a ≡ values_of attr b
    → first_of_attr attr a ≡ first_of_attr attr b
first_same attr a b same = first_is attr a ∙ ap first_plain same ∙ sym (first_is attr b)

member_is : (attr : Option ℕ) (o : Object) (n : ℕ)
    → option_map_or (λ (place : ℕ). names n (stored_in o.values place)) attr false ≡ names n (values_of attr o)
member_is None o n = refl
member_is (Some place) o n = refl

history_is : (attr : Option ℕ) (o : Object)
    → option_map_or (λ (place : ℕ). filter_map sid_stored (stored_in o.values place)) attr []
    ≡ filter_map sid_stored (values_of attr o)
history_is None o = refl
history_is (Some place) o = refl

module _ (dir other : Directory) (agree : AgreeOnTokens dir other) where
  sids_same : (n : ℕ) → self_sid dir n ≡ self_sid other n
  unfolding sid_in
  sids_same n =
      ap (option_and_then (λ (v : Value). sid_of v.shown)) (first_same (object_sid dir.schema)
      (object_at dir.objects n) (object_at other.objects n) (agree.values n).sids)
      ∙ ap (λ (schema : List SchemaRecord). sid_in schema (object_at other.objects n)) (sym agree.schema)

  child_same : (rid : ℕ) → domain_child dir rid ≡ domain_child other rid
  unfolding domain_child domain_sid
  child_same rid = ap (option_and_then (λ domain. child_of domain rid)) (sids_same root)

  rid_same : (n : ℕ) → primary_rid dir n ≡ primary_rid other n
  unfolding primary_rid
  rid_same n =
      ap (option_and_then (λ (v : Value). rid_in v.key)) (first_same (primary_group dir.schema)
      (object_at dir.objects n) (object_at other.objects n) (agree.values n).primaries
      ∙ ap (λ (schema : List SchemaRecord). first_of_attr (primary_group schema) (object_at other.objects n))
      (sym agree.schema))

  primary_in : (rid : Option ℕ) → unwrap_or (option_and_then (domain_child dir) rid) users
      ≡ unwrap_or (option_and_then (domain_child other) rid) users
  primary_in None = refl
  primary_in (Some rid) = ap (λ (sid : Option SidValue). unwrap_or sid users) (child_same rid)

  primary_same : (n : ℕ) → primary_of dir n ≡ primary_of other n
  unfolding primary_of
  primary_same n = primary_in (primary_rid dir n)
      ∙ ap (λ (rid : Option ℕ). unwrap_or (option_and_then (domain_child other) rid) users) (rid_same n)

  enabled_same : (n : ℕ) → is_security_enabled dir n ≡ is_security_enabled other n
  unfolding is_security_enabled
  enabled_same n =
      ap (λ (v : Option Value). option_map_or (λ (value : Value). has_security_bit value.key) v true)
      (first_same (attr_place dir.schema (codes "groupType")) (object_at dir.objects n) (object_at other.objects n)
      (agree.values n).types
      ∙ ap (λ (schema : List SchemaRecord). first_of_attr (attr_place schema (codes "groupType"))
      (object_at other.objects n)) (sym agree.schema))

  members_same : (group n : ℕ) → has_member dir group n ≡ has_member other group n
  members_same group n =
      member_is (member dir.schema) (object_at dir.objects group) n
      ∙ ap (names n) (agree.values group).members
      ∙ ap (λ (schema : List SchemaRecord). names n (values_of (member schema) (object_at other.objects group)))
      (sym agree.schema)
      ∙ sym (member_is (member other.schema) (object_at other.objects group) n)

  history_same : (n : ℕ) → history_of dir n ≡ history_of other n
  unfolding history_of
  history_same n =
      history_is (attr_place dir.schema (codes "sIDHistory")) (object_at dir.objects n)
      ∙ ap (filter_map sid_stored) (agree.values n).histories
      ∙ ap (λ (schema : List SchemaRecord). filter_map sid_stored (values_of (attr_place schema (codes "sIDHistory"))
      (object_at other.objects n))) (sym agree.schema)
      ∙ sym (history_is (attr_place other.schema (codes "sIDHistory")) (object_at other.objects n))

  has_the_members : HasTheMembersOf dir other
  has_the_members = record {
    sids = λ n. sym (sids_same n);
    primary = λ n. sym (primary_same n);
    enabled = λ group is. sym (enabled_same group) ∙ is;
    members = λ group n is. sym (members_same group n) ∙ is;
    history = λ n sid is. ap (λ (l : List SidValue). contains_sid l sid) (sym (history_same n)) ∙ is;
  }

  -- ---- what is brought

  brought_back : (sid added : SidValue) → Brings other sid added → Brings dir sid added
  brought_back sid added (inl is) = inl (record {
    group = is.group;
    member = is.member;
    is_group = sids_same is.group ∙ is.is_group;
    is_member = sids_same is.member ∙ is.is_member;
    enabled = enabled_same is.group ∙ is.enabled;
    names = members_same is.group is.member ∙ is.names;
  })
  brought_back sid added (inr had) = inr (record {
    number = had.number;
    own = sids_same had.number ∙ had.own;
    had = ap (λ (l : List SidValue). contains_sid l added) (history_same had.number) ∙ had.had;
  })

  brought_on : (sid added : SidValue) → Brings dir sid added → Brings other sid added
  brought_on sid added (inl is) = inl (record {
    group = is.group;
    member = is.member;
    is_group = sym (sids_same is.group) ∙ is.is_group;
    is_member = sym (sids_same is.member) ∙ is.is_member;
    enabled = sym (enabled_same is.group) ∙ is.enabled;
    names = sym (members_same is.group is.member) ∙ is.names;
  })
  brought_on sid added (inr had) = inr (record {
    number = had.number;
    own = sym (sids_same had.number) ∙ had.own;
    had = ap (λ (l : List SidValue). contains_sid l added) (sym (history_same had.number)) ∙ had.had;
  })

  -- ---- a token

  module _ (number : ℕ) (extra : List SidValue) where
    first_same_in : (sid : SidValue) → contains_sid (first_groups dir number extra) sid
        ≡ contains_sid (first_groups other number extra) sid
    first_same_in = first_within dir other number extra extra has_the_members (λ s. refl)

    closed_on : (user : SidValue) (set : List SidValue) → IsClosed dir user (first_groups dir number extra) set
        → IsClosed other user (first_groups other number extra) set
    closed_on user set closed = record {
      begins = λ sid is. closed.begins sid (first_same_in sid ∙ is);
      of_user = λ added is. closed.of_user added (brought_back user added is);
      of_groups = λ sid added there is. closed.of_groups sid added there (brought_back sid added is);
    }

    closed_back : (user : SidValue) (set : List SidValue) → IsClosed other user (first_groups other number extra) set
        → IsClosed dir user (first_groups dir number extra) set
    closed_back user set closed = record {
      begins = λ sid is. closed.begins sid (sym (first_same_in sid) ∙ is);
      of_user = λ added is. closed.of_user added (brought_on user added is);
      of_groups = λ sid added there is. closed.of_groups sid added there (brought_on sid added is);
    }

    reached_on : (user sid : SidValue) → IsReached dir user (first_groups dir number extra) sid
        → IsReached other user (first_groups other number extra) sid
    reached_on user sid reached set closed = reached set (closed_back user set closed)

    token_on : (t : Token) → IsTokenOf dir number extra t → IsTokenOf other number extra t
    token_on t is = record {
      set = is.set;
      user = sym (sids_same number) ∙ is.user;
      least = record {
        closed = closed_on t.user is.set is.least.closed;
        reached = λ sid there. reached_on t.user sid (is.least.reached sid there);
      };
      groups = is.groups;
      rise = is.rise;
      few = is.few;
      version = is.version;
      owner = is.owner;
      primary = is.primary ∙ primary_same number;
      privileges = is.privileges;
      deny_only = is.deny_only;
      restricting = is.restricting;
    }

    many_on : HasTooManyGroups dir number extra → HasTooManyGroups other number extra
    many_on many = record {
      user = many.user;
      is_user = sym (sids_same number) ∙ many.is_user;
      groups = many.groups;
      rise = many.rise;
      reached = λ sid there. reached_on many.user sid (many.reached sid there);
      others = many.others;
      many = many.many;
    }

pub same_tokens : (dir other : Directory) (number : ℕ) (extra : List SidValue) (t : Token) → AgreeOnTokens dir other
    → IsTokenOf dir number extra t → IsTokenOf other number extra t
same_tokens dir other number extra t agree is = token_on dir other agree number extra t is

pub same_refusals : (dir other : Directory) (number : ℕ) (extra : List SidValue) → AgreeOnTokens dir other
    → HasTooManyGroups dir number extra → HasTooManyGroups other number extra
same_refusals dir other number extra agree many = many_on dir other agree number extra many
