-- Objects that differ in descriptors and in adminCount alone: names, identifiers, settings and groups are the same.
use Rattle.std.proofs.Common.{◌≡◌, ℕ, zero, suc, ◌+◌, ◌<◌, ◌≤◌, Bool, true, false, not, cond, List, [], ◌∷◌, map}
use Rattle.std.proofs.Common.{length, Option, Some, None, ◌⊎◌, inl, inr, refl, sym, subst, ap, arith, ◌∙◌}
use Rattle.std.specs.Prelude.{nat_eq, nat_lt, if◌then◌else◌, filter, find, is_some, unwrap_or, slice_get, chars}
use Rattle.std.specs.Prelude.{codes, ◌&&◌, ◌||◌}
use Rattle.std.specs.List.{AllByRecursion, list_any}
use Rattle.std.specs.Option.{option_map, option_map_or, option_and_then}
use Rattle.std.proofs.lemmas.Bool.{eqb-true, eqb-false, ne_eqb, eq-eqb, ltb-true, cases_Bool, false≢true}
use Rattle.std.proofs.lemmas.Option.{none-some, same_Some}
use Rattle.ad_ids.specs.SidValue.{SidValue}
use Rattle.ad_ids.specs.SidChild.{child_of}
use Rattle.ad_dn.specs.declared.rdn.Rdn.{Rdn}
use Rattle.ad_value.specs.Value.{Value}
use Rattle.ad_value.specs.ValueOf.{sid_of}
use Rattle.ad_schema.specs.declared.line.SchemaRecord.{SchemaRecord}
use Rattle.ad_schema.specs.declared.meaning.RuleAttr.{RuleAttr}
use Rattle.ad_schema.specs.declared.meaning.RuleAttr.TheVariants as rule
use Rattle.prop_queue.specs.declared.pending.Pending.{Pending}
use Rattle.ad_dir_model.specs.Object.{Object, no_object, stored_in, first_plain, names}
use Rattle.ad_dir_model.specs.Objects.{RiseAbove, Rise, has_number, object_of, object_at, put}
use Rattle.ad_dir_model.specs.Tree.{root}
use Rattle.ad_dir_model.specs.Attributes.{rule_place, member, primary_group, heuristics}
use Rattle.ad_dir_model.specs.Identity.{first_of_attr, sid_in, self_sid, domain_sid, domain_child, is_sid}
use Rattle.ad_dir_model.specs.Directory.{Directory}
use Rattle.ad_dir_model.specs.Names.{rdn_of, same_folded, same_rdn, is_child_named, child_named, number_if_typed}
use Rattle.ad_dir_model.specs.Names.{child_of_rdn, found_below, admin_sd_holder, directory_service, common_name}
use Rattle.ad_dir_model.specs.Settings.{settings, digit_of, taken_out}
use Rattle.ad_dir_model.specs.Protection.{begins_protection, is_protected_alone, number_in, has_as_member}
use Rattle.ad_dir_model.specs.Protection.{primary_group_sid, has_as_primary, has_group, has, numbers_where, joins}
use Rattle.ad_dir_model.specs.Protection.{grown, spread, protected}
use Rattle.ad_dir_model.proofs.Finding.{of_above}

-- ---- two objects

pub record IsAlike (schema : List SchemaRecord) (x y : Object) : Type 0 where
  pub number : y.number ≡ x.number
  pub parent : y.parent ≡ x.parent
  pub class : y.class ≡ x.class
  pub name : y.name ≡ x.name
  pub values : (which : RuleAttr) (place : ℕ) → rule_place schema which ≡ Some place → stored_in y.values place
      ≡ stored_in x.values place

pub alike_self : (schema : List SchemaRecord) (x : Object) → IsAlike schema x x
alike_self schema x = record {
  number = refl;
  parent = refl;
  class = refl;
  name = refl;
  values = λ which place at.
      refl;
}

pub alike_then : (schema : List SchemaRecord) (x y z : Object) → IsAlike schema x y → IsAlike schema y z
    → IsAlike schema x z
alike_then schema x y z first second = record {
  number = second.number ∙ first.number;
  parent = second.parent ∙ first.parent;
  class = second.class ∙ first.class;
  name = second.name ∙ first.name;
  values = λ which place at. second.values which place at ∙ first.values which place at;
}

-- ---- two lists

unfoldable pub Alike : List SchemaRecord → List Object → List Object → Type 0
Alike schema [] [] = Unit {0}
Alike schema [] (y ∷ ys) = ⊥
Alike schema (x ∷ xs) [] = ⊥
Alike schema (x ∷ xs) (y ∷ ys) = IsAlike schema x y × Alike schema xs ys

pub all_alike : (schema : List SchemaRecord) (os : List Object) → Alike schema os os
unfolding Alike
all_alike schema [] = tt
all_alike schema (x ∷ xs) = (alike_self schema x, all_alike schema xs)

-- one object put in the place of one that is alike
pub alike_put : (schema : List SchemaRecord) (m : ℕ) (xs ys : List Object) (p y : Object) → RiseAbove m ys
    → Alike schema xs ys → object_of ys p.number ≡ Some y → IsAlike schema y p → Alike schema xs (put p ys)
unfolding Alike put object_of
alike_put schema m [] [] p y rise alike is like = absurd (none-some y is)
alike_put schema m [] (b ∷ bs) p y rise alike is like = absurd alike
alike_put schema m (a ∷ as') [] p y rise alike is like = absurd alike
alike_put schema m (a ∷ as') (b ∷ bs) p y rise alike is like =
    elim (cases_Bool (nat_eq b.number p.number)) [
      | inl same ↦
          let itself : b ≡ y = same_Some b y (rw same at is) in
          rw same (
            alike_then schema a b p alike.0 (subst (λ (o : Object). IsAlike schema o p) (sym itself) like),
            alike.1,
          )
      | inr differ ↦ elim (cases_Bool (nat_lt p.number b.number)) [
        | inl less ↦
            let below : p.number < b.number = ltb-true p.number b.number less in
            let above : b.number < p.number = of_above b.number bs p.number y rise.1 (rw differ at is) in
            absurd (omega arith)
        | inr more ↦ rw (differ, more) (
          alike.0,
          alike_put schema b.number as' bs p y rise.1 alike.1 (rw differ at is)
              like,
        )
      ]
    ]

-- ---- what is found

unfoldable pub AlikeFound : List SchemaRecord → Option Object → Option Object → Type 0
AlikeFound schema None None = Unit {0}
AlikeFound schema None (Some y) = ⊥
AlikeFound schema (Some x) None = ⊥
AlikeFound schema (Some x) (Some y) = IsAlike schema x y

found_alike : (schema : List SchemaRecord) (test : Object → Bool) (xs ys : List Object)
    → ((x y : Object) → IsAlike schema x y → test y ≡ test x) → Alike schema xs ys → AlikeFound schema (find test xs)
    (find test ys)
unfolding Alike AlikeFound
found_alike schema test [] [] same alike = tt
found_alike schema test [] (y ∷ ys) same alike = absurd alike
found_alike schema test (x ∷ xs) [] same alike = absurd alike
found_alike schema test (x ∷ xs) (y ∷ ys) same alike =
    elim (cases_Bool (test x)) [
      | inl passes ↦ rw (same x y alike.0, passes) alike.0
      | inr fails ↦ rw (same x y alike.0, fails) (found_alike schema test xs ys same alike.1)
    ]

object_alike : (schema : List SchemaRecord) (n : ℕ) (xs ys : List Object) → Alike schema xs ys
    → AlikeFound schema (object_of xs n) (object_of ys n)
unfolding object_of
object_alike schema n xs ys alike = found_alike schema (has_number n) xs ys
    (λ x y like. ap (λ (k : ℕ). nat_eq k n) like.number) alike

unwrapped : (schema : List SchemaRecord) (a b : Option Object) → AlikeFound schema a b
    → IsAlike schema (unwrap_or a no_object) (unwrap_or b no_object)
unfolding AlikeFound
unwrapped schema None None like = alike_self schema no_object
unwrapped schema None (Some y) like = absurd like
unwrapped schema (Some x) None like = absurd like
unwrapped schema (Some x) (Some y) like = like

pub at_alike : (schema : List SchemaRecord) (n : ℕ) (xs ys : List Object) → Alike schema xs ys
    → IsAlike schema (object_at xs n) (object_at ys n)
unfolding object_at
at_alike schema n xs ys alike = unwrapped schema (object_of xs n) (object_of ys n) (object_alike schema n xs ys alike)

-- numbers of those that pass
pub where_alike : (schema : List SchemaRecord) (first second : Object → Bool) (xs ys : List Object)
    → ((x y : Object) → IsAlike schema x y → second y ≡ first x) → Alike schema xs ys → numbers_where second ys
    ≡ numbers_where first xs
unfolding Alike
where_alike schema first second [] [] same alike = refl
where_alike schema first second [] (y ∷ ys) same alike = absurd alike
where_alike schema first second (x ∷ xs) [] same alike = absurd alike
where_alike schema first second (x ∷ xs) (y ∷ ys) same alike =
    elim (cases_Bool (first x)) [
      | inl passes ↦ rw (same x y alike.0, passes) (ap (λ (n : ℕ). n ∷ numbers_where second ys) alike.0.number
          ∙ ap (λ (ns : List ℕ). x.number ∷ ns) (where_alike schema first second xs ys same alike.1))
      | inr fails ↦ rw (same x y alike.0, fails) (where_alike schema first second xs ys same alike.1)
    ]

any_alike : (schema : List SchemaRecord) (first second : Object → Bool) (xs ys : List Object)
    → ((x y : Object) → IsAlike schema x y → second y ≡ first x) → Alike schema xs ys → list_any second ys
    ≡ list_any first xs
unfolding Alike
any_alike schema first second [] [] same alike = refl
any_alike schema first second [] (y ∷ ys) same alike = absurd alike
any_alike schema first second (x ∷ xs) [] same alike = absurd alike
any_alike schema first second (x ∷ xs) (y ∷ ys) same alike = ap (λ (b : Bool). b || list_any second ys)
    (same x y alike.0) ∙ ap (λ (b : Bool). first x || b) (any_alike schema first second xs ys same alike.1)

long_alike : (schema : List SchemaRecord) (xs ys : List Object) → Alike schema xs ys → length ys ≡ length xs
unfolding Alike
long_alike schema [] [] alike = refl
long_alike schema [] (y ∷ ys) alike = absurd alike
long_alike schema (x ∷ xs) [] alike = absurd alike
long_alike schema (x ∷ xs) (y ∷ ys) alike = ap suc (long_alike schema xs ys alike.1)

-- ---- values and identifiers

first_at : (schema : List SchemaRecord) (which : RuleAttr) (place : Option ℕ) (x y : Object) → IsAlike schema x y
    → rule_place schema which ≡ place
    → option_and_then (λ (p : ℕ). first_plain (stored_in y.values p)) place
    ≡ option_and_then (λ (p : ℕ). first_plain (stored_in x.values p)) place
first_at schema which None x y like at = refl
first_at schema which (Some place) x y like at = ap first_plain (like.values which place at)

first_alike : (schema : List SchemaRecord) (which : RuleAttr) (x y : Object) → IsAlike schema x y
    → first_of_attr (rule_place schema which) y ≡ first_of_attr (rule_place schema which) x
unfolding first_of_attr
first_alike schema which x y like = first_at schema which (rule_place schema which) x y like refl

sid_alike : (schema : List SchemaRecord) (x y : Object) → IsAlike schema x y → sid_in schema y ≡ sid_in schema x
unfolding sid_in
sid_alike schema x y like = ap (λ (first : Option Value). option_and_then (λ (value : Value). sid_of value.shown)
    first) (first_alike schema rule.ObjectSid x y like)

-- ---- a directory and one with such objects

abbrev pub with_those : Directory → List Object → List Pending → Directory
with_those dir objects pending = record dir { objects = objects; pending = pending }

domain_alike : (dir : Directory) (os : List Object) (pending : List Pending) → Alike dir.schema dir.objects os
    → domain_sid (with_those dir os pending) ≡ domain_sid dir
unfolding domain_sid
domain_alike dir os pending alike = sid_alike dir.schema (object_at dir.objects root) (object_at os root)
    (at_alike dir.schema root dir.objects os alike)

child_alike : (dir : Directory) (os : List Object) (pending : List Pending) (rid : ℕ) → Alike dir.schema dir.objects
    os → domain_child (with_those dir os pending) rid ≡ domain_child dir rid
unfolding domain_child
child_alike dir os pending rid alike = ap
    (λ (domain : Option SidValue). option_and_then (λ (s : SidValue). child_of s rid) domain)
    (domain_alike dir os pending alike)

-- ---- names

rdn_alike : (schema : List SchemaRecord) (x y : Object) → IsAlike schema x y → rdn_of schema y ≡ rdn_of schema x
unfolding rdn_of
rdn_alike schema x y like = rw (like.class, like.name) refl

typed_alike : (schema : List SchemaRecord) (rdn : Rdn) (a b : Option Object) → AlikeFound schema a b
    → option_and_then (number_if_typed schema rdn) b ≡ option_and_then (number_if_typed schema rdn) a
unfolding AlikeFound
typed_alike schema rdn None None like = refl
typed_alike schema rdn None (Some y) like = absurd like
typed_alike schema rdn (Some x) None like = absurd like
typed_alike schema rdn (Some x) (Some y) like =
    ap (λ (r : Rdn). if same_rdn r rdn then Some y.number else None) (rdn_alike schema x y like)
    ∙ ap (λ (n : ℕ). if same_rdn (rdn_of schema x) rdn then Some n else None) like.number

named_alike : (schema : List SchemaRecord) (parent : ℕ) (name : List ℕ) (xs ys : List Object) → Alike schema xs ys
    → AlikeFound schema (child_named xs parent name) (child_named ys parent name)
unfolding child_named
named_alike schema parent name xs ys alike =
    found_alike schema (is_child_named parent name) xs ys
    (λ x y like. ap (λ (n : ℕ). nat_eq n parent && same_folded y.name name) like.parent
    ∙ ap (λ (own : List ℕ). nat_eq x.parent parent && same_folded own name) like.name) alike

child_of_alike : (dir : Directory) (os : List Object) (pending : List Pending) (parent : ℕ) (rdn : Rdn)
    → Alike dir.schema dir.objects os → child_of_rdn (with_those dir os pending) parent rdn ≡ child_of_rdn dir parent
    rdn
unfolding child_of_rdn
child_of_alike dir os pending parent rdn alike = typed_alike dir.schema rdn (child_named dir.objects parent rdn.value)
    (child_named os parent rdn.value) (named_alike dir.schema parent rdn.value dir.objects os alike)

below_by : (dir : Directory) (os : List Object) (pending : List Pending) (rdns : List Rdn) (child : Option ℕ)
    → ((n : ℕ) → found_below (with_those dir os pending) n rdns ≡ found_below dir n rdns)
    → option_and_then (λ (n : ℕ). found_below (with_those dir os pending) n rdns) child
    ≡ option_and_then (λ (n : ℕ). found_below dir n rdns) child
below_by dir os pending rdns None same = refl
below_by dir os pending rdns (Some n) same = same n

below_alike : (dir : Directory) (os : List Object) (pending : List Pending) (rdns : List Rdn)
    → Alike dir.schema dir.objects os → (number : ℕ) → found_below (with_those dir os pending) number rdns
    ≡ found_below dir number rdns
unfolding found_below
below_alike dir os pending [] alike number = refl
below_alike dir os pending (rdn ∷ rdns) alike number =
    ap (λ (child : Option ℕ). option_and_then (λ (n : ℕ). found_below (with_those dir os pending) n rdns) child)
    (child_of_alike dir os pending number rdn alike)
    ∙ below_by dir os pending rdns (child_of_rdn dir number rdn) (below_alike dir os pending rdns alike)

pub holder_alike : (dir : Directory) (os : List Object) (pending : List Pending) → Alike dir.schema dir.objects os
    → admin_sd_holder (with_those dir os pending) ≡ admin_sd_holder dir
unfolding admin_sd_holder
holder_alike dir os pending alike = below_alike dir os pending
    (common_name (codes "System") ∷ common_name (codes "AdminSDHolder") ∷ []) alike root

service_alike : (dir : Directory) (os : List Object) (pending : List Pending) → Alike dir.schema dir.objects os
    → directory_service (with_those dir os pending) ≡ directory_service dir
unfolding directory_service
service_alike dir os pending alike = below_alike dir os pending
    (common_name (codes "Configuration") ∷ common_name (codes "Services") ∷ common_name (codes "Windows NT")
    ∷ common_name (codes "Directory Service") ∷ []) alike root

-- ---- the settings

settings_by : (dir : Directory) (os : List Object) (service : Option ℕ) → Alike dir.schema dir.objects os
    → option_map_or (λ (v : Value). chars v.shown)
    (option_and_then (λ (n : ℕ). first_of_attr (heuristics dir.schema) (object_at os n)) service) []
    ≡ option_map_or (λ (v : Value). chars v.shown)
    (option_and_then (λ (n : ℕ). first_of_attr (heuristics dir.schema) (object_at dir.objects n)) service) []
settings_by dir os None alike = refl
settings_by dir os (Some n) alike = ap (λ (first : Option Value). option_map_or (λ (v : Value). chars v.shown) first
    []) (first_alike dir.schema rule.DsHeuristics (object_at dir.objects n) (object_at os n)
    (at_alike dir.schema n dir.objects os alike))

settings_alike : (dir : Directory) (os : List Object) (pending : List Pending) → Alike dir.schema dir.objects os
    → settings (with_those dir os pending) ≡ settings dir
unfolding settings
settings_alike dir os pending alike =
    ap (λ (service : Option ℕ). option_map_or (λ (v : Value). chars v.shown)
    (option_and_then (λ (n : ℕ). first_of_attr (heuristics dir.schema) (object_at os n)) service) [])
    (service_alike dir os pending alike)
    ∙ settings_by dir os (directory_service dir) alike

taken_alike : (dir : Directory) (os : List Object) (pending : List Pending) → Alike dir.schema dir.objects os
    → taken_out (with_those dir os pending) ≡ taken_out dir
unfolding taken_out
taken_alike dir os pending alike = ap (λ (s : List ℕ). option_map_or digit_of (slice_get s 15) 0)
    (settings_alike dir os pending alike)

-- ---- who is protected

begins_alike : (dir : Directory) (os : List Object) (pending : List Pending) (sid : Option SidValue)
    → Alike dir.schema dir.objects os → begins_protection (with_those dir os pending) sid ≡ begins_protection dir sid
unfolding begins_protection
begins_alike dir os pending sid alike =
    rw (
      taken_alike dir os pending alike,
      child_alike dir os pending 512 alike,
      child_alike dir os pending 518 alike,
      child_alike dir os pending 519 alike,
    ) refl

alone_alike : (dir : Directory) (os : List Object) (pending : List Pending) (sid : Option SidValue)
    → Alike dir.schema dir.objects os → is_protected_alone (with_those dir os pending) sid
    ≡ is_protected_alone dir sid
unfolding is_protected_alone
alone_alike dir os pending sid alike =
    rw (
      child_alike dir os pending 500 alike,
      child_alike dir os pending 502 alike,
      child_alike dir os pending 516
          alike,
      child_alike dir os pending 521 alike,
    ) refl

member_by : (schema : List SchemaRecord) (place : Option ℕ) (g h : Object) (n : ℕ) → IsAlike schema g h
    → rule_place schema rule.Member ≡ place → option_map_or (λ (attr : ℕ). names n (stored_in h.values attr)) place
    false ≡ option_map_or (λ (attr : ℕ). names n (stored_in g.values attr)) place false
member_by schema None g h n like at = refl
member_by schema (Some place) g h n like at = ap (names n) (like.values rule.Member place at)

primary_by : (dir : Directory) (os : List Object) (pending : List Pending) (first : Option Value)
    → Alike dir.schema dir.objects os
    → option_and_then (λ (value : Value). option_and_then (domain_child (with_those dir os pending))
    (number_in value.key)) first ≡ option_and_then
    (λ (value : Value). option_and_then (domain_child dir) (number_in value.key)) first
primary_by dir os pending None alike = refl
primary_by dir os pending (Some value) alike = by_number (number_in value.key)
  where
    by_number : (number : Option ℕ) → option_and_then (domain_child (with_those dir os pending)) number
        ≡ option_and_then (domain_child dir) number
    by_number None = refl
    by_number (Some rid) = child_alike dir os pending rid alike

primary_alike : (dir : Directory) (os : List Object) (pending : List Pending) (x y : Object)
    → Alike dir.schema dir.objects os → IsAlike dir.schema x y → primary_group_sid (with_those dir os pending) y
    ≡ primary_group_sid dir x
unfolding primary_group_sid
primary_alike dir os pending x y alike like =
    ap (λ (first : Option Value). option_and_then
    (λ (value : Value). option_and_then (domain_child (with_those dir os pending)) (number_in value.key)) first)
    (first_alike dir.schema rule.PrimaryGroupId x y like)
    ∙ primary_by dir os pending (first_of_attr (primary_group dir.schema) x) alike

group_alike : (dir : Directory) (os : List Object) (pending : List Pending) (x y g h : Object)
    → Alike dir.schema dir.objects os → IsAlike dir.schema x y → IsAlike dir.schema g h
    → has_group (with_those dir os pending) y h ≡ has_group dir x g
unfolding has_group
group_alike dir os pending x y g h alike like group =
    ap (λ (n : ℕ). has_as_member dir h n || has_as_primary (with_those dir os pending) y h) like.number
    ∙ ap (λ (b : Bool). b || has_as_primary (with_those dir os pending) y h)
    (member_by dir.schema (member dir.schema) g h x.number group refl)
    ∙ ap (λ (own : Option SidValue). has_as_member dir g x.number
    || option_map_or (λ (s : SidValue). is_sid s (sid_in dir.schema h)) own false)
    (primary_alike dir os pending x y alike like)
    ∙ ap (λ (theirs : Option SidValue). has_as_member dir g x.number
    || option_map_or (λ (s : SidValue). is_sid s theirs) (primary_group_sid dir x) false)
    (sid_alike dir.schema g h group)

joins_alike : (dir : Directory) (os : List Object) (pending : List Pending) (set : List ℕ) (x y : Object)
    → Alike dir.schema dir.objects os → IsAlike dir.schema x y → joins (with_those dir os pending) set y
    ≡ joins dir set x
joins_alike dir os pending set x y alike like =
    ap (λ (n : ℕ). has set n || list_any (λ (h : Object). has set h.number && has_group (with_those dir os pending) y
    h) os) like.number
    ∙ ap (λ (b : Bool). has set x.number || b)
    (any_alike dir.schema (λ (g : Object). has set g.number && has_group dir x g)
    (λ (h : Object). has set h.number && has_group (with_those dir os pending) y h) dir.objects os
    (λ g h group. ap (λ (n : ℕ). has set n && has_group (with_those dir os pending) y h) group.number
    ∙ ap (λ (b : Bool). has set g.number && b) (group_alike dir os pending x y g h alike like group)) alike)

grown_alike : (dir : Directory) (os : List Object) (pending : List Pending) (k : ℕ) (set : List ℕ)
    → Alike dir.schema dir.objects os → grown (with_those dir os pending) k set ≡ grown dir k set
unfolding grown
grown_alike dir os pending zero set alike = refl
grown_alike dir os pending (suc k) set alike =
    ap (grown (with_those dir os pending) k)
    (where_alike dir.schema (joins dir set) (joins (with_those dir os pending) set) dir.objects os
    (λ x y like. joins_alike dir os pending set x y alike like) alike)
    ∙ grown_alike dir os pending k (numbers_where (joins dir set) dir.objects) alike

spread_alike : (dir : Directory) (os : List Object) (pending : List Pending) → Alike dir.schema dir.objects os
    → spread (with_those dir os pending) ≡ spread dir
unfolding spread
spread_alike dir os pending alike =
    ap (λ (n : ℕ). grown (with_those dir os pending) n
    (numbers_where (λ (o : Object). begins_protection (with_those dir os pending) (sid_in dir.schema o)) os))
    (long_alike dir.schema dir.objects os alike)
    ∙ ap (grown (with_those dir os pending) (length dir.objects))
    (where_alike dir.schema (λ (o : Object). begins_protection dir (sid_in dir.schema o))
    (λ (o : Object). begins_protection (with_those dir os pending) (sid_in dir.schema o)) dir.objects os
    (λ x y like. begins_alike dir os pending (sid_in dir.schema y) alike ∙ ap (begins_protection dir)
    (sid_alike dir.schema x y like)) alike)
    ∙ grown_alike dir os pending (length dir.objects)
    (numbers_where (λ (o : Object). begins_protection dir (sid_in dir.schema o)) dir.objects) alike

pub protected_alike : (dir : Directory) (os : List Object) (pending : List Pending) → Alike dir.schema dir.objects os
    → protected (with_those dir os pending) ≡ protected dir
unfolding protected
protected_alike dir os pending alike =
    where_alike dir.schema (λ (o : Object). has (spread dir) o.number || is_protected_alone dir (sid_in dir.schema o))
    (λ (o : Object). has (spread (with_those dir os pending)) o.number
    || is_protected_alone (with_those dir os pending) (sid_in dir.schema o)) dir.objects os
    (λ x y like.
    ap (λ (set : List ℕ). has set y.number || is_protected_alone (with_those dir os pending) (sid_in dir.schema y))
    (spread_alike dir os pending alike)
    ∙ ap (λ (n : ℕ). has (spread dir) n || is_protected_alone (with_those dir os pending) (sid_in dir.schema y))
    like.number
    ∙ ap (λ (b : Bool). has (spread dir) x.number || b) (alone_alike dir os pending (sid_in dir.schema y) alike
    ∙ ap (is_protected_alone dir) (sid_alike dir.schema x y like)))
    alike
