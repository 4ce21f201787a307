-- How protection spreads: from where it begins, group by group, up to the least closed set.
use Rattle.std.proofs.Common.{◌≡◌, ℕ, ◌+◌, ◌<◌, ◌≤◌, Bool, true, false, List, [], ◌∷◌, length, map, get_or, Option}
use Rattle.std.proofs.Common.{Some, None, ◌⊎◌, inl, inr, refl, sym, subst, ap, ◌∙◌, arith}
use Rattle.std.specs.Prelude.{nat_eq, ◌&&◌, ◌||◌}
use Rattle.std.specs.List.{AllByRecursion, IsDistinct}
use Rattle.std.specs.Option.{option_map, option_map_or, option_and_then}
use Rattle.std.specs.Cmp.{nat_eq_equiv}
use Rattle.std.proofs.lemmas.Bool.{eqb-true, cases_Bool, false≢true, both_ways, or_cases, and_parts, and_from}
use Rattle.std.proofs.lemmas.Bool.{false_from_ne_true, cases_lt}
use Rattle.std.proofs.lemmas.List.{length-map, get_or_append_left}
use Rattle.std.proofs.lemmas.Map.Made.{length-le_from_is_member}
use Rattle.ad_ids.specs.SidValue.{SidValue}
use Rattle.ad_value.specs.Value.{Value}
use Rattle.ad_sd.specs.declared.parts.Sd.{Sd}
use Rattle.ad_schema.specs.declared.line.SchemaRecord.{SchemaRecord}
use Rattle.ad_schema.specs.declared.info.AttrId.{AttrId}
use Rattle.ad_schema.specs.declared.meaning.RuleAttr.TheVariants as rule
use Rattle.ad_schema.specs.Meaning.{attr_of_rule}
use Rattle.ad_dir_objects.specs.declared.object.Stored.{Stored as StoredIn}
use Rattle.ad_dir_objects.specs.declared.object.Object.{Object as ObjectIn}
use Rattle.ad_dir_objects.specs.Seen.{held_seen, object_seen}
use Rattle.ad_dir.proofs.ShownLaws.{stored_live}
use Rattle.ad_dir.specs.Kept.{AreLive}
use Rattle.ad_dir_model.specs.Object.{Object, Stored, plain, link, names, stored_in}
use Rattle.ad_dir_model.specs.Objects.{numbers, object_of, object_at, is_live}
use Rattle.ad_dir_model.specs.Attributes.{rule_place, member, primary_group}
use Rattle.ad_dir_model.specs.Identity.{self_sid, is_sid, domain_child, first_of_attr}
use Rattle.ad_dir_model.specs.Directory.{Directory}
use Rattle.ad_dir_model.specs.Soundness.{IsSound, LinksAreLive}
use Rattle.ad_dir_model.specs.Protection.{has, number_in, begins_protection, has_group, has_as_member, has_as_primary}
use Rattle.ad_dir_model.specs.Protection.{primary_group_sid, is_of_domain, IsClosed}
use Rattle.ad_dir_model.proofs.Finding.{of-live, at_number}
use Rattle.ad_dir_model.proofs.EditLaws.{all_by}
use Rattle.ad_protect.specs.Spreading.{Takes, is_in_group, is_number, primary_at, IsTableOf, AreReached, IsSpreading}
use Rattle.ad_protect.specs.Spreading.{IsLeast}
use Rattle.ad_protect.proofs.Sets.{eq_either_way, has_append, member_has, has_at, place_in, takes_keep, takes_more}
use Rattle.ad_protect.proofs.Sets.{takes_same}

-- ---- numbers of live objects

pub has_numbers : (os : List Object) (n : ℕ) → has (numbers os) n ≡ is_live os n
unfolding numbers object_of
has_numbers [] n = refl
has_numbers (x ∷ xs) n =
    elim (cases_Bool (nat_eq x.number n)) [
      | inl here ↦ rw here refl
      | inr other ↦ rw other (has_numbers xs n)
    ]

-- a list of distinct live numbers is no longer than that of the objects
pub few_live : (dir : Directory) (set : List ℕ) → AreReached dir set → IsDistinct nat_eq set → length set
    ≤ length dir.objects
unfolding numbers
few_live dir set are distinct =
    let few : length set ≤ length (numbers dir.objects) = length-le_from_is_member nat_eq_equiv set
    (numbers dir.objects) distinct
    (λ n is. member_has (numbers dir.objects) n ∙ has_numbers dir.objects n
    ∙ are.live n (sym (member_has set n) ∙ is)) in
    let long : length (numbers dir.objects) ≡ length dir.objects = length-map dir.objects (λ (o : Object). o.number) in
    omega (arith, few, long)

-- ---- from where it begins

pub spread_starts : (dir : Directory) (ns set : List ℕ) → ns ≡ numbers dir.objects
    → Takes (λ n. has ns n && begins_protection dir (self_sid dir n)) [] set → IsSpreading dir 0 set
spread_starts dir ns set all t = record {
  are = record {
    live = λ n is. (begun n is).0;
    reached = λ n is other closed. closed.begins n (begun n is).0 (begun n is).1;
  };
  begins = λ n live seed. t.all n (and_from (has ns n) (begins_protection dir (self_sid dir n)) (in_all n live) seed);
  spreads = λ place n less is. absurd (omega (arith, less));
}
  where
    in_all : (n : ℕ) → is_live dir.objects n ≡ true → has ns n ≡ true
    in_all n live = ap (λ (xs : List ℕ). has xs n) all ∙ has_numbers dir.objects n ∙ live

    begun : (n : ℕ) → has set n ≡ true → (is_live dir.objects n ≡ true)
        × (begins_protection dir (self_sid dir n) ≡ true)
    begun n is =
        let parts = and_parts (has ns n) (begins_protection dir (self_sid dir n))
        (t.each n (sym (ap (λ (xs : List ℕ). has xs n) t.is) ∙ is)) in
        (sym (ap (λ (xs : List ℕ). has xs n) all ∙ has_numbers dir.objects n) ∙ parts.0, parts.1)

-- ---- group by group

pub spread_goes : (dir : Directory) (done group : ℕ) (set new : List ℕ) → IsSpreading dir done set → done < length set
    → get_or set done 0 ≡ group
    → Takes (is_in_group dir group) set new → IsSpreading dir (done + 1) new
spread_goes dir done group set new s less at t = record {
  are = record { live = live; reached = reached };
  begins = λ n l seed. takes_keep (is_in_group dir group) set new n t (s.begins n l seed);
  spreads = spreads;
}
  where
    in_set : has set group ≡ true
    in_set = subst (λ (g : ℕ). has set g ≡ true) at (has_at set done less)

    either : (n : ℕ) → has new n ≡ true → (has set n ≡ true) ⊎ (has t.others n ≡ true)
    either n is = or_cases (has set n) (has t.others n)
        (sym (ap (λ (xs : List ℕ). has xs n) t.is ∙ has_append set t.others n) ∙ is)

    in_group : (n : ℕ) → has t.others n ≡ true → (is_live dir.objects n ≡ true)
        × (has_group dir (object_at dir.objects n) (object_at dir.objects group) ≡ true)
    in_group n is = and_parts (is_live dir.objects n)
        (has_group dir (object_at dir.objects n) (object_at dir.objects group)) (t.each n is)

    live : (n : ℕ) → has new n ≡ true → is_live dir.objects n ≡ true
    live n is = elim (either n is) [ inl before ↦ s.are.live n before | inr now ↦ (in_group n now).0 ]

    reached : (n : ℕ) → has new n ≡ true → (other : List ℕ) → IsClosed dir other → has other n ≡ true
    reached n is other closed = elim (either n is) [
      | inl before ↦ s.are.reached n before other closed
      | inr now ↦ closed.spreads n group (in_group n now).0 (s.are.live group in_set)
          (s.are.reached group in_set other closed) (in_group n now).1
    ]

    same_place : (place : ℕ) → place < length set → get_or new place 0 ≡ get_or set place 0
    same_place place l = ap (λ (xs : List ℕ). get_or xs place 0) t.is ∙ get_or_append_left set t.others 0 place l

    spreads : (place n : ℕ) → place < done + 1 → is_in_group dir (get_or new place 0) n ≡ true → has new n ≡ true
    spreads place n l is = elim (cases_lt place done) [
      | inl before ↦
          let within : place < length set = omega (arith, before, less) in
          takes_keep (is_in_group dir group) set new n t
          (s.spreads place n before (subst (λ (g : ℕ). is_in_group dir g n ≡ true) (same_place place within) is))
      | inr not_before ↦
          let here : place ≡ done = omega (arith, l, not_before) in
          let its : get_or new place 0 ≡ group = ap (λ (i : ℕ). get_or new i 0) here ∙ same_place done less ∙ at in
          t.all n (subst (λ (g : ℕ). is_in_group dir g n ≡ true) its is)
    ]

pub spread_ends : (dir : Directory) (done : ℕ) (set : List ℕ) → IsSpreading dir done set → length set ≤ done
    → IsLeast dir set
spread_ends dir done set s all = record {
  are = s.are;
  closed = record {
    begins = s.begins;
    spreads = λ n group live group_live in_set has_it.
        let found = place_in set group in_set in
        let less : found.0 < length set = found.1 in
        s.spreads found.0 n (omega (arith, less, all)) (subst (λ (g : ℕ). is_in_group dir g n ≡ true) (sym found.2)
        (and_from (is_live dir.objects n) (has_group dir (object_at dir.objects n) (object_at dir.objects group)) live
        has_it));
  };
}

-- ---- who is in a group

names_live : (objects : List Object) (stored : List Stored) (n : ℕ) → AreLive objects stored → names n stored ≡ true
    → is_live objects n ≡ true
names_live objects [] n all is = absurd (false≢true is)
names_live objects (plain v ∷ others) n all is = names_live objects others n all is
names_live objects (link k ∷ others) n all is =
    elim (or_cases (nat_eq k n) (names n others) is) [
      | inl here ↦ subst (λ (m : ℕ). is_live objects m ≡ true) (eqb-true k n here) all.0
      | inr behind ↦ names_live objects others n all.1 behind
    ]

member_live_by : (objects : List Object) (o : Object) (n : ℕ) (attr : Option ℕ) → LinksAreLive objects o
    → option_map_or (λ (a : ℕ). names n (stored_in o.values a)) attr false ≡ true → is_live objects n ≡ true
member_live_by objects o n None links is = absurd (false≢true is)
member_live_by objects o n (Some a) links is = names_live objects (stored_in o.values a) n
    (stored_live objects o.values a links) is

member_live : (dir : Directory) (group n : ℕ) → IsSound dir → is_live dir.objects group ≡ true
    → has_as_member dir (object_at dir.objects group) n ≡ true → is_live dir.objects n ≡ true
member_live dir group n sound live is =
    member_live_by dir.objects (object_at dir.objects group) n (member dir.schema)
    (sound.each group (object_at dir.objects group) (of-live dir.objects group live)).links is

pub group_parts : (dir : Directory) (group n : ℕ) → IsSound dir → is_live dir.objects group ≡ true
    → (has_as_member dir (object_at dir.objects group) n
    || (is_live dir.objects n && has_as_primary dir (object_at dir.objects n) (object_at dir.objects group)))
    ≡ is_in_group dir group n
unfolding has_group
group_parts dir group n sound live =
    elim (cases_Bool (is_live dir.objects n)) [
      | inl there ↦
          let number : (object_at dir.objects n).number ≡ n = at_number dir.objects n there in
          rw there (ap (λ (k : ℕ). has_as_member dir (object_at dir.objects group) k
          || has_as_primary dir (object_at dir.objects n) (object_at dir.objects group)) (sym number))
      | inr gone ↦
          let no_member : has_as_member dir (object_at dir.objects group) n ≡ false
          = false_from_ne_true (has_as_member dir (object_at dir.objects group) n)
          (λ is. both_ways (is_live dir.objects n) gone (member_live dir group n sound live is)) in
          rw gone (ap (λ (b : Bool). b || false) no_member)
    ]

-- ---- the primary group

primary_by : (dir : Directory) (own : Option SidValue) (value : Option Value)
    → option_map_or (λ (x : SidValue). is_sid x own)
    (option_and_then (λ (v : Value). option_and_then (domain_child dir) (number_in v.key)) value) false
    ≡ option_map_or (λ (rid : ℕ). is_of_domain dir own rid) (option_and_then (λ (v : Value). number_in v.key) value)
    false
primary_by dir own None = refl
primary_by dir own (Some v) = by_number (number_in v.key)
  where
    by_number : (number : Option ℕ) → option_map_or (λ (x : SidValue). is_sid x own)
        (option_and_then (domain_child dir) number) false
        ≡ option_map_or (λ (rid : ℕ). is_of_domain dir own rid) number false
    by_number None = refl
    by_number (Some rid) = refl

-- an object has the group as its primary one where the group's identifier is the domain's with its primaryGroupID
primary_is : (dir : Directory) (group n : ℕ) → has_as_primary dir (object_at dir.objects n)
    (object_at dir.objects group)
    ≡ option_map_or (λ (rid : ℕ). is_of_domain dir (self_sid dir group) rid) (primary_at dir n) false
unfolding primary_group_sid primary_at
primary_is dir group n = primary_by dir (self_sid dir group)
    (first_of_attr (primary_group dir.schema) (object_at dir.objects n))

no_primary : (f : ℕ → Bool) (found : Option ℕ) → ((rid : ℕ) → f rid ≡ false) → option_map_or f found false ≡ false
no_primary f None none = refl
no_primary f (Some rid) none = none rid

its_primary : (f : ℕ → Bool) (found : Option ℕ) (own : ℕ) → ((rid : ℕ) → f rid ≡ nat_eq own rid)
    → option_map_or f found false ≡ is_number found own
its_primary f None own is = refl
its_primary f (Some rid) own is = is rid ∙ eq_either_way own rid

-- those in the table at the group's number are those whose primary group it is
pub listed_are : (dir : Directory) (group own n : ℕ) (table : ℕ → List ℕ) → IsTableOf dir (numbers dir.objects) table
    → ((rid : ℕ) → is_of_domain dir (self_sid dir group) rid ≡ is_number (Some own) rid)
    → has (table own) n ≡ (is_live dir.objects n && has_as_primary dir (object_at dir.objects n)
    (object_at dir.objects group))
listed_are dir group own n table t is =
    elim (cases_Bool (has (table own) n)) [
      | inl there ↦
          let live : is_live dir.objects n ≡ true = sym (has_numbers dir.objects n) ∙ t.there own n there in
          there ∙ sym (and_from (is_live dir.objects n)
          (has_as_primary dir (object_at dir.objects n) (object_at dir.objects group)) live
          (same ∙ t.only own n there))
      | inr absent ↦
          absent ∙ sym (false_from_ne_true
          (is_live dir.objects n && has_as_primary dir (object_at dir.objects n) (object_at dir.objects group))
          (λ both.
          let parts = and_parts (is_live dir.objects n)
          (has_as_primary dir (object_at dir.objects n) (object_at dir.objects group)) both in
          both_ways (has (table own) n) absent
          (t.each own n (has_numbers dir.objects n ∙ parts.0) (sym same ∙ parts.1))))
    ]
  where
    same : has_as_primary dir (object_at dir.objects n) (object_at dir.objects group) ≡ is_number (primary_at dir n) own
    same = primary_is dir group n ∙ its_primary (λ (rid : ℕ). is_of_domain dir (self_sid dir group) rid)
        (primary_at dir n) own is

-- where the group's identifier isn't the domain's, there are none
pub none_listed : (dir : Directory) (group n : ℕ) → ((rid : ℕ) → is_of_domain dir (self_sid dir group) rid ≡ false)
    → (is_live dir.objects n && has_as_primary dir (object_at dir.objects n) (object_at dir.objects group)) ≡ false
none_listed dir group n is =
    let none : has_as_primary dir (object_at dir.objects n) (object_at dir.objects group) ≡ false
    = primary_is dir group n ∙ no_primary (λ (rid : ℕ). is_of_domain dir (self_sid dir group) rid) (primary_at dir n)
    is in
    false_from_ne_true (is_live dir.objects n && has_as_primary dir (object_at dir.objects n)
    (object_at dir.objects group)) (λ both.
    both_ways (has_as_primary dir (object_at dir.objects n) (object_at dir.objects group)) none
    (and_parts (is_live dir.objects n) (has_as_primary dir (object_at dir.objects n) (object_at dir.objects group))
    both).1)

-- ---- the members

pub member_place : (schema : List SchemaRecord) (found : Option AttrId) (id : AttrId) → found
    ≡ attr_of_rule schema rule.Member → found ≡ Some id → member schema ≡ Some id.0
unfolding rule_place
member_place schema found id is at = ap (option_map (λ (i : AttrId). i.0)) (sym is ∙ at)

pub member_nowhere : (schema : List SchemaRecord) (found : Option AttrId) → found ≡ attr_of_rule schema rule.Member
    → found ≡ None → member schema ≡ None
unfolding rule_place
member_nowhere schema found is none = ap (option_map (λ (i : AttrId). i.0)) (sym is ∙ none)

-- the values of an object are those of what represents it
pub values_seen : (o : ObjectIn) (own : Sd) (x : Object) (values : List (AttrId × List StoredIn)) → object_seen o own
    ≡ x → values ≡ o.values → map held_seen values ≡ x.values
values_seen o own x values seen are = ap (map held_seen) are ∙ ap (λ (y : Object). y.values) seen

-- where the schema has member, its values in the group name the members
pub members_are : (dir : Directory) (group n attr : ℕ) (values : List Stored) → member dir.schema ≡ Some attr
    → values ≡ stored_in (object_at dir.objects group).values attr → names n values
    ≡ has_as_member dir (object_at dir.objects group) n
members_are dir group n attr values place are =
    ap (names n) are ∙ sym (ap (λ (a : Option ℕ). option_map_or
    (λ (k : ℕ). names n (stored_in (object_at dir.objects group).values k)) a false) place)

pub no_members : (dir : Directory) (group n : ℕ) → member dir.schema ≡ None
    → has_as_member dir (object_at dir.objects group) n ≡ false
no_members dir group n none = ap (λ (a : Option ℕ). option_map_or
    (λ (k : ℕ). names n (stored_in (object_at dir.objects group).values k)) a false) none

-- members and those whose primary group it is are those in the group
pub takes_group : (dir : Directory) (group : ℕ) (old mid new : List ℕ) → IsSound dir → is_live dir.objects group ≡ true
    → Takes (has_as_member dir (object_at dir.objects group)) old mid
    → Takes (λ n. is_live dir.objects n && has_as_primary dir (object_at dir.objects n) (object_at dir.objects group))
    mid new
    → Takes (is_in_group dir group) old new
takes_group dir group old mid new sound live members primary =
    takes_same
    (λ n. has_as_member dir (object_at dir.objects group) n
    || (is_live dir.objects n && has_as_primary dir (object_at dir.objects n) (object_at dir.objects group)))
    (is_in_group dir group) old new (λ n. group_parts dir group n sound live)
    (takes_more (has_as_member dir (object_at dir.objects group))
    (λ n. is_live dir.objects n && has_as_primary dir (object_at dir.objects n) (object_at dir.objects group)) old mid
    new members primary)

-- ---- the objects of a list

pub all_live : (os : List Object) (ns : List ℕ) → ns ≡ numbers os → AllByRecursion (λ (n : ℕ). is_live os n ≡ true) ns
all_live os ns all = all_by (λ (n : ℕ). is_live os n ≡ true) ns
    (λ n is. sym (ap (λ (xs : List ℕ). has xs n) all ∙ has_numbers os n) ∙ is)
