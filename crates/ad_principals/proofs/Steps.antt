-- How the set of groups grows, group by group, up to the least closed set.
use Rattle.std.proofs.Common.{◌≡◌, ℕ, ◌+◌, ◌<◌, ◌≤◌, Bool, true, false, List, [], ◌∷◌, length, get_or, take, Some}
use Rattle.std.proofs.Common.{inl, inr, refl, sym, ap, subst, ◌∙◌, arith}
use Rattle.std.specs.Prelude.{nat_eq, ◌||◌, ◌⊎◌, is_some}
use Rattle.std.proofs.lemmas.Bool.{eqb-true, eq-eqb, false≢true, or_cases, or_left, or_right, and_parts, and_from}
use Rattle.std.proofs.lemmas.Bool.{cases_lt}
use Rattle.std.proofs.lemmas.List.{take_more, get_or_append_left}
use Rattle.std.proofs.lemmas.List.Folds.{list_any-append}
use Rattle.ad_ids.specs.SidValue.{SidValue, same_sid, contains_sid}
use Rattle.ad_dir.specs.Standing.{AreStanding}
use Rattle.ad_dir_model.specs.Object.{no_sid}
use Rattle.ad_dir_model.specs.Identity.{self_sid}
use Rattle.ad_dir_model.specs.Directory.{Directory}
use Rattle.ad_dir_model.specs.Protection.{has}
use Rattle.ad_principals.specs.declared.members.Members.{Members}
use Rattle.ad_principals.specs.Groups.{is_security_enabled, has_member, history_of, IsIn, Brings, IsClosed, IsLeast}
use Rattle.ad_principals.specs.Membership.{listed, is_group, is_group_of, AreMembersOf}
use Rattle.ad_principals.specs.Reaching.{Takes, IsOfOne, IsOfObject, IsReaching}
use Rattle.ad_principals.proofs.Sets.{has_at, place_in, takes_keep, takes_from, takes_same, takes_more}
use Rattle.ad_principals.proofs.Identified.{one_of_sid}

-- ---- the identifiers of some objects

of_more : (dir : Directory) (ns more : List ℕ) (sid : SidValue) → ((n : ℕ) → has ns n ≡ true → has more n ≡ true)
    → IsOfOne dir ns sid → IsOfOne dir more sid
of_more dir ns more sid within one = record { number = one.number; there = within one.number one.there; own = one.own }

pub take_group_at : (dir : Directory) (ns : List ℕ) (i : ℕ) (first old new : List SidValue) → i < length ns
    → Takes (IsOfOne dir (take i ns)) first old → Takes (λ s. self_sid dir (get_or ns i 0) ≡ Some s) old new
    → Takes (IsOfOne dir (take (i + 1) ns)) first new
take_group_at dir ns i first old new less t one =
    takes_more (IsOfOne dir (take i ns)) (λ s. self_sid dir (get_or ns i 0) ≡ Some s) (IsOfOne dir (take (i + 1) ns))
    first old new
    (λ s of. of_more dir (take i ns) (take (i + 1) ns) s
    (λ n is. whole n ∙ or_left (has (take i ns) n) (has (get_or ns i 0 ∷ []) n) is) of)
    (λ s own. record {
      number = get_or ns i 0;
      there = whole (get_or ns i 0) ∙ or_right (has (take i ns) (get_or ns i 0))
          (has (get_or ns i 0 ∷ []) (get_or ns i 0))
          (or_left (nat_eq (get_or ns i 0) (get_or ns i 0)) false (eq-eqb (get_or ns i 0) (get_or ns i 0) refl));
      own = own;
    })
    either t one
  where
    whole : (n : ℕ) → has (take (i + 1) ns) n ≡ (has (take i ns) n || has (get_or ns i 0 ∷ []) n)
    whole n = ap (λ (xs : List ℕ). has xs n) (take_more ns i 0 less) ∙ list_any-append (λ other. nat_eq other n)
        (take i ns) (get_or ns i 0 ∷ [])

    either : (s : SidValue) → IsOfOne dir (take (i + 1) ns) s → IsOfOne dir (take i ns) s
        ⊎ (self_sid dir (get_or ns i 0) ≡ Some s)
    either s of = elim (or_cases (has (take i ns) of.number) (has (get_or ns i 0 ∷ []) of.number)
        (sym (whole of.number) ∙ of.there)) [
          | inl before ↦ inl (record { number = of.number; there = before; own = of.own })
          | inr last ↦ elim (or_cases (nat_eq (get_or ns i 0) of.number) false last) [
            | inl here ↦ inr (ap (self_sid dir) (eqb-true (get_or ns i 0) of.number here) ∙ of.own)
            | inr never ↦ absurd (false≢true never)
          ]
        ]

-- those that the table has at an object are the groups that its identifier is in
in_of : (dir : Directory) (sid : SidValue) (n : ℕ) (groups : List ℕ) → self_sid dir n ≡ Some sid
    → ((group : ℕ) → has groups group ≡ is_group_of dir n group) → (s : SidValue) → IsOfOne dir groups s
    → IsIn dir sid s
in_of dir sid n groups own are s of =
    let parts = and_parts (is_group dir of.number) (has_member dir of.number n) (sym (are of.number) ∙ of.there) in
    let more = and_parts (is_some (self_sid dir of.number)) (is_security_enabled dir of.number) parts.0 in
    record { group = of.number; member = n; is_group = of.own; is_member = own; enabled = more.1; names = parts.1 }

of_in : (dir : Directory) (sid : SidValue) (n : ℕ) (groups : List ℕ) → AreStanding dir.schema dir.objects
    → self_sid dir n ≡ Some sid → ((group : ℕ) → has groups group ≡ is_group_of dir n group) → (s : SidValue)
    → IsIn dir sid s → IsOfOne dir groups s
of_in dir sid n groups stands own are s is =
    let same : is.member ≡ n = one_of_sid dir sid is.member n stands is.is_member own in
    record {
      number = is.group;
      there = are is.group ∙ and_from (is_group dir is.group) (has_member dir is.group n)
          (and_from (is_some (self_sid dir is.group)) (is_security_enabled dir is.group) (ap is_some is.is_group)
          is.enabled)
          (subst (λ (m : ℕ). has_member dir is.group m ≡ true) same is.names);
      own = is.is_group;
    }

-- the groups that the table has at an object, and then what it had before
pub object_taken : (dir : Directory) (members : Members) (n : ℕ) (groups : List ℕ) (old mid new : List SidValue)
    → groups ≡ listed members.groups n → Takes (IsOfOne dir groups) old mid
    → Takes (λ s. contains_sid (history_of dir n) s ≡ true) mid new → Takes (IsOfObject dir members n) old new
object_taken dir members n groups old mid new are t u =
    takes_more (IsOfOne dir (listed members.groups n)) (λ s. contains_sid (history_of dir n) s ≡ true)
    (IsOfObject dir members n) old mid new (λ s is. inl is) (λ s is. inr is) (λ s is. is)
    (subst (λ (ns : List ℕ). Takes (IsOfOne dir ns) old mid) are t) u

-- with what the object had before they are all that its identifier brings
pub brought_are : (dir : Directory) (sid : SidValue) (n : ℕ) (members : Members) (old new : List SidValue)
    → AreStanding dir.schema dir.objects → AreMembersOf dir members → self_sid dir n ≡ Some sid
    → Takes (IsOfObject dir members n) old new → Takes (Brings dir sid) old new
brought_are dir sid n members old new stands are own = takes_same (IsOfObject dir members n) (Brings dir sid) old new
    to from
  where
    to : (s : SidValue) → IsOfObject dir members n s → Brings dir sid s
    to s (inl group) = inl (in_of dir sid n (listed members.groups n) own (are n) s group)
    to s (inr had) = inr (record { number = n; own = own; had = had })

    from : (s : SidValue) → Brings dir sid s → IsOfObject dir members n s
    from s (inl is) = inl (of_in dir sid n (listed members.groups n) stands own (are n) s is)
    from s (inr had) = inr (subst (λ (m : ℕ). contains_sid (history_of dir m) s ≡ true)
        (one_of_sid dir sid had.number n stands had.own own) had.had)

-- ---- from the first groups on

pub reaching_starts : (dir : Directory) (user : SidValue) (first begun set : List SidValue)
    → Takes (λ s. contains_sid first s ≡ true) [] begun
    → Takes (Brings dir user) begun set → IsReaching dir user first 0 set
reaching_starts dir user first begun set t u = record {
  begins = λ sid is. takes_keep (Brings dir user) begun set sid u (t.all sid is);
  of_user = u.all;
  of_groups = λ place group less is. absurd (omega (arith, less));
  reached = λ sid is. elim (takes_from (Brings dir user) begun set sid u is) [
    | inl before ↦ elim (takes_from (λ s. contains_sid first s ≡ true) [] begun sid t before) [
      | inl never ↦ absurd (false≢true never)
      | inr is_first ↦ λ other closed. closed.begins sid is_first
    ]
    | inr now ↦ λ other closed. closed.of_user sid now
  ];
}

pub reaching_goes : (dir : Directory) (user : SidValue) (first : List SidValue) (done : ℕ) (at : SidValue)
    (set new : List SidValue) → IsReaching dir user first done set
    → done < length set → get_or set done no_sid ≡ at → Takes (Brings dir at) set new → IsReaching dir user first
    (done + 1) new
reaching_goes dir user first done at set new r less is t = record {
  begins = λ sid there. takes_keep (Brings dir at) set new sid t (r.begins sid there);
  of_user = λ group within. takes_keep (Brings dir at) set new group t (r.of_user group within);
  of_groups = of_groups;
  reached = reached;
}
  where
    in_set : contains_sid set at ≡ true
    in_set = subst (λ (s : SidValue). contains_sid set s ≡ true) is (has_at set done no_sid less)

    same_place : (place : ℕ) → place < length set → get_or new place no_sid ≡ get_or set place no_sid
    same_place place within = ap (λ (xs : List SidValue). get_or xs place no_sid) t.is
        ∙ get_or_append_left set t.others no_sid place within

    of_groups : (place : ℕ) (group : SidValue) → place < done + 1 → Brings dir (get_or new place no_sid) group
        → contains_sid new group ≡ true
    of_groups place group l within = elim (cases_lt place done) [
      | inl before ↦
          let inside : place < length set = omega (arith, before, less) in
          takes_keep (Brings dir at) set new group t
          (r.of_groups place group before
          (subst (λ (s : SidValue). Brings dir s group) (same_place place inside) within))
      | inr not_before ↦
          let here : place ≡ done = omega (arith, l, not_before) in
          let its : get_or new place no_sid ≡ at = ap (λ (i : ℕ). get_or new i no_sid) here ∙ same_place done less
          ∙ is in
          t.all group (subst (λ (s : SidValue). Brings dir s group) its within)
    ]

    reached : (sid : SidValue) → contains_sid new sid ≡ true → (other : List SidValue) → IsClosed dir user first other
        → contains_sid other sid ≡ true
    reached sid there other closed = elim (takes_from (Brings dir at) set new sid t there) [
      | inl before ↦ r.reached sid before other closed
      | inr now ↦ closed.of_groups at sid (r.reached at in_set other closed) now
    ]

pub reaching_ends : (dir : Directory) (user : SidValue) (first : List SidValue) (done : ℕ) (set : List SidValue)
    → IsReaching dir user first done set
    → length set ≤ done → IsLeast dir user first set
reaching_ends dir user first done set r all = record {
  closed = record {
    begins = r.begins;
    of_user = r.of_user;
    of_groups = λ sid group there within.
        let found = place_in set sid no_sid there in
        let less : found.0 < length set = found.1 in
        r.of_groups found.0 group (omega (arith, less, all))
        (subst (λ (s : SidValue). Brings dir s group) (sym found.2) within);
  };
  reached = r.reached;
}
