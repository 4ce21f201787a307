-- What was judged and joined stays right while sets are put.
use Rattle.std.proofs.Common.{◌≡◌, ◌∙◌, ℕ, Bool, true, false, Option, Some, None, List, [], ◌∷◌, ◌++◌, refl, sym, ap, subst}
use Rattle.std.specs.Prelude.{slice_get, is_some, if◌then◌else◌, map, Result, Ok, Err, OnOk, IfSome}
use Rattle.std.specs.List.{All}
use Rattle.std.proofs.lemmas.Bool.{false≢true}
use Rattle.std.proofs.lemmas.List.Elements.{All-weaker, All-push}
use Rattle.std.proofs.lemmas.Option.{get_or_from_slice_get, slice_get_within, same_Some}
use Rattle.ad_ids.specs.declared.guid.Guid.{Guid}
use Rattle.ad_ids.specs.declared.token.Token.{Token}
use Rattle.ad_sd.specs.declared.parts.Sd.{Sd}
use Rattle.ad_types.specs.Path.{guids_of}
use Rattle.ad_access.specs.Grant.{granted}
use Rattle.ad_dir_model.specs.Objects.{is_live, sd_at}
use Rattle.ad_dir_model.specs.Directory.{Directory}
use Rattle.ad_sets.specs.Sets.{set_at, Keeps, IsJoined}
use Rattle.ad_rights_judged.specs.declared.bases.Base.{Base}
use Rattle.ad_rights_judged.specs.declared.joins.Join.{Join}
use Rattle.ad_rights_judged.specs.Judged.{set_apart, is_granted_apart, IsBase, IsJoin, IsJoinOf}

pub on_ok_two : {A E : Type 0} (r : Result A E) (P Q R : Type 0) → (P → Q → R) → OnOk r P → OnOk r Q → OnOk r R
on_ok_two (Ok x) P Q R both p q = both p q
on_ok_two (Err e) P Q R both p q = tt

-- a place that counts where a test holds
pub if_fits : (b : Bool) (place : ℕ) (P : ℕ → Type 0) (found : Option ℕ) → found ≡ (if b then Some place else None)
    → (b ≡ true → P place) → IfSome found P
if_fits true place P found is there = subst (λ (o : Option ℕ). IfSome o P) (sym is) (there refl)
if_fits false place P found is there = subst (λ (o : Option ℕ). IfSome o P) (sym is) tt

-- ---- what is kept

base_kept : (dir : Directory) (tokens : List Token) (old new : List (List Bool)) → Keeps old new → (base : Base)
    → IsBase dir tokens old base → IsBase dir tokens new base
base_kept dir tokens old new kept base is = record {
  live = is.live;
  set_is = kept base.place (set_apart dir tokens base.object (guids_of base.path) base.bit) is.set_is;
}

pub bases_kept : (dir : Directory) (tokens : List Token) (old new : List (List Bool)) (bases : List Base) → Keeps old new
    → All (IsBase dir tokens old) bases → All (IsBase dir tokens new) bases
bases_kept dir tokens old new bases kept all =
    All-weaker (IsBase dir tokens old) (IsBase dir tokens new) (base_kept dir tokens old new kept) bases all

join_kept : (old new : List (List Bool)) → Keeps old new → (join : Join) → IsJoin old join → IsJoin new join
join_kept old new kept join is = record {
  first = is.first;
  second = is.second;
  joined = is.joined;
  first_is = kept join.first is.first is.first_is;
  second_is = kept join.second is.second is.second_is;
  joined_is = kept join.place is.joined is.joined_is;
  are = is.are;
}

pub joins_kept : (old new : List (List Bool)) (joins : List Join) → Keeps old new → All (IsJoin old) joins
    → All (IsJoin new) joins
joins_kept old new joins kept all = All-weaker (IsJoin old) (IsJoin new) (join_kept old new kept) joins all

-- ---- one more

pub bases_more : (dir : Directory) (tokens : List Token) (old new : List (List Bool)) (known more : List Base) (base : Base)
    → Keeps old new → All (IsBase dir tokens old) known → is_live dir.objects base.object ≡ true
    → slice_get new base.place ≡ Some (set_apart dir tokens base.object (guids_of base.path) base.bit)
    → more ≡ known ++ base ∷ [] → All (IsBase dir tokens new) more
bases_more dir tokens old new known more base kept all live set_is is =
    subst (All (IsBase dir tokens new)) (sym is)
    (All-push (IsBase dir tokens new) known base (bases_kept dir tokens old new known kept all)
    (record { live = live; set_is = set_is }))

there_is : (found : Option (List Bool)) → is_some found ≡ true → (a : List Bool) × (found ≡ Some a)
there_is None is = absurd (false≢true is)
there_is (Some a) is = (a, refl)

pub is_made : (old new : List (List Bool)) (both : Bool) (first second place : ℕ) (joined : List Bool)
    → is_some (slice_get old first) ≡ true → is_some (slice_get old second) ≡ true → Keeps old new
    → IsJoined both (set_at old first) (set_at old second) joined → slice_get new place ≡ Some joined
    → IsJoin new (record { both = both; first = first; second = second; place = place })
is_made old new both first second place joined first_is second_is kept are at =
    let a = there_is (slice_get old first) first_is in
    let b = there_is (slice_get old second) second_is in
    record {
      first = a.0;
      second = b.0;
      joined = joined;
      first_is = kept first a.0 a.1;
      second_is = kept second b.0 b.1;
      joined_is = at;
      are = subst (λ (x : List Bool). IsJoined both x b.0 joined) (get_or_from_slice_get old first a.0 [] a.1)
          (subst (λ (y : List Bool). IsJoined both (set_at old first) y joined)
          (get_or_from_slice_get old second b.0 [] b.1) are);
    }

pub joins_more : (old new : List (List Bool)) (known more : List Join) (join : Join) → Keeps old new
    → All (IsJoin old) known → IsJoin new join → more ≡ known ++ join ∷ [] → All (IsJoin new) more
joins_more old new known more join kept all one is =
    subst (All (IsJoin new)) (sym is)
    (All-push (IsJoin new) known join (joins_kept old new known kept all) one)

pub is_join_of : (old new : List (List Bool)) (both : Bool) (first second place : ℕ) (joined : List Bool)
    → IsJoined both (set_at old first) (set_at old second) joined → slice_get new place ≡ Some joined
    → IsJoinOf old new both first second place
is_join_of old new both first second place joined are at a b first_is second_is = (
  joined,
  at,
  subst (λ (x : List Bool). IsJoined both x b joined) (get_or_from_slice_get old first a [] first_is)
      (subst (λ (y : List Bool). IsJoined both (set_at old first) y joined)
      (get_or_from_slice_get old second b [] second_is) are),
)

-- ---- what is known

at_place : {X : Type 0} (P : X → Type 0) (xs : List X) (place : ℕ) (x : X) → All P xs → slice_get xs place ≡ Some x → P x
at_place P xs place x all at =
    subst P (get_or_from_slice_get xs place x x at) (all place x (slice_get_within xs place x at))

pub live_at : (dir : Directory) (tokens : List Token) (sets : List (List Bool)) (known : List Base) (at : ℕ)
    → All (IsBase dir tokens sets) known → (base : Base) → slice_get known at ≡ Some base
    → is_live dir.objects base.object ≡ true
live_at dir tokens sets known at all base is = (at_place (IsBase dir tokens sets) known at base all is).live

alike : (dir : Directory) (tokens : List Token) (a b : ℕ) (path : List Guid) (bit : ℕ)
    → sd_at dir.objects a ≡ sd_at dir.objects b → set_apart dir tokens a path bit ≡ set_apart dir tokens b path bit
unfolding is_granted_apart
alike dir tokens a b path bit same =
    ap (λ (sd : Sd). map (λ (t : Token). granted sd.owner sd.dacl.entries t None path bit) tokens) same

pub known_at : (dir : Directory) (tokens : List Token) (sets : List (List Bool)) (known : List Base) (at : ℕ) (base : Base)
    (object bit : ℕ) (path : List Guid) → All (IsBase dir tokens sets) known → slice_get known at ≡ Some base
    → (sd_at dir.objects base.object ≡ sd_at dir.objects object) × ((base.bit ≡ bit) × (guids_of base.path ≡ path))
    → slice_get sets base.place ≡ Some (set_apart dir tokens object path bit)
known_at dir tokens sets known at base object bit path all is fits =
    (at_place (IsBase dir tokens sets) known at base all is).set_is
    ∙ ap (λ (n : ℕ). Some (set_apart dir tokens base.object (guids_of base.path) n)) fits.1.0
    ∙ ap (λ (p : List Guid). Some (set_apart dir tokens base.object p bit)) fits.1.1
    ∙ ap (λ (l : List Bool). Some l) (alike dir tokens base.object object path bit fits.0)

pub join_known_at : (sets : List (List Bool)) (known : List Join) (at : ℕ) (join : Join) (both : Bool) (first second : ℕ)
    → All (IsJoin sets) known → slice_get known at ≡ Some join
    → (join.both ≡ both) × ((join.first ≡ first) × (join.second ≡ second))
    → IsJoinOf sets sets both first second join.place
join_known_at sets known at join both first second all is fits a b first_is second_is =
    let one = at_place (IsJoin sets) known at join all is in
    let a_is : one.first ≡ a = same_Some one.first a (sym one.first_is ∙ ap (slice_get sets) fits.1.0 ∙ first_is) in
    let b_is : one.second ≡ b = same_Some one.second b (sym one.second_is ∙ ap (slice_get sets) fits.1.1 ∙ second_is) in (
      one.joined,
      one.joined_is,
      subst (λ (x : Bool). IsJoined x a b one.joined) fits.0
          (subst (λ (x : List Bool). IsJoined join.both x b one.joined) a_is
          (subst (λ (y : List Bool). IsJoined join.both one.first y one.joined) b_is one.are)),
    )
