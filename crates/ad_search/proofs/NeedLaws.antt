-- What a filter needs, from what its items need.
use Rattle.std.proofs.Common.{◌≡◌, ◌↔◌, ◌⊎◌, ℕ, ◌+◌, ◌<◌, ◌≤◌, Bool, true, false, List, [], ◌∷◌, ◌++◌, map, length}
use Rattle.std.proofs.Common.{get_or, drop, Option, Some, None, Result, Ok, Err, Vec, Global}
use Rattle.std.proofs.Common.{inl, inr, refl, sym, subst}
use Rattle.std.proofs.Common.{ap, ◌∙◌, arith}
use Rattle.std.specs.Prelude.{slice_get, not, if◌then◌else◌, option_to_list, IfSome}
use Rattle.std.specs.List.{AllByRecursion}
use Rattle.std.proofs.lemmas.List.{drop_more, drop_all}
use mathlib.Core.Former.{Count}
use Rattle.ad_ids.specs.declared.token.Token.{Token}
use Rattle.ad_value.specs.declared.syntax.Syntax.{Syntax}
use Rattle.ad_value.specs.declared.value.Key.{Key}
use Rattle.ad_value.specs.Value.{Value, key_order}
use Rattle.ad_value.specs.Pieces.{fits_key}
use Rattle.ad_value.specs.declared.fault.ValueFault.{ValueFault}
use Rattle.ad_value.specs.declared.pattern.Pattern.{Pattern}
use Rattle.ad_value.specs.Syntax.{has_order}
use Rattle.ad_value.specs.ValueOf.{normal_or_fault}
use Rattle.ad_value.specs.Sent.{pattern_of}
use Rattle.std.specs.declared.cmp.Ordering.{Ordering}
use Rattle.ad_schema.specs.declared.line.SchemaRecord.{SchemaRecord}
use Rattle.ad_schema.specs.declared.info.AttrId.{AttrId}
use Rattle.ad_schema.specs.declared.info.AttrInfo.{AttrInfo}
use Rattle.ad_schema.specs.Attributes.{attrs_of}
use Rattle.ad_ldap.specs.declared.filter.Filter.{Filter}
use Rattle.ad_ldap.specs.FilterValue.{FilterValue, filter_seen, filters_of}
use Rattle.ad_ldap.specs.FilterValue as filter
use Rattle.ad_filter.specs.ThreeValues.{is_true, either}
use Rattle.ad_filter.specs.declared.outcome.Truth.{Truth}
use Rattle.ad_filter.specs.declared.outcome.Truth.TheVariants as truth'
use Rattle.ad_filter.specs.Filtering.{View, Readable, truth, some_of, of_known, of_readable, of_sent, of_pieces}
use Rattle.ad_filter.specs.Filtering.{says_ordered, says_pieces, says_present, some_value, is_less, is_greater}
use Rattle.ad_filter.proofs.Walks.{from}
use Rattle.ad_dir_model.specs.Shown.{shown}
use Rattle.ad_dir_model.specs.Directory.{Directory}
use Rattle.ad_entries.specs.Seen.{Seen, reads, seen_of, values_at, readable_at}
use Rattle.ad_search.specs.declared.needles.Needle.{Needle}
use Rattle.ad_search.specs.declared.indexed.IndexQuery.{IndexQuery}
use Rattle.ad_search.specs.declared.index_plan.IndexPlan.{IndexPlan, One, Present, AnyOf, AllOf, AnyOf', AllOf', Row_of-IndexPlan}
use Rattle.ad_search.specs.declared.index_plan.IndexPlan.{end_of-IndexPlan, more_of-IndexPlan, items-the_row-IndexPlan}
use Rattle.ad_search.specs.declared.index_plan.IndexPlan.{items_hidden-the_row-IndexPlan-0}
use Rattle.ad_search.specs.Needles.{has_key, IsPlainNamed, IsNeedle}
use Rattle.ad_search.specs.Indexed.{IsQueryFor}
use Rattle.ad_search.specs.Needed.{IsMet, HasMetIn, AreMetIn, HasMet, AreMet, IsNeededBy}
use Rattle.ad_search.proofs.NeedleLaws.{no_truth, all_say, values_shown, known_at}
use Rattle.ad_search.proofs.IndexLaws.{found_at}

-- ---- the items of a list

abbrev row_of : IndexPlan → (n : Count) × Row_of-IndexPlan n
row_of (AnyOf' _ row) = (_, row)
row_of (AllOf' _ row) = (_, row)
row_of _ = (_, end_of-IndexPlan)

module _ (dir : Directory) (number : ℕ) where
  of_any : (n : _) (row : Row_of-IndexPlan n) → HasMetIn dir number row → HasMet dir number (items-the_row-IndexPlan n row)
  of_any n end_of-IndexPlan met = met
  of_any n (more_of-IndexPlan plan rest) (inl met) = inl met
  of_any n (more_of-IndexPlan plan rest) (inr met) = inr (of_any _ rest met)

  to_any : (n : _) (row : Row_of-IndexPlan n) → HasMet dir number (items-the_row-IndexPlan n row) → HasMetIn dir number row
  to_any n end_of-IndexPlan met = met
  to_any n (more_of-IndexPlan plan rest) (inl met) = inl met
  to_any n (more_of-IndexPlan plan rest) (inr met) = inr (to_any _ rest met)

  of_all : (n : _) (row : Row_of-IndexPlan n) → AreMetIn dir number row → AreMet dir number (items-the_row-IndexPlan n row)
  of_all n end_of-IndexPlan met = tt
  of_all n (more_of-IndexPlan plan rest) met = (met.0, of_all _ rest met.1)

  to_all : (n : _) (row : Row_of-IndexPlan n) → AreMet dir number (items-the_row-IndexPlan n row) → AreMetIn dir number row
  to_all n end_of-IndexPlan met = tt
  to_all n (more_of-IndexPlan plan rest) met = (met.0, to_all _ rest met.1)

  pub any_met : (plans : Vec IndexPlan Global) → IsMet dir number (AnyOf plans) ↔ HasMet dir number plans.items
  any_met plans =
      let row = row_of (AnyOf plans) in
      let same = items_hidden-the_row-IndexPlan-0 plans in (
        λ met. subst (HasMet dir number) same (of_any row.0 row.1 met),
        λ met. to_any row.0 row.1 (subst (HasMet dir number) (sym same) met),
      )

  pub all_met : (plans : Vec IndexPlan Global) → IsMet dir number (AllOf plans) ↔ AreMet dir number plans.items
  all_met plans =
      let row = row_of (AllOf plans) in
      let same = items_hidden-the_row-IndexPlan-0 plans in (
        λ met. subst (AreMet dir number) same (of_all row.0 row.1 met),
        λ met. to_all row.0 row.1 (subst (AreMet dir number) (sym same) met),
      )

-- ---- an equality

pub as_like : (schema : List SchemaRecord) (name sent : List ℕ) (needle : Needle)
    → IsNeedle schema (filter.Equal name sent) needle → IsNeedle schema (filter.Like name sent) needle
unfolding truth
as_like schema name sent needle plans = record { needed = λ seen is. plans.needed seen is; plain = plans.plain }

pub one_needed : (dir : Directory) (f : FilterValue) (needle : Needle) (query : Option IndexQuery)
    → IsNeedle dir.schema f needle → IfSome query (IsQueryFor dir.schema needle)
    → IsNeededBy dir f (One (record { needle = needle; query = query }))
one_needed dir f needle query plans for token number is =
    let read = plans.needed (seen_of dir token number) is in
    let same : read.0 ≡ shown dir number needle.attr.0 = values_shown dir token number needle.attr.0
    (slice_get (attrs_of dir.schema) needle.attr.0) read.0 refl read.1 in
    record {
      plain = plans.plain;
      query_for = for;
      value = ap (has_key needle.value.key) (sym same) ∙ read.2;
    }

-- ---- any other item

-- of an attribute without values it isn't true
abbrev nothing : Syntax → Readable
nothing syntax = record { syntax = syntax; values = [] }

abbrev IsOfSome : (Readable → Truth) → Type 0
IsOfSome says = (syntax : Syntax) → is_true (says (nothing syntax)) ≡ false

some_read : (info : AttrInfo) (says : Readable → Truth) (values : Option (List Value)) → IsOfSome says
    → is_true (of_known (readable_at info values) says) ≡ true
    → (vs : List Value) × (values ≡ Some vs) × (vs ≡ [] → ⊥)
some_read info says None of_some is = absurd (no_truth is)
some_read info says (Some []) of_some is = absurd (no_truth (sym (of_some info.syntax) ∙ is))
some_read info says (Some (v ∷ vs)) of_some is = (v ∷ vs, refl, λ none. cc)

some_needed : (dir : Directory) (f : FilterValue) (name : List ℕ) (attr : AttrId) (says : Readable → Truth)
    → IsPlainNamed dir.schema name attr → IsOfSome says
    → ((view : View) → truth view f ≡ of_readable view name says) → IsNeededBy dir f (Present attr)
some_needed dir f name attr says plain of_some reads_so token number is =
    let seen = seen_of dir token number in
    let there = found_at (attrs_of dir.schema) attr.0 plain.within in
    let told : is_true (of_known (readable_at there.0 (values_at seen attr.0)) says) ≡ true =
    sym (ap is_true (reads_so (reads dir.schema seen))
    ∙ ap (λ (r : Option Readable). is_true (of_known r says))
    (known_at dir.schema seen name attr there.0 plain.ordinary plain.named there.1)) ∙ is in
    let read = some_read there.0 says (values_at seen attr.0) of_some told in
    let same : read.0 ≡ shown dir number attr.0 = values_shown dir token number attr.0
    (slice_get (attrs_of dir.schema) attr.0) read.0 refl read.1 in
    record { plain = plain.plain; some = λ none. read.2 (same ∙ none) }

no_pieces : (pattern : Option Pattern) (says : Pattern → Truth) → ((p : Pattern) → is_true (says p) ≡ false)
    → is_true (of_pieces pattern says) ≡ false
no_pieces None says none = refl
no_pieces (Some p) says none = none p

no_sent : (sent : Result Value ValueFault) (says : Key → Truth) → ((k : Key) → is_true (says k) ≡ false)
    → is_true (of_sent sent says) ≡ false
no_sent (Ok v) says none = none v.key
no_sent (Err fault) says none = refl

no_order : (ordered : Bool) (t : Truth) → is_true t ≡ false
    → is_true (if ordered then t else truth'.Undefined) ≡ false
no_order true t none = none
no_order false t none = refl

present_of_some : IsOfSome says_present
present_of_some syntax = refl

pieces_of_some : (sent : Pattern) → IsOfSome (says_pieces sent)
pieces_of_some sent syntax = no_pieces (pattern_of syntax sent)
    (λ (pattern : Pattern). some_value (nothing syntax) (fits_key pattern)) (λ p. refl)

ordered_of_some : (test : Ordering → Bool) (sent : List ℕ) → IsOfSome (says_ordered test sent)
ordered_of_some test sent syntax =
    no_order (has_order syntax)
    (of_sent (normal_or_fault syntax sent)
    (λ (key : Key). some_value (nothing syntax) (λ (own : Key). test (key_order own key))))
    (no_sent (normal_or_fault syntax sent)
    (λ (key : Key). some_value (nothing syntax) (λ (own : Key). test (key_order own key))) (λ k. refl))

-- each item but an equality is true only of objects that show it
pub record NeedsSome (dir : Directory) (name : List ℕ) (plan : IndexPlan) : Type 0 where
  pub present : IsNeededBy dir (filter.Present name) plan
  pub pieces : (sent : Pattern) → IsNeededBy dir (filter.Pieces name sent) plan
  pub at_least : (sent : List ℕ) → IsNeededBy dir (filter.AtLeast name sent) plan
  pub at_most : (sent : List ℕ) → IsNeededBy dir (filter.AtMost name sent) plan

pub needs_some : (dir : Directory) (name : List ℕ) (attr : AttrId) → IsPlainNamed dir.schema name attr
    → NeedsSome dir name (Present attr)
unfolding truth
needs_some dir name attr plain = record {
  present = some_needed dir (filter.Present name) name attr says_present plain present_of_some (λ view. refl);
  pieces = λ sent. some_needed dir (filter.Pieces name sent) name attr (says_pieces sent) plain (pieces_of_some sent)
      (λ view. refl);
  at_least = λ sent. some_needed dir (filter.AtLeast name sent) name attr
      (says_ordered (λ (order : Ordering). not (is_less order)) sent) plain
      (ordered_of_some (λ (order : Ordering). not (is_less order)) sent) (λ view. refl);
  at_most = λ sent. some_needed dir (filter.AtMost name sent) name attr
      (says_ordered (λ (order : Ordering). not (is_greater order)) sent) plain
      (ordered_of_some (λ (order : Ordering). not (is_greater order)) sent) (λ view. refl);
}

-- ---- all of several

pub one_of_all : (dir : Directory) (fs : List FilterValue) (i : ℕ) (f : FilterValue) (plan : IndexPlan) → i < length fs
    → f ≡ get_or fs i f → IsNeededBy dir f plan → IsNeededBy dir (filter.And (filters_of fs)) plan
unfolding truth
one_of_all dir fs i f plan lt is needed token number all =
    needed token number (all_say (reads dir.schema (seen_of dir token number)) fs i f lt is all)

pub needs_more : (P : IndexPlan → Type 0) (old : List IndexPlan) (new : Option IndexPlan) → AllByRecursion P old → IfSome new P
    → AllByRecursion P (old ++ option_to_list new)
needs_more P [] None are is = tt
needs_more P [] (Some n) are is = (is, tt)
needs_more P (o ∷ old) new are is = (are.0, needs_more P old new are.1 is)

are_met : (dir : Directory) (f : FilterValue) (token : Token) (number : ℕ) (plans : List IndexPlan)
    → AllByRecursion (IsNeededBy dir f) plans
    → is_true (truth (reads dir.schema (seen_of dir token number)) f) ≡ true → AreMet dir number plans
are_met dir f token number [] all is = tt
are_met dir f token number (n ∷ plans) all is = (all.0 token number is, are_met dir f token number plans all.1 is)

pub all_needed : (dir : Directory) (f : FilterValue) (plans : Vec IndexPlan Global)
    → AllByRecursion (IsNeededBy dir f) plans.items → IsNeededBy dir f (AllOf plans)
all_needed dir f plans all token number is =
    (all_met dir number plans).1 (are_met dir f token number plans.items all is)

-- ---- one of several

-- Where some filter is true, what one of those so far needs is met, or one that is left is true.
abbrev pub OneSoFar : Directory → List Filter → ℕ → List IndexPlan → Type 0
OneSoFar dir filters i plans = (token : Token) (number : ℕ)
    → is_true (some_of (reads dir.schema (seen_of dir token number)) (filters_of (map filter_seen filters))) ≡ true
    → HasMet dir number plans
    ⊎ (is_true (some_of (reads dir.schema (seen_of dir token number)) (from filters i)) ≡ true)

either_or : (a b : Truth) → is_true (either a b) ≡ true → (is_true a ≡ true) ⊎ (is_true b ≡ true)
either_or truth'.True b is = inl refl
either_or truth'.False b is = inr is
either_or truth'.Undefined truth'.True is = inr refl
either_or truth'.Undefined truth'.False is = inr is
either_or truth'.Undefined truth'.Undefined is = inr is

here_or_behind : (view : View) (filters : List Filter) (i : ℕ) (f : Filter) → i < length filters
    → f ≡ get_or filters i f → is_true (some_of view (from filters i)) ≡ true
    → (is_true (truth view (filter_seen f)) ≡ true) ⊎ (is_true (some_of view (from filters (i + 1))) ≡ true)
unfolding truth some_of
here_or_behind view filters i f lt is some =
    either_or (truth view (filter_seen f)) (some_of view (from filters (i + 1)))
    (subst (λ (fs : List Filter). is_true (some_of view (filters_of (map filter_seen fs))) ≡ true)
    (drop_more filters i f lt ∙ ap (λ (g : Filter). g ∷ drop (i + 1) filters) (sym is)) some)

met_before : (dir : Directory) (number : ℕ) (plans : List IndexPlan) (plan : IndexPlan) → HasMet dir number plans
    → HasMet dir number (plans ++ plan ∷ [])
met_before dir number [] plan met = absurd met
met_before dir number (n ∷ plans) plan (inl met) = inl met
met_before dir number (n ∷ plans) plan (inr met) = inr (met_before dir number plans plan met)

met_last : (dir : Directory) (number : ℕ) (plans : List IndexPlan) (plan : IndexPlan) → IsMet dir number plan
    → HasMet dir number (plans ++ plan ∷ [])
met_last dir number [] plan met = inl met
met_last dir number (n ∷ plans) plan met = inr (met_last dir number plans plan met)

pub none_so_far : (dir : Directory) (filters : List Filter) (plans : List IndexPlan) → OneSoFar dir filters 0 plans
none_so_far dir filters plans token number some = inr some

here_or_left : {P Q R : Type 0} (dir : Directory) (number : ℕ) (plans : List IndexPlan) (plan : IndexPlan) → (R → P ⊎ Q)
    → (P → IsMet dir number plan) → HasMet dir number plans ⊎ R → HasMet dir number (plans ++ plan ∷ []) ⊎ Q
here_or_left {P} {Q} {R} dir number plans plan parts here (inl met) = inl (met_before dir number plans plan met)
here_or_left {P} {Q} {R} dir number plans plan parts here (inr left) = by (parts left)
  where
    by : P ⊎ Q → HasMet dir number (plans ++ plan ∷ []) ⊎ Q
    by (inl is) = inl (met_last dir number plans plan (here is))
    by (inr others) = inr others

pub one_more_of : (dir : Directory) (filters : List Filter) (i : ℕ) (f : Filter) (plans : List IndexPlan) (plan : IndexPlan)
    → i < length filters → f ≡ get_or filters i f → IsNeededBy dir (filter_seen f) plan
    → OneSoFar dir filters i plans → OneSoFar dir filters (i + 1) (plans ++ plan ∷ [])
one_more_of dir filters i f plans plan lt is needed so_far token number some =
    here_or_left dir number plans plan
    (here_or_behind (reads dir.schema (seen_of dir token number)) filters i f lt is)
    (λ true_here. needed token number true_here) (so_far token number some)

met_at_end : {R : Type 0} (dir : Directory) (number : ℕ) (plans : List IndexPlan) → (R → ⊥) → HasMet dir number plans ⊎ R
    → HasMet dir number plans
met_at_end dir number plans none (inl met) = met
met_at_end dir number plans none (inr left) = absurd (none left)

none_left : (view : View) (filters : List Filter) (i : ℕ) → length filters ≤ i
    → is_true (some_of view (from filters i)) ≡ true → ⊥
unfolding some_of
none_left view filters i le left =
    no_truth (subst (λ (fs : List Filter). is_true (some_of view (filters_of (map filter_seen fs))) ≡ true)
    (drop_all i filters le) left)

pub any_needed : (dir : Directory) (filters : List Filter) (i : ℕ) (plans : Vec IndexPlan Global) → length filters ≤ i
    → OneSoFar dir filters i plans.items
    → IsNeededBy dir (filter.Or (filters_of (map filter_seen filters))) (AnyOf plans)
unfolding truth
any_needed dir filters i plans le so_far token number some =
    (any_met dir number plans).1
    (met_at_end dir number plans.items (none_left (reads dir.schema (seen_of dir token number)) filters i le)
    (so_far token number some))
