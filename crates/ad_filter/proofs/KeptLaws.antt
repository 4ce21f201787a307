-- What was kept of an object says what the object does.
use Rattle.std.proofs.Common.{◌≡◌, ℕ, Bool, true, false, List, Option, Result, Some, None, Ok, Err, if◌then◌else◌}
use Rattle.std.proofs.Common.{cond, inl, inr, refl, sym, subst, ap, ◌∙◌, arith}
use Rattle.std.specs.Prelude.{not, ◌==◌, ◌&&◌, option_map, option_and_then, IsPermutation, IfSome, IsSome}
use Rattle.std.specs.Ordering.{nat_cmp, is_eq}
use Rattle.std.specs.BTreeMap.{get, BTreeMap, Updates}
use Rattle.std.proofs.lemmas.Bool.{cases_Bool, eqb-true}
use Rattle.std.proofs.lemmas.Bool.Decides.{nat_tests}
use Rattle.std.proofs.lemmas.List.Sorted.{list_any-IsPermutation, length_permutation}
use Rattle.ad_schema.specs.declared.info.AttrId.{AttrId}
use Rattle.ad_value.specs.declared.syntax.Syntax.{Syntax}
use Rattle.ad_value.specs.declared.value.Key.{Key}
use Rattle.ad_value.specs.Value.{Value}
use Rattle.ad_value.specs.declared.pattern.Pattern.{Pattern}
use Rattle.ad_value.specs.declared.fault.ValueFault.{ValueFault}
use Rattle.ad_value.specs.ValueOf.{normal_or_fault}
use Rattle.ad_value.specs.Pieces.{fits_key}
use Rattle.ad_value.specs.Sent.{pattern_of}
use Rattle.ad_filter.specs.declared.outcome.Truth.{Truth}
use Rattle.ad_filter.specs.declared.outcome.Truth.TheVariants as truth
use Rattle.ad_filter.specs.declared.comparison.Comparison.{Comparison}
use Rattle.ad_filter.specs.declared.value_cache.Values.{Values}
use Rattle.ad_filter.specs.ThreeValues.{truth_of}
use Rattle.ad_filter.specs.Filtering.{Readable, view_by, is_descriptor, known, attr_known, is_compared, of_known}
use Rattle.ad_filter.specs.Filtering.{of_sent, of_pieces, some_value, says_pieces, says_present}
use Rattle.ad_filter.specs.Comparing.{passes, is_asked_of, says_compared}
use Rattle.ad_filter.specs.Keeping.{IsOrdered, IsOf, IsRead, AreRead, IsKept, as_read}

-- ---- in any order the same is said

some_same : (syntax : Syntax) (test : Key → Bool) (xs ys : List Value) → IsPermutation xs ys
    → some_value (record { syntax = syntax; values = ys }) test ≡ some_value (record { syntax = syntax; values = xs })
    test
some_same syntax test xs ys same = ap truth_of
    (sym (list_any-IsPermutation (λ (v : Value). is_compared syntax v && test v.key) xs ys same))

sent_same : (sent : Result Value ValueFault) (f g : Key → Truth) → ((key : Key) → f key ≡ g key) → of_sent sent f
    ≡ of_sent sent g
sent_same (Ok v) f g same = same v.key
sent_same (Err fault) f g same = refl

pieces_same : (pattern : Option Pattern) (f g : Pattern → Truth) → ((p : Pattern) → f p ≡ g p) → of_pieces pattern f
    ≡ of_pieces pattern g
pieces_same (Some p) f g same = same p
pieces_same None f g same = refl

pub same_compared : (comparison : Comparison) (sent : List ℕ) (values : Values) (readable : Readable)
    → IsOf values readable → says_compared comparison sent (as_read values) ≡ says_compared comparison sent readable
same_compared comparison sent values readable is =
    ap (λ (s : Syntax). says_compared comparison sent (record { syntax = s; values = values.all.items })) is.syntax
    ∙ ap (λ (t : Truth). if is_asked_of comparison readable.syntax then t else truth.Undefined)
    (sent_same (normal_or_fault readable.syntax sent)
    (λ (key : Key). some_value (record { syntax = readable.syntax; values = values.all.items }) (passes comparison key))
    (λ (key : Key). some_value readable (passes comparison key))
    (λ (key : Key). some_same readable.syntax (passes comparison key) readable.values values.all.items is.same))

pub same_pieces : (sent : Pattern) (values : Values) (readable : Readable) → IsOf values readable
    → says_pieces sent (as_read values) ≡ says_pieces sent readable
same_pieces sent values readable is =
    ap (λ (s : Syntax). says_pieces sent (record { syntax = s; values = values.all.items })) is.syntax
    ∙ pieces_same (pattern_of readable.syntax sent)
    (λ (p : Pattern). some_value (record { syntax = readable.syntax; values = values.all.items }) (fits_key p))
    (λ (p : Pattern). some_value readable (fits_key p))
    (λ (p : Pattern). some_same readable.syntax (fits_key p) readable.values values.all.items is.same)

pub same_present : (values : Values) (readable : Readable) → IsOf values readable → says_present (as_read values)
    ≡ says_present readable
same_present values readable is = ap (λ (n : ℕ). truth_of (not (n == 0)))
    (length_permutation readable.values values.all.items is.same)

-- ---- where there are some

pub said_same : (values : Option Values) (readable : Option Readable) (says : Readable → Truth)
    → ((v : Values) (r : Readable) → IsOf v r → says (as_read v) ≡ says r) → IsRead values readable
    → of_known (option_map as_read values) says ≡ of_known readable says
said_same None None says same is = refl
said_same None (Some r) says same is = absurd is
said_same (Some v) None says same is = absurd is
said_same (Some v) (Some r) says same is = same v r is

pub read_ordered : (values : Option Values) (readable : Option Readable) → IsRead values readable
    → IfSome values IsOrdered
read_ordered None None is = tt
read_ordered None (Some r) is = absurd is
read_ordered (Some v) None is = absurd is
read_ordered (Some v) (Some r) is = is.ordered

-- ---- by the attributes of names

pub known_by : (named : List ℕ → Option AttrId) (shown : AttrId → Option Readable) (name : List ℕ)
    → known (view_by named shown) name ≡ option_and_then shown (attr_known named name)
unfolding known attr_known
known_by named shown name = by_test (is_descriptor name)
  where
    by_test : (b : Bool) → (if b then None else view_by named shown name)
        ≡ option_and_then shown (if b then None else named name)
    by_test true = refl
    by_test false = refl

-- ---- where it is kept

pub is_there : (kept : Option (Option Values)) (readable : Option Readable) → IsKept kept readable → IsSome kept
is_there None readable is = absurd is
is_there (Some values) readable is = refl

pub read_at : (kept : Option (Option Values)) (values : Option Values) (readable : Option Readable) → kept ≡ Some values
    → IsKept kept readable → IsRead values readable
read_at kept values readable same is = subst (λ (k : Option (Option Values)). IsKept k readable) same is

-- ---- what was read of one attribute more

same_attr : (a b : AttrId) → a.0 ≡ b.0 → a ≡ b
same_attr a b same = ap (λ (n : ℕ). record { 0 = n }) same

same_key : (a b : ℕ) → is_eq (nat_cmp a b) ≡ (a == b)
same_key a b = grind (arith, nat_tests)

found : (old new : BTreeMap ℕ (Option Values)) (attr other : ℕ) (values : Option Values) (same : Bool)
    → Updates nat_cmp old new attr (Some values)
    → (attr == other) ≡ same → get nat_cmp new other ≡ cond same (Some values) (get nat_cmp old other)
found old new attr other values same up is =
    up.0 other ∙ ap (λ (t : Bool). cond t (Some values) (get nat_cmp old other)) (same_key attr other ∙ is)

abbrev Tells : Option Readable → Option (Option Values) → Type 0
Tells readable kept = IfSome kept (λ (values : Option Values). IsRead values readable)

pub one_read : (shown : AttrId → Option Readable) (old new : BTreeMap ℕ (Option Values)) (attr : AttrId)
    (values : Option Values)
    → AreRead shown old → IsRead values (shown attr) → Updates nat_cmp old new attr.0 (Some values) → AreRead shown new
one_read shown old new attr values read this up = λ other. elim (cases_Bool (attr.0 == other.0)) [
  | inl same ↦
      let is : attr ≡ other = same_attr attr other (eqb-true attr.0 other.0 same) in
      subst (Tells (shown other)) (sym (found old new attr.0 other.0 values true up same))
      (subst (λ (a : AttrId). IsRead values (shown a)) is this)
  | inr differ ↦ subst (Tells (shown other)) (sym (found old new attr.0 other.0 values false up differ)) (read other)
]
