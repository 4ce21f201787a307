-- What a token sees, object by object.
use Rattle.std.proofs.Common.{◌≡◌, ℕ, Bool, true, false, cond, ◌&&◌, ◌||◌, List, [], ◌∷◌, ◌++◌, map, Option, Some}
use Rattle.std.proofs.Common.{None, Result, Ok, Err, IfOk, Vec, Global, inl, inr, refl, sym, subst, ap, ◌∙◌}
use Rattle.std.specs.Prelude.{nat_eq, ◌==◌, find, filter, option_map, is_some}
use Rattle.std.specs.List.{AllByRecursion, list_any}
use Rattle.std.proofs.lemmas.Bool.{cases_Bool, and_parts, eq-eqb, ne_eqb, both_ways}
use Rattle.ad_ids.specs.declared.token.Token.{Token}
use Rattle.ad_dn.specs.declared.rdn.Rdn.{Rdn}
use Rattle.ad_dn.specs.declared.rdn.Dn.{Dn}
use Rattle.ad_ldap.specs.MessageValue.{SearchValue}
use Rattle.ad_dir_model.specs.Object.{Object}
use Rattle.ad_dir_model.specs.Objects.{is_live, numbers, object_of}
use Rattle.ad_dir_model.specs.Directory.{Directory}
use Rattle.ad_dir_model.proofs.Placing.{all_live_more}
use Rattle.ad_access_dir.specs.Sight.{is_visible}
use Rattle.ad_entries.specs.Seen.{Seen, seen_of, seen_among, view}
use Rattle.ad_search.specs.Scope.{is_named, is_there}
use Rattle.ad_entries.specs.Entry.{Entry, entry_of}
use Rattle.ad_search.specs.Search.{is_found, entries_of}
use Rattle.ad_search.specs.Steps.{entries_among}

-- ---- live objects

still_live : (o : Object) (os : List Object) (n : ℕ) → is_live os n ≡ true → is_live (o ∷ os) n ≡ true
unfolding object_of
still_live o os n live = elim (cases_Bool (nat_eq o.number n)) [
  | inl here ↦ rw here refl
  | inr other ↦ rw other live
]

-- each number of the list is that of a live object
pub numbers_live : (os : List Object) → AllByRecursion (λ (n : ℕ). is_live os n ≡ true) (numbers os)
unfolding numbers object_of
numbers_live [] = tt
numbers_live (o ∷ os) = (
  rw (eq-eqb o.number o.number refl) refl,
  all_live_more os (o ∷ os) (numbers os) (still_live o os) (numbers_live os),
)

pub all_live : {E : Type 0} → (r : Result (Vec ℕ Global) E) (os : List Object) → IfOk r (λ ns. ns.items ≡ numbers os)
    → IfOk r (λ ns. AllByRecursion (λ (n : ℕ). is_live os n ≡ true) ns.items)
all_live (Ok ns) os is = rw is (numbers_live os)
all_live (Err e) os is = tt

-- a live object has its number in the list
pub number_listed : (os : List Object) (n : ℕ) → is_live os n ≡ true → list_any (λ (m : ℕ). m == n) (numbers os) ≡ true
unfolding numbers object_of
number_listed [] n live = live
number_listed (o ∷ os) n live = elim (cases_Bool (nat_eq o.number n)) [
  | inl here ↦ rw here refl
  | inr other ↦ rw other (number_listed os n
      (sym (ap (λ (b : Bool). is_some (cond b (Some o) (object_of os n))) other) ∙ live))
]

-- ---- one object more

pub seen_more : (dir : Directory) (token : Token) (n : ℕ) (ns : List ℕ) → is_visible dir token n ≡ true
    → seen_among dir token (n ∷ ns) ≡ seen_of dir token n ∷ seen_among dir token ns
unfolding seen_among
seen_more dir token n ns is = ap (λ (b : Bool). map (seen_of dir token)
    (cond b (n ∷ filter (is_visible dir token) ns) (filter (is_visible dir token) ns))) is

pub unseen_more : (dir : Directory) (token : Token) (n : ℕ) (ns : List ℕ) → is_visible dir token n ≡ false
    → seen_among dir token (n ∷ ns) ≡ seen_among dir token ns
unfolding seen_among
unseen_more dir token n ns is = ap (λ (b : Bool). map (seen_of dir token)
    (cond b (n ∷ filter (is_visible dir token) ns) (filter (is_visible dir token) ns))) is

-- ---- by name

abbrev pub find_named : Directory → Token → List Rdn → List ℕ → Option Seen
find_named dir token rdns ns = find (is_named rdns) (seen_among dir token ns)

named_here : (dir : Directory) (token : Token) (rdns : List Rdn) (n : ℕ) (ns : List ℕ) → is_visible dir token n
    && is_named rdns (seen_of dir token n) ≡ true
    → find_named dir token rdns (n ∷ ns) ≡ Some (seen_of dir token n)
named_here dir token rdns n ns is =
    let parts = and_parts (is_visible dir token n) (is_named rdns (seen_of dir token n)) is in
    ap (find (is_named rdns)) (seen_more dir token n ns parts.0)
    ∙ ap (λ (b : Bool). cond b (Some (seen_of dir token n)) (find_named dir token rdns ns)) parts.1

named_later : (dir : Directory) (token : Token) (rdns : List Rdn) (n : ℕ) (ns : List ℕ) → is_visible dir token n
    && is_named rdns (seen_of dir token n) ≡ false
    → find_named dir token rdns (n ∷ ns) ≡ find_named dir token rdns ns
named_later dir token rdns n ns is = elim (cases_Bool (is_visible dir token n)) [
  | inl visible ↦
      ap (find (is_named rdns)) (seen_more dir token n ns visible)
      ∙ ap (λ (b : Bool). cond b (Some (seen_of dir token n)) (find_named dir token rdns ns))
      (sym (ap (λ (b : Bool). b && is_named rdns (seen_of dir token n)) visible) ∙ is)
  | inr unseen ↦ ap (find (is_named rdns)) (unseen_more dir token n ns unseen)
]

-- none that is live is seen and has the name
pub none_found : (dir : Directory) (token : Token) (rdns : List Rdn) (ns : List ℕ)
    → AllByRecursion (λ (n : ℕ). is_live dir.objects n ≡ true) ns
    → ((n : ℕ) → is_live dir.objects n ≡ true → is_visible dir token n && is_named rdns (seen_of dir token n) ≡ false)
    → find_named dir token rdns ns ≡ None
unfolding seen_among
none_found dir token rdns [] live none = refl
none_found dir token rdns (n ∷ ns) live none = named_later dir token rdns n ns (none n live.0)
    ∙ none_found dir token rdns ns live.1 none

-- one is, and no other
pub one_found : (dir : Directory) (token : Token) (rdns : List Rdn) (n : ℕ) (ns : List ℕ)
    → AllByRecursion (λ (m : ℕ). is_live dir.objects m ≡ true) ns → list_any (λ (m : ℕ). m == n) ns ≡ true
    → is_visible dir token n && is_named rdns (seen_of dir token n) ≡ true
    → ((m : ℕ) → is_live dir.objects m ≡ true → is_visible dir token m && is_named rdns (seen_of dir token m) ≡ true
    → m ≡ n) → find_named dir token rdns ns ≡ Some (seen_of dir token n)
one_found dir token rdns n [] live has is only = absurd (both_ways false refl has)
one_found dir token rdns n (m ∷ ms) live has is only
    = elim (cases_Bool (is_visible dir token m && is_named rdns (seen_of dir token m))) [
      | inl named ↦ named_here dir token rdns m ms named
          ∙ ap (λ (k : ℕ). Some (seen_of dir token k)) (only m live.0 named)
      | inr not_so ↦
          let other : (m == n) ≡ false = ne_eqb m n
          (λ e. both_ways (is_visible dir token m && is_named rdns (seen_of dir token m)) not_so
          (subst (λ (k : ℕ). is_visible dir token k && is_named rdns (seen_of dir token k) ≡ true) (sym e) is)) in
          named_later dir token rdns m ms not_so
          ∙ one_found dir token rdns n ms live.1 (sym (ap (λ (b : Bool). b || list_any (λ (k : ℕ). k == n) ms) other)
          ∙ has) is only
    ]

pub any_found : (test : Seen → Bool) (seen : List Seen) → list_any test seen ≡ is_some (find test seen)
any_found test [] = refl
any_found test (x ∷ xs) = elim (cases_Bool (test x)) [
  | inl is ↦ rw is refl
  | inr not_so ↦ rw not_so (any_found test xs)
]

mapped_some : {X : Type 0} → (h : ℕ → X) (found : Option ℕ) → is_some (option_map h found) ≡ is_some found
mapped_some h None = refl
mapped_some h (Some n) = refl

pub there_is : (dir : Directory) (token : Token) (rdns : List Rdn) (found : Option ℕ) → option_map (seen_of dir token)
    found ≡ find (is_named rdns) (view dir token)
    → is_some found ≡ is_there (view dir token) rdns
unfolding is_there
there_is dir token rdns found is =
    sym (mapped_some (seen_of dir token) found) ∙ ap (λ (s : Option Seen). is_some s) is
    ∙ sym (any_found (is_named rdns) (view dir token))

-- ---- entries

pub entries_here : (dir : Directory) (token : Token) (id : ℕ) (search : SearchValue) (flags : ℕ) (base : Dn) (n : ℕ)
    (ns : List ℕ)
    → is_visible dir token n && is_found dir.schema search base (seen_of dir token n) ≡ true
    → entries_among dir token id search flags base (n ∷ ns) ≡ entry_of dir.schema id search flags
    (seen_of dir token n) ∷ entries_among dir token id search flags base ns
unfolding entries_among entries_of
entries_here dir token id search flags base n ns is =
    let parts = and_parts (is_visible dir token n) (is_found dir.schema search base (seen_of dir token n)) is in
    ap (entries_of dir.schema id search flags base) (seen_more dir token n ns parts.0)
    ∙ ap (λ (b : Bool). map (entry_of dir.schema id search flags)
    (cond b (seen_of dir token n ∷ filter (is_found dir.schema search base) (seen_among dir token ns))
    (filter (is_found dir.schema search base) (seen_among dir token ns)))) parts.1

pub entries_later : (dir : Directory) (token : Token) (id : ℕ) (search : SearchValue) (flags : ℕ) (base : Dn) (n : ℕ)
    (ns : List ℕ)
    → is_visible dir token n && is_found dir.schema search base (seen_of dir token n) ≡ false
    → entries_among dir token id search flags base (n ∷ ns) ≡ entries_among dir token id search flags base ns
unfolding entries_among entries_of
entries_later dir token id search flags base n ns is = elim (cases_Bool (is_visible dir token n)) [
  | inl visible ↦
      ap (entries_of dir.schema id search flags base) (seen_more dir token n ns visible)
      ∙ ap (λ (b : Bool). map (entry_of dir.schema id search flags)
      (cond b (seen_of dir token n ∷ filter (is_found dir.schema search base) (seen_among dir token ns))
      (filter (is_found dir.schema search base) (seen_among dir token ns))))
      (sym (ap (λ (b : Bool). b && is_found dir.schema search base (seen_of dir token n)) visible) ∙ is)
  | inr unseen ↦ ap (entries_of dir.schema id search flags base) (unseen_more dir token n ns unseen)
]

-- no object has no entries
pub no_entries : (dir : Directory) (token : Token) (id : ℕ) (search : SearchValue) (flags : ℕ) (base : Dn)
    → entries_among dir token id search flags base [] ≡ []
unfolding entries_among entries_of seen_among
no_entries dir token id search flags base = refl

pub one_entry : (dir : Directory) (token : Token) (id : ℕ) (search : SearchValue) (flags : ℕ) (base : Dn) (n : ℕ)
    → true ≡ is_visible dir token n && is_found dir.schema search base (seen_of dir token n)
    → entries_among dir token id search flags base (n ∷ []) ≡ entry_of dir.schema id search flags
    (seen_of dir token n) ∷ []
one_entry dir token id search flags base n is =
    entries_here dir token id search flags base n [] (sym is)
    ∙ ap (λ (es : List Entry). entry_of dir.schema id search flags (seen_of dir token n) ∷ es)
    (no_entries dir token id search flags base)

pub no_entry : (dir : Directory) (token : Token) (id : ℕ) (search : SearchValue) (flags : ℕ) (base : Dn) (n : ℕ)
    → false ≡ is_visible dir token n && is_found dir.schema search base (seen_of dir token n)
    → entries_among dir token id search flags base (n ∷ []) ≡ []
no_entry dir token id search flags base n is = entries_later dir token id search flags base n [] (sym is)
    ∙ no_entries dir token id search flags base

-- the entries of one object, and those of the others
pub entries_apart : (dir : Directory) (token : Token) (id : ℕ) (search : SearchValue) (flags : ℕ) (base : Dn) (n : ℕ)
    (ns : List ℕ)
    → entries_among dir token id search flags base (n ∷ ns) ≡ entries_among dir token id search flags base (n ∷ [])
    ++ entries_among dir token id search flags base ns
entries_apart dir token id search flags base n ns
    = elim (cases_Bool (is_visible dir token n && is_found dir.schema search base (seen_of dir token n))) [
      | inl is ↦
          entries_here dir token id search flags base n ns is
          ∙ ap (λ (es : List Entry). es ++ entries_among dir token id search flags base ns)
          (sym (one_entry dir token id search flags base n (sym is)))
      | inr is ↦
          entries_later dir token id search flags base n ns is
          ∙ ap (λ (es : List Entry). es ++ entries_among dir token id search flags base ns)
          (sym (no_entry dir token id search flags base n (sym is)))
    ]
