-- Which of several objects have an entry.
use Rattle.std.proofs.Common.{◌≡◌, ℕ, Bool, true, false, ◌&&◌, List, [], ◌∷◌, ◌++◌, map, inl, inr, refl, sym, ap, ◌∙◌}
use Rattle.std.specs.Prelude.{filter}
use Rattle.std.specs.List.{AllByRecursion}
use Rattle.std.proofs.lemmas.Bool.{cases_Bool, both_ways}
use Rattle.ad_ids.specs.declared.token.Token.{Token}
use Rattle.ad_dn.specs.declared.rdn.Dn.{Dn}
use Rattle.ad_ldap.specs.MessageValue.{SearchValue}
use Rattle.ad_dir_model.specs.Objects.{is_live}
use Rattle.ad_dir_model.specs.Directory.{Directory}
use Rattle.ad_access_dir.specs.Sight.{is_visible}
use Rattle.ad_entries.specs.Seen.{seen_of}
use Rattle.ad_entries.specs.Entry.{Entry, entry_of}
use Rattle.ad_search.specs.Search.{is_found}
use Rattle.ad_search.specs.Reads.{found_among}
use Rattle.ad_search.specs.Steps.{entries_among}
use Rattle.ad_search.proofs.SeenLaws.{entries_here, entries_later, no_entries}

-- the object has an entry
abbrev pub Has : Directory → Token → SearchValue → Dn → ℕ → Bool
Has dir token search base m = is_visible dir token m && is_found dir.schema search base (seen_of dir token m)

-- ---- one object more

pub found_later : (dir : Directory) (token : Token) (search : SearchValue) (base : Dn) (n : ℕ) (ns : List ℕ)
    → Has dir token search base n ≡ false → found_among dir token search base (n ∷ ns) ≡ found_among dir token search
    base ns
unfolding found_among
found_later dir token search base n ns lacks = rw lacks refl

pub none_found : (dir : Directory) (token : Token) (search : SearchValue) (base : Dn) (n : ℕ) → false
    ≡ Has dir token search base n → found_among dir token search base (n ∷ []) ≡ []
unfolding found_among
none_found dir token search base n is = rw (sym is) refl

pub one_found : (dir : Directory) (token : Token) (search : SearchValue) (base : Dn) (n : ℕ) → true
    ≡ Has dir token search base n → found_among dir token search base (n ∷ []) ≡ n ∷ []
unfolding found_among
one_found dir token search base n is = rw (sym is) refl

-- the one, and the others
pub found_apart : (dir : Directory) (token : Token) (search : SearchValue) (base : Dn) (n : ℕ) (ns : List ℕ)
    → found_among dir token search base (n ∷ ns) ≡ found_among dir token search base (n ∷ [])
    ++ found_among dir token search base ns
unfolding found_among
found_apart dir token search base n ns = elim (cases_Bool (Has dir token search base n)) [
  | inl has ↦ rw has refl
  | inr lacks ↦ rw lacks refl
]

-- those that pass a test, where no other has an entry
pub only_numbers : (dir : Directory) (token : Token) (search : SearchValue) (base : Dn) (test : ℕ → Bool)
    (ns : List ℕ)
    → ((m : ℕ) → is_live dir.objects m ≡ true → Has dir token search base m ≡ true → test m ≡ true)
    → AllByRecursion (λ (m : ℕ). is_live dir.objects m ≡ true) ns
    → found_among dir token search base (filter test ns) ≡ found_among dir token search base ns
unfolding found_among
only_numbers dir token search base test [] every live = refl
only_numbers dir token search base test (m ∷ ms) every live = elim (cases_Bool (test m)) [
  | inl has_it ↦ elim (cases_Bool (Has dir token search base m)) [
    | inl has ↦ rw (has_it, has) (ap (λ (ns : List ℕ). m ∷ ns)
        (only_numbers dir token search base test ms every live.1))
    | inr has_not ↦ rw (has_it, has_not) (only_numbers dir token search base test ms every live.1)
  ]
  | inr lacks ↦ elim (cases_Bool (Has dir token search base m)) [
    | inl has ↦ absurd (both_ways (test m) lacks (every m live.0 has))
    | inr has_not ↦ rw (lacks, has_not) (only_numbers dir token search base test ms every live.1)
  ]
]

-- ---- their entries

-- the entry of an object
abbrev pub one : Directory → Token → ℕ → SearchValue → ℕ → ℕ → Entry
one dir token id search flags n = entry_of dir.schema id search flags (seen_of dir token n)

pub entries_are : (dir : Directory) (token : Token) (id : ℕ) (search : SearchValue) (flags : ℕ) (base : Dn)
    (ns : List ℕ) → entries_among dir token id search flags base ns ≡ map (one dir token id search flags)
    (found_among dir token search base ns)
unfolding found_among
entries_are dir token id search flags base [] = no_entries dir token id search flags base
entries_are dir token id search flags base (n ∷ ns) = elim (cases_Bool (Has dir token search base n)) [
  | inl has ↦ rw has (entries_here dir token id search flags base n ns has
      ∙ ap (λ (es : List Entry). one dir token id search flags n ∷ es)
      (entries_are dir token id search flags base ns))
  | inr lacks ↦ rw lacks (entries_later dir token id search flags base n ns lacks ∙ entries_are dir token id search
      flags base ns)
]

-- where the same are found, the entries are the same
pub same_entries : (dir : Directory) (token : Token) (id : ℕ) (search : SearchValue) (flags : ℕ) (base : Dn)
    (some all : List ℕ) → found_among dir token search base some ≡ found_among dir token search base all
    → entries_among dir token id search flags base some ≡ entries_among dir token id search flags base all
same_entries dir token id search flags base some all same =
    entries_are dir token id search flags base some ∙ ap (map (one dir token id search flags)) same
    ∙ sym (entries_are dir token id search flags base all)
