-- Names as keys: of a child below its parent, after case folding.
use Rattle.std.specs.Prelude.{◌≡◌, ℕ, Bool, true, ◌&&◌, nat_eq, Option, List, IsTrue}
use Rattle.std.specs.Map.{lookup}
use Rattle.std.proofs.Common.{◌∙◌, ap}
use Rattle.std.specs.Str.{bytes_eq}
use Rattle.std.specs.Hash as fed
use Rattle.std.specs.Cmp.{IsEquivalence, and_equiv, on_equiv, nat_eq_equiv, first_so, second_so, unsigned_Decides}
use Rattle.std.specs.Cmp.Lexicographic.{nat_list_eq_equiv, bytes_decides}
use Rattle.ad_dn.specs.Fold.{folded}
use Rattle.ad_dir_table.specs.declared.name_key.NameKey.{NameKey}
use Rattle.ad_dir_table.specs.declared.name_key.Asked.{Asked}
use Rattle.ad_dir_table.specs.Hashes.{name_hash}

-- a parent, and a naming value after case folding
pub record ChildName : Type 0 where
  pub parent : ℕ
  pub folded : List ℕ

abbrev pub same_child : ChildName → ChildName → Bool
same_child a b = nat_eq a.parent b.parent && bytes_eq a.folded b.folded

abbrev pub key_name : NameKey → ChildName
key_name key = record { parent = key.parent; folded = key.folded.items }

-- whether the key is that of the name
abbrev pub is_key : ChildName → NameKey → Bool
is_key name key = same_child name (key_name key)

abbrev pub same_key : NameKey → NameKey → Bool
same_key a b = same_child (key_name a) (key_name b)

-- what stands at the name
abbrev pub name_at : List (NameKey × ℕ) → ChildName → Option ℕ
name_at entries name = lookup (is_key name) entries

pub same_child_laws : IsEquivalence same_child
same_child_laws = and_equiv (on_equiv (λ (n : ChildName). n.parent) nat_eq_equiv)
    (on_equiv (λ (n : ChildName). n.folded) nat_list_eq_equiv)

pub same_key_laws : IsEquivalence same_key
same_key_laws = on_equiv key_name same_child_laws

-- names that are the same have one hash
same_hash : (a b : ChildName) → same_child a b ≡ true → fed.u64 (name_hash a.parent a.folded)
    ≡ fed.u64 (name_hash b.parent b.folded)
same_hash a b is =
    let parent : a.parent ≡ b.parent = (unsigned_Decides a.parent b.parent).0
    (first_so (nat_eq a.parent b.parent) (bytes_eq a.folded b.folded) is) in
    let name : a.folded ≡ b.folded = (bytes_decides a.folded b.folded).0
    (second_so (nat_eq a.parent b.parent) (bytes_eq a.folded b.folded) is) in
    ap (λ (p : ℕ). fed.u64 (name_hash p a.folded)) parent ∙ ap (λ (f : List ℕ). fed.u64 (name_hash b.parent f)) name

pub same_key_hash : (a b : NameKey) → IsTrue (same_key a b) → fed.u64 (name_hash a.parent a.folded.items)
    ≡ fed.u64 (name_hash b.parent b.folded.items)
same_key_hash a b is = same_hash (key_name a) (key_name b) is

-- ---- a name that isn't folded

abbrev pub asked_name : Asked → ChildName
asked_name asked = record { parent = asked.parent; folded = folded asked.name.now }

abbrev pub is_asked : Asked → NameKey → Bool
is_asked asked key = is_key (asked_name asked) key

pub same_asked_hash : (a b : Asked) → IsTrue (nat_eq a.parent b.parent && bytes_eq a.name.now b.name.now)
    → fed.u64 (name_hash a.parent (folded a.name.now)) ≡ fed.u64 (name_hash b.parent (folded b.name.now))
same_asked_hash a b is =
    let parent : a.parent ≡ b.parent = (unsigned_Decides a.parent b.parent).0
    (first_so (nat_eq a.parent b.parent) (bytes_eq a.name.now b.name.now) is) in
    let name : a.name.now ≡ b.name.now = (bytes_decides a.name.now b.name.now).0
    (second_so (nat_eq a.parent b.parent) (bytes_eq a.name.now b.name.now) is) in
    ap (λ (p : ℕ). fed.u64 (name_hash p (folded a.name.now))) parent
    ∙ ap (λ (n : List ℕ). fed.u64 (name_hash b.parent (folded n))) name

pub asked_hash : (asked : Asked) (key : NameKey) → IsTrue (is_asked asked key)
    → fed.u64 (name_hash asked.parent (folded asked.name.now)) ≡ fed.u64 (name_hash key.parent key.folded.items)
asked_hash asked key is = same_hash (asked_name asked) (key_name key) is

pub asked_key : (asked : Asked) (x y : NameKey) → IsTrue (is_asked asked x) → is_asked asked y ≡ same_key x y
asked_key asked x y is = same_child_laws.congr (asked_name asked) (key_name x) (key_name y) is
