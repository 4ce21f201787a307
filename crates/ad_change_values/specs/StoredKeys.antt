-- What stored values are compared by, in an order.
use Rattle.std.proofs.Common.{◌≡◌, ℕ, Bool, true, refl, sym, ap, ◌∙◌}
use Rattle.std.specs.Ordering.{nat_cmp, is_eq, ordering_reverse, eq_by_cmp}
use Rattle.std.specs.declared.cmp.Ordering.{Ordering}
use Rattle.std.specs.declared.cmp.Ordering.TheVariants.{Less, Equal, Greater}
use Rattle.std.specs.Cmp.{IsTotalOrder, Equal-is, nat_cmp_total, unsigned_tied, unsigned_Decides}
use Rattle.std.proofs.lemmas.Map.Text.{is_eq-slice_cmp}
use Rattle.ad_value.specs.declared.value.Key.{Key}
use Rattle.ad_value.specs.declared.value.Key.TheVariants as key
use Rattle.ad_value.specs.Value.{same_key, key_order}
use Rattle.ad_value.proofs.OrderLaws.{total, equal_decides}
use Rattle.ad_dir_objects.specs.declared.object.Stored.{Stored as StoredIn}
use Rattle.ad_dir_objects.specs.declared.object.Stored.TheVariants as kept
use Rattle.ad_dir_objects.specs.Seen.{stored_seen}
use Rattle.ad_change_values.specs.declared.keys.StoredKey.{StoredKey}
use Rattle.ad_change_values.specs.declared.keys.StoredKey.TheVariants as by
use Rattle.ad_change_values.specs.Values.{same_stored}

-- of a value its key, of a link the number of the object
abbrev pub key_of : StoredIn → StoredKey
key_of (kept.Plain value) = by.Plain value.key
key_of (kept.Link number) = by.Link number

-- values by their keys, and after them links by their numbers
abbrev pub stored_order : StoredKey → StoredKey → Ordering
stored_order (by.Plain a) (by.Plain b) = key_order a b
stored_order (by.Link a) (by.Link b) = nat_cmp a b
stored_order (by.Plain a) (by.Link b) = Less
stored_order (by.Link a) (by.Plain b) = Greater

-- the two are one
abbrev pub same_by : StoredKey → StoredKey → Bool
same_by a b = eq_by_cmp stored_order a b

-- ---- laws

antisymm : (a b : StoredKey) → stored_order a b ≡ ordering_reverse (stored_order b a)
antisymm (by.Plain a) (by.Plain b) = total.antisymm a b
antisymm (by.Link a) (by.Link b) = nat_cmp_total.antisymm a b
antisymm (by.Plain a) (by.Link b) = refl
antisymm (by.Link a) (by.Plain b) = refl

trans : (a b c : StoredKey) → stored_order a b ≡ Less → stored_order b c ≡ Less → stored_order a c ≡ Less
trans (by.Plain a) (by.Plain b) (by.Plain c) p q = total.trans a b c p q
trans (by.Plain a) (by.Plain b) (by.Link c) p q = refl
trans (by.Plain a) (by.Link b) (by.Plain c) p q = absurd cc
trans (by.Plain a) (by.Link b) (by.Link c) p q = refl
trans (by.Link a) (by.Plain b) c p q = absurd cc
trans (by.Link a) (by.Link b) (by.Plain c) p q = absurd cc
trans (by.Link a) (by.Link b) (by.Link c) p q = nat_cmp_total.trans a b c p q

congr : (a b c : StoredKey) → stored_order a b ≡ Equal → stored_order a c ≡ stored_order b c
congr (by.Plain a) (by.Plain b) (by.Plain c) p = total.congr a b c p
congr (by.Plain a) (by.Plain b) (by.Link c) p = refl
congr (by.Plain a) (by.Link b) c p = absurd cc
congr (by.Link a) (by.Plain b) c p = absurd cc
congr (by.Link a) (by.Link b) (by.Plain c) p = refl
congr (by.Link a) (by.Link b) (by.Link c) p = nat_cmp_total.congr a b c p

pub stored_total : IsTotalOrder stored_order
stored_total = record { antisymm = antisymm; trans = trans; congr = congr }

-- keys that are one are equal
pub exact : (a b : StoredKey) → same_by a b ≡ true → a ≡ b
exact (by.Plain a) (by.Plain b) e = ap (λ (k : Key). by.Plain k)
    ((equal_decides a b).0 ((Equal-is (key_order a b)).0 e))
exact (by.Link a) (by.Link b) e = ap (λ (n : ℕ). by.Link n) ((unsigned_Decides a b).0 (sym (unsigned_tied a b) ∙ e))
exact (by.Plain a) (by.Link b) e = absurd cc
exact (by.Link a) (by.Plain b) e = absurd cc

-- keys of values are one exactly where they are the same
pub tied : (a b : Key) → is_eq (key_order a b) ≡ same_key a b
tied (key.Bytes a) (key.Bytes b) = is_eq-slice_cmp a b
tied (key.Number a) (key.Number b) = refl
tied (key.Bytes a) (key.Number b) = refl
tied (key.Number a) (key.Bytes b) = refl

-- values are the same exactly where their keys are
pub ties : (a b : StoredIn) → same_by (key_of a) (key_of b) ≡ same_stored (stored_seen a) (stored_seen b)
ties (kept.Plain a) (kept.Plain b) = tied a.key b.key
ties (kept.Link a) (kept.Link b) = unsigned_tied a b
ties (kept.Plain a) (kept.Link b) = refl
ties (kept.Link a) (kept.Plain b) = refl
