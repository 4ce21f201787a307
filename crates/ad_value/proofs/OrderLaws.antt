-- The order of keys.
use Rattle.std.proofs.Common.{◌≡◌, ◌↔◌, ℕ, ℤ, true, List, refl, sym, ap, ◌∙◌}
use Rattle.std.specs.Ordering.{is_eq, ordering_reverse}
use Rattle.std.specs.Cmp.{IsTotalOrder, int_cmp_total, signed_Decides}
use Rattle.std.specs.Cmp.Lexicographic.{nat_list_cmp_total}
use Rattle.std.specs.declared.cmp.Ordering.{Ordering}
use Rattle.std.specs.declared.cmp.Ordering.TheVariants.{Less, Equal, Greater}
use Rattle.std.proofs.lemmas.Map.Text.{is_eq-slice_cmp}
use Rattle.std.proofs.lemmas.Slice.Eq.{bytes_eq-Decides}
use Rattle.ad_value.specs.declared.value.Key.{Key}
use Rattle.ad_value.specs.declared.value.Key.TheVariants as key
use Rattle.ad_value.specs.Value.{same_key, key_order}

antisymm : (a b : Key) → key_order a b ≡ ordering_reverse (key_order b a)
antisymm (key.Number a) (key.Number b) = int_cmp_total.antisymm a b
antisymm (key.Bytes a) (key.Bytes b) = nat_list_cmp_total.antisymm a b
antisymm (key.Number a) (key.Bytes b) = refl
antisymm (key.Bytes a) (key.Number b) = refl

trans : (a b c : Key) → key_order a b ≡ Less → key_order b c ≡ Less → key_order a c ≡ Less
trans (key.Number a) (key.Number b) (key.Number c) p q = int_cmp_total.trans a b c p q
trans (key.Number a) (key.Number b) (key.Bytes c) p q = refl
trans (key.Number a) (key.Bytes b) (key.Number c) p q = absurd cc
trans (key.Number a) (key.Bytes b) (key.Bytes c) p q = refl
trans (key.Bytes a) (key.Number b) c p q = absurd cc
trans (key.Bytes a) (key.Bytes b) (key.Number c) p q = absurd cc
trans (key.Bytes a) (key.Bytes b) (key.Bytes c) p q = nat_list_cmp_total.trans a b c p q

congr : (a b c : Key) → key_order a b ≡ Equal → key_order a c ≡ key_order b c
congr (key.Number a) (key.Number b) (key.Number c) p = int_cmp_total.congr a b c p
congr (key.Number a) (key.Number b) (key.Bytes c) p = refl
congr (key.Number a) (key.Bytes b) c p = absurd cc
congr (key.Bytes a) (key.Number b) c p = absurd cc
congr (key.Bytes a) (key.Bytes b) (key.Number c) p = refl
congr (key.Bytes a) (key.Bytes b) (key.Bytes c) p = nat_list_cmp_total.congr a b c p

pub total : IsTotalOrder key_order
total = record { antisymm = antisymm; trans = trans; congr = congr }

-- ---- keys that are one

pub same_key_decides : (a b : Key) → (same_key a b ≡ true) ↔ (a ≡ b)
same_key_decides (key.Bytes a) (key.Bytes b)
    = (
      λ e. ap (λ (t : List ℕ). key.Bytes t) ((bytes_eq-Decides a b).0 e),
      λ e. let same : a ≡ b = cc
          in (bytes_eq-Decides a b).1 same,
    )
same_key_decides (key.Number a) (key.Number b)
    = (
      λ e. ap (λ (n : ℤ). key.Number n) ((signed_Decides a b).0 e),
      λ e. let same : a ≡ b = cc
          in (signed_Decides a b).1 same,
    )
same_key_decides (key.Bytes a) (key.Number b) = (λ e. absurd cc, λ e. absurd cc)
same_key_decides (key.Number a) (key.Bytes b) = (λ e. absurd cc, λ e. absurd cc)

tied : (a b : Key) → is_eq (key_order a b) ≡ same_key a b
tied (key.Bytes a) (key.Bytes b) = is_eq-slice_cmp a b
tied (key.Number a) (key.Number b) = refl
tied (key.Bytes a) (key.Number b) = refl
tied (key.Number a) (key.Bytes b) = refl

to_equal : (o : Ordering) → is_eq o ≡ true → o ≡ Equal
to_equal Less e = absurd cc
to_equal Equal e = refl
to_equal Greater e = absurd cc

pub equal_decides : (a b : Key) → (key_order a b ≡ Equal) ↔ (a ≡ b)
equal_decides a b = (
  λ e. (same_key_decides a b).0 (sym (tied a b) ∙ ap is_eq e),
  λ e. to_equal (key_order a b) (tied a b ∙ (same_key_decides a b).1 e),
)
