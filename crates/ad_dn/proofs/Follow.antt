-- Which byte may follow within a value.
use Rattle.std.proofs.Common.{Bool, nat_le, nat_lt, eqb, ◌≡◌, ◌⊎◌, inl, inr, ℕ, suc, ◌+◌, ◌-◌, ◌*◌, ◌<◌, ◌≤◌, true}
use Rattle.std.proofs.Common.{false, Option, Some, None, is_some, List, length, refl, sym, ap, subst, ◌∙◌, arith}
use Rattle.std.specs.Prelude.{◌&&◌, ◌||◌}
use Rattle.std.proofs.lemmas.Bool.{cases_lt, and_parts, or_parts}
use Rattle.std.proofs.lemmas.Bool.Decides.{nat_tests}
use Rattle.std.proofs.lemmas.Option.{same_Some}
use Rattle.ad_dn.specs.declared.utf8_state.Utf8State.{Utf8State}
use Rattle.ad_dn.specs.Utf8State.{due, nothing_due, size, least_after, most_after, begun, continued, due_after}
use Rattle.ad_dn.proofs.Told.{if_some, if_none}
use Rattle.ad_dn.proofs.Utf8.{Fills, Lead, one, two, three, four, no_lead, lead, size_1, size_2, size_3, size_4}
use Rattle.ad_dn.proofs.Utf8.{least_is, most_is, begun_is, at_first, at_later, continued_is, enough_follow}

-- what is due is what some first byte, or a later one, leaves due
pub record IsDue (d : Utf8State) : Type 0 where
  pub few : d.more ≤ 3
  pub low : (d.low ≡ 128) ⊎ ((d.low ≡ 144) ⊎ (d.low ≡ 160))
  pub high : (d.high ≡ 191) ⊎ ((d.high ≡ 159) ⊎ (d.high ≡ 143))
  pub ordered : d.low ≤ d.high

pub nothing_is_due : IsDue nothing_due
nothing_is_due = record { few = omega arith; low = inl refl; high = inl refl; ordered = omega arith }

-- what a first byte tells
pub record Began (used b : ℕ) (d : Utf8State) : Type 0 where
  pub some : 1 ≤ size b
  pub room : used + size b ≤ 1024
  pub same : due (size b - 1) (least_after b) (most_after b) ≡ d

pub began : (used b : ℕ) (d : Utf8State) → begun used b ≡ Some d → Began used b d
began used b d e =
    let p = if_none (eqb (size b) 0 || nat_lt 1024 (used + size b))
    (Some (due (size b - 1) (least_after b) (most_after b))) d e in
    let q = or_parts (eqb (size b) 0) (nat_lt 1024 (used + size b)) p.0 in
    let not_0 : eqb (size b) 0 ≡ false = q.0 in
    let within : nat_lt 1024 (used + size b) ≡ false = q.1 in
    record { some = above (size b) not_0; room = below (used + size b) within; same = same_Some _ d p.1 }
  where
    above : (n : ℕ) → eqb n 0 ≡ false → 1 ≤ n
    above n h = grind (arith, nat_tests)

    below : (n : ℕ) → nat_lt 1024 n ≡ false → n ≤ 1024
    below n h = grind (arith, nat_tests)

pub went_on : (d e : Utf8State) (b : ℕ) → continued d b ≡ Some e → (d.low ≤ b) × (b ≤ d.high)
    × (due (d.more - 1) 128 191 ≡ e)
went_on d e b is =
    let p = if_some (nat_le d.low b && nat_le b d.high) (Some (due (d.more - 1) 128 191)) e is in
    let q = and_parts (nat_le d.low b) (nat_le b d.high) p.0 in
    (within d.low b q.0, within b d.high q.1, same_Some _ e p.1)
  where
    within : (m n : ℕ) → nat_le m n ≡ true → m ≤ n
    within m n h = grind (arith, nat_tests)

at_most_4 : (b : ℕ) → Lead b → size b ≤ 4
at_most_4 b (one h e) = omega (arith, e)
at_most_4 b (two h e) = omega (arith, e)
at_most_4 b (three h e) = omega (arith, e)
at_most_4 b (four h e) = omega (arith, e)
at_most_4 b (no_lead e) = omega (arith, e)

after_first : (b : ℕ) → 1 ≤ size b → IsDue (due (size b - 1) (least_after b) (most_after b))
after_first b some =
    let l = least_is b in
    let m = most_is b in
    let most = at_most_4 b (lead b) in
    record {
      few = omega (arith, most);
      low = elim l [ inl e ↦ inr (inr e.1) | inr n ↦ elim n [ inl e ↦ inr (inl e.1) | inr k ↦ inl k.2 ] ];
      high = elim m [ inl e ↦ inr (inl e.1) | inr n ↦ elim n [ inl e ↦ inr (inr e.1) | inr k ↦ inl k.2 ] ];
      ordered = omega (arith, l, m);
    }

-- it stays so
pub due_kept : (used b : ℕ) (d e : Utf8State) → IsDue d → due_after used d b ≡ Some e → IsDue e
due_kept used b d e h is = elim (cases_lt 0 d.more) [
  | inr over ↦
      let p = began used b e (sym (at_first used b d (omega arith)) ∙ is) in
      subst IsDue p.same (after_first b p.some)
  | inl some ↦
      let p = went_on d e b (sym (at_later used b d some) ∙ is) in
      let few : d.more ≤ 3 = h.few in
      subst IsDue p.2 (record { few = omega arith; low = inl refl; high = inl refl; ordered = omega arith })
]

-- where it stands at all, it stands where all that is due has room
pub room_for : (used b : ℕ) (d e : Utf8State) (bytes : List ℕ) → due_after 0 d b ≡ Some e → Fills (Some e) bytes
    → used + 1 + length bytes ≤ 1024 → due_after used d b ≡ Some e
room_for used b d e bytes is f room = elim (cases_lt 0 d.more) [
  | inr over ↦
      let p = began 0 b e (sym (at_first 0 b d (omega arith)) ∙ is) in
      let more : size b - 1 ≡ e.more = ap (λ (x : Utf8State). x.more) p.same in
      let least = enough_follow e bytes f in
      let some : 1 ≤ size b = p.some in
      at_first used b d (omega arith) ∙ begun_is used b (size b - 1) (omega arith) (omega arith) ∙ ap Some p.same
  | inl some ↦ at_later used b d some ∙ sym (at_later 0 b d some) ∙ is
]

-- and the other way round
pub anywhere : (used b : ℕ) (d e : Utf8State) → due_after used d b ≡ Some e → due_after 0 d b ≡ Some e
anywhere used b d e is = elim (cases_lt 0 d.more) [
  | inr over ↦
      let p = began used b e (sym (at_first used b d (omega arith)) ∙ is) in
      let room : used + size b ≤ 1024 = p.room in
      let some : 1 ≤ size b = p.some in
      at_first 0 b d (omega arith) ∙ begun_is 0 b (size b - 1) (omega arith) (omega arith) ∙ ap Some p.same
  | inl some ↦ at_later 0 b d some ∙ sym (at_later used b d some) ∙ is
]

pub next_of : (o : Option Utf8State) (bytes : List ℕ) → Fills o bytes → (e : Utf8State) × (o ≡ Some e)
    × Fills (Some e) bytes
next_of None bytes f = absurd f
next_of (Some e) bytes f = (e, refl, f)

-- ---- two hexadecimal digits

stands : (used b k : ℕ) (d : Utf8State) → d.more ≡ 0 → size b ≡ suc k → used + suc k ≤ 1024
    → is_some (due_after used d b) ≡ true
stands used b k d none is room = ap is_some (at_first used b d none ∙ begun_is used b k is room)

or_first : (x y : Bool) → x ≡ true → (x || y) ≡ true
or_first x y e = ap (λ t. t || y) e

or_second : (x y : Bool) → y ≡ true → (x || y) ≡ true
or_second true y e = refl
or_second false y e = e

-- Where one of the 16 bytes with this first digit may stand, the least or the greatest of them may.
first_digit : (used high low : ℕ) (d e : Utf8State) → d.more ≡ 0 → low < 16 → due_after used d (16 * high + low)
    ≡ Some e → Lead (16 * high + low) → (is_some (due_after used d (16 * high))
    || is_some (due_after used d (16 * high + 15))) ≡ true
first_digit used high low d e none small is l =
    let p = began used (16 * high + low) e (sym (at_first used (16 * high + low) d none) ∙ is) in
    let room : used + size (16 * high + low) ≤ 1024 = p.room in
    let some : 1 ≤ size (16 * high + low) = p.some in
    elim l [
      | one h k ↦ or_first _ _ (stands used (16 * high) 0 d none (size_1 (16 * high) (omega arith)) (omega (arith, k)))
      | two h k ↦ or_second _ _ (stands used (16 * high + 15) 1 d none
          (size_2 (16 * high + 15) (omega arith) (omega arith)) (omega (arith, k)))
      | three h k ↦ or_second _ _ (stands used (16 * high + 15) 2 d none
          (size_3 (16 * high + 15) (omega arith) (omega arith)) (omega (arith, k)))
      | four h k ↦ or_first _ _ (stands used (16 * high) 3 d none (size_4 (16 * high) (omega arith) (omega arith))
          (omega (arith, k)))
      | no_lead k ↦ absurd (omega (arith, k, some))
    ]

pub digit_may_stand : (used high low : ℕ) (d e : Utf8State) → IsDue d → low < 16 → due_after used d (16 * high + low)
    ≡ Some e → (is_some (due_after used d (16 * high)) || is_some (due_after used d (16 * high + 15))) ≡ true
digit_may_stand used high low d e h small is = elim (cases_lt 0 d.more) [
  | inr over ↦ first_digit used high low d e (omega arith) small is (lead (16 * high + low))
  | inl some ↦
      let p = went_on d e (16 * high + low) (sym (at_later used (16 * high + low) d some) ∙ is) in
      let at_least : d.low ≤ 16 * high + low = p.0 in
      let at_most : 16 * high + low ≤ d.high = p.1 in
      let bottom : d.low ≤ 16 * high = omega (arith, h.low) in
      or_first _ _ (ap is_some (at_later used (16 * high) d some ∙ continued_is d (16 * high) bottom (omega arith)))
]
