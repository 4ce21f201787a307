-- The tree by its parents: depths are one, and what a pending parent reaches is deeper than it.
use Rattle.std.proofs.Common.{◌≡◌, ℕ, zero, suc, ◌+◌, ◌<◌, ◌≤◌, Bool, true, false, ◌⊎◌, inl, inr, refl, sym, subst}
use Rattle.std.proofs.Common.{ap, arith, ◌∙◌}
use Rattle.std.specs.Prelude.{nat_eq, nat_lt, if◌then◌else◌, ◌&&◌, ◌||◌}
use Rattle.std.proofs.lemmas.Bool.{eqb-true, eqb-false, eq-eqb, ne_eqb, ltb-true, ltb-false, false≢true, or_cases}
use Rattle.std.proofs.lemmas.Bool.{and_parts, false_from_ne_true}
use Rattle.ad_dir_model.specs.Tree.{IsAtDepth, is_below_within, is_reached_within}

pub depth_unique : (parent : ℕ → ℕ) (n d e : ℕ) → IsAtDepth parent d n → IsAtDepth parent e n → d ≡ e
depth_unique parent n zero zero p q = refl
depth_unique parent n zero (suc e) p q = absurd (q.0 p)
depth_unique parent n (suc d) zero p q = absurd (p.0 q)
depth_unique parent n (suc d) (suc e) p q = ap suc (depth_unique parent (parent n) d e p.1 q.1)

-- more levels than the depth change nothing
pub reach_enough : (parent : ℕ → ℕ) (d levels p k n : ℕ) → IsAtDepth parent d n → d ≤ levels
    → is_reached_within parent levels p k n ≡ is_reached_within parent d p k n
unfolding is_reached_within
reach_enough parent zero zero p k n at le = refl
reach_enough parent zero (suc levels) p k n at le = rw (eq-eqb n 1 at) refl
reach_enough parent (suc d) zero p k n at le = absurd (omega arith)
reach_enough parent (suc d) (suc levels) p k n at le =
    let less : d ≤ levels = omega arith in
    ap (λ (rest : Bool). if nat_eq n 1 then false else ((nat_eq (parent n) p && nat_lt k n) || rest))
    (reach_enough parent d levels p k (parent n) at.1 less)

pub below_enough : (parent : ℕ → ℕ) (d levels other n : ℕ) → IsAtDepth parent d n → d ≤ levels
    → is_below_within parent levels other n ≡ is_below_within parent d other n
unfolding is_below_within
below_enough parent zero zero other n at le = refl
below_enough parent zero (suc levels) other n at le = rw (eq-eqb n 1 at) refl
below_enough parent (suc d) zero other n at le = absurd (omega arith)
below_enough parent (suc d) (suc levels) other n at le =
    let less : d ≤ levels = omega arith in
    ap (λ (rest : Bool). if nat_eq n 1 then false else (nat_eq (parent n) other || rest))
    (below_enough parent d levels other (parent n) at.1 less)

-- one level of what is reached, below the root
reach_more : (parent : ℕ → ℕ) (d p k n : ℕ) → (n ≡ 1 → ⊥) → is_reached_within parent (suc d) p k n
    ≡ ((nat_eq (parent n) p && nat_lt k n) || is_reached_within parent d p k (parent n))
unfolding is_reached_within
reach_more parent d p k n not_root = rw (ne_eqb n 1 not_root) refl

-- what is reached is deeper
pub reach_deeper : (parent : ℕ → ℕ) (d e p k n : ℕ) → IsAtDepth parent d n → IsAtDepth parent e p
    → is_reached_within parent d p k n ≡ true → e < d
unfolding is_reached_within
reach_deeper parent zero e p k n at above reached = absurd (false≢true reached)
reach_deeper parent (suc d) e p k n at above reached =
    by_way (reach_deeper parent d e p k (parent n) at.1 above)
    (or_cases (nat_eq (parent n) p && nat_lt k n) (is_reached_within parent d p k (parent n))
    (sym (reach_more parent d p k n at.0) ∙ reached))
  where
    by_way : (is_reached_within parent d p k (parent n) ≡ true → e < d) → ((nat_eq (parent n) p && nat_lt k n) ≡ true)
        ⊎ (is_reached_within parent d p k (parent n) ≡ true) → e < suc d
    by_way again (inl here) =
        let is : parent n ≡ p = eqb-true (parent n) p (and_parts (nat_eq (parent n) p) (nat_lt k n) here).0 in
        let same : d ≡ e = depth_unique parent p d e (subst (IsAtDepth parent d) is at.1) above in
        omega arith
    by_way again (inr further) = let less : e < d = again further in omega arith

not_reached : (parent : ℕ → ℕ) (d e p k n : ℕ) → IsAtDepth parent d n → IsAtDepth parent e p → d ≤ e
    → is_reached_within parent d p k n ≡ false
not_reached parent d e p k n at above le = false_from_ne_true (is_reached_within parent d p k n)
    (λ reached. let less : e < d = reach_deeper parent d e p k n at above reached in absurd (omega arith))

-- ---- a step along the children of p: those reached above c, c itself and those below c are reached above k

abbrev pub bit : Bool → ℕ
bit b = if b then 1 else 0

pub bit_or : (a b : Bool) → bit (a || b) ≤ bit a + bit b
bit_or true true = omega arith
bit_or true false = omega arith
bit_or false true = omega arith
bit_or false false = omega arith

pub bit_and : (a b : Bool) → bit (a && b) ≤ bit a
bit_and true true = omega arith
bit_and true false = omega arith
bit_and false b = omega arith

or-false : (b : Bool) → (b || false) ≡ b
or-false true = refl
or-false false = refl

-- c is the least child of p above k
pub record IsNextChild (parent : ℕ → ℕ) (p k c : ℕ) : Type 0 where
  pub depth : ℕ
  pub parent_at : IsAtDepth parent depth p
  pub child_at : IsAtDepth parent (suc depth) c
  pub is_child : parent c ≡ p
  pub above : k < c
  pub least : (n d : ℕ) → IsAtDepth parent d n → (n ≡ 1 → ⊥) → parent n ≡ p → k < n → c ≤ n

-- at a child of p
at_child : (k c o : ℕ) → k < c → (k < o → c ≤ o) → bit (nat_lt c o) + (bit (nat_eq o c) + 0) ≤ bit (nat_lt k o)
at_child k c o above least = by_tests (nat_lt k o) (nat_lt c o) (nat_eq o c) refl refl refl
  where
    by_tests : (a b e : Bool) → nat_lt k o ≡ a → nat_lt c o ≡ b → nat_eq o c ≡ e → bit b + (bit e + 0) ≤ bit a
    by_tests a true true ka cb oc = let l : c < o = ltb-true c o cb in let e : o ≡ c = eqb-true o c oc
        in absurd (omega arith)
    by_tests true true false ka cb oc = omega arith
    by_tests true false true ka cb oc = omega arith
    by_tests true false false ka cb oc = omega arith
    by_tests false true false ka cb oc = let l : c < o = ltb-true c o cb in let m : o ≤ k = ltb-false k o ka
        in absurd (omega arith)
    by_tests false false true ka cb oc = let e : o ≡ c = eqb-true o c oc in let m : o ≤ k = ltb-false k o ka
        in absurd (omega arith)
    by_tests false false false ka cb oc = omega arith

pub reach_step : (parent : ℕ → ℕ) (p k c : ℕ) → IsNextChild parent p k c → (d o : ℕ) → IsAtDepth parent d o
    → bit (is_reached_within parent d p c o) + (bit (nat_eq o c) + bit (is_reached_within parent d c 0 o))
    ≤ bit (is_reached_within parent d p k o)
unfolding is_reached_within
reach_step parent p k c next zero o at =
    let apart : o ≡ c → ⊥ = λ (e : o ≡ c). next.child_at.0 (sym e ∙ at) in
    rw (ne_eqb o c apart) (omega arith)
reach_step parent p k c next (suc d) o at =
    rw (reach_more parent d p c o at.0, reach_more parent d c 0 o at.0, reach_more parent d p k o at.0)
    (by_parent (reach_step parent p k c next d (parent o) at.1) (nat_eq (parent o) p) refl)
  where
    here : parent o ≡ p → bit (nat_lt c o) + (bit (nat_eq o c) + 0) ≤ bit (nat_lt k o)
    here is = at_child k c o next.above (next.least o (suc d) at at.0 is)

    by_parent : bit (is_reached_within parent d p c (parent o))
        + (bit (nat_eq (parent o) c) + bit (is_reached_within parent d c 0 (parent o)))
        ≤ bit (is_reached_within parent d p k (parent o)) → (child : Bool) → nat_eq (parent o) p ≡ child
        → bit ((child && nat_lt c o) || is_reached_within parent d p c (parent o))
        + (bit (nat_eq o c) + bit ((nat_eq (parent o) c && nat_lt 0 o) || is_reached_within parent d c 0
        (parent o)))
        ≤ bit ((child && nat_lt k o) || is_reached_within parent d p k (parent o))
    by_parent further true is =
        let same : parent o ≡ p = eqb-true (parent o) p is in
        let deep : d ≡ next.depth = depth_unique parent p d next.depth (subst (IsAtDepth parent d) same at.1)
        next.parent_at in
        let le : d ≤ next.depth = omega arith in
        let le_more : d ≤ suc next.depth = omega arith in
        let apart : parent o ≡ c → ⊥ = λ (e : parent o ≡ c). let twice : d ≡ suc next.depth = depth_unique parent c d
        (suc next.depth) (subst (IsAtDepth parent d) e at.1) next.child_at in absurd (omega arith) in
        let above_c = not_reached parent d next.depth p c (parent o) at.1 next.parent_at le in
        let above_k = not_reached parent d next.depth p k (parent o) at.1 next.parent_at le in
        let below_c = not_reached parent d (suc next.depth) c 0 (parent o) at.1 next.child_at le_more in
        rw (above_c, above_k, below_c, ne_eqb (parent o) c apart, or-false (nat_lt c o), or-false (nat_lt k o))
        (here same)
    by_parent further false is =
        let other : parent o ≡ p → ⊥ = eqb-false (parent o) p is in
        let apart : o ≡ c → ⊥ = λ (e : o ≡ c). other (ap parent e ∙ next.is_child) in
        let or_le : bit ((nat_eq (parent o) c && nat_lt 0 o) || is_reached_within parent d c 0 (parent o))
        ≤ bit (nat_eq (parent o) c && nat_lt 0 o) + bit (is_reached_within parent d c 0 (parent o))
        = bit_or (nat_eq (parent o) c && nat_lt 0 o) (is_reached_within parent d c 0 (parent o)) in
        let and_le : bit (nat_eq (parent o) c && nat_lt 0 o) ≤ bit (nat_eq (parent o) c)
        = bit_and (nat_eq (parent o) c) (nat_lt 0 o) in
        rw (ne_eqb o c apart) (omega arith)
