-- Each group but 0 has a member.
use Rattle.std.proofs.Common.{◌≡◌, ◌⊎◌, ◌∙◌, ◌<◌, ◌≤◌, ℕ, zero, suc, inl, inr, true, Bool, List, [], ◌∷◌, ◌++◌, length}
use Rattle.std.proofs.Common.{get_or, map, sym, ap, subst, refl, arith}
use Rattle.std.specs.Prelude.{◌==◌, ◌||◌, ◌^◌, false, All}
use Rattle.std.specs.List.{list_any}
use Rattle.std.proofs.lemmas.Bool.{cases_lt, or_left, or_right}
use Rattle.std.proofs.lemmas.Bool.Decides.{Decides-eqb}
use Rattle.std.proofs.lemmas.List.{get_or_past, length-map}
use Rattle.std.proofs.lemmas.List.Elements.{All-append, All-cons, All-nil}
use Rattle.std.proofs.lemmas.List.Folds.{list_any-append}
use Rattle.ad_both.specs.declared.both.Both.{Both}
use Rattle.ad_diff.specs.declared.numbering.Grouped.{Grouped}
use Rattle.ad_diff.specs.declared.bases.Frame.{Frame}
use Rattle.ad_diff.specs.declared.columns.Column.{Column}
use Rattle.ad_diff.specs.Text.{cell, has_member, HasNumber}
use Rattle.ad_diff.specs.Frames.{lines_at, IsNumbered}
use Rattle.ad_diff.specs.Table.{row_of, table_of, AreUsed, AreNumbered}
use Rattle.ad_diff.proofs.Lists.{mapped_at, there_at}
use Rattle.ad_diff.proofs.Exact.{none_of_principals}

-- ---- one more

member_still : (groups more : List Grouped) (group : ℕ) → has_member groups group ≡ true
    → has_member (groups ++ more) group ≡ true
member_still groups more group is =
    list_any-append (λ (g : Grouped). g.group == group) groups more
    ∙ or_left (has_member groups group) (has_member more group) is

member_last : (groups : List Grouped) (g : Grouped) (group : ℕ) → g.group ≡ group
    → has_member (groups ++ (g ∷ [])) group ≡ true
member_last groups g group own =
    list_any-append (λ (h : Grouped). h.group == group) groups (g ∷ [])
    ∙ or_right (has_member groups group) ((g.group == group) || false)
    (or_left (g.group == group) false ((Decides-eqb g.group group).1 own))

used_still : (n : ℕ) (groups more : List Grouped) → AreUsed n groups → AreUsed n (groups ++ more)
used_still zero groups more used = tt
used_still (suc n) groups more used = (
  member_still groups more (suc n) used.0,
  used_still n groups more used.1,
)

-- one more member, of a group that was there, or of a new one
used_more : (old new : ℕ) (groups others : List Grouped) (both : Both) (group : ℕ) → IsNumbered old new group
    → AreUsed old groups → others ≡ groups ++ (record { both = both; group = group } ∷ []) → AreUsed new others
used_more old new groups others both group (inl same) used are =
    let g : Grouped = record { both = both; group = group } in
    subst (AreUsed new) (sym are) (subst (λ (n : ℕ). AreUsed n (groups ++ (g ∷ []))) (sym same)
    (used_still old groups (g ∷ []) used))
used_more old new groups others both group (inr (more, last)) used are =
    let g : Grouped = record { both = both; group = group } in
    subst (AreUsed new) (sym are) (subst (λ (n : ℕ). AreUsed n (groups ++ (g ∷ []))) (sym more)
    (member_last groups g (suc old) (last ∙ more), used_still old groups (g ∷ []) used))

pub numbered_more : (old new : ℕ) (groups others : List Grouped) (both : Both) (group : ℕ) → IsNumbered old new group
    → group < 2 ^ 32 → AreNumbered old groups → others ≡ groups ++ (record { both = both; group = group } ∷ [])
    → AreNumbered new others
numbered_more old new groups others both group count small numbered are =
    let g : Grouped = record { both = both; group = group } in
    record {
      used = used_more old new groups others both group count numbered.used are;
      fit = subst (All HasNumber) (sym are) (All-append HasNumber groups (g ∷ []) numbered.fit
          (All-cons HasNumber g [] small (All-nil HasNumber)));
    }

-- ---- cells

used_at : (n : ℕ) (groups : List Grouped) (k : ℕ) → AreUsed n groups → k < n → has_member groups (suc k) ≡ true
used_at zero groups k used lt = absurd (omega (arith, lt))
used_at (suc n) groups k used lt = elim (cases_lt k n) [
  | inl below ↦ used_at n groups k used.1 below
  | inr last ↦
      let same : n ≡ k = omega (arith, lt, last) in
      subst (λ (m : ℕ). has_member groups (suc m) ≡ true) same used.0
]

-- a cell that has lines has members
pub cells_of_members : (frame : Frame) (columns : List Column) (leaders : List ℕ) (objects principals : List Grouped)
    → AreUsed (length columns) objects → AreUsed (length leaders) principals
    → (l k : ℕ) → (cell (table_of frame columns leaders) l k ≡ [])
    ⊎ ((has_member objects l ≡ true) × (has_member principals k ≡ true))
unfolding cell
cells_of_members frame columns leaders objects principals things they zero k = inl refl
cells_of_members frame columns leaders objects principals things they (suc n) zero = inl
    (none_of_principals frame columns leaders (suc n))
cells_of_members frame columns leaders objects principals things they (suc n) (suc m) =
    let rows = map (λ (c : Column). row_of leaders (lines_at frame c)) columns in
    elim (cases_lt n (length columns)) [
      | inl below ↦ elim (cases_lt m (length leaders)) [
        | inl within ↦ inr (used_at (length columns) objects n things below, used_at (length leaders) principals m they within)
        | inr beyond ↦
            let found = there_at columns n below in
            let own = λ (leader : ℕ). lines_at frame found.0 leader in
            inl (ap (λ (row : List (List ℕ)). get_or row (suc m) [])
            (mapped_at (λ (c : Column). row_of leaders (lines_at frame c)) columns n found.0 [] found.1)
            ∙ get_or_past (map own leaders) m [] (omega (arith, beyond, length-map leaders own)))
      ]
      | inr beyond ↦ inl (ap (λ (row : List (List ℕ)). get_or row (suc m) []) (get_or_past rows n []
          (omega (arith, beyond, length-map columns (λ (c : Column). row_of leaders (lines_at frame c))))))
    ]
