-- From a sound directory to itself no line is told.
use Rattle.std.proofs.Common.{Bool, ◌≡◌, ◌∙◌, ℕ, suc, ◌+◌, ◌<◌, true, List, [], ◌∷◌, ◌++◌, length, get_or, refl, sym, ap}
use Rattle.std.proofs.Common.{subst, arith, inl, inr}
use Rattle.std.specs.Prelude.{All, ◌==◌, ◌||◌}
use Rattle.std.proofs.lemmas.Bool.{false≢true, cases_Bool}
use Rattle.std.proofs.lemmas.Bool.Decides.{Decides-eqb}
use Rattle.std.proofs.lemmas.List.Elements.{All-filter}
use Rattle.ad_ids.specs.declared.token.Token.{Token}
use Rattle.ad_dir_model.specs.Directory.{Directory}
use Rattle.ad_dir_model.specs.Soundness.{IsSound}
use Rattle.ad_principals.specs.Tokens.{IsTokenOf}
use Rattle.ad_principals.proofs.TokenLaws.{same_token, same_directory}
use Rattle.ad_both.specs.declared.both.Both.{Both}
use Rattle.ad_both.specs.Both.{objects_of_both}
use Rattle.ad_both.proofs.Itself.{IsOne, same_both}
use Rattle.ad_causes.specs.Cause.{causes_text}
use Rattle.ad_causes.specs.Causes.{causes}
use Rattle.ad_causes.proofs.NoCause.{no_cause}
use Rattle.ad_diff_rights.specs.Both.{are_principals}
use Rattle.ad_diff_rights.specs.Rights.{rights}
use Rattle.ad_diff_rights.specs.Changes.{change_lines, changes, Differs}
use Rattle.ad_diff_rights.proofs.NoChange.{no_change}
use Rattle.ad_diff.specs.declared.numbering.Grouped.{Grouped}
use Rattle.ad_diff.specs.Text.{members, has_member, cell, cell_text, row_text, table_text, blocks_text, IsDiffText}
use Rattle.ad_diff.proofs.Whole.{all_members}

-- ---- a member of a group

pub no_group : Grouped
no_group = record { both = record { before = 0; after = 0 }; group = 0 }

pub member_at : (groups : List Grouped) (n : ℕ) → has_member groups n ≡ true
    → (i : ℕ) × (i < length groups) × ((get_or groups i no_group).group ≡ n)
member_at [] n is = absurd (false≢true is)
member_at (g ∷ groups) n is = elim (cases_Bool (g.group == n)) [
  | inl own ↦ (0, omega arith, (Decides-eqb g.group n).0 own)
  | inr other ↦
      let rest = member_at groups n (ap (λ (t : Bool). t || has_member groups n) (sym other) ∙ is) in
      (suc rest.0, omega (arith, rest.1), rest.2)
]

-- ---- a table without lines

row_none : (o n : ℕ) (row : List (List ℕ)) → ((p : ℕ) → get_or row p [] ≡ []) → row_text o n row ≡ []
unfolding row_text
row_none o n [] each = refl
row_none o n (lines ∷ others) each =
    ap (λ (l : List ℕ). cell_text o n l ++ row_text o (n + 1) others) (each 0)
    ∙ row_none o (n + 1) others (λ p. each (suc p))

table_none : (n : ℕ) (rows : List (List (List ℕ))) → ((o p : ℕ) → get_or (get_or rows o []) p [] ≡ [])
    → table_text n rows ≡ []
unfolding table_text
table_none n [] each = refl
table_none n (row ∷ rows) each =
    ap (λ (t : List ℕ). t ++ table_text (n + 1) rows) (row_none n 0 row (λ p. each 0 p))
    ∙ table_none (n + 1) rows (λ o p. each (suc o) p)

-- ---- no cell has lines

module _ (dir : Directory) (text : List ℕ) (sound : IsSound dir) (told : IsDiffText dir dir text) where
  none_differs : (p o : Both) (lines : List ℕ) → IsOne p → IsOne o → Differs dir dir p o lines → lines ≡ []
  unfolding changes
  none_differs p o lines one_p one_o d =
      let one_token : d.was ≡ d.is = same_token dir dir p.before [] [] d.was d.is (same_directory dir)
      (same_directory dir) (λ s. refl) d.was_token (subst (λ (n : ℕ). IsTokenOf dir n [] d.is) (sym one_p) d.is_token) in
      d.lines_are
      ∙ ap (λ (token : Token). change_lines (rights dir token o.before) (rights dir d.is o.after)) one_token
      ∙ ap (λ (n : ℕ). change_lines (rights dir d.is n) (rights dir d.is o.after)) one_o
      ∙ no_change (rights dir d.is o.after)

  objects_one : All (λ (g : Grouped). IsOne g.both) told.objects
  objects_one = all_members IsOne told.objects (subst (All IsOne) (sym told.are_objects) (same_both dir sound))

  principals_one : All (λ (g : Grouped). IsOne g.both) told.principals
  principals_one = all_members IsOne told.principals (subst (All IsOne) (sym told.are_principals)
      (All-filter (are_principals dir dir) IsOne (objects_of_both dir dir) (same_both dir sound)))

  cell_none : (o p : ℕ) → cell told.table o p ≡ []
  cell_none o p = elim (told.of_members o p) [
    | inl none ↦ none
    | inr some ↦
        let thing = member_at told.objects o some.0 in
        let who = member_at told.principals p some.1 in
        let a = get_or told.principals who.0 no_group in
        let b = get_or told.objects thing.0 no_group in
        none_differs a.both b.both (cell told.table o p) (principals_one who.0 no_group who.1)
        (objects_one thing.0 no_group thing.1)
        (subst (λ (n : ℕ). Differs dir dir a.both b.both (cell told.table n p)) thing.2
        (subst (λ (n : ℕ). Differs dir dir a.both b.both (cell told.table b.group n)) who.2
        (told.exact who.0 no_group who.1 thing.0 no_group thing.1)))
  ]

  cells_none : (o p : ℕ) → get_or (get_or told.table o []) p [] ≡ []
  unfolding cell
  cells_none o p = cell_none o p

  pub no_line : text ≡ []
  no_line =
      told.lines
      ∙ ap (λ (t : List ℕ). causes_text (causes dir dir) ++ blocks_text dir told.principals told.objects t)
      (table_none 0 told.table cells_none)
      ∙ ap (λ t. causes_text t ++ []) (no_cause dir sound)
