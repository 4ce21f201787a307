-- The text of a table that grows.
use Rattle.std.proofs.Common.{◌≡◌, ◌∙◌, ◌+◌, ℕ, List, [], ◌∷◌, ◌++◌, length, sym, ap, arith}
use Rattle.std.proofs.Common.{append_assoc}
use Rattle.std.proofs.lemmas.List.{append-nil}
use Rattle.ad_diff.specs.Text.{cell_text, row_text, table_text}

pub row_more : (objects n m : ℕ) (row : List (List ℕ)) (lines : List ℕ) → m ≡ n + length row
    → row_text objects n (row ++ (lines ∷ [])) ≡ row_text objects n row ++ cell_text objects m lines
unfolding row_text
row_more objects n m [] lines is =
    let same : n ≡ m = omega (arith, is) in
    append-nil (cell_text objects n lines) ∙ ap (λ (k : ℕ). cell_text objects k lines) same
row_more objects n m (first ∷ others) lines is =
    let next : m ≡ (n + 1) + length others = omega (arith, is) in
    ap (λ (t : List ℕ). cell_text objects n first ++ t) (row_more objects (n + 1) m others lines next)
    ∙ sym (append_assoc (cell_text objects n first) (row_text objects (n + 1) others) (cell_text objects m lines))

pub table_more : (n m : ℕ) (table : List (List (List ℕ))) (row : List (List ℕ)) → m ≡ n + length table
    → table_text n (table ++ (row ∷ [])) ≡ table_text n table ++ row_text m 0 row
unfolding table_text
table_more n m [] row is =
    let same : n ≡ m = omega (arith, is) in
    append-nil (row_text n 0 row) ∙ ap (λ (k : ℕ). row_text k 0 row) same
table_more n m (first ∷ others) row is =
    let next : m ≡ (n + 1) + length others = omega (arith, is) in
    ap (λ (t : List ℕ). row_text n 0 first ++ t) (table_more (n + 1) m others row next)
    ∙ sym (append_assoc (row_text n 0 first) (table_text (n + 1) others) (row_text m 0 row))
