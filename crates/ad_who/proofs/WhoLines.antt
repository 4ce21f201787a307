-- The lines of identities, one after the other.
use Rattle.std.proofs.Common.{◌≡◌, ℕ, ◌+◌, ◌<◌, List, [], ◌∷◌, ◌++◌, Option, length, drop, sym, ap, subst, append_assoc, refl, ◌∙◌}
use Rattle.std.specs.Prelude.{slice_index_or}
use Rattle.std.proofs.lemmas.List.{append-nil, at_drop_more}
use Rattle.ad_ids.specs.declared.token.Token.{Token}
use Rattle.ad_dir_model.specs.Directory.{Directory}
use Rattle.ad_identities.specs.declared.identity.Identity.{Identity}
use Rattle.ad_needs_rules.specs.Needs.{Alternative}
use Rattle.ad_who.specs.Lines.{IsTokenIf, who_line, AreWhoLines}
use Rattle.ad_who.proofs.Putting.{two_put}

-- What stands so far of the lines of all.
pub record SoFar (dir : Directory) (number : ℕ) (needed : List (List Alternative)) (all left : List Identity)
    (from now : List ℕ) : Type 0 where
  pub lines : List ℕ
  pub put : now ≡ from ++ lines
  pub told : (rest : List ℕ) → AreWhoLines dir number needed left rest
      → AreWhoLines dir number needed all (lines ++ rest)

-- the line of one identity
abbrev pub IsLine : Directory → ℕ → List (List Alternative) → Identity → List ℕ → List ℕ → Type 0
IsLine dir number needed identity now next = (token : Option Token) × IsTokenIf dir identity token
    × (next ≡ now ++ who_line dir number needed identity token)

more : (dir : Directory) (number : ℕ) (needed : List (List Alternative)) (all left others : List Identity)
    (from now next : List ℕ) (identity : Identity) → left ≡ identity ∷ others
    → IsLine dir number needed identity now next
    → SoFar dir number needed all left from now → SoFar dir number needed all others from next
more dir number needed all left others from now next identity are (token, is, put) so =
    let line = who_line dir number needed identity token in
    record {
      lines = so.lines ++ line;
      put = two_put from now next so.lines line so.put put;
      told = λ rest others_are. subst (AreWhoLines dir number needed all) (sym (append_assoc so.lines line rest))
          (so.told (line ++ rest)
          (subst (λ (ids : List Identity). AreWhoLines dir number needed ids (line ++ rest)) (sym are)
          (token, rest, is, refl, others_are)));
    }

pub one_more : (dir : Directory) (number : ℕ) (needed : List (List Alternative)) (all : List Identity) (i : ℕ)
    (identity : Identity) (from now next : List ℕ) → i < length all → identity ≡ slice_index_or all i identity
    → IsLine dir number needed identity now next
    → SoFar dir number needed all (drop i all) from now → SoFar dir number needed all (drop (i + 1) all) from next
one_more dir number needed all i identity from now next lt is line so =
    more dir number needed all (drop i all) (drop (i + 1) all) from now next identity
    (at_drop_more (λ (l : List Identity). l) all i identity lt
    ∙ ap (λ (x : Identity). x ∷ drop (i + 1) all) (sym is)) line so

pub all_told : (dir : Directory) (number : ℕ) (needed : List (List Alternative)) (all left : List Identity)
    (from now : List ℕ) → left ≡ [] → SoFar dir number needed all left from now
    → (lines : List ℕ) × (now ≡ from ++ lines) × AreWhoLines dir number needed all lines
all_told dir number needed all left from now none so = (
  so.lines,
  so.put,
  subst (AreWhoLines dir number needed all) (append-nil so.lines)
      (so.told [] (subst (λ (ids : List Identity). AreWhoLines dir number needed ids []) (sym none) refl)),
)

-- the same lines of what is the same
pub same_lines : (dir : Directory) (number : ℕ) (needed other : List (List Alternative)) (all them : List Identity)
    (text line : List ℕ) → needed ≡ other → all ≡ them → line ≡ text → AreWhoLines dir number needed all text
    → AreWhoLines dir number other them line
same_lines dir number needed other all them text line is are same lines =
    subst (AreWhoLines dir number other them) (sym same)
    (subst (λ (ids : List Identity). AreWhoLines dir number other ids text) are
    (subst (λ (n : List (List Alternative)). AreWhoLines dir number n all text) is lines))
