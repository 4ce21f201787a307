-- The whole text, of principals and objects in groups.
use Rattle.std.proofs.Common.{◌≡◌, ◌∙◌, ◌<◌, ℕ, List, ◌++◌, length, map, refl, sym, ap, subst}
use Rattle.std.specs.Prelude.{All}
use Rattle.std.proofs.lemmas.List.{get_or-map, length-map}
use Rattle.std.proofs.lemmas.List.Elements.{All-filter}
use Rattle.ad_dir_model.specs.Directory.{Directory}
use Rattle.ad_both.specs.declared.both.Both.{Both}
use Rattle.ad_diff_rights.specs.declared.unchanged.Sides.{Sides}
use Rattle.ad_diff_rights.specs.declared.tokens.Party.{Party}
use Rattle.ad_both.specs.Both.{objects_of_both, IsLiveBoth}
use Rattle.ad_diff_rights.specs.Both.{are_principals, principals_of_both}
use Rattle.ad_causes.specs.Cause.{causes_text}
use Rattle.ad_causes.specs.Causes.{causes}
use Rattle.ad_diff_rights.specs.Parties.{IsParty}
use Rattle.ad_diff.specs.declared.numbering.Grouped.{Grouped}
use Rattle.ad_diff.specs.declared.bases.Frame.{Frame}
use Rattle.ad_diff.specs.declared.columns.Column.{Column}
use Rattle.ad_diff.specs.Text.{members, row_text, table_text, blocks_text, IsDiffText}
use Rattle.ad_diff.specs.Frames.{lines_at}
use Rattle.ad_diff.specs.Table.{ArePlaced, row_of, table_of, AreRows, AreNumbered}
use Rattle.ad_diff.proofs.Exact.{exact_all, none_of_objects, none_of_principals}
use Rattle.ad_diff.proofs.Used.{cells_of_members}

table_is : (frame : Frame) (columns : List Column) (leaders : List ℕ)
    → table_text 1 (map (λ (column : Column). row_of leaders (lines_at frame column)) columns)
    ≡ table_text 0 (table_of frame columns leaders)
unfolding table_text row_text
table_is frame columns leaders = refl

pub whole : (sides : Sides) (frame : Frame) (columns : List Column) (objects groups : List Grouped)
    (leaders : List ℕ) (text : List ℕ)
    → map (λ (party : Party). party.both) sides.parties.now ≡ members groups
    → All (IsParty sides.before.now sides.after.now) sides.parties.now
    → ArePlaced sides frame columns objects → AreRows frame columns leaders groups
    → AreNumbered (length columns) objects → AreNumbered (length leaders) groups
    → members groups ≡ principals_of_both sides.before.now sides.after.now
    → members objects ≡ objects_of_both sides.before.now sides.after.now
    → text ≡ causes_text (causes sides.before.now sides.after.now)
    ++ blocks_text sides.after.now groups objects
    (table_text 1 (map (λ (column : Column). row_of leaders (lines_at frame column)) columns))
    → IsDiffText sides.before.now sides.after.now text
whole sides frame columns objects groups leaders text same are placed rows things they they_are things_are is =
    let before = sides.before.now in
    let after = sides.after.now in
    record {
      principals = groups;
      objects = objects;
      table = table_of frame columns leaders;
      are_principals = they_are;
      are_objects = things_are;
      numbered_principals = they.fit;
      numbered_objects = things.fit;
      exact = exact_all sides frame columns objects groups leaders same are placed rows;
      unlisted_objects = λ k. none_of_objects frame columns leaders k;
      unlisted_principals = λ l. none_of_principals frame columns leaders l;
      of_members = λ l k. cells_of_members frame columns leaders objects groups things.used they.used l k;
      lines = is ∙ ap (λ (t : List ℕ). causes_text (causes before after) ++ blocks_text after groups objects t)
          (table_is frame columns leaders);
    }

-- ---- those of both are live, and principals

pub all_members : (P : Both → Type 0) (gs : List Grouped) → All P (members gs) → All (λ (g : Grouped). P g.both) gs
all_members P gs all i d lt = subst P (get_or-map (λ (g : Grouped). g.both) gs i d d.both lt)
    (all i d.both (subst (λ (n : ℕ). i < n) (sym (length-map gs (λ (g : Grouped). g.both))) lt))

pub members_live : (before after : Directory) (objects principals : List Both) (gs : List Grouped)
    → objects ≡ objects_of_both before after → All (IsLiveBoth before after) objects
    → principals ≡ principals_of_both before after → members gs ≡ principals
    → All (λ (g : Grouped). IsLiveBoth before after g.both) gs
members_live before after objects principals gs things_are live they_are of_them =
    all_members (IsLiveBoth before after) gs
    (subst (All (IsLiveBoth before after)) (sym (of_them ∙ they_are))
    (All-filter (are_principals before after) (IsLiveBoth before after) (objects_of_both before after)
    (subst (All (IsLiveBoth before after)) things_are live)))

pub placed_live : (before after : Directory) (objects : List Both) (gs : List Grouped)
    → All (IsLiveBoth before after) objects → members gs ≡ objects
    → All (λ (g : Grouped). IsLiveBoth before after g.both) gs
placed_live before after objects gs live of_them =
    all_members (IsLiveBoth before after) gs (subst (All (IsLiveBoth before after)) (sym of_them) live)
