-- What the lines of groups say is what principals gain and lose.
use Rattle.std.proofs.Common.{◌≡◌, ◌∙◌, ◌<◌, ℕ, zero, suc, List, [], ◌∷◌, length, map, get_or, refl, sym, ap, subst}
use Rattle.std.proofs.Common.{Option, Some, None, arith}
use Rattle.std.specs.Prelude.{All, slice_get}
use Rattle.std.specs.Option.{option_map, option_map_or}
use Rattle.std.proofs.lemmas.Option.{slice_get-map, same_Some, none-some, slice_get-get_or}
use Rattle.ad_both.specs.declared.both.Both.{Both}
use Rattle.ad_diff_rights.specs.declared.unchanged.Sides.{Sides}
use Rattle.ad_diff_rights.specs.declared.tokens.Party.{Party}
use Rattle.ad_diff_rights.specs.Changes.{Differs}
use Rattle.ad_diff_rights.specs.Parties.{IsParty}
use Rattle.ad_diff_rights.proofs.Owned.{changes_own}
use Rattle.ad_diff.specs.declared.numbering.Grouped.{Grouped}
use Rattle.ad_diff.specs.declared.bases.Frame.{Frame}
use Rattle.ad_diff.specs.declared.columns.Column.{Column}
use Rattle.ad_diff.specs.Text.{members, cell}
use Rattle.ad_diff.specs.Frames.{lines_at, group_lines}
use Rattle.ad_diff.specs.Table.{IsPlaced, ArePlaced, row_of, table_of, IsRow, AreRows}
use Rattle.ad_diff.proofs.Lists.{all_at, mapped_at, there_at}

of_some : {A B : Type 0} (f : A → B) (found : Option A) (y : B) → option_map f found ≡ Some y
    → (x : A) × (found ≡ Some x) × (f x ≡ y)
of_some f None y is = absurd (none-some y is)
of_some f (Some x) y is = (x, refl, same_Some (f x) y is)

-- ---- cells

-- the lines of a principal in a group of objects are those of its group
group_cell : (frame : Frame) (columns : List Column) (leaders : List ℕ) (l i k : ℕ) → l < suc (length columns)
    → IsRow frame columns leaders i k → cell (table_of frame columns leaders) l k ≡ group_lines frame columns l i
unfolding cell
group_cell frame columns leaders zero i k lt is = refl
group_cell frame columns leaders (suc n) i k lt is =
    let found = there_at columns n (omega (arith, lt)) in
    let column = found.0 in
    let lines = λ (c : Column). row_of leaders (lines_at frame c) in
    ap (λ (row : List (List ℕ)). get_or row k []) (mapped_at lines columns n column [] found.1)
    ∙ sym (all_at (λ (c : Column). lines_at frame c i ≡ get_or (lines c) k []) columns n column is.lines found.1)
    ∙ sym (ap (λ (o : Option Column). option_map_or (λ (c : Column). lines_at frame c i) o []) found.1)

-- ---- all

module _ (sides : Sides) (frame : Frame) (columns : List Column) (objects groups : List Grouped) (leaders : List ℕ)
  where
    exact_at : map (λ (party : Party). party.both) sides.parties.now ≡ members groups
        → All (IsParty sides.before.now sides.after.now) sides.parties.now
        → ArePlaced sides frame columns objects → AreRows frame columns leaders groups
        → (i j : ℕ) (g o : Grouped) → slice_get groups i ≡ Some g → slice_get objects j ≡ Some o
        → Differs sides.before.now sides.after.now g.both o.both
        (cell (table_of frame columns leaders) o.group g.group)
    exact_at same are placed rows i j g o g_there o_there =
        let before = sides.before.now in
        let after = sides.after.now in
        let parties = sides.parties.now in
        let own = of_some (λ (party : Party). party.both) (slice_get parties i) g.both
        (sym (slice_get-map (λ (party : Party). party.both) parties i)
        ∙ ap (λ (all : List Both). slice_get all i) same
        ∙ slice_get-map (λ (h : Grouped). h.both) groups i
        ∙ ap (option_map (λ (h : Grouped). h.both)) g_there) in
        let party : Party = own.0 in
        let is_party : IsParty before after party = all_at (IsParty before after) parties i party are own.1 in
        let placed_o : IsPlaced sides frame columns o =
        all_at (IsPlaced sides frame columns) objects j o placed o_there in
        let row : IsRow frame columns leaders i g.group = rows i g g_there in
        subst (λ (b : Both). Differs before after b o.both (cell (table_of frame columns leaders) o.group g.group))
        own.2
        (record {
          was = party.was;
          is = party.is;
          was_token = is_party.was;
          is_token = is_party.is;
          lines_are =
              group_cell frame columns leaders o.group i g.group placed_o.within row
              ∙ placed_o.lines i party own.1
              ∙ changes_own before after party.was party.is o.both;
        })

    pub exact_all : map (λ (party : Party). party.both) sides.parties.now ≡ members groups
        → All (IsParty sides.before.now sides.after.now) sides.parties.now
        → ArePlaced sides frame columns objects → AreRows frame columns leaders groups
        → All (λ (p : Grouped). All (λ (o : Grouped). Differs sides.before.now sides.after.now p.both o.both
        (cell (table_of frame columns leaders) o.group p.group)) objects) groups
    exact_all same are placed rows i d lt j e less =
        exact_at same are placed rows i j (get_or groups i d) (get_or objects j e) (slice_get-get_or groups i d lt)
        (slice_get-get_or objects j e less)

-- who is in group 0, and what is, has no lines
pub none_of_objects : (frame : Frame) (columns : List Column) (leaders : List ℕ) (k : ℕ)
    → cell (table_of frame columns leaders) 0 k ≡ []
unfolding cell
none_of_objects frame columns leaders k = refl

none_in : (frame : Frame) (columns : List Column) (leaders : List ℕ) (l : ℕ)
    → get_or (get_or (map (λ (column : Column). row_of leaders (lines_at frame column)) columns) l []) 0 [] ≡ []
none_in frame [] leaders l = refl
none_in frame (column ∷ columns) leaders zero = refl
none_in frame (column ∷ columns) leaders (suc l) = none_in frame columns leaders l

pub none_of_principals : (frame : Frame) (columns : List Column) (leaders : List ℕ) (l : ℕ)
    → cell (table_of frame columns leaders) l 0 ≡ []
unfolding cell
none_of_principals frame columns leaders zero = refl
none_of_principals frame columns leaders (suc l) = none_in frame columns leaders l
