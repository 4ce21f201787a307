-- One line more of a change record, and one record more.
use Rattle.std.proofs.Common.{◌≡◌, ℕ, true, false, List, [], ◌∷◌, ◌++◌, Option, Some, None, Result, Ok, Err, refl}
use Rattle.std.proofs.Common.{sym, ap, ◌∙◌, append_assoc}
use Rattle.std.specs.Prelude.{codes}
use Rattle.std.proofs.lemmas.List.{append-nil}
use Rattle.ad_bytes.specs.Reading.{◌>>=◌}
use Rattle.ad_ldif.specs.declared.change.LdifControl.{LdifControl}
use Rattle.ad_ldif.specs.declared.change.LdifItem.{LdifItem}
use Rattle.ad_ldif.specs.declared.change_lines.ChangeType.{ChangeType}
use Rattle.ad_ldif.specs.declared.change_lines.Opening.TheVariants as opening
use Rattle.ad_ldif.specs.declared.fault.LdifFault.{LdifFault}
use Rattle.ad_ldif.specs.declared.fault.LdifFault.TheVariants as faults
use Rattle.ad_ldif.specs.declared.fault.LdifKind.TheVariants as kind
use Rattle.ad_ldif.specs.Lines.{Line, Block}
use Rattle.ad_ldif.specs.Records.{Field, Fault, fault, fields_behind}
use Rattle.ad_ldif.specs.Change.{Renames, Change}
use Rattle.ad_ldif.specs.ChangeLines.{opening_at, value_in, flag_in, item_at, ends_item}
use Rattle.ad_ldif.specs.Changing.{opened_behind, first_field, added, Led, next_of, superior_of, renamed, Begun}
use Rattle.ad_ldif.specs.Changing.{with_value, items_from, item_and, items_behind, change_of}
use Rattle.ad_ldif.specs.Changes.{Changes, no_changes, changed, changes_in, TellsChange}
use Rattle.ad_ldif.specs.Story.{Fails}
use Rattle.ad_ldif.proofs.ResultLemmas.{fails_first}

-- ---- up to the kind of change

pub one_control : (controls : List LdifControl) (n : ℕ) (lines others : List Line) (line : Line) (c : LdifControl)
    → lines ≡ line ∷ others → opening_at line ≡ Ok (opening.Control c)
    → opened_behind controls n lines ≡ opened_behind (controls ++ c ∷ []) line.number others
unfolding opened_behind
one_control controls n lines others line c is read = rw (is, read) refl

pub the_type : (controls : List LdifControl) (n : ℕ) (lines others : List Line) (line : Line) (t : ChangeType) → lines
    ≡ line ∷ others → opening_at line ≡ Ok (opening.Type t)
    → opened_behind controls n lines ≡ Ok
    (record { controls = controls; type = t; line = line.number; others = others })
unfolding opened_behind
the_type controls n lines others line t is read = rw (is, read) refl

pub bad_line : (controls : List LdifControl) (n : ℕ) (lines others : List Line) (line : Line) (e : LdifFault) → lines
    ≡ line ∷ others → Fails e (opening_at line) → Fails e (opened_behind controls n lines)
unfolding opened_behind
bad_line controls n lines others line e is h = rw is (fails_first e _ _ h)

pub no_kind : (controls : List LdifControl) (n : ℕ) (lines : List Line) → lines ≡ [] → opened_behind controls n lines
    ≡ Err (fault n kind.ChangeType)
unfolding opened_behind
no_kind controls n lines is = rw is refl

-- ---- a new object

pub none_added : (n : ℕ) (lines : List Line) → lines ≡ [] → added n lines ≡ Err (fault n kind.Line)
unfolding added
none_added n lines is = rw is refl

pub some_added : (n : ℕ) (lines others : List Line) (line : Line) (front : List Field) → lines ≡ line ∷ others
    → first_field line ≡ Ok front → added n lines ≡ fields_behind front others
unfolding added
some_added n lines others line front is read = rw (is, read) refl

pub bad_added : (n : ℕ) (lines others : List Line) (line : Line) (e : LdifFault) → lines ≡ line ∷ others
    → Fails e (first_field line) → Fails e (added n lines)
unfolding added
bad_added n lines others line e is h = rw is (fails_first e _ _ h)

-- ---- a new name

pub renamed_by : (n : ℕ) (lines : List Line) (rdn : Led (List ℕ)) (old : Led _) → next_of (value_in (codes "newrdn"))
    n lines ≡ Ok rdn → next_of (flag_in (codes "deleteoldrdn")) rdn.line rdn.others ≡ Ok old
    → renamed n lines ≡ (superior_of old.others >>= λ superior. Ok (Renames rdn.value old.value superior))
unfolding renamed
renamed_by n lines rdn old first second = rw (first, second) refl

-- ---- items

pub no_item : (front : List LdifItem) (lines : List Line) → lines ≡ [] → items_behind front lines ≡ Ok front
unfolding items_behind items_from
no_item front lines is = rw is (ap Ok (append-nil front))

regroup : (front : List LdifItem) (x : LdifItem) (read : Result (List LdifItem) Fault)
    → (item_and x read >>= λ items. Ok (front ++ items)) ≡ (read >>= λ items. Ok ((front ++ x ∷ []) ++ items))
regroup front x (Ok items) = ap Ok (sym (append_assoc front (x ∷ []) items))
regroup front x (Err e) = refl

pub one_item : (front : List LdifItem) (lines others after : List Line) (line : Line) (item done : LdifItem) → lines
    ≡ line ∷ others → item_at line ≡ Ok item
    → items_from (Some (record { item = item; line = line.number })) others ≡ item_and done (items_from None after)
    → items_behind front lines ≡ items_behind (front ++ done ∷ []) after
unfolding items_behind items_from
one_item front lines others after line item done is read values
    = rw (is, read, values) (regroup front done (items_from None after))

pub bad_item : (front : List LdifItem) (lines others : List Line) (line : Line) (e : LdifFault) → lines ≡ line
    ∷ others → Fails e (item_at line) → Fails e (items_behind front lines)
unfolding items_behind items_from
bad_item front lines others line e is h = rw is (fails_first e _ _ (fails_first e _ _ h))

pub bad_values : (front : List LdifItem) (lines others : List Line) (line : Line) (item : LdifItem) (e : LdifFault)
    → lines ≡ line ∷ others → item_at line ≡ Ok item
    → Fails e (items_from (Some (record { item = item; line = line.number })) others)
    → Fails e (items_behind front lines)
unfolding items_behind items_from
bad_values front lines others line item e is read h = rw (is, read) (fails_first e _ _ h)

pub item_ends : (begun : Begun) (lines others : List Line) (line : Line) → lines ≡ line ∷ others → ends_item line
    ≡ true → items_from (Some begun) lines ≡ item_and begun.item (items_from None others)
unfolding items_from
item_ends begun lines others line is ends = rw (is, ends) refl

pub one_value : (begun : Begun) (lines others : List Line) (line : Line) (value : List ℕ) → lines ≡ line ∷ others
    → ends_item line ≡ false → value_in begun.item.name line ≡ Ok value
    → items_from (Some begun) lines ≡ items_from
    (Some (record { item = with_value begun.item value; line = line.number })) others
unfolding items_from
one_value begun lines others line value is goes read = rw (is, goes, read) refl

pub bad_value : (begun : Begun) (lines others : List Line) (line : Line) (e : LdifFault) → lines ≡ line ∷ others
    → ends_item line ≡ false → Fails e (value_in begun.item.name line) → Fails e (items_from (Some begun) lines)
unfolding items_from
bad_value begun lines others line e is goes h = rw (is, goes) (fails_first e _ _ h)

pub no_end : (begun : Begun) (lines : List Line) → lines ≡ [] → items_from (Some begun) lines
    ≡ Err (fault begun.line kind.Line)
unfolding items_from
no_end begun lines is = rw is refl

-- ---- records

pub none_told : (blocks : List Block) → blocks ≡ [] → changes_in blocks ≡ no_changes
unfolding changes_in
none_told blocks is = rw is refl

pub change_told : (blocks others after : List Block) (block : Block) (c : Change) → blocks ≡ block ∷ others
    → change_of block ≡ Ok c → others ≡ after → changes_in blocks ≡ changed (Ok c) (changes_in after)
unfolding changes_in
change_told blocks others after block c is read left = rw (is, read, left) refl

pub bad_change : (blocks others : List Block) (block : Block) (e : LdifFault) (after : Changes) → blocks ≡ block
    ∷ others → Fails e (change_of block) → TellsChange (changes_in blocks) (Err e) after
unfolding changes_in
bad_change blocks others block faults.Memory after is h = tt
bad_change blocks others block (faults.Bad n k) after is h = rw (is, h) refl

changed_some : (read : Result Change Fault) (others : Changes) → changed read others ≡ no_changes → ⊥
changed_some (Ok c) others e = let all : c ∷ others.changes ≡ [] = ap (λ (s : Changes). s.changes) e in cc
changed_some (Err f) others e = let stop : Some f ≡ None = ap (λ (s : Changes). s.stop) e in cc

-- where nothing is to be told there is no record
pub none_left : (blocks : List Block) → changes_in blocks ≡ no_changes → blocks ≡ []
unfolding changes_in
none_left [] e = refl
none_left (block ∷ blocks) e = absurd (changed_some (change_of block) (changes_in blocks) e)
