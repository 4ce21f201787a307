-- What is known of edits that are committed, and of a call that touches nothing.
use Rattle.std.proofs.Common.{◌≡◌, ◌∙◌, true, false, List, [], ◌∷◌, length, map, Some, None, refl, sym, ap, subst}
use Rattle.std.proofs.Common.{arith}
use Rattle.std.specs.Prelude.{nat_eq, Option}
use Rattle.std.specs.Option.{IfSome}
use Rattle.std.proofs.lemmas.Bool.{eqb-true, true≢false}
use Rattle.site_io.specs.Disk.{Images}
use Rattle.site_io.specs.declared.site.Site.{Ghosts}
use Rattle.row_store.specs.declared.row.Row.{Row}
use Rattle.ad_dir_objects.specs.declared.edit.Edit.{Edit}
use Rattle.ad_dir_objects.specs.Seen.{edit_seen}
use Rattle.ad_dir_model.specs.Directory.{Directory, all_edited}
use Rattle.ad_rows_write.specs.Batch.{AreRowsOfEdits}
use Rattle.ad_engine_store.specs.Serving.{AllLeave, LastsOn}
use Rattle.ad_engine_store.specs.Stepping.{made_by, Makes}

-- ---- crashes after a call that touches nothing

pub lasts_still : {S : Type 0} (site : Ghosts S) (dir : Directory) (x : S) → LastsOn site dir dir x x
lasts_still site dir x = by_told (site.reads x)
  where
    by_told : (r : Option Images) → IfSome r (λ held. AllLeave site dir x → AllLeave site dir x)
    by_told None = tt
    by_told (Some held) = λ all. all

-- ---- edits that were made and noted

pub rows_kept : (made edits : List Edit) (old new : Directory) (rows noted : List Row) → made ≡ edits
    → Makes (map edit_seen made) old new rows noted
    → AreRowsOfEdits [] rows → AreRowsOfEdits (map edit_seen edits) noted
rows_kept made edits old new rows noted same makes none
    = subst (λ (es : List Edit). AreRowsOfEdits (map edit_seen es) noted) same (makes.rows_of [] none)

pub dir_kept : (made edits : List Edit) (old new : Directory) (rows noted : List Row) → made ≡ edits
    → Makes (map edit_seen made) old new rows noted
    → made_by edits old ≡ new
dir_kept made edits old new rows noted same makes = ap (λ (es : List Edit). made_by es old) (sym same) ∙ makes.made

-- ---- edits of which there may be none

pub none_made : (edits : List Edit) (dir : Directory) → edits ≡ [] → made_by edits dir ≡ dir
unfolding all_edited
none_made edits dir is = ap (λ (es : List Edit). made_by es dir) is

pub is_empty : (edits : List Edit) → nat_eq (length edits) 0 ≡ true → edits ≡ []
is_empty [] none = refl
is_empty (edit ∷ edits) none = absurd (omega (arith, eqb-true (length (edit ∷ edits)) 0 none))

pub is_full : (edits : List Edit) → nat_eq (length edits) 0 ≡ false → edits ≡ [] → ⊥
is_full edits some is = true≢false (sym (ap (λ (es : List Edit). nat_eq (length es) 0) is) ∙ some)
