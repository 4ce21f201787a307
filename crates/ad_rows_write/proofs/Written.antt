-- The rows of parts, as they are written one after the other.
use Rattle.std.proofs.Common.{◌≡◌, ◌∙◌, ℕ, List, [], ◌∷◌, ◌++◌, length, map, sym, ap, subst, arith}
use Rattle.std.proofs.lemmas.List.{append-nil, append_assoc, map-append}
use Rattle.ad_sd.specs.declared.parts.Sd.{Sd}
use Rattle.ad_dir_objects.specs.declared.object.Object.{Object as ObjectIn}
use Rattle.ad_dir_objects.specs.Seen.{object_seen, objects_of}
use Rattle.ad_dir_model.specs.Object.{Object}
use Rattle.ad_dir_model.specs.Objects.{Rise, numbers}
use Rattle.row_store.specs.declared.row.Row.{Row}
use Rattle.ad_rows_write.specs.Body.{SpellsObject}
use Rattle.ad_rows_write.specs.Listing.{Adds, AreRowsAt, IsRowAt, numbered, objects_at}
use Rattle.ad_rows_write.proofs.Again.{pairs_are}
use Rattle.ad_rows_write.proofs.InOrder.{adds_push, adds_none}

-- the rows of those that come before these are written
pub record AreWritten (all left : List (ObjectIn × Sd)) (old new : List Row) : Type 0 where
  pub done : List Object
  pub are : done ++ objects_of left ≡ objects_of all
  pub rows : Adds (AreRowsAt 1 SpellsObject (map numbered done)) old new

pub none_written : (all left : List (ObjectIn × Sd)) (old : List Row) → left ≡ all → AreWritten all left old old
none_written all left old is = record { done = []; are = ap objects_of is; rows = adds_none 1 SpellsObject old }

pub one_written : (all left rest : List (ObjectIn × Sd)) (o : ObjectIn) (sd : Sd) (old mid new : List Row) (row : Row)
    → left ≡ (o, sd) ∷ rest → AreWritten all left old mid
    → IsRowAt 1 SpellsObject (numbered (object_seen o sd)) row → new ≡ mid ++ row ∷ [] → AreWritten all rest old new
one_written all left rest o sd old mid new row step so_far is put =
    let seen : Object = object_seen o sd in
    record {
      done = so_far.done ++ seen ∷ [];
      are = append_assoc so_far.done (seen ∷ []) (objects_of rest)
          ∙ ap (λ (l : List (ObjectIn × Sd)). so_far.done ++ objects_of l) (sym step) ∙ so_far.are;
      rows = adds_push 1 SpellsObject (map numbered so_far.done) (map numbered (so_far.done ++ seen ∷ []))
          (numbered seen) old mid new row (sym (map-append numbered so_far.done (seen ∷ []))) so_far.rows is put;
    }

pub all_written : (all left : List (ObjectIn × Sd)) (old new : List Row) → length left ≡ 0 → AreWritten all left old
    new → Adds (AreRowsAt 1 SpellsObject (map numbered (objects_of all))) old new
all_written all [] old new none so_far = subst
    (λ (os : List Object). Adds (AreRowsAt 1 SpellsObject (map numbered os)) old new)
    (sym (append-nil so_far.done) ∙ so_far.are) so_far.rows
all_written all (x ∷ xs) old new none so_far = absurd (omega (arith, none))

-- the same by their numbers
pub put_by_number : (os : List Object) (old new : List Row) → Rise os
    → Adds (AreRowsAt 1 SpellsObject (map numbered os)) old new
    → Adds (AreRowsAt 1 SpellsObject (objects_at os (numbers os))) old new
put_by_number os old new rise put = subst (λ (pairs : List (ℕ × Object)). Adds (AreRowsAt 1 SpellsObject pairs) old
    new) (sym (pairs_are os rise)) put
