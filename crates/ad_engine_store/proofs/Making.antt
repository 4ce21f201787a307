-- Edits that are made one after the other, and steps.
use Rattle.std.proofs.Common.{◌≡◌, ◌∙◌, ℕ, zero, suc, ◌<◌, List, [], ◌∷◌, ◌++◌, map, refl, sym, ap, subst, arith}
use Rattle.std.proofs.Common.{⊎_elim}
use Rattle.std.proofs.lemmas.List.{append-nil, append_assoc, map-append}
use Rattle.std.proofs.lemmas.Bool.{cases_lt}
use Rattle.row_store.specs.declared.row.Row.{Row}
use Rattle.ad_dir_objects.specs.declared.edit.Edit.{Edit as EditIn}
use Rattle.ad_dir.specs.Applying.{MayApplyAll}
use Rattle.ad_dir_objects.specs.Seen.{edit_seen}
use Rattle.prop_queue.specs.declared.pending.Pending.{Pending}
use Rattle.ad_dir_model.specs.Directory.{Directory, Edit, put_queue, with_pending, edited, all_edited}
use Rattle.ad_dir_model.specs.Soundness.{IsSound}
use Rattle.ad_dir_model.specs.Steps.{step, steps}
use Rattle.ad_dir_model.proofs.EditLaws.{edited_append}
use Rattle.ad_dir_model.proofs.StepSound.{step_sound}
use Rattle.ad_rows_write.specs.Batch.{AreRowsOfEdits}
use Rattle.ad_dir.specs.Conditions.{MayPend}
use Rattle.ad_prop.specs.Step.{TakesTurn, turn_edits}
use Rattle.ad_prop.specs.declared.turning.Turn.{Turn}
use Rattle.ad_engine_store.specs.Stepping.{Makes, MakesSteps, MakesBeside, IsMaking}

edited_push : (edits : List Edit) (edit : Edit) (dir : Directory) → all_edited (edits ++ edit ∷ []) dir
    ≡ edited edit (all_edited edits dir)
unfolding all_edited
edited_push edits edit dir = edited_append edits (edit ∷ []) dir

pub makes_none : (dir : Directory) (rows : List Row) → Makes [] dir dir rows rows
unfolding all_edited
makes_none dir rows = record {
  made = refl;
  rows_of = λ before are. subst (λ (es : List Edit). AreRowsOfEdits es rows)
      (sym (append-nil before)) are;
}

pub making_from : (edits : List EditIn) (dir : Directory) (rows : List Row) → MayApplyAll dir edits
    → IsMaking edits edits dir dir rows rows
making_from edits dir rows may = record { done = []; parts = refl; makes = makes_none dir rows; may = may }

pub making_more : (all rest after : List EditIn) (edit : EditIn) (old new next : Directory) (rows noted more : List Row)
    → IsMaking all rest old new rows noted → rest ≡ edit ∷ after → next ≡ edited (edit_seen edit) new
    → ((edits : List Edit) → AreRowsOfEdits edits noted → AreRowsOfEdits (edits ++ edit_seen edit ∷ []) more)
    → IsMaking all after old next rows more
making_more all rest after edit old new next rows noted more making is made notes =
    let seen : map edit_seen (making.done ++ edit ∷ []) ≡ map edit_seen making.done ++ edit_seen edit ∷ []
    = map-append edit_seen making.done (edit ∷ []) in
    let may : MayApplyAll new (edit ∷ after) = subst (MayApplyAll new) is making.may in
    record {
      done = making.done ++ edit ∷ [];
      parts = making.parts ∙ ap (λ (r : List EditIn). making.done ++ r) is
          ∙ sym (append_assoc making.done (edit ∷ []) after);
      makes = record {
        made = ap (λ (es : List Edit). all_edited es old) seen ∙ edited_push (map edit_seen making.done)
            (edit_seen edit) old ∙ ap
            (edited (edit_seen edit)) making.makes.made ∙ sym made;
        rows_of = λ before are. subst (λ (es : List Edit). AreRowsOfEdits es more)
            (append_assoc before (map edit_seen making.done) (edit_seen edit ∷ [])
            ∙ ap (λ (es : List Edit). before ++ es) (sym seen))
            (notes (before ++ map edit_seen making.done) (making.makes.rows_of before are));
      };
      may = subst (λ (d : Directory). MayApplyAll d after) (sym made) may.1;
    }

pub making_all : (all rest : List EditIn) (old new : Directory) (rows noted : List Row) → IsMaking all rest old new
    rows noted → rest ≡ []
    → Makes (map edit_seen all) old new rows noted
making_all all rest old new rows noted making is =
    subst (λ (es : List EditIn). Makes (map edit_seen es) old new rows noted)
    (sym (append-nil making.done) ∙ ap (λ (r : List EditIn). making.done ++ r) (sym is) ∙ sym making.parts) making.makes

makes_on : (first second : List Edit) (old mid new : Directory) (rows noted more : List Row)
    → Makes first old mid rows noted
    → Makes second mid new noted more → Makes (first ++ second) old new rows more
makes_on first second old mid new rows noted more one other = record {
  made = edited_append first second old ∙ ap (all_edited second) one.made ∙ other.made;
  rows_of = λ before are. subst (λ (es : List Edit). AreRowsOfEdits es more) (append_assoc before first second)
      (other.rows_of (before ++ first) (one.rows_of before are));
}

-- ---- steps

steps_push : (n : ℕ) (dir : Directory) → steps (suc n) dir ≡ step (steps n dir)
unfolding steps
steps_push zero dir = refl
steps_push (suc n) dir = steps_push n (step dir)

pub steps_from : (dir : Directory) (queue : List Pending) (rows : List Row) → IsSound (with_pending queue dir)
    → MakesBeside 0 queue queue dir dir rows rows
unfolding steps
steps_from dir queue rows sound = record {
  edits = [];
  makes = makes_none dir rows;
  stepped = refl;
  sound = sound;
  not_before = λ m less _. absurd
      (omega (arith, less));
}

pub steps_more : (n next : ℕ) (queue left after : List Pending) (old mid new : Directory) (rows noted more : List Row)
    (turn : Turn)
    → MakesBeside n queue left old mid rows noted → next ≡ suc n → TakesTurn mid left after turn
    → Makes (turn_edits mid turn) mid new noted more → MakesBeside next queue after old new rows more
steps_more n next queue left after old mid new rows noted more turn so_far one made makes =
    let stepped : with_pending after new ≡ step (with_pending left mid) = ap (λ (d : Directory). with_pending after d)
    (sym makes.made) ∙ made.make in
    subst (λ (k : ℕ). MakesBeside k queue after old new rows more) (sym one) (record {
      edits = so_far.edits ++ turn_edits mid turn;
      makes = makes_on so_far.edits (turn_edits mid turn) old mid new rows noted more so_far.makes makes;
      stepped = stepped ∙ ap step so_far.stepped ∙ sym (steps_push n (with_pending queue old));
      sound = subst IsSound (sym stepped) (step_sound (with_pending left mid) so_far.sound);
      not_before = λ m less empty. ⊎_elim (λ (lt : m < n). so_far.not_before m lt empty)
          (λ ge. let same : m ≡ n = omega (arith, less, ge) in
          made.pending (ap (λ (d : Directory). d.pending) so_far.stepped
          ∙ subst (λ (k : ℕ). (steps k (with_pending queue old)).pending ≡ []) same empty))
          (cases_lt m n);
    })

-- the list may be put
pub list_may : (n : ℕ) (queue left : List Pending) (old new : Directory) (rows noted : List Row)
    → MakesBeside n queue left old new rows noted → MayPend new left
list_may n queue left old new rows noted made = record { live = made.sound.live; distinct = made.sound.distinct }

queue_put : (queue : List Pending) (dir : Directory) → all_edited (put_queue queue ∷ []) dir ≡ with_pending queue dir
unfolding all_edited edited
queue_put queue dir = refl

-- one edit, made and noted
pub makes_one : (edit : Edit) (old new : Directory) (rows noted : List Row) → new ≡ edited edit old
    → ((edits : List Edit) → AreRowsOfEdits edits rows → AreRowsOfEdits (edits ++ edit ∷ []) noted)
    → Makes (edit ∷ []) old new rows noted
unfolding all_edited
makes_one edit old new rows noted made notes = record { made = sym made; rows_of = notes }

-- the list is put, after the steps that were made beside it
pub steps_kept : (n : ℕ) (queue left : List Pending) (old mid new : Directory) (rows noted more : List Row) → queue
    ≡ old.pending
    → MakesBeside n queue left old mid rows noted → Makes (put_queue left ∷ []) mid new noted more
    → MakesSteps n old new rows more
steps_kept n queue left old mid new rows noted more same made kept = record {
  edits = made.edits ++ put_queue left ∷ [];
  makes = makes_on made.edits (put_queue left ∷ []) old mid new rows noted more made.makes kept;
  stepped = is ∙ made.stepped ∙ ap (λ (ps : List Pending). steps n (with_pending ps old)) same;
  sound = subst IsSound (sym is) made.sound;
  not_before = λ m less empty. made.not_before m less
      (ap (λ (ps : List Pending). (steps m (with_pending ps old)).pending) same ∙ empty);
}
  where
    is : new ≡ with_pending left mid
    is = sym kept.made ∙ queue_put left mid

-- what is pending then is the list
pub list_kept : (left : List Pending) (mid new : Directory) (noted more : List Row) → Makes (put_queue left ∷ []) mid
    new noted more → new.pending ≡ left
list_kept left mid new noted more kept = ap (λ (d : Directory). d.pending) (sym kept.made ∙ queue_put left mid)
