-- The edits of objects that are put or written.
use Rattle.std.proofs.Common.{◌≡◌, ℕ, Bool, true, false, not, List, [], ◌∷◌, ◌++◌, map, refl, sym, subst, ap, ◌∙◌}
use Rattle.std.specs.Prelude.{if◌then◌else◌}
use Rattle.std.specs.List.{AllByRecursion}
use Rattle.std.specs.Global.{Vec}
use Rattle.prop_queue.specs.declared.pending.Pending.{Pending}
use Rattle.prop_queue.specs.Pending.{marked}
use Rattle.ad_sd.specs.declared.parts.Sd.{Sd}
use Rattle.ad_sd.specs.Normal.{SpellsNormal}
use Rattle.ad_sd.specs.SdIn.{sd_in}
use Rattle.ad_sd.proofs.NormalReader.{spelled_in}
use Rattle.ad_dir_objects.specs.declared.edit.Edit.{Edit as EditIn}
use Rattle.ad_dir_objects.specs.declared.edit.Edit.TheVariants as edit
use Rattle.ad_dir_objects.specs.declared.object.Object.{Object as ObjectIn}
use Rattle.ad_dir.specs.Conditions.{HasNormal, AreEdits}
use Rattle.ad_dir_objects.specs.Seen.{object_seen, edit_seen}
use Rattle.ad_dir_model.specs.Object.{Object}
use Rattle.ad_dir_model.specs.Objects.{sd_at}
use Rattle.ad_dir_model.specs.Directory.{Directory, put_object, put_queue}
use Rattle.ad_dir_model.specs.Inheritance.{whole_at, settled, marked_if_changed}
use Rattle.ad_dir_model.specs.SameSd.{same_sd}
use Rattle.ad_dir_model.specs.Edits.{change_edits, write_edits}

is_normal : (sd : Sd) (bytes : List ℕ) → SpellsNormal sd bytes → SpellsNormal (sd_in bytes) bytes
is_normal sd bytes spelled = subst (λ (x : Sd). SpellsNormal x bytes) (sym (spelled_in bytes sd spelled)) spelled

pub put_made : (items : List EditIn) (o : ObjectIn) (bytes : Vec ℕ) (sd : Sd) → items ≡ [] ++ edit.PutObject o bytes
    ∷ []
    → SpellsNormal sd bytes.items → AreEdits (change_edits (object_seen o sd)) items
put_made items o bytes sd parts spelled = record {
  are = ap (map edit_seen) parts ∙ ap (λ (x : Sd). put_object (object_seen o x) ∷ [])
      (spelled_in bytes.items sd spelled);
  normal = subst (AllByRecursion HasNormal) (sym parts) (is_normal sd bytes.items spelled, tt);
}

-- the list is marked as the rule says
marked_by : (before : Sd) (o : Object) (b : Bool) (ps : List Pending) → b ≡ not (same_sd before o.sd)
    → (if b then marked o.number ps else ps) ≡ marked_if_changed before o ps
unfolding marked_if_changed
marked_by before o b ps is = ap (λ (t : Bool). if t then marked o.number ps else ps) is ∙ by_test (same_sd before o.sd)
  where
    by_test : (t : Bool) → (if not t then marked o.number ps else ps) ≡ (if t then ps else marked o.number ps)
    by_test true = refl
    by_test false = refl

pub write_made : (dir : Directory) (items : List EditIn) (o : ObjectIn) (own : Sd) (bytes : Vec ℕ)
    (entries : Vec Pending) (b : Bool)
    → items ≡ ([] ++ edit.PutObject o bytes ∷ []) ++ edit.PutQueue entries ∷ []
    → SpellsNormal (whole_at dir (object_seen o own)) bytes.items
    → b ≡ not (same_sd (sd_at dir.objects o.number) (whole_at dir (object_seen o own)))
    → entries.items ≡ (if b then marked o.number dir.pending else dir.pending)
    → AreEdits (write_edits dir (object_seen o own)) items
write_made dir items o own bytes entries b parts spelled changed queue = record {
  are = ap (map edit_seen) parts
      ∙ ap (λ (x : Sd). put_object (object_seen o x) ∷ put_queue entries.items ∷ [])
      (spelled_in bytes.items (whole_at dir (object_seen o own)) spelled)
      ∙ ap (λ (ps : List Pending). put_object (settled dir (object_seen o own)) ∷ put_queue ps ∷ [])
      (queue ∙ marked_by (sd_at dir.objects o.number) (settled dir (object_seen o own)) b dir.pending changed);
  normal = subst (AllByRecursion HasNormal) (sym parts)
      (is_normal (whole_at dir (object_seen o own)) bytes.items spelled, (tt, tt));
}
