-- The edits of an object that is put in the place of the one of its number may be applied.
use Rattle.std.proofs.Common.{◌≡◌, ◌≢◌, ℕ, zero, suc, ◌<◌, ◌≤◌, true, inl, inr, refl, sym, subst, ap, ◌∙◌, arith}
use Rattle.std.specs.Prelude.{nat_eq}
use Rattle.std.proofs.lemmas.Bool.{cases_Bool, eqb-true, eqb-false}
use Rattle.ad_sd.specs.declared.parts.Sd.{Sd}
use Rattle.ad_dir.specs.Conditions.{MayPut, MayPend}
use Rattle.ad_dir.proofs.AllMay.{MayAll}
use Rattle.ad_dir_model.specs.Limits.{max_counter}
use Rattle.ad_dir_model.specs.Object.{Object, links_in}
use Rattle.ad_dir_model.specs.Objects.{is_live, sd_at, parent_at, put}
use Rattle.ad_dir_model.specs.Tree.{root, IsAtDepth, IsPlaced}
use Rattle.ad_dir_model.specs.Directory.{Directory, parents, with_objects, edited}
use Rattle.ad_dir_model.specs.Inheritance.{settled, marked_if_changed}
use Rattle.ad_dir_model.specs.Edits.{change_edits, write_edits}
use Rattle.ad_dir_model.specs.Soundness.{IsSound}
use Rattle.ad_dir_model.specs.Conditions.{Fits, MayReplace, MayMove, KeepsParent}
use Rattle.ad_dir_model.proofs.Finding.{live_above, at-put_same, at-put_other, live-put}
use Rattle.ad_dir_model.proofs.Frames.{live_before}
use Rattle.ad_dir_model.proofs.Placing.{all_live_more}
use Rattle.ad_dir_model.proofs.PendingLaws.{live_in_more, live_marked_if, distinct_marked_if}
use Rattle.ad_dir_model.proofs.ScratchLaws.{below_at, root_at}
use Rattle.ad_dir_model.proofs.StepSound.{sid_with_sd}
use Rattle.ad_dir_model.proofs.WorkLaws.{placed_at}

-- It is live and fits; the root has no parent, any other a live one; and each object stands in the tree with this
-- parent.
pub record MayStand (dir : Directory) (o : Object) : Type 0 where
  pub live : is_live dir.objects o.number ≡ true
  pub fits : Fits dir o
  pub no_parent : o.number ≡ root → o.parent ≡ 0
  pub parent_live : o.number ≢ root → is_live dir.objects o.parent ≡ true
  pub placed : (n : ℕ) → is_live dir.objects n ≡ true → IsPlaced (parent_at (put o dir.objects)) n

-- ---- the tree

chain_alike : (p q : ℕ → ℕ) (d n : ℕ) → ((k : ℕ) → p k ≡ q k) → IsAtDepth p d n → IsAtDepth q d n
chain_alike p q zero n same at = at
chain_alike p q (suc d) n same at = (at.0, subst (IsAtDepth q d) (same n) (chain_alike p q d (p n) same at.1))

pub placed_alike : (p q : ℕ → ℕ) (n : ℕ) → ((k : ℕ) → p k ≡ q k) → IsPlaced p n → IsPlaced q n
placed_alike p q n same at = record {
  depth = at.depth;
  within = at.within;
  chain = chain_alike p q at.depth n same
      at.chain;
}

-- what the parents are then
pub parent_put : (dir : Directory) (o : Object) (P : ℕ → ℕ → Type 0) → P o.number o.parent
    → ((n : ℕ) → (o.number ≡ n → ⊥) → P n (parents dir n)) → (n : ℕ) → P n (parent_at (put o dir.objects) n)
parent_put dir o P here other n =
    elim (cases_Bool (nat_eq o.number n)) [
      | inl same ↦
          subst (λ (k : ℕ). P k (parent_at (put o dir.objects) k)) (eqb-true o.number n same)
          (subst (P o.number) (sym (ap (λ (x : Object). x.parent) (at-put_same o dir.objects))) here)
      | inr differ ↦
          let apart : o.number ≡ n → ⊥ = eqb-false o.number n differ in
          subst (P n) (sym (ap (λ (x : Object). x.parent) (at-put_other o dir.objects n apart))) (other n apart)
    ]

same_parents : (dir : Directory) (o : Object) → KeepsParent dir o → (n : ℕ) → parents dir n
    ≡ parent_at (put o dir.objects) n
same_parents dir o keeps n = parent_put dir o (λ (k p : ℕ). parents dir k ≡ p) (sym keeps) (λ k apart. refl) n

any_sd : (dir : Directory) (o : Object) (sd : Sd) (n : ℕ) → parent_at (put o dir.objects) n
    ≡ parent_at (put (record o { sd = sd }) dir.objects) n
any_sd dir o sd n = parent_put dir (record o { sd = sd }) (λ (k p : ℕ). parent_at (put o dir.objects) k ≡ p)
    (ap (λ (x : Object). x.parent) (at-put_same o dir.objects))
    (λ k apart. ap (λ (x : Object). x.parent) (at-put_other o dir.objects k apart)) n

-- ---- one that keeps its place, and one that is moved

pub keeps_place : (dir : Directory) (o : Object) → IsSound dir → MayReplace dir o → KeepsParent dir o → MayStand dir o
keeps_place dir o sound may keeps = record {
  live = may.live;
  fits = may.fits;
  no_parent = λ top. keeps ∙ ap (parents dir) top ∙ (root_at dir sound).no_parent;
  parent_live = λ below. subst (λ (p : ℕ). is_live dir.objects p ≡ true) (sym keeps)
      (below_at dir sound.each o.number may.live below).parent_live;
  placed = λ n live. placed_alike (parents dir) (parent_at (put o dir.objects)) n (same_parents dir o keeps)
      (placed_at dir sound.each n live);
}

pub moves : (dir : Directory) (o : Object) → MayReplace dir o → MayMove dir o → MayStand dir o
moves dir o may move = record {
  live = may.live;
  fits = may.fits;
  no_parent = λ top. absurd (move.below top);
  parent_live = λ below. move.parent_live;
  placed = move.placed;
}

-- ---- the edits

-- with whatever descriptor
put_may : (dir : Directory) (o : Object) (sd : Sd) → IsSound dir → MayStand dir o → MayPut dir (record o { sd = sd })
unfolding max_counter
put_may dir o sd sound may = record {
  some = live_above 0 dir.objects o.number sound.rise may.live;
  fits_number =
      let above : o.number < dir.meta.next_number = sound.frame.counters.number_above o.number may.live in
      let least : dir.meta.next_number ≤ max_counter = sound.frame.counters.number_fits in
      omega (arith, above, least);
  fits = record {
    content = record {
      class_of_schema = may.fits.content.class_of_schema;
      name = may.fits.content.name;
      attrs_rise = may.fits.content.attrs_rise;
      each = may.fits.content.each;
    };
    links = all_live_more (put o dir.objects) (put (record o { sd = sd }) dir.objects) (links_in o.values)
        (λ n live. live-put (record o { sd = sd }) dir.objects n (live_before o dir.objects n may.live live))
        may.fits.links;
    own_name = may.fits.own_name;
    own_sid = λ m other sid is has own. may.fits.own_sid m other sid is has (sym (sid_with_sd dir.schema o sd) ∙ own);
  };
  no_parent = may.no_parent;
  parent_live = may.parent_live;
  placed = λ below n live. placed_alike (parent_at (put o dir.objects))
      (parent_at (put (record o { sd = sd }) dir.objects)) n (any_sd dir o sd)
      (may.placed n (live_before (record o { sd = sd }) dir.objects n may.live live));
}

pub change_may : (dir : Directory) (o : Object) → IsSound dir → MayStand dir o → MayAll dir (change_edits o)
change_may dir o sound may = (put_may dir o o.sd sound may, tt)

with_whole : (dir : Directory) (o : Object) (sd : Sd) → MayStand dir o
    → IsSound dir → MayPend (with_objects (put (record o { sd = sd }) dir.objects) dir)
    (marked_if_changed (sd_at dir.objects o.number) (record o { sd = sd }) dir.pending)
with_whole dir o sd may sound = record {
  live = live_in_more dir.objects (put (record o { sd = sd }) dir.objects)
      (marked_if_changed (sd_at dir.objects o.number) (record o { sd = sd }) dir.pending)
      (live-put (record o { sd = sd }) dir.objects)
      (live_marked_if dir.objects (sd_at dir.objects o.number) (record o { sd = sd }) dir.pending may.live sound.live);
  distinct = distinct_marked_if (sd_at dir.objects o.number) (record o { sd = sd }) dir.pending sound.distinct;
}

pub write_may : (dir : Directory) (o : Object) → IsSound dir → MayStand dir o → MayAll dir (write_edits dir o)
unfolding edited
write_may dir o sound may = (
  put_may dir o (settled dir o).sd sound may,
  (with_whole dir o (settled dir o).sd may sound, tt),
)
