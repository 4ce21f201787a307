use Rattle.std.proofs.Common.{◌≡◌, ◌∙◌, ℕ, suc, ◌-◌, ◌<◌, ◌≤◌, true, length, IfOk, sym, ap, subst, arith}
use Rattle.ad_sd.specs.declared.parts.Sd.{Sd}
use Rattle.ad_inherit.specs.Whole.{whole}
use Rattle.ad_schema.specs.Classes.{classes_of}
use Rattle.ad_dir_model.specs.Directory.{parents}
use Rattle.ad_dir_model.specs.Inheritance.{guid_at, scratch_within}
use Rattle.ad_dir_model.specs.Object.{Object}
use Rattle.ad_dir_model.specs.Objects.{is_live, object_at, sd_at}
use Rattle.ad_dir_model.specs.Tree.{IsAtDepth}
use Rattle.ad_dir_model.proofs.ScratchLaws.{sound_at, below_at}
use Rattle.cmd_store.proofs.StaleLaws.{root_scratch, below_scratch, up}
use Rattle.cmd_store.proofs.stale.+from_root.Goals as goal

pub returns-then-number-eq-ROOT : goal.returns-then-number-eq-ROOT
returns-then-number-eq-ROOT t c =
    subst (λ (x : Sd). IfOk c.root_part.result (λ sd. sd ≡ x))
    (root_scratch c.args.dir.now c.args.levels c.args.number c.if-number-eq-ROOT.true) c.root_part.ensures

pub from_root-requires : goal.from_root-requires
from_root-requires t c =
    let dir = c.args.dir.now in
    let higher = up dir c.args.levels c.args.number c.if-number-eq-ROOT.false c.requires.placed in
    let parent = ap (λ (o : Object). o.parent) (sym c.live_object-object.ensures) in
    let live = (below_at dir c.requires.sound.each c.args.number c.requires.live
    c.if-number-eq-ROOT.false).parent_live in (
      omega (arith, c.decreases, higher.0),
      (
        c.requires.sound,
        (
          subst (λ (n : ℕ). is_live dir.objects n ≡ true) parent live,
          subst (λ (n : ℕ). (depth : ℕ) × (depth ≤ c.args.levels - 1) × IsAtDepth (parents dir) depth n) parent
              higher.1,
        ),
      ),
    )

pub below-requires-clause-class : goal.below-requires-clause-class
below-requires-clause-class t c =
    let dir = c.args.dir.now in
    let class = ap (λ (o : Object). o.class) (sym c.live_object-object.ensures) in
    subst (λ (k : ℕ). k < length (classes_of dir.schema)) class
    (sound_at dir c.requires.sound.each c.args.number c.requires.live).content.class_of_schema

pub returns : goal.returns
returns t c =
    let dir = c.args.dir.now in
    let number = c.args.number in
    let higher = up dir c.args.levels number c.if-number-eq-ROOT.false c.requires.placed in
    let o : Object = object_at dir.objects number in
    let parent = ap (λ (x : Object). x.parent) c.live_object-object.ensures in
    let class = ap (λ (x : Object). x.class) c.live_object-object.ensures in
    let levels : suc (c.args.levels - 1) ≡ c.args.levels = omega (arith, higher.0) in
    let above = c.in_ok-above.ensures ∙ ap (λ (l : ℕ). scratch_within dir l c.live_object-object.result.now.parent)
    levels ∙ ap (scratch_within dir c.args.levels) parent in
    let is =
    ap (λ (a : Sd). whole a (sd_at dir.objects number) (guid_at dir.schema c.live_object-object.result.now.class.0))
    above
    ∙ ap (λ (k : ℕ). whole (scratch_within dir c.args.levels (parents dir number)) (sd_at dir.objects number)
    (guid_at dir.schema k)) class
    ∙ below_scratch dir c.args.levels number c.if-number-eq-ROOT.false in
    subst (λ (x : Sd). IfOk c.below.result (λ sd. sd ≡ x)) is c.below.ensures
