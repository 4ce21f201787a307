use Rattle.std.proofs.Common.{◌∙◌, ◌-◌, ◌++◌, ◌∷◌, [], ℕ, List, sym, ap, arith}
use Rattle.ad_dn.specs.declared.rdn.Rdn.{Rdn}
use Rattle.ad_dir_model.specs.Objects.{object_at}
use Rattle.ad_dir_model.specs.Directory.{Meta}
use Rattle.ad_dir_model.specs.Names.{rdn_of, rdns_within, rdns_of}
use Rattle.ad_dir.proofs.NameLaws.{if_ok, all_parts, ends_at_root, goes_up, ends_up}
use Rattle.ad_dir.proofs.names.dn_of.Goals as goal

pub loop-left-init : goal.loop-left-init
loop-left-init c = (
  ap (λ (l : List Rdn). l ++ rdns_within c.args.dir.now 65 c.args.number) c.new-rdns.ensures
      ∙ sym (all_parts c.args.dir.now c.args.number),
  c.requires,
)

pub returns-then-at-eq-ROOT : goal.returns-then-at-eq-ROOT
returns-then-at-eq-ROOT c =
    let dir = c.args.dir.now in
    let own = rdn_of dir.schema (object_at dir.objects c.loop-left.at) in
    if_ok c.with_suffix.result
    (λ dn is. is ∙ ap (λ (l : List Rdn). l ++ c.meta.result.now.suffix.rdns)
    (c.in_ok-push.ensures.ok ∙ ap (λ (r : Rdn). c.loop-left.rdns ++ r ∷ []) c.in_ok-rdn_of.ensures.made)
    ∙ ap (λ (m : Meta). (c.loop-left.rdns ++ own ∷ []) ++ m.suffix) c.meta.ensures
    ∙ ends_at_root dir c.loop-left.rdns c.loop-left.left c.loop-left.at (rdns_of dir c.args.number)
    (omega (arith, c.loop-left-test.true)) c.if-at-eq-ROOT.true c.loop-left.invariant.0)
    c.with_suffix.ensures

pub loop-left-preserved : goal.loop-left-preserved
loop-left-preserved c =
    let dir = c.args.dir.now in
    let own = rdn_of dir.schema (object_at dir.objects c.loop-left.at) in (
      ap (λ (l : List Rdn). l ++ rdns_within dir (c.loop-left.left - 1) c.parent_of-at.result)
          (c.in_ok-push.ensures.ok ∙ ap (λ (r : Rdn). c.loop-left.rdns ++ r ∷ []) c.in_ok-rdn_of.ensures.made)
          ∙ ap (λ (n : ℕ). (c.loop-left.rdns ++ own ∷ []) ++ rdns_within dir (c.loop-left.left - 1) n)
          c.parent_of-at.ensures.parent
          ∙ goes_up dir c.loop-left.rdns c.loop-left.left c.loop-left.at (rdns_of dir c.args.number)
          (omega (arith, c.loop-left-test.true)) c.if-at-eq-ROOT.false c.loop-left.invariant.0,
      c.parent_of-at.ensures.live,
    )

pub returns : goal.returns
returns c = ends_up c.args.dir.now c.loop-left.rdns c.loop-left.left c.loop-left.at
    (rdns_of c.args.dir.now c.args.number) (omega (arith, c.loop-left-test.false)) c.loop-left.invariant.0
