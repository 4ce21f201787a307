use Rattle.std.proofs.Common.{sym}
use Rattle.std.proofs.lemmas.Bool.{eqb-true, eqb-false}
use Rattle.ad_types.specs.Path.{guids_of}
use Rattle.ad_dir.proofs.NameLaws.{if_ok}
use Rattle.ad_dsacls.proofs.EffectiveLaws.{set_without, set_at_node}
use Rattle.ad_dsacls.proofs.asking.set_mask.Goals as goal

pub returns-then-is_empty : goal.returns-then-is_empty
returns-then-is_empty c =
    set_without c.args.dir.now c.args.token.now c.args.number c.args.class c.args.set c.args.attrs.now
    (guids_of c.set_path-path.result) c.mask_on.result
    (eqb-true _ _ (sym c.if-is_empty.ensures)) c.set_path-path.ensures c.mask_on.ensures

pub returns : goal.returns
returns c = if_ok c.node_mask.result
    (λ mask is. set_at_node c.args.dir.now c.args.token.now c.args.number c.args.class c.args.set c.args.attrs.now
    mask (eqb-false _ _ (sym c.if-is_empty.ensures)) is) c.node_mask.ensures
