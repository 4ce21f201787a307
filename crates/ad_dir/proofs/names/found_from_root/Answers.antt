use Rattle.std.proofs.Common.{◌∙◌, Bool, None, sym, ap, reverse, if◌then◌else◌}
use Rattle.ad_dn.specs.Value.{IsRdn}
use Rattle.ad_dir_model.specs.Objects.{object_at}
use Rattle.ad_dir_model.specs.Tree.{root}
use Rattle.ad_dir_model.specs.Names.{found_below, rdn_of, same_rdn}
use Rattle.ad_dir.proofs.NameLaws.{top_found, none_found_top, all_before, rdn_by}
use Rattle.ad_dir.proofs.names.found_from_root.Goals as goal

pub found_below-requires : goal.found_below-requires
found_below-requires c = (all_before IsRdn c.args.rdns.now c.in-Some.below.now c.in-Some.top.now
    c.in-Some.ensures.cases.0 c.requires.rdns).0

pub returns-then-has_rdn : goal.returns-then-has_rdn
returns-then-has_rdn c =
    let dir = c.args.dir.now in
    let top = c.in-Some.top.now in
    c.found_below.ensures
    ∙ sym (top_found dir c.args.rdns.now c.in-Some.below.now top c.in-Some.ensures.cases.0
    ∙ ap (λ (t : Bool). if t then found_below dir root (reverse c.in-Some.below.now) else None)
    (ap (same_rdn (rdn_of dir.schema (object_at dir.objects root)))
    (sym (rdn_by top c.as_slice.result.now c.as_slice-in-Some.result.now c.as_slice.ensures
    c.as_slice-in-Some.ensures)) ∙ sym c.has_rdn.ensures ∙ c.if-has_rdn.true))

pub returns-else-has_rdn : goal.returns-else-has_rdn
returns-else-has_rdn c =
    let dir = c.args.dir.now in
    let top = c.in-Some.top.now in
    sym (top_found dir c.args.rdns.now c.in-Some.below.now top c.in-Some.ensures.cases.0
    ∙ ap (λ (t : Bool). if t then found_below dir root (reverse c.in-Some.below.now) else None)
    (ap (same_rdn (rdn_of dir.schema (object_at dir.objects root)))
    (sym (rdn_by top c.as_slice.result.now c.as_slice-in-Some.result.now c.as_slice.ensures
    c.as_slice-in-Some.ensures)) ∙ sym c.has_rdn.ensures ∙ c.if-has_rdn.false))

pub returns-in-None : goal.returns-in-None
returns-in-None c = none_found_top c.args.dir.now c.args.rdns.now c.in-None.ensures.cases
