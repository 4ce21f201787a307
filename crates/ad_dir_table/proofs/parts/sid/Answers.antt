use Rattle.std.proofs.Common.{◌∙◌, ap}
use Rattle.std.specs.Option.{option_and_then}
use Rattle.ad_dir_model.specs.Identity.{sid_in}
use Rattle.ad_dir_table.proofs.Keeping.{sids_kept}
use Rattle.ad_dir_table.proofs.parts.sid.Goals as goal

pub returns-in-Some : goal.returns-in-Some
returns-in-Some c = λ schema all.
    let live = c.args.parts.now.pool.live in
    c.sid_of.ensures ∙ c.in-Some.ensures.sid schema live (sids_kept schema live c.args.parts.now.kept.entries all)
    ∙ ap (option_and_then (sid_in schema)) (c.in-Some.ensures.found live)
