use Rattle.std.proofs.Common.{ℕ, List, Err, subst, ap}
use Rattle.ad_dn.specs.Value.{AreRdns}
use Rattle.ad_dir_model.specs.Directory.{Directory}
use Rattle.ad_engine_store.specs.declared.fault.OpenFault.{OpenFault}
use Rattle.cmd_call.specs.Store.{SaysUnless}
use Rattle.cmd_store.specs.List.{list_text, list_outcome}
use Rattle.cmd_store.proofs.ListSteps.{listed_told, listed_by}
use Rattle.cmd_store.proofs.listing.list.Goals as goal

pub returns-in-Ok : goal.returns-in-Ok
returns-in-Ok g c =
    let here = subst (λ (text : List ℕ). SaysUnless g.S.Site c.resume.new.site c.list_in.new.site
    (list_text c.dir.result.now text) (list_outcome c.dir.result.now text) c.list_in.result)
    c.as_bytes.ensures.value c.list_in.ensures.said in
    let said = subst (λ (dir : Directory). SaysUnless g.S.Site c.resume.new.site c.list_in.new.site
    (list_text dir c.args.name.now) (list_outcome dir c.args.name.now) c.list_in.result) c.dir.ensures here in
    let suffix = subst (λ (dir : Directory). AreRdns dir.meta.suffix) c.dir.ensures c.list_in.ensures.suffix in
    let both = listed_told g.S.Site c.args.name.now c.args.site.now c.resume.new.site c.list_in.new.site
    c.in-Ok.engine.dir c.list_in.result c.in-Ok.ensures.outside c.in-Ok.ensures.opened
    suffix said in
    record { does = both.0; site_failed = both.1 }

pub returns-in-Err : goal.returns-in-Err
returns-in-Err g c =
    let both = listed_by g.S.Site c.args.name.now c.args.site.now c.resume.new.site c.refuse.new.site c.in-Err.fault
    c.refuse.result c.in-Err.ensures.outside c.in-Err.ensures.opened
    (λ is. c.in-Err.ensures.cause (ap (λ (f : OpenFault). Err f) is)) c.refuse.ensures in
    record { does = both.0; site_failed = both.1 }
