use Rattle.std.proofs.Common.{subst}
use Rattle.ad_dir_model.specs.Directory.{Directory}
use Rattle.cmd_call.proofs.Moments.{IsLawful}
use Rattle.cmd_store_serve.specs.SampleServing.{TellsServed}
use Rattle.cmd_store_serve.proofs.Samples.{sampled_refused, sampled_told}
use Rattle.cmd_store_serve.proofs.sampling.keep.Goals as goal

pub returns-in-Ok : goal.returns-in-Ok
returns-in-Ok g c =
    let law : IsLawful g.S.Site = record { output = g.met.S.Site.left_output; until = g.met.S.Site.left_until } in
    record {
      samples = sampled_told g.S.Site law c.args.dir c.args.frames.now c.args.site.now c.create.new.site
          c.serve_and_tell.new.site c.serve_and_tell.result
          c.in-Ok.ensures.outside c.in-Ok.ensures.every_crash
          (subst (λ (d : Directory). TellsServed g.S.Site d c.args.frames.now c.create.new.site
          c.serve_and_tell.new.site c.serve_and_tell.result)
          c.in-Ok.ensures.dir c.serve_and_tell.ensures);
    }

pub returns-in-Err : goal.returns-in-Err
returns-in-Err g c =
    let made = c.in-Err.ensures in
    record {
      samples = sampled_refused g.S.Site
          (record { output = g.met.S.Site.left_output; until = g.met.S.Site.left_until }) c.args.dir c.args.frames.now
          c.args.site.now c.create.new.site c.refuse.new.site c.in-Err.fault c.refuse.result
          (record {
            taken = made.taken;
            unwritten = made.unwritten;
            faults = made.faults;
            outside = made.outside;
            cause = made.cause;
          }) c.refuse.ensures;
    }
