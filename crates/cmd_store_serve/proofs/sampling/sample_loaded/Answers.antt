use Rattle.std.proofs.Common.{◌∙◌, List, sym, subst}
use Rattle.ad_frames.specs.declared.frame.Frame.{Frame}
use Rattle.cmd_call.proofs.Moments.{IsLawful}
use Rattle.cmd_store_serve.specs.Sample.{sent}
use Rattle.cmd_store_serve.specs.SampleServing.{Samples}
use Rattle.cmd_store_serve.proofs.Samples.{sampled_not}
use Rattle.cmd_store_serve.proofs.sampling.sample_loaded.Goals as goal

pub returns-in-Ok : goal.returns-in-Ok
returns-in-Ok g c = record {
  samples = subst (λ (frames : List Frame). Samples g.S.Site c.args.dir frames c.args.site.now c.keep.new.site
      c.keep.result)
      (c.as_slice.ensures.value ∙ sym c.in-Ok.ensures) c.keep.ensures.samples;
}

pub returns-in-Err : goal.returns-in-Err
returns-in-Err g c =
    let law : IsLawful g.S.Site = record { output = g.met.S.Site.left_output; until = g.met.S.Site.left_until } in
    record { samples = sampled_not g.S.Site law c.args.dir (sent c.args.n) c.args.site.now }
