use Rattle.std.proofs.Common.{◌≡◌, ◌∙◌, ℕ, List, ap}
use Rattle.ad_dir_model.specs.Directory.{Directory}
use Rattle.cmd_store_serve.specs.Text.{text_of}
use Rattle.cmd_store_serve.proofs.Telling.{told_numbers}
use Rattle.cmd_store_serve.proofs.sampling.serve_and_tell.Goals as goal

pub returns-in-Ok-text_of : goal.returns-in-Ok-text_of
returns-in-Ok-text_of g c =
    let text_is : c.deref.result.now ≡ text_of c.in-Ok.answers.items c.serve_all.new.engine.dir =
    c.deref.ensures.value ∙ c.in-Ok-text_of.ensures
    ∙ ap (λ (a : List (List ℕ)). text_of a c.dir.result.now) c.as_slice.ensures.value
    ∙ ap (λ (d : Directory). text_of c.in-Ok.answers.items d) c.dir.ensures in
    told_numbers g.S.Site c.args.engine.now c.serve_all.new.engine c.args.frames.now c.in-Ok.answers.items
    c.deref.result.now
    c.args.site.now c.serve_all.new.site c.say.new.site c.say.result c.in-Ok.ensures.served c.in-Ok.ensures.outside
    text_is c.say.ensures
