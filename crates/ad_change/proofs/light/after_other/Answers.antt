use Rattle.std.proofs.Common.{List, sym, ap, ◌∙◌}
use Rattle.ad_schema.specs.declared.line.SchemaRecord.{SchemaRecord}
use Rattle.ad_dir_objects.specs.Seen.{object_seen}
use Rattle.ad_dir_model.specs.Object.{Object}
use Rattle.ad_dir_model.specs.Objects.{object_at, sd_at}
use Rattle.ad_dir_model.specs.Weight.{object_weight}
use Rattle.ad_dir_model.proofs.Finding.{at_number}
use Rattle.ad_dir_objects.specs.Left.{left_of}
use Rattle.ad_dir_objects.proofs.Weights.{nothing}
use Rattle.ad_change.proofs.OtherLaws.{is_other, is_the_one}
use Rattle.ad_change.proofs.light.after_other.Goals as goal

pub returns-then-number-but : goal.returns-then-number-but
returns-then-number-but c =
    let dir = c.args.dir.now in
    let o : Object = object_at dir.objects c.args.number in
    sym (ap (left_of c.args.left) (is_the_one dir.schema c.args.but o (at_number dir.objects c.args.number c.requires
    ∙ c.if-number-but.true)) ∙ nothing c.args.left)

pub returns : goal.returns
returns c =
    let dir = c.args.dir.now in
    let o : Object = object_at dir.objects c.args.number in
    let seen : Object = object_seen c.live_object.result.now (sd_at dir.objects c.args.number) in
    c.after_object.ensures (sd_at dir.objects c.args.number)
    ∙ ap (λ (s : List SchemaRecord). left_of c.args.left (object_weight s seen)) c.schema.ensures
    ∙ ap (λ (x : Object). left_of c.args.left (object_weight dir.schema x)) c.live_object.ensures
    ∙ ap (left_of c.args.left) (sym (is_other dir.schema c.args.but o
    (λ e. c.if-number-but.false (sym (at_number dir.objects c.args.number c.requires) ∙ e))))
