use Rattle.std.proofs.Common.{◌≡◌, Some, map, length, sym, ap, ◌∙◌, arith}
use Rattle.std.specs.Option.{option_map}
use Rattle.std.proofs.lemmas.List.{length-map}
use Rattle.ad_schema.specs.Attributes.{lines_of}
use Rattle.ad_schema.specs.declared.line.SchemaKind.TheVariants.{Class}
use Rattle.ad_schema.specs.Links.{links_in}
use Rattle.ad_schema.proofs.RecordLemmas.{lines_at, lines_end, pushed, passed, ended}
use Rattle.ad_schema.proofs.passes.all_links.Goals as goal

pub loop-record-preserved-in_default : goal.loop-record-preserved-in_default
loop-record-preserved-in_default c =
    let step = lines_at (links_in c.args.attrs.now c.args.classes.now) Class c.args.records.now
    c.loop-record.record-index c.record-item.result c.loop-record-test.true c.record-item.is in
    let none = rw c.in_default.is at c.lines_if.ensures in
    passed _ _ _ _ _ c.loop-record.invariant step
    (ap (option_map (links_in c.args.attrs.now c.args.classes.now)) (sym none))

pub loop-record-preserved : goal.loop-record-preserved
loop-record-preserved c =
    let step = lines_at (links_in c.args.attrs.now c.args.classes.now) Class c.args.records.now
    c.loop-record.record-index c.record-item.result c.loop-record-test.true c.record-item.is in
    let some = rw c.in-Some.is at c.lines_if.ensures in
    rw c.in_ok-push.ensures.items (pushed _ _ _ _ _ _ c.loop-record.invariant step
    (ap (option_map (links_in c.args.attrs.now c.args.classes.now)) (sym some)
    ∙ ap Some (sym c.in_ok-link.ensures)))

pub returns-clause-links : goal.returns-clause-links
returns-clause-links c = ended _ _ _ c.loop-record.invariant
    (lines_end (links_in c.args.attrs.now c.args.classes.now) Class c.args.records.now c.loop-record.record-index
    c.loop-record-test.false)

pub returns-clause-few : goal.returns-clause-few
returns-clause-few c =
    let all : c.loop-record.links.items ≡ map (links_in c.args.attrs.now c.args.classes.now)
    (lines_of Class c.args.records.now) = ended _ _ _ c.loop-record.invariant
    (lines_end (links_in c.args.attrs.now c.args.classes.now) Class c.args.records.now c.loop-record.record-index
    c.loop-record-test.false) in
    omega (
      arith,
      ap length all,
      length-map (lines_of Class c.args.records.now)
          (links_in c.args.attrs.now c.args.classes.now),
      c.requires,
      c.len.ensures.few,
    )
