use Rattle.std.proofs.Common.{◌∙◌, sym, ap}
use Rattle.std.specs.Prelude.{option_map}
use Rattle.ad_sd.specs.Seen.{seen}
use Rattle.ad_rows_write.proofs.InOrderWhole.{described}
use Rattle.ad_rows_write.proofs.listing.described_row.Goals as goal

pub returns : goal.returns
returns c =
    let objects = c.args.dir.now.objects in
    let body = c.in_ok-body-in-Some.body.items in
    let own = ap (option_map seen) (sym c.in-Some.is) ∙ c.sd.ensures in
    let spelled = c.in_ok-body-in-Some.ensures (seen c.in-Some.sd) c.as_bytes.ensures in
    let row = c.row.ensures in (
      row.0,
      row.1 ∙ c.from.ensures,
      (
        body,
        row.2,
        described objects c.args.number c.args.object.now
            (seen c.in-Some.sd) body c.requires own spelled,
      ),
    )
