-- The descriptor that a view shows.
use Rattle.ad_sd.specs.declared.parts.Sd.{Sd}
use Rattle.ad_sd.specs.declared.view.SdView.{SdView}
use Rattle.ad_sd.specs.SdIn.{sd_in}

abbrev pub seen : SdView → Sd
seen view = sd_in view.bytes.now
