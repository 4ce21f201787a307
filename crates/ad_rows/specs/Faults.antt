-- The faults of reading rows and of judging what was read.
use Rattle.ad_rows_sound.specs.declared.fault.SoundnessFault.{SoundnessFault}
use Rattle.ad_rows_sound.specs.declared.fault.SoundnessFault.TheVariants as sound
use Rattle.ad_rows.specs.declared.fault.RowsFault.{RowsFault}
use Rattle.ad_rows.specs.declared.fault.RowsFault.TheVariants.{Row, Unsound, Memory}
use Rattle.ad_rows.specs.declared.fault.RowFault.{RowFault}
use Rattle.ad_rows.specs.declared.fault.RowFault.TheVariants as row

abbrev pub of_row : RowFault → RowsFault
of_row (row.Row kind number) = Row kind number
of_row row.Memory = Memory

abbrev pub of_soundness : SoundnessFault → RowsFault
of_soundness (sound.Unsound number) = Unsound number
of_soundness sound.Memory = Memory
