use Rattle.std.proofs.Common.{◌≡◌, true, take}
use Rattle.std.specs.List.{list_all}
use Rattle.std.specs.Option.{option_copied}
use Rattle.ad_schema.specs.Classes.{classes_of}
use Rattle.ad_dir_model.specs.Soundness.{default_reads}
use Rattle.ad_rows_sound.proofs.frame.defaults_read.Given as goal

abbrev pub invariant-loop-info : goal.invariant-loop-info
invariant-loop-info l = list_all (default_reads (option_copied l.domain)) (take l.info-index (classes_of l.schema))
    ≡ true
