-- Lines that commands over a store emit.
use Rattle.std.specs.Prelude.{ℕ, List, [], ◌∷◌, ◌++◌, length, codes, decimal}
use Rattle.ad_dir_model.specs.Directory.{Directory}
use Rattle.ad_engine_store.specs.declared.fault.OpenFault.{OpenFault}
use Rattle.ad_engine_store.specs.declared.fault.OpenFault.TheVariants.{Taken, Empty, Broken, Row, Unsound, Site, Memory}
use Rattle.cmd_call.specs.Lines.{counted}

abbrev pub objects_line : Directory → List ℕ
objects_line dir = counted (codes "objects") (length dir.objects)

-- ---- what is wrong with slots that represent no directory; the last two are no such faults

abbrev pub store_line : OpenFault → List ℕ
store_line Taken = codes "store taken\n"
store_line Empty = codes "store empty\n"
store_line Broken = codes "store broken\n"
store_line (Row kind number) = codes "store row " ++ (decimal kind ++ (32 ∷ (decimal number ++ 10 ∷ [])))
store_line (Unsound number) = codes "store unsound " ++ (decimal number ++ 10 ∷ [])
store_line Site = []
store_line Memory = []
