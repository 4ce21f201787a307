-- The line for a store that represents no directory: a word that says which one it is, and why.
use Rattle.std.specs.Prelude.{ℕ, List, ◌++◌, codes}
use Rattle.cmd_store_open.specs.EngineWords.{OpenFault}
use Rattle.cmd_store_open.specs.Lines.{store_line}

abbrev pub first_word : List ℕ
first_word = codes "first "

abbrev pub second_word : List ℕ
second_word = codes "second "

abbrev pub first_line : OpenFault → List ℕ
first_line fault = first_word ++ store_line fault

abbrev pub second_line : OpenFault → List ℕ
second_line fault = second_word ++ store_line fault
