-- What a cursor has still to read.
use Rattle.std.specs.Prelude.{ℕ, true, false, List, length}
use Rattle.ad_ldif.specs.declared.cursor.Cursor.{Cursor}
use Rattle.ad_ldif.specs.Lines.{Line, Block, physical, logical, lines_from, lines_before_empty, blocks}

-- the logical lines that are left; and where a line stands before that may be continued, those after its
-- continuations
abbrev pub lines_left : Cursor → List Line
lines_left at = lines_from at.number at.rest.now

abbrev pub lines_behind : Cursor → List Line
lines_behind at = logical true at.number (physical at.rest.now)

-- the lines that are left of a record, the records after it, and the records that are left after an empty line
abbrev pub record_left : Cursor → List Line
record_left at = lines_before_empty (lines_left at)

abbrev pub others_left : Cursor → List Block
others_left at = blocks true (lines_left at)

abbrev pub records_left : Cursor → List Block
records_left at = blocks false (lines_left at)

-- how many bytes are left
abbrev pub bytes_left : Cursor → ℕ
bytes_left at = length at.rest.now
