-- How what may be read is given.
use Rattle.std.specs.Prelude.{Vec}
use Rattle.std.specs.declared.alloc.Global.{Global}
use Rattle.ad_value.specs.declared.syntax.Syntax.{Syntax}
use Rattle.ad_value.specs.Value.{Value}
use Rattle.ad_filter.specs.Filtering.{Readable}

-- a syntax and values
abbrev pub readable_seen : Syntax × Vec Value Global → Readable
readable_seen found = record { syntax = found.0; values = found.1.items }
