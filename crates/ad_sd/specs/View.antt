-- The entries that an iterator over a list has still to give.
use Rattle.std.specs.Prelude.{List}
use Rattle.ad_acl.specs.Entry.{Entry}
use Rattle.ad_sd.specs.declared.entries.Entries.{Entries}
use Rattle.ad_sd.specs.declared.entries_in.EntriesIn.{EntriesIn}
use Rattle.ad_sd.specs.Entries.{entries_of}

abbrev pub to_come : EntriesIn → List Entry
to_come e = entries_of e.count e.rest.now

abbrev pub entries_left : Entries → List Entry
entries_left e = to_come e.entries
