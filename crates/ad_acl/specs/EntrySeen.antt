-- The entry that a view of one shows.
use Rattle.ad_acl.specs.declared.ace_in.AceIn.{AceIn}
use Rattle.ad_acl.specs.Entry.{Entry}
use Rattle.ad_acl.specs.EntryIn.{entry_in}

abbrev pub entry_seen : AceIn → Entry
entry_seen ace = entry_in ace.bytes.now
