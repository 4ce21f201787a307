use Rattle.std.proofs.Common.{sym}
use Rattle.ad_bytes.proofs.Codec.{length-le_bytes}
use Rattle.ad_acl.proofs.entry_writing.flags_size.Goals as goal

pub returns-then-is_object-clause-size : goal.returns-then-is_object-clause-size
returns-then-is_object-clause-size c = λ which. rw c.if-is_object.true (sym (length-le_bytes 4 which))
