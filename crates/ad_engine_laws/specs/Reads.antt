-- Which frames are no changes: tokens, and messages that ask for no Add, Delete, Modify, rename or move. Bytes that
-- spell no message ask for nothing.
use Rattle.std.specs.Prelude.{Result, Ok, Err}
use Rattle.ad_ldap.specs.declared.fault.LdapFault.{LdapFault}
use Rattle.ad_ldap.specs.MessageValue.{MessageValue, OpValue, ModifyOf, AddOf, DeleteOf, RenameOf, SearchOf, CompareOf}
use Rattle.ad_ldap.specs.MessageReading.{message_of}
use Rattle.ad_frames.specs.declared.frame.Frame.{Frame}
use Rattle.ad_frames.specs.declared.frame.FrameBody.{FrameBody}
use Rattle.ad_frames.specs.declared.frame.FrameBody.TheVariants as body

abbrev pub IsNoChange : OpValue → Type 0
IsNoChange (ModifyOf m) = ⊥
IsNoChange (AddOf a) = ⊥
IsNoChange (DeleteOf dn) = ⊥
IsNoChange (RenameOf r) = ⊥
IsNoChange _ = Unit {0}

-- a search or a compare
abbrev pub IsQuestion : OpValue → Type 0
IsQuestion (SearchOf s) = Unit {0}
IsQuestion (CompareOf c) = Unit {0}
IsQuestion _ = ⊥

abbrev pub AsksNoChange : Result MessageValue LdapFault → Type 0
AsksNoChange (Ok m) = IsNoChange m.op
AsksNoChange (Err fault) = Unit {0}

abbrev pub IsReadBody : FrameBody → Type 0
IsReadBody (body.Token token) = Unit {0}
IsReadBody (body.Message bytes) = AsksNoChange (message_of bytes)
IsReadBody (body.Steps n) = ⊥
IsReadBody body.Run = ⊥

abbrev pub IsRead : Frame → Type 0
IsRead frame = IsReadBody frame.body
