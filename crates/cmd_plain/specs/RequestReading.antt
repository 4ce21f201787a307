-- How the question of `adsd access` is read. Any fault in it is one: the bytes aren't of the form.
use Rattle.std.specs.Prelude.{ℕ, Bool, true, false, List, length, ◌==◌, nat_le, Result, Ok}
use Rattle.ad_bytes.specs.Reading.{◌>>=◌, need, or_fault}
use Rattle.ad_bytes.specs.Numbers.{be_at, part_at}
use Rattle.ad_ids.specs.SidReading.{sid_at}
use Rattle.ad_ids.specs.TokenReading.{token_of}
use Rattle.ad_ids.specs.declared.token_fault.TokenFault.{TokenFault}
use Rattle.ad_ids.specs.declared.token_fault.TokenFault.TheVariants.{Memory as TokenMemory}
use Rattle.ad_acl.specs.Reading.{list_at}
use Rattle.ad_acl.specs.declared.fault.AclFault.{AclFault}
use Rattle.ad_acl.specs.declared.fault.AclFault.TheVariants.{Memory as ListMemory}
use Rattle.cmd_plain.specs.declared.request.RequestFault.{RequestFault}
use Rattle.cmd_plain.specs.declared.request.RequestFault.TheVariants.{Form, Memory}
use Rattle.cmd_plain.specs.Request.{Question, max_token}

abbrev pub is_memory : RequestFault → Bool
is_memory Form = false
is_memory Memory = true

-- the question that all of the bytes encode
unfoldable pub question_of : List ℕ → Result Question RequestFault
question_of bytes = do
  size ← or_fault Form (be_at 4 bytes)
  _ ← need (nat_le size.0 max_token) Form
  text ← or_fault Form (part_at size.0 size.1)
  token ← or_fault Form (token_of text.0)
  owner ← or_fault Form (sid_at text.1)
  dacl ← or_fault Form (list_at owner.1)
  want ← or_fault Form (be_at 4 dacl.1)
  _ ← need (length want.1 == 0) Form
  Ok (record { token = token; owner = owner.0; dacl = dacl.0; want = want.0 })

-- the faults of a token and of a list, as those of the question
abbrev pub of_token : TokenFault → RequestFault
of_token TokenMemory = Memory
of_token _ = Form

abbrev pub of_list : AclFault → RequestFault
of_list ListMemory = Memory
of_list _ = Form
