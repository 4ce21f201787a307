-- Why a call gives nothing, and the code that tells it.
use Rattle.std.specs.Prelude.{ℕ, Bool, true, false}
use Rattle.ad_acl.specs.declared.write_fault.AclWriteFault.{AclWriteFault}
use Rattle.ad_acl.specs.declared.write_fault.AclWriteFault.TheVariants as list
use Rattle.ad_sddl.specs.declared.fault.SddlKind.{SddlKind}
use Rattle.ad_sddl.specs.declared.fault.SddlKind.TheVariants as kind
use Rattle.ad_sddl.specs.declared.fault.SddlFault.{SddlFault}
use Rattle.ad_sddl.specs.declared.fault.SddlFault.TheVariants as sddl
use Rattle.adsd_c.specs.declared.refusal.Refusal.{Refusal}
use Rattle.adsd_c.specs.declared.refusal.Refusal.TheVariants as refusal

-- memory ran out
abbrev pub is_memory : Refusal → Bool
is_memory refusal.Memory = true
is_memory _ = false

-- the codes of an answer, of want of memory, and of an answer for which there is too little room
abbrev pub answered : ℕ
answered = 0

abbrev pub no_memory : ℕ
no_memory = 1

abbrev pub no_room : ℕ
no_room = 2

-- the code of what goes wrong in a text of a descriptor
abbrev pub code_of_kind : SddlKind → ℕ
code_of_kind kind.Part = 32
code_of_kind kind.Repeated = 33
code_of_kind kind.Sid = 34
code_of_kind kind.Domain = 35
code_of_kind kind.AceKind = 36
code_of_kind kind.Flag = 37
code_of_kind kind.Rights = 38
code_of_kind kind.Guid = 39
code_of_kind kind.Shape = 40

-- the code of a refusal
abbrev pub code_of : Refusal → ℕ
code_of refusal.Memory = no_memory
code_of refusal.Sd = 3
code_of refusal.Parent = 4
code_of refusal.Token = 5
code_of refusal.OwnSid = 6
code_of refusal.Path = 7
code_of refusal.Tree = 8
code_of refusal.Sid = 9
code_of refusal.Guid = 10
code_of refusal.TooLong = 11
code_of refusal.Normal = 12
code_of refusal.Domain = 13
code_of (refusal.Text place fault) = code_of_kind fault

-- how many bytes of a text stand before what goes wrong
abbrev pub place_of : Refusal → ℕ
place_of (refusal.Text place fault) = place
place_of _ = 0

-- the fault of a list that is written
abbrev pub of_list : AclWriteFault → Refusal
of_list list.TooLong = refusal.TooLong
of_list list.Memory = refusal.Memory

-- the fault of a descriptor's text
abbrev pub of_text : SddlFault → Refusal
of_text (sddl.Bad place fault) = refusal.Text place fault
of_text sddl.Memory = refusal.Memory
