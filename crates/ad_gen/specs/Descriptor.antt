-- The self-relative bytes of a descriptor that stands as a text.
use Rattle.std.specs.Prelude.{ℕ, List, [], Option, None, Result, Ok, Err}
use Rattle.ad_acl.specs.declared.write_fault.AclWriteFault.{AclWriteFault}
use Rattle.ad_sd.specs.declared.parts.SdParts.{SdParts}
use Rattle.ad_sd.specs.Writing.{written}
use Rattle.ad_sddl.specs.declared.fault.SddlFault.{SddlFault}
use Rattle.ad_sddl.specs.Reading.{read_of}

abbrev pub bytes_or_none : Result (List ℕ) AclWriteFault → List ℕ
bytes_or_none (Ok bytes) = bytes
bytes_or_none (Err e) = []

abbrev pub written_or_none : Result SdParts SddlFault → List ℕ
written_or_none (Ok parts) = bytes_or_none (written parts)
written_or_none (Err e) = []

-- as they are written, and none where the text is no descriptor's
unfoldable pub descriptor_bytes : List ℕ → List ℕ
descriptor_bytes text = written_or_none (read_of None text)
