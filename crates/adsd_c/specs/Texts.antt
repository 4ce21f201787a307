-- Identifiers, GUIDs and descriptors as texts.
use Rattle.std.specs.Prelude.{ℕ, List, Result, Ok}
use Rattle.ad_bytes.specs.Reading.{◌>>=◌, or_fault, fault_as}
use Rattle.ad_ids.specs.Sid.{sid_bytes}
use Rattle.ad_ids.specs.SidText.{sid_text}
use Rattle.ad_ids.specs.SidFront.{sid_of_text}
use Rattle.ad_ids.specs.GuidText.{guid_of, guid_text, guid_of_text}
use Rattle.ad_sd.specs.Reading.{parts_of}
use Rattle.ad_sd.specs.Writing.{written}
use Rattle.ad_sddl.specs.Reading.{read_of}
use Rattle.ad_sddl.specs.Canonical.{canonical}
use Rattle.adsd_c.specs.declared.refusal.Refusal.{Refusal}
use Rattle.adsd_c.specs.declared.refusal.Refusal.TheVariants as refusal
use Rattle.adsd_c.specs.Refusal.{of_list, of_text}
use Rattle.adsd_c.specs.Reading.{given_or, whole_sid, sid_if}

-- the bytes of the identifier that a text encodes
unfoldable pub sid_from_text : List ℕ → Result (List ℕ) Refusal
sid_from_text text = do
  sid ← given_or refusal.Sid (sid_of_text text)
  Ok (sid_bytes sid)

-- the text of the identifier that the bytes are
unfoldable pub sid_to_text : List ℕ → Result (List ℕ) Refusal
sid_to_text bytes = do
  sid ← whole_sid refusal.Sid bytes
  Ok (sid_text sid)

-- the bytes of the GUID that a text encodes
unfoldable pub guid_from_text : List ℕ → Result (List ℕ) Refusal
guid_from_text text = do
  guid ← given_or refusal.Guid (guid_of_text text)
  Ok guid.bytes

-- the text of the GUID that the bytes are
unfoldable pub guid_to_text : List ℕ → Result (List ℕ) Refusal
guid_to_text bytes = do
  guid ← given_or refusal.Guid (guid_of bytes)
  Ok (guid_text guid)

-- The self-relative descriptor of a text, in which the aliases of a domain's principals may stand where the domain's
-- identifier is given.
unfoldable pub sd_from_sddl : List ℕ → List ℕ → Result (List ℕ) Refusal
sd_from_sddl domain text = do
  below ← sid_if refusal.Domain domain
  parts ← fault_as of_text (read_of below text)
  fault_as of_list (written parts)

-- the canonical text of the parts of a self-relative descriptor
unfoldable pub sd_to_sddl : List ℕ → Result (List ℕ) Refusal
sd_to_sddl bytes = do
  parts ← or_fault refusal.Sd (parts_of bytes)
  Ok (canonical parts)
