-- Descriptors that are made of descriptors.
use Rattle.std.specs.Prelude.{ℕ, if◌then◌else◌, List, Result, Ok, Err}
use Rattle.ad_bytes.specs.Reading.{◌>>=◌, or_fault, fault_as}
use Rattle.ad_ids.specs.GuidText.{guid_of}
use Rattle.ad_sd.specs.declared.parts.Sd.{Sd}
use Rattle.ad_sd.specs.Reading.{sd_of}
use Rattle.ad_sd.specs.Writing.{written}
use Rattle.ad_sd.specs.Shown.{parts_shown}
use Rattle.ad_sd.specs.Normal.{normal_bytes}
use Rattle.ad_sd.specs.SdIn.{is_normal, sd_in}
use Rattle.ad_sddl.specs.Canonical.{all_parts}
use Rattle.ad_inherit.specs.Whole.{whole, explicit_part}
use Rattle.adsd_c.specs.declared.refusal.Refusal.{Refusal}
use Rattle.adsd_c.specs.declared.refusal.Refusal.TheVariants as refusal
use Rattle.adsd_c.specs.Refusal.{of_list}
use Rattle.adsd_c.specs.Reading.{given_or}

-- the descriptor whose normal bytes these are
abbrev pub normal_sd : List ℕ → Result Sd Refusal
normal_sd bytes = if is_normal bytes then Ok (sd_in bytes) else Err refusal.Normal

-- the self-relative bytes of a descriptor
abbrev pub sd_bytes : Sd → Result (List ℕ) Refusal
sd_bytes sd = fault_as of_list (written (all_parts sd))

-- the normal bytes of a self-relative descriptor
unfoldable pub normal_from_sd : List ℕ → Result (List ℕ) Refusal
normal_from_sd bytes = do
  sd ← or_fault refusal.Sd (sd_of bytes)
  Ok (normal_bytes sd)

-- the parts that are asked for of the descriptor whose normal bytes are given, as a self-relative descriptor
unfoldable pub sd_from_normal : List ℕ → ℕ → Result (List ℕ) Refusal
sd_from_normal bytes parts = do
  sd ← normal_sd bytes
  fault_as of_list (written (parts_shown sd parts))

-- the descriptor of an object of a class, from its own and its parent's
unfoldable pub inherited : List ℕ → List ℕ → List ℕ → Result (List ℕ) Refusal
inherited parent own class = do
  above ← or_fault refusal.Parent (sd_of parent)
  sd ← or_fault refusal.Sd (sd_of own)
  kind ← given_or refusal.Guid (guid_of class)
  sd_bytes (whole above sd kind)

-- the descriptor without the entries that came from the parent
unfoldable pub without_inherited : List ℕ → Result (List ℕ) Refusal
without_inherited own = do
  sd ← or_fault refusal.Sd (sd_of own)
  sd_bytes (explicit_part sd)
