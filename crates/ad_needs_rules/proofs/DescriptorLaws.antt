-- The parts of a descriptor that are asked for.
use Rattle.std.proofs.Common.{◌≡◌, ℕ, Bool, not, Option, refl, ap, ◌∙◌}
use Rattle.std.specs.Prelude.{nat_eq, bit_and}
use Rattle.ad_ids.specs.SidValue.{SidValue}
use Rattle.ad_acl.specs.Mask.{has_bit}
use Rattle.ad_acl.proofs.MaskLaws.{masked}
use Rattle.ad_sd.specs.declared.parts.AceList.{AceList}
use Rattle.ad_sd.specs.declared.parts.SdParts.{SdParts}
use Rattle.ad_needs_rules.specs.Descriptors.{part_if, asked_parts}

pub asked_by : (flags : ℕ) (parts : SdParts) (owner group : Option SidValue) (dacl sacl : Option AceList)
    → owner ≡ part_if (not (nat_eq (bit_and flags 1) 0)) parts.owner → group
    ≡ part_if (not (nat_eq (bit_and flags 2) 0)) parts.group
    → dacl ≡ part_if (not (nat_eq (bit_and flags 4) 0)) parts.dacl → sacl ≡ part_if (not (nat_eq (bit_and flags 8) 0))
    parts.sacl
    → record { owner = owner; group = group; dacl = dacl; sacl = sacl } ≡ asked_parts flags parts
unfolding asked_parts
asked_by flags parts owner group dacl sacl by_owner by_group by_dacl by_sacl =
    let o : owner ≡ part_if (has_bit flags 0) parts.owner = by_owner ∙ ap (λ (b : Bool). part_if b parts.owner)
    (masked flags 0) in
    let g : group ≡ part_if (has_bit flags 1) parts.group = by_group ∙ ap (λ (b : Bool). part_if b parts.group)
    (masked flags 1) in
    let d : dacl ≡ part_if (has_bit flags 2) parts.dacl = by_dacl ∙ ap (λ (b : Bool). part_if b parts.dacl)
    (masked flags 2) in
    let s : sacl ≡ part_if (has_bit flags 3) parts.sacl = by_sacl ∙ ap (λ (b : Bool). part_if b parts.sacl)
    (masked flags 3) in
    rw (o, g, d, s) refl
