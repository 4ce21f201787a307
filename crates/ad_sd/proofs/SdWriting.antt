-- The parts of a descriptor as they are put one after the other.
use Rattle.std.proofs.Common.{◌≡◌, ℕ, ◌+◌, Bool, List, [], ◌∷◌, ◌++◌, length, Ok, refl, sym, ap, ◌∙◌, append_assoc}
use Rattle.std.specs.Option.{is_some}
use Rattle.ad_bytes.specs.Numbers.{le_bytes}
use Rattle.ad_sd.specs.declared.parts.SdParts.{SdParts}
use Rattle.ad_sd.specs.Sd.{headed}
use Rattle.ad_sd.specs.Writing.{sid_part, list_part, dacl_bits, sacl_bits, offset_if, laid_out, written}

pub offset_is : (n at place : ℕ) (given there : Bool) → n ≡ offset_if given at → given ≡ there → at ≡ place → n
    ≡ offset_if there place
offset_is n at place given there e g p = e ∙ ap (λ (b : Bool). offset_if b at) g ∙ ap (λ (m : ℕ). offset_if there m) p

-- the pieces that were put are the descriptor
pub parts_put : (p : SdParts) (now old owner group sacl dacl : List ℕ) (control o g s d : ℕ)
    → old ≡ [] → owner ≡ sid_part p.owner → group ≡ sid_part p.group
    → control ≡ 0x8000 + dacl_bits p.dacl + sacl_bits p.sacl
    → o ≡ offset_if (is_some p.owner) 20
    → g ≡ offset_if (is_some p.group) (20 + length owner)
    → s ≡ offset_if (is_some p.sacl) (20 + length owner + length group)
    → d ≡ offset_if (is_some p.dacl) (20 + length owner + length group + length sacl)
    → now ≡ (((((old ++ 1 ∷ 0 ∷ le_bytes 2 control)
    ++ (le_bytes 4 o ++ (le_bytes 4 g ++ (le_bytes 4 s ++ le_bytes 4 d)))) ++ owner) ++ group) ++ sacl) ++ dacl
    → now ≡ laid_out p sacl dacl
unfolding laid_out
parts_put p now old owner group sacl dacl control o g s d empty owner_is group_is c oe ge se de put =
    let first : List ℕ = 1 ∷ 0 ∷ le_bytes 2 control in
    let offsets : List ℕ = le_bytes 4 o ++ (le_bytes 4 g ++ (le_bytes 4 s ++ le_bytes 4 d)) in
    let emptied : (((((old ++ first) ++ offsets) ++ owner) ++ group) ++ sacl) ++ dacl
    ≡ ((((first ++ offsets) ++ owner) ++ group) ++ sacl) ++ dacl = rw empty refl in
    let start : now ≡ ((((first ++ offsets) ++ owner) ++ group) ++ sacl) ++ dacl = put ∙ emptied in
    let regroup : ((((first ++ offsets) ++ owner) ++ group) ++ sacl) ++ dacl ≡ headed 1 0 control o g s d
    (owner ++ (group ++ (sacl ++ dacl))) = simp append_assoc in
    let whole : headed 1 0 control o g s d (owner ++ (group ++ (sacl ++ dacl))) ≡ laid_out p sacl dacl
    = rw (oe, ge, se, de, c, owner_is, group_is) refl in
    start ∙ regroup ∙ whole

pub is_written : (p : SdParts) (now sacl dacl : List ℕ) → list_part p.sacl ≡ Ok sacl → list_part p.dacl ≡ Ok dacl
    → now ≡ laid_out p sacl dacl → written p ≡ Ok now
unfolding written
is_written p now sacl dacl sacl_is dacl_is put =
    let done : written p ≡ Ok (laid_out p sacl dacl) = rw (sacl_is, dacl_is) refl in
    done ∙ ap (λ (t : List ℕ). Ok t) (sym put)
