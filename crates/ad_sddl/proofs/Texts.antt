-- Whole texts: what is read is encoded so, and what is encoded so is read.
use Rattle.std.proofs.Common.{◌≡◌, ℕ, List, length, Option, Result, Ok, Err, IfOk, sym, ap, ◌∙◌}
use Rattle.std.specs.Str.{str_to_ascii_lowercase}
use Rattle.ad_bytes.specs.Reading.{GivesUnless, fault_as}
use Rattle.ad_bytes.proofs.Steps.{from_fault_as}
use Rattle.ad_ids.specs.SidValue.{SidValue}
use Rattle.ad_sd.specs.declared.parts.SdParts.{SdParts}
use Rattle.ad_sddl.specs.declared.fault.SddlFault.{SddlFault}
use Rattle.ad_sddl.specs.Grammar.{SpellsSddl}
use Rattle.ad_sddl.specs.Reading.{located, is_out_of_memory, parts_of, read_of}
use Rattle.ad_sddl.proofs.Parts.{parts_take, parts_again}

pub text_takes : (domain : Option SidValue) (text : List ℕ) (parts : SdParts) → read_of domain text ≡ Ok parts
    → SpellsSddl domain parts text
unfolding read_of
text_takes domain text parts e = parts_take domain (str_to_ascii_lowercase text) parts
    (from_fault_as (located (length text)) (parts_of domain (str_to_ascii_lowercase text)) parts e)

pub text_again : (domain : Option SidValue) (text : List ℕ) (parts : SdParts) → SpellsSddl domain parts text
    → read_of domain text ≡ Ok parts
unfolding read_of
text_again domain text parts s = ap (fault_as (located (length text)))
    (parts_again domain parts (str_to_ascii_lowercase text) s)

pub found : (domain : Option SidValue) (text : List ℕ) (result : Result SdParts SddlFault)
    → GivesUnless is_out_of_memory (λ (p : SdParts). p) result (read_of domain text)
    → IfOk result (λ parts. SpellsSddl domain parts text)
found domain text (Ok parts) g = text_takes domain text parts g
found domain text (Err e) g = tt

pub only : (domain : Option SidValue) (text : List ℕ) (result : Result SdParts SddlFault)
    → GivesUnless is_out_of_memory (λ (p : SdParts). p) result (read_of domain text)
    → (parts : SdParts) → SpellsSddl domain parts text → GivesUnless is_out_of_memory (λ (p : SdParts). p) result
    (Ok parts)
only domain text (Ok x) g parts s = sym (text_again domain text parts s) ∙ g
only domain text (Err e) g parts s = λ known. sym (text_again domain text parts s) ∙ g known
