-- The descriptor that has a list and nothing else is read as it was written.
use Rattle.std.proofs.Common.{◌≡◌, ℕ, ◌+◌, ◌≤◌, List, [], length, Ok, refl, subst, arith}
use Rattle.std.specs.Prelude.{nat_lt}
use Rattle.std.specs.List.{AllByRecursion, flat_map}
use Rattle.std.proofs.lemmas.Bool.{ltb-false}
use Rattle.ad_bytes.proofs.Steps.{from_bind, from_ok, from_guard}
use Rattle.ad_acl.specs.declared.write_fault.AclWriteFault.{AclWriteFault}
use Rattle.ad_acl.specs.declared.write_fault.AclWriteFault.TheVariants.{TooLong}
use Rattle.ad_acl.specs.Entry.{Entry}
use Rattle.ad_acl.specs.Acl.{SpellsList}
use Rattle.ad_acl.specs.Writing.{IsEntry, entry_bytes, list_bytes, written as list_written}
use Rattle.ad_acl.proofs.ListWriting.{length-list_bytes, list_spelled}
use Rattle.ad_sd.specs.declared.parts.AceList.{AceList}
use Rattle.ad_sd.specs.Reading.{parts_of}
use Rattle.ad_sd.specs.Writing.{laid_out, written}
use Rattle.ad_sd.proofs.SdCodec.{parts_again}
use Rattle.ad_sd.proofs.LaidOut.{laid_spelled}
use Rattle.ad_ldifmod.specs.Messages.{list_alone}

-- a list that was written is spelled so
spelled : (entries : List Entry) (acl : List ℕ) → AllByRecursion IsEntry entries → list_written entries ≡ Ok acl
    → SpellsList entries acl
spelled entries acl each e =
    from_guard (nat_lt 65535 (length (list_bytes entries))) TooLong (list_bytes entries) acl e (λ few same.
    let short : 8 + length (flat_map entry_bytes entries) ≤ 65535
    = omega (arith, ltb-false 65535 (length (list_bytes entries)) few, length-list_bytes entries) in
    subst (SpellsList entries) same (list_spelled entries each short))

pub list_back : (list : AceList) (sd : List ℕ) → AllByRecursion IsEntry list.entries → written (list_alone list)
    ≡ Ok sd → parts_of sd ≡ Ok (list_alone list)
unfolding written
list_back list sd each e =
    from_bind (list_written list.entries) _ sd e (λ (acl : List ℕ) (e1 : list_written list.entries ≡ Ok acl) e2.
    let same : laid_out (list_alone list) [] acl ≡ sd = from_ok {E = AclWriteFault}
    (laid_out (list_alone list) [] acl) sd e2 in
    subst (λ (bytes : List ℕ). parts_of bytes ≡ Ok (list_alone list)) same
    (parts_again (laid_out (list_alone list) [] acl) (list_alone list)
    (laid_spelled (list_alone list) [] acl tt tt refl (spelled list.entries acl each e1) (omega arith) (omega arith)
    (omega arith))))
