-- A descriptor is read as it is spelled.
use Rattle.std.proofs.Common.{◌≡◌, ℕ, true, eqb, Option, None, Some, List, Result, Ok, Err, refl, ap, subst, ◌∙◌}
use Rattle.std.specs.Prelude.{IfOk}
use Rattle.std.proofs.lemmas.Bool.{eqb-true}
use Rattle.ad_bytes.specs.Reading.{IsBytes, or_fault, GivesUnless}
use Rattle.ad_bytes.proofs.Steps.{from_bind, from_need, from_or_fault, from_ok}
use Rattle.ad_ids.specs.SidValue.{SidValue}
use Rattle.ad_sd.specs.declared.fault.SdFault.{SdFault}
use Rattle.ad_sd.specs.declared.fault.SdFault.TheVariants.{Short, Revision, Owner, Group, NoOwner, NoGroup, NoDacl}
use Rattle.ad_sd.specs.declared.parts.AceList.{AceList}
use Rattle.ad_sd.specs.declared.parts.Sd.{Sd}
use Rattle.ad_sd.specs.declared.parts.SdParts.{SdParts}
use Rattle.ad_sd.specs.declared.reading.Header.{Header}
use Rattle.ad_sd.specs.Sd.{headed, SpellsParts, SpellsSd, list_or_empty}
use Rattle.ad_sd.specs.Reading.{is_memory, header_at, sid_of, sacl_of, dacl_of, parts_of, there_or, sd_of}
use Rattle.ad_sd.proofs.PartsCodec.{header, Headed, header_takes, header_again, sid_takes, sid_again, sacl_takes}
use Rattle.ad_sd.proofs.PartsCodec.{sacl_again, dacl_takes, dacl_again}

-- ---- the parts

abbrev parts : Option SidValue → Option SidValue → Option AceList → Option AceList → SdParts
parts owner group dacl sacl = record { owner = owner; group = group; dacl = dacl; sacl = sacl }

pub parts_takes : (bytes : List ℕ) (p : SdParts) → IsBytes bytes → parts_of bytes ≡ Ok p → SpellsParts p bytes
unfolding parts_of
parts_takes bytes p fits e =
    from_bind (or_fault Short (header_at bytes)) _ p e
    (λ (h : Header × List ℕ) (e1 : or_fault Short (header_at bytes) ≡ Ok h) e2.
    let head : Headed bytes h.0 h.1 = header_takes bytes h.0 h.1 fits (from_or_fault Short (header_at bytes) h e1) in
    from_need (eqb h.0.revision 1) (Revision h.0.revision) _ p e2 (λ (one : eqb h.0.revision 1 ≡ true) e3.
    from_bind (sid_of 1 Owner h.0.owner bytes) _ p e3
    (λ (owner : Option SidValue) (e4 : sid_of 1 Owner h.0.owner bytes ≡ Ok owner) e5.
    from_bind (sid_of 2 Group h.0.group bytes) _ p e5
    (λ (group : Option SidValue) (e6 : sid_of 2 Group h.0.group bytes ≡ Ok group) e7.
    from_bind (sacl_of h.0.control h.0.sacl bytes) _ p e7
    (λ (sacl : Option AceList) (e8 : sacl_of h.0.control h.0.sacl bytes ≡ Ok sacl) e9.
    from_bind (dacl_of h.0.control h.0.dacl bytes) _ p e9
    (λ (dacl : Option AceList) (e10 : dacl_of h.0.control h.0.dacl bytes ≡ Ok dacl)
    (e11 : Ok (parts owner group dacl sacl) ≡ Ok p).
    subst (λ (q : SdParts). SpellsParts q bytes) (from_ok {E = SdFault} (parts owner group dacl sacl) p e11)
    (record {
      free = head.free;
      control = h.0.control;
      owner = h.0.owner;
      group = h.0.group;
      sacl = h.0.sacl;
      dacl = h.0.dacl;
      behind = h.1;
      control_fits = head.control;
      owner_fits = head.owner;
      group_fits = head.group;
      sacl_fits = head.sacl;
      dacl_fits = head.dacl;
      header = head.parts ∙ ap (λ (r : ℕ). headed r head.free h.0.control h.0.owner h.0.group h.0.sacl h.0.dacl h.1)
          (eqb-true h.0.revision 1 one);
      owner_is = sid_takes 1 Owner h.0.owner bytes owner fits e4;
      group_is = sid_takes 2 Group h.0.group bytes group fits e6;
      sacl_is = sacl_takes h.0.control h.0.sacl bytes sacl fits e8;
      dacl_is = dacl_takes h.0.control h.0.dacl bytes dacl fits e10;
    })))))))

pub parts_again : (bytes : List ℕ) (p : SdParts) → SpellsParts p bytes → parts_of bytes ≡ Ok p
unfolding parts_of
parts_again bytes p s =
    let head : header_at bytes ≡ Ok (header 1 s.control s.owner s.group s.sacl s.dacl, s.behind)
    = ap header_at s.header ∙ header_again 1 s.free s.control s.owner s.group s.sacl s.dacl s.behind
    s.control_fits s.owner_fits s.group_fits s.sacl_fits s.dacl_fits in
    let owner : sid_of 1 Owner s.owner bytes ≡ Ok p.owner = sid_again 1 Owner s.owner bytes p.owner s.owner_is in
    let group : sid_of 2 Group s.group bytes ≡ Ok p.group = sid_again 2 Group s.group bytes p.group s.group_is in
    let sacl : sacl_of s.control s.sacl bytes ≡ Ok p.sacl = sacl_again s.control s.sacl bytes p.sacl s.sacl_is in
    let dacl : dacl_of s.control s.dacl bytes ≡ Ok p.dacl = dacl_again s.control s.dacl bytes p.dacl s.dacl_is in
    rw (head, owner, group, sacl, dacl) refl

-- ---- the descriptor

there : {A : Type 0} (fault : SdFault) (o : Option A) (x : A) → there_or fault o ≡ Ok x → o ≡ Some x
there fault None x e = absurd cc
there fault (Some y) x e = ap (λ (z : _). Some z) (from_ok {E = SdFault} y x e)

abbrev descriptor : SidValue → SidValue → AceList → AceList → Sd
descriptor owner group dacl sacl = record { owner = owner; group = group; dacl = dacl; sacl = sacl }

pub sd_takes : (bytes : List ℕ) (sd : Sd) → IsBytes bytes → sd_of bytes ≡ Ok sd → SpellsSd sd bytes
unfolding sd_of
sd_takes bytes sd fits e =
    from_bind (parts_of bytes) _ sd e (λ (p : SdParts) (e1 : parts_of bytes ≡ Ok p) e2.
    from_bind (there_or NoOwner p.owner) _ sd e2 (λ (owner : SidValue) (e3 : there_or NoOwner p.owner ≡ Ok owner) e4.
    from_bind (there_or NoGroup p.group) _ sd e4 (λ (group : SidValue) (e5 : there_or NoGroup p.group ≡ Ok group) e6.
    from_bind (there_or NoDacl p.dacl) _ sd e6
    (λ (dacl : AceList) (e7 : there_or NoDacl p.dacl ≡ Ok dacl)
    (e8 : Ok (descriptor owner group dacl (list_or_empty p.sacl)) ≡ Ok sd).
    subst (λ (d : Sd). SpellsSd d bytes) (from_ok {E = SdFault} (descriptor owner group dacl (list_or_empty p.sacl))
    sd e8)
    (record {
      given = p;
      parts = parts_takes bytes p fits e1;
      owner = there NoOwner p.owner owner e3;
      group
          = there NoGroup p.group group e5;
      dacl = there NoDacl p.dacl dacl e7;
      sacl = refl;
    })))))

pub sd_again : (bytes : List ℕ) (sd : Sd) → SpellsSd sd bytes → sd_of bytes ≡ Ok sd
unfolding sd_of
sd_again bytes sd s =
    let given : parts_of bytes ≡ Ok s.given = parts_again bytes s.given s.parts in
    rw (given, s.owner, s.group, s.dacl) (ap (λ (list : AceList). Ok (descriptor sd.owner sd.group sd.dacl list))
    s.sacl)

-- ---- what a reader that takes memory says

pub found_parts : (bytes : List ℕ) (r : Result SdParts SdFault) → IsBytes bytes → GivesUnless is_memory (λ p. p) r
    (parts_of bytes) → IfOk r (λ p. SpellsParts p bytes)
found_parts bytes (Ok p) fits read = parts_takes bytes p fits read
found_parts bytes (Err e) fits read = tt

pub found_sd : (bytes : List ℕ) (r : Result Sd SdFault) → IsBytes bytes → GivesUnless is_memory (λ d. d) r
    (sd_of bytes) → IfOk r (λ d. SpellsSd d bytes)
found_sd bytes (Ok d) fits read = sd_takes bytes d fits read
found_sd bytes (Err e) fits read = tt
