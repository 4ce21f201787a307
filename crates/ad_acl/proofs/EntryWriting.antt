-- An entry as it is written: its pieces, their lengths, and that they are an encoding.
use Rattle.std.proofs.Common.{◌≡◌, ℕ, ◌+◌, ◌^◌, ◌<◌, ◌≤◌, Bool, true, false, Option, None, Some, List, [], ◌∷◌, ◌++◌}
use Rattle.std.proofs.Common.{length, refl, sym, ap, subst, ◌∙◌, append_assoc, arith, inl}
use Rattle.std.specs.Prelude.{bit_and}
use Rattle.std.proofs.lemmas.List.{append-nil, length-append}
use Rattle.ad_bytes.specs.Numbers.{le_bytes}
use Rattle.ad_bytes.proofs.Codec.{length-le_bytes}
use Rattle.ad_ids.specs.declared.guid.Guid.{Guid}
use Rattle.ad_ids.specs.SidValue.{SidValue}
use Rattle.ad_ids.specs.Sid.{IsSid, sid_bytes}
use Rattle.ad_ids.proofs.SidWriting.{length-sid_bytes}
use Rattle.ad_acl.specs.declared.kind.AceKind.{AceKind}
use Rattle.ad_acl.specs.Entry.{Entry, type_code, says, SpellsGuidIf, SpellsWhich, SpellsEntry}
use Rattle.ad_acl.specs.Writing.{has_guid, which_of, which_bytes, guid_bytes, fixed_bytes, behind_header, entry_bytes}
use Rattle.ad_acl.specs.Writing.{IsGuidIf, IsEntry}

abbrev pub entry : AceKind → ℕ → ℕ → Option Guid → Option Guid → SidValue → Entry
entry kind flags mask object inherited sid
    = record { kind = kind; flags = flags; mask = mask; object = object; inherited = inherited; sid = sid }

-- ---- lengths

length-which_bytes : (b : Bool) (which : ℕ) → length (which_bytes b which) ≤ 4
length-which_bytes false which = omega arith
length-which_bytes true which = omega (arith, length-le_bytes 4 which)

pub length-fixed_bytes : (mask : ℕ) (object inherited : Option Guid)
    → length (fixed_bytes mask object inherited) ≡ 4
    + (length (which_bytes (has_guid object inherited) (which_of object inherited))
    + (length (guid_bytes object) + length (guid_bytes inherited)))
unfolding fixed_bytes
length-fixed_bytes mask object inherited =
    omega (
      arith,
      length-le_bytes 4 mask,
      length-append (le_bytes 4 mask)
          (which_bytes (has_guid object inherited) (which_of object inherited)
          ++ (guid_bytes object ++ guid_bytes inherited)),
      length-append
          (which_bytes (has_guid object inherited) (which_of object inherited))
          (guid_bytes object ++ guid_bytes inherited),
      length-append (guid_bytes object) (guid_bytes inherited),
    )

length-guid_bytes : (guid : Option Guid) → IsGuidIf guid → length (guid_bytes guid) ≤ 16
length-guid_bytes None h = omega arith
length-guid_bytes (Some guid) h = omega (arith, h.sixteen)

pub length-entry_bytes : (e : Entry) → length (entry_bytes e) ≡ 4 + length (behind_header e)
unfolding entry_bytes
length-entry_bytes e = omega (
  arith,
  length-append (le_bytes 2 (4 + length (behind_header e))) (behind_header e),
  length-le_bytes 2 (4 + length (behind_header e)),
)

pub entry_fits : (e : Entry) → IsEntry e → length (entry_bytes e) < 2 ^ 16
unfolding behind_header
entry_fits e h =
    omega (
      arith,
      length-entry_bytes e,
      length-append (fixed_bytes e.mask e.object e.inherited) (sid_bytes e.sid),
      length-fixed_bytes e.mask e.object e.inherited,
      length-which_bytes (has_guid e.object e.inherited)
          (which_of e.object e.inherited),
      length-guid_bytes e.object h.object,
      length-guid_bytes e.inherited
          h.inherited,
      length-sid_bytes e.sid,
      h.sid.at_most_15,
    )

-- ---- it is an encoding

which_spelled : (object inherited : Option Guid) → SpellsWhich (has_guid object inherited) (which_of object inherited)
    (which_bytes (has_guid object inherited) (which_of object inherited))
which_spelled None None = (refl, refl)
which_spelled None (Some i) = (omega arith, refl)
which_spelled (Some o) None = (omega arith, refl)
which_spelled (Some o) (Some i) = (omega arith, refl)

object_spelled : (object inherited : Option Guid) → IsGuidIf object
    → SpellsGuidIf (says (which_of object inherited) 1) object (guid_bytes object)
object_spelled None None h = refl
object_spelled None (Some i) h = refl
object_spelled (Some o) None h = (h, refl)
object_spelled (Some o) (Some i) h = (h, refl)

inherited_spelled : (object inherited : Option Guid) → IsGuidIf inherited
    → SpellsGuidIf (says (which_of object inherited) 2) inherited (guid_bytes inherited)
inherited_spelled None None h = refl
inherited_spelled None (Some i) h = (h, refl)
inherited_spelled (Some o) None h = refl
inherited_spelled (Some o) (Some i) h = (h, refl)

pub entry_spelled : (e : Entry) → IsEntry e → SpellsEntry e (entry_bytes e)
unfolding entry_bytes behind_header fixed_bytes
entry_spelled e h =
    let size : 4 + length (behind_header e) ≡ length (entry_bytes e) = sym (length-entry_bytes e) in
    record {
      is_object = has_guid e.object e.inherited;
      flags = e.flags;
      fixed = fixed_bytes e.mask e.object e.inherited;
      sid = sid_bytes e.sid;
      behind = [];
      flags_are = record { fits = h.flags; clear = h.clear; with_or_without = inl refl };
      fixed_is = record {
        which = which_of e.object e.inherited;
        which_text = which_bytes (has_guid e.object e.inherited) (which_of e.object e.inherited);
        object_text = guid_bytes e.object;
        inherited_text = guid_bytes e.inherited;
        mask_fits = h.mask;
        which_is = which_spelled e.object e.inherited;
        object_is = object_spelled e.object e.inherited h.object;
        inherited_is = inherited_spelled e.object e.inherited h.inherited;
        parts = refl;
      };
      sid_is = (h.sid, refl);
      behind_fits = λ i. omega arith;
      size_fits = entry_fits e h;
      parts = ap (λ (n : ℕ). type_code (has_guid e.object e.inherited) e.kind ∷ e.flags ∷ le_bytes 2 n
          ++ (fixed_bytes e.mask e.object e.inherited ++ sid_bytes e.sid)) size
          ∙ ap (λ (t : List ℕ). type_code (has_guid e.object e.inherited) e.kind ∷ e.flags
          ∷ le_bytes 2 (length (entry_bytes e)) ++ (fixed_bytes e.mask e.object e.inherited ++ t))
          (sym (append-nil (sid_bytes e.sid)));
    }

-- ---- how it is put

-- the pieces that were put are the entry
pub entry_put : (kind : AceKind) (flags mask : ℕ) (object inherited : Option Guid) (sid : SidValue) (e : Entry)
    (now old sid_text : List ℕ) (code size : ℕ)
    → entry kind flags mask object inherited sid ≡ e → code ≡ type_code (has_guid object inherited) kind
    → size ≡ 4 + (length (fixed_bytes mask object inherited) + length (sid_bytes sid)) → sid_text ≡ sid_bytes sid
    → now ≡ ((old ++ code ∷ flags ∷ le_bytes 2 size) ++ fixed_bytes mask object inherited) ++ sid_text → now ≡ old
    ++ entry_bytes e
unfolding entry_bytes behind_header
entry_put kind flags mask object inherited sid e now old sid_text code size same code_is size_is sid_is put =
    let fixed = fixed_bytes mask object inherited in
    let whole : size ≡ 4 + length (fixed ++ sid_bytes sid) = omega (arith, length-append fixed (sid_bytes sid)) in
    let head : List ℕ = code ∷ flags ∷ le_bytes 2 size in
    let regroup : ((old ++ head) ++ fixed) ++ sid_text ≡ old ++ (head ++ (fixed ++ sid_text))
    = append_assoc (old ++ head) fixed sid_text ∙ append_assoc old head (fixed ++ sid_text) in
    let pieces : head ++ (fixed ++ sid_text) ≡ entry_bytes (entry kind flags mask object inherited sid)
    = rw (code_is, whole, sid_is) refl in
    subst (λ (x : Entry). now ≡ old ++ entry_bytes x) same (put ∙ regroup ∙ ap (λ (t : List ℕ). old ++ t) pieces)

-- its fields have their ranges
pub entry_is : (kind : AceKind) (flags mask : ℕ) (object inherited : Option Guid) (sid : SidValue) (e : Entry)
    → entry kind flags mask object inherited sid ≡ e → flags < 256 → bit_and flags 32 ≡ 0 → mask < 2 ^ 32
    → IsGuidIf object → IsGuidIf inherited → IsSid sid → IsEntry e
entry_is kind flags mask object inherited sid e same fits clear mask_fits o i s =
    subst IsEntry same (record { flags = fits; clear = clear; mask = mask_fits; object = o; inherited = i; sid = s })
