-- A right is granted exactly where what decides it grants.
use Rattle.std.proofs.Common.{◌≡◌, ◌∙◌, ℕ, ◌+◌, Bool, true, false, List, [], ◌∷◌, Option, length, refl, sym, ap}
use Rattle.std.specs.Prelude.{◌&&◌, ◌||◌, ◌==◌, if◌then◌else◌}
use Rattle.std.proofs.Math.Bool.{and-true}
use Rattle.ad_ids.specs.SidValue.{SidValue}
use Rattle.ad_ids.specs.declared.guid.Guid.{Guid}
use Rattle.ad_ids.specs.declared.token.Token.{Token}
use Rattle.ad_acl.specs.declared.kind.AceKind.{AceKind}
use Rattle.ad_acl.specs.declared.kind.AceKind.TheVariants.{Allow, Deny, Audit}
use Rattle.ad_acl.specs.Entry.{Entry}
use Rattle.ad_acl.specs.Mask.{has_bit, write_owner, access_system_security}
use Rattle.ad_access.specs.Holder.{Holder, first_holder, second_holder}
use Rattle.ad_access.specs.Grant.{decides, is_allow, granted_by_entries, granted_as_owner, granted_to}
use Rattle.ad_access.specs.Grant.{granted_to_holders, granted}
use Rattle.ad_who.specs.declared.decider.Decider.{Decider}
use Rattle.ad_who.specs.declared.decider.Decider.TheVariants.{Privilege, Owner, Nothing}
use Rattle.ad_who.specs.Decider.{by_kind, deciding_from, decider_for, decider, grants, decider_at}
use Rattle.ad_access_dir.specs.Sight.{is_granted}
use Rattle.ad_dir_model.specs.Objects.{sd_at}
use Rattle.ad_dir_model.specs.Identity.{self_sid}
use Rattle.ad_dir_model.specs.Directory.{Directory}

kind_grants : (kind : AceKind) (place : ℕ) → is_allow kind ≡ grants (by_kind kind place)
kind_grants Allow place = refl
kind_grants Deny place = refl
kind_grants Audit place = refl

entries_grant : (dacl : List Entry) (place : ℕ) (holder : Holder) (self : Option SidValue) (owner : SidValue)
    (path : List Guid) (bit : ℕ)
    → granted_by_entries dacl holder self owner path bit ≡ grants (deciding_from place dacl holder self owner path bit)
unfolding granted_by_entries deciding_from
entries_grant [] place holder self owner path bit = refl
entries_grant (entry ∷ others) place holder self owner path bit =
    by_test (entries_grant others (place + 1) holder self owner path bit) (decides entry holder self owner path bit)
  where
    by_test : granted_by_entries others holder self owner path bit
        ≡ grants (deciding_from (place + 1) others holder self owner path bit)
        → (b : Bool) → (if b then is_allow entry.kind else granted_by_entries others holder self owner path bit)
        ≡ grants (if b then by_kind entry.kind place else deciding_from (place + 1) others holder self owner path bit)
    by_test others_grant true = kind_grants entry.kind place
    by_test others_grant false = others_grant

holder_grants : (owner : SidValue) (dacl : List Entry) (holder : Holder) (self : Option SidValue) (path : List Guid)
    (bit : ℕ)
    → granted_to owner dacl holder self path bit ≡ grants (decider_for owner dacl holder self path bit)
unfolding decider_for
holder_grants owner dacl holder self path bit = by_test (granted_as_owner owner dacl holder bit)
  where
    by_test : (b : Bool) → b || granted_by_entries dacl holder self owner path bit
        ≡ grants (if b then Owner else deciding_from 1 dacl holder self owner path bit)
    by_test true = refl
    by_test false = entries_grant dacl 1 holder self owner path bit

by_privilege : (system security take first : Bool) (d : Decider) → first ≡ grants d
    → (if system then security else (if take then true else first))
    ≡ grants (if system then (if security then Privilege else Nothing) else (if take then Privilege else d))
by_privilege true true take first d e = refl
by_privilege true false take first d e = refl
by_privilege false security true first d e = refl
by_privilege false security false first d e = e

pub granted_decided : (owner : SidValue) (dacl : List Entry) (token : Token) (self : Option SidValue)
    (path : List Guid) (bit : ℕ)
    → token.restricting ≡ [] → granted owner dacl token self path bit ≡ grants (decider owner dacl token self path bit)
unfolding decider
granted_decided owner dacl token self path bit none =
    by_privilege (bit == access_system_security) (has_bit token.privileges 0)
    ((bit == write_owner) && has_bit token.privileges 1)
    (granted_to_holders owner dacl token self path bit) (decider_for owner dacl (first_holder token) self path bit)
    (alone ∙ holder_grants owner dacl (first_holder token) self path bit)
  where
    alone : granted_to_holders owner dacl token self path bit ≡ granted_to owner dacl (first_holder token) self path bit
    alone = ap (λ (sids : List SidValue). granted_to owner dacl (first_holder token) self path bit
        && ((length sids == 0) || granted_to owner dacl (second_holder token) self path bit)) none
        ∙ and-true (granted_to owner dacl (first_holder token) self path bit)

-- ---- one entry after the other

pub decided_here : (place : ℕ) (entry : Entry) (others : List Entry) (holder : Holder) (self : Option SidValue)
    (owner : SidValue) (path : List Guid) (bit : ℕ)
    → decides entry holder self owner path bit ≡ true → deciding_from place (entry ∷ others) holder self owner path
    bit ≡ by_kind entry.kind place
unfolding deciding_from
decided_here place entry others holder self owner path bit so = rw so refl

pub decided_later : (place : ℕ) (entry : Entry) (others : List Entry) (holder : Holder) (self : Option SidValue)
    (owner : SidValue) (path : List Guid) (bit : ℕ)
    → decides entry holder self owner path bit ≡ false
    → deciding_from place (entry ∷ others) holder self owner path bit ≡ deciding_from (place + 1) others holder self
    owner path bit
unfolding deciding_from
decided_later place entry others holder self owner path bit so = rw so refl

-- on an object
pub decided_granted : (dir : Directory) (token : Token) (number : ℕ) (path : List Guid) (bit : ℕ) → token.restricting
    ≡ []
    → grants (decider_at dir token number path bit) ≡ is_granted dir token number path bit
unfolding decider_at is_granted
decided_granted dir token number path bit none =
    let sd = sd_at dir.objects number in
    sym (granted_decided sd.owner sd.dacl.entries token (self_sid dir number) path bit none)
