-- Where the principals answer alike to two identifiers of the object of its own, they are granted the same.
use Rattle.std.proofs.Common.{◌≡◌, ℕ, Bool, ◌&&◌, ◌||◌, Option, List, [], ◌∷◌, length, refl, ap, ◌∙◌}
use Rattle.std.specs.Prelude.{if◌then◌else◌, ◌==◌, true}
use Rattle.ad_ids.specs.SidValue.{SidValue, same_sid}
use Rattle.ad_ids.specs.declared.guid.Guid.{Guid}
use Rattle.ad_ids.specs.declared.token.Token.{Token}
use Rattle.ad_acl.specs.declared.kind.AceKind.{AceKind}
use Rattle.ad_acl.specs.Entry.{Entry}
use Rattle.ad_acl.specs.Mask.{has_bit, mapped_has, write_owner, access_system_security}
use Rattle.ad_access.specs.Privileges.{security, take_ownership}
use Rattle.ad_access.specs.WellKnown.{owner_rights, principal_self}
use Rattle.ad_access.specs.Holder.{Holder, first_holder, second_holder, answers_to}
use Rattle.ad_access.specs.Matching.{answers_to_self, matches, speaks}
use Rattle.ad_access.specs.Grant.{decides, is_allow, granted_by_entries, granted_as_owner, granted_to}
use Rattle.ad_access.specs.Grant.{granted_to_holders, granted}
use Rattle.ad_access.specs.Alike.{AnswerAlike}

matches_alike : (e : Entry) (holder : Holder) (self other : Option SidValue) (owner : SidValue)
    → ((kind : AceKind) → answers_to_self kind holder self ≡ answers_to_self kind holder other)
    → matches e holder self owner ≡ matches e holder other owner
unfolding matches
matches_alike e holder self other owner alike =
    ap (λ (b : Bool). if same_sid e.sid principal_self then b
    else (if same_sid e.sid owner_rights then answers_to e.kind holder owner else answers_to e.kind holder e.sid))
    (alike e.kind)

entries_alike : (dacl : List Entry) (holder : Holder) (self other : Option SidValue) (owner : SidValue)
    (path : List Guid) (bit : ℕ) → ((kind : AceKind) → answers_to_self kind holder self ≡ answers_to_self kind holder
    other) → granted_by_entries dacl holder self owner path bit ≡ granted_by_entries dacl holder other owner path bit
unfolding granted_by_entries
entries_alike [] holder self other owner path bit alike = refl
entries_alike (e ∷ others) holder self other owner path bit alike =
    ap (λ (b : Bool). if speaks e path && b && mapped_has e.mask bit then is_allow e.kind
    else granted_by_entries others holder self owner path bit) (matches_alike e holder self other owner alike)
    ∙ ap (λ (b : Bool). if decides e holder other owner path bit then is_allow e.kind else b)
    (entries_alike others holder self other owner path bit alike)

pub granted_alike : (owner : SidValue) (dacl : List Entry) (token : Token) (self other : Option SidValue)
    (path : List Guid) (bit : ℕ) → AnswerAlike token self other → granted owner dacl token self path bit
    ≡ granted owner dacl token other path bit
granted_alike owner dacl token self other path bit alike =
    let first = entries_alike dacl (first_holder token) self other owner path bit alike.first in
    let second = entries_alike dacl (second_holder token) self other owner path bit alike.second in
    let one = ap (λ (b : Bool). (granted_as_owner owner dacl (first_holder token) bit || b)
    && ((length token.restricting == 0) || granted_to owner dacl (second_holder token) self path bit)) first in
    let two = ap (λ (b : Bool). granted_to owner dacl (first_holder token) other path bit
    && ((length token.restricting == 0) || (granted_as_owner owner dacl (second_holder token) bit || b))) second
    in
    ap (λ (b : Bool). if bit == access_system_security then has_bit token.privileges security
    else (if (bit == write_owner) && has_bit token.privileges take_ownership then true else b)) (one ∙ two)
