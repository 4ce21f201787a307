-- Where no entry is for the object itself, its own identifier doesn't count.
use Rattle.std.proofs.Common.{◌≡◌, ◌∙◌, ℕ, Bool, true, false, ◌&&◌, ◌||◌, Option, List, [], ◌∷◌, length, refl, sym, ap}
use Rattle.std.specs.Prelude.{if◌then◌else◌, ◌==◌}
use Rattle.std.specs.List.{list_any}
use Rattle.std.proofs.lemmas.Bool.{or_parts}
use Rattle.ad_ids.specs.SidValue.{SidValue, same_sid}
use Rattle.ad_ids.specs.declared.guid.Guid.{Guid}
use Rattle.ad_ids.specs.declared.token.Token.{Token}
use Rattle.ad_acl.specs.Entry.{Entry}
use Rattle.ad_acl.specs.Mask.{has_bit, mapped_has, write_owner, access_system_security}
use Rattle.ad_access.specs.WellKnown.{owner_rights}
use Rattle.ad_access.specs.Holder.{Holder, first_holder, second_holder, answers_to}
use Rattle.ad_access.specs.Matching.{answers_to_self, matches, speaks}
use Rattle.ad_access.specs.Grant.{decides, is_allow, granted_by_entries, granted_as_owner, granted_to}
use Rattle.ad_access.specs.Grant.{granted}
use Rattle.ad_rights.specs.Set.{is_for_self}

matches_any : (e : Entry) (holder : Holder) (self other : Option SidValue) (owner : SidValue) → is_for_self e ≡ false
    → matches e holder self owner ≡ matches e holder other owner
unfolding matches
matches_any e holder self other owner not_self =
    let by = λ (own : Option SidValue) (b : Bool). if b then answers_to_self e.kind holder own
    else (if same_sid e.sid owner_rights then answers_to e.kind holder owner else answers_to e.kind holder e.sid) in
    ap (by self) not_self ∙ sym (ap (by other) not_self)

entries_any : (dacl : List Entry) (holder : Holder) (self other : Option SidValue) (owner : SidValue)
    (path : List Guid) (bit : ℕ) → list_any is_for_self dacl ≡ false
    → granted_by_entries dacl holder self owner path bit ≡ granted_by_entries dacl holder other owner path bit
unfolding granted_by_entries
entries_any [] holder self other owner path bit none = refl
entries_any (e ∷ others) holder self other owner path bit none =
    let parts = or_parts (is_for_self e) (list_any is_for_self others) none in
    ap (λ (b : Bool). if speaks e path && b && mapped_has e.mask bit then is_allow e.kind
    else granted_by_entries others holder self owner path bit) (matches_any e holder self other owner parts.0)
    ∙ ap (λ (b : Bool). if decides e holder other owner path bit then is_allow e.kind else b)
    (entries_any others holder self other owner path bit parts.1)

pub granted_any : (owner : SidValue) (dacl : List Entry) (token : Token) (self other : Option SidValue)
    (path : List Guid) (bit : ℕ) → list_any is_for_self dacl ≡ false
    → granted owner dacl token self path bit ≡ granted owner dacl token other path bit
granted_any owner dacl token self other path bit none =
    let first = entries_any dacl (first_holder token) self other owner path bit none in
    let second = entries_any dacl (second_holder token) self other owner path bit none in
    let one = ap (λ (b : Bool). (granted_as_owner owner dacl (first_holder token) bit || b)
    && ((length token.restricting == 0) || granted_to owner dacl (second_holder token) self path bit)) first in
    let two = ap (λ (b : Bool). granted_to owner dacl (first_holder token) other path bit
    && ((length token.restricting == 0) || (granted_as_owner owner dacl (second_holder token) bit || b))) second
    in
    ap (λ (b : Bool). if bit == access_system_security then has_bit token.privileges 0
    else (if (bit == write_owner) && has_bit token.privileges 1 then true else b)) (one ∙ two)
