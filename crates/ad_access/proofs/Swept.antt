-- A sweep over the entries: what it has found so far, before what the other entries give, is what the whole list
-- gives.
use Rattle.std.proofs.Common.{◌≡◌, ℕ, ◌^◌, ◌<◌, Bool, true, false, not, ◌&&◌, ◌||◌, Option, List, [], ◌∷◌, sym, refl}
use Rattle.std.proofs.Common.{ap, ◌∙◌}
use Rattle.std.proofs.Math.Bool.{and-false, and-true, and_assoc, or-false}
use Rattle.std.specs.Prelude.{if◌then◌else◌, bit_and, bit_or}
use Rattle.std.specs.Int.{bit_not, w32}
use Rattle.std.specs.List.{list_any}
use Rattle.ad_ids.specs.SidValue.{SidValue}
use Rattle.ad_ids.specs.declared.guid.Guid.{Guid}
use Rattle.ad_acl.specs.Entry.{Entry}
use Rattle.ad_acl.specs.Mask.{has_bit}
use Rattle.ad_acl.proofs.MaskLaws.{has_bit-zero, has_bit-and, has_bit-or, has_bit-not}
use Rattle.ad_access.specs.Holder.{Holder, holds}
use Rattle.ad_access.specs.Grant.{decides, is_allow, granted_by_entries, sets_owner_rights, is_implicit_owner_right}
use Rattle.ad_access.specs.Grant.{granted_as_owner, granted_to}

-- what is found for one right: allowed already, or still undecided and allowed by the others; and had as owner,
-- unless one of the others sets the owner's rights
pub record Swept (owner : SidValue) (holder : Holder) (self : Option SidValue) (path : List Guid)
    (whole others : List Entry) (want undecided allowed owned : ℕ) : Type 0 where
  pub by_entries : (bit : ℕ) → bit < 32 → has_bit allowed bit
      || (has_bit undecided bit && granted_by_entries others holder self owner path bit) ≡ has_bit want bit
      && granted_by_entries whole holder self owner path bit
  pub as_owner : (bit : ℕ) → bit < 32 → has_bit owned bit && not (list_any sets_owner_rights others)
      ≡ has_bit want bit && granted_as_owner owner whole holder bit

-- one entry decides some of the undecided rights, and allows those or none of them
entry_step : (allowed undecided decided allow others whole : Bool) → allowed
    || (undecided && (if decided then allow else others)) ≡ whole → (allowed || ((undecided && decided) && allow))
    || ((undecided && not (undecided && decided)) && others) ≡ whole
entry_step true undecided decided allow others whole e = e
entry_step false false decided allow others whole e = e
entry_step false true true true others whole e = e
entry_step false true true false others whole e = e
entry_step false true false allow others whole e = e

owner_step : (owned sets others whole : Bool) → owned && not (sets || others) ≡ whole → (owned && not sets)
    && not others ≡ whole
owner_step false sets others whole e = e
owner_step true true others whole e = e
owner_step true false others whole e = e

-- where no right is open, what is allowed is all that is granted
closed : (want allowed undecided owned others sets entries as_owner : Bool) → allowed || (undecided && others) ≡ want
    && entries → owned && not sets ≡ want && as_owner → undecided || (owned && not allowed) ≡ false → allowed ≡ want
    && (as_owner || entries)
closed false true undecided owned others sets entries as_owner e f g = e
closed false false undecided owned others sets entries as_owner e f g = refl
closed true true undecided owned others sets entries false e f g = e
closed true true undecided owned others sets entries true e f g = refl
closed true false true owned others sets entries as_owner e f g = absurd cc
closed true false false true others sets entries as_owner e f g = absurd cc
closed true false false false others sets entries false e f g = e
closed true false false false others sets entries true e f g = absurd cc

-- at the end of the list
ended : (want allowed undecided owned entries as_owner : Bool) → allowed || (undecided && false) ≡ want && entries
    → owned && not false ≡ want && as_owner → allowed || owned ≡ want && (as_owner || entries)
ended want allowed undecided owned entries as_owner e f =
    let none : allowed ≡ want && entries = sym (or-false allowed) ∙ ap (λ (b : Bool). allowed || b)
    (sym (and-false undecided)) ∙ e in
    let had : owned ≡ want && as_owner = sym (and-true owned) ∙ f in
    ap (λ (b : Bool). b || owned) none ∙ ap (λ (b : Bool). (want && entries) || b) had ∙ joined want entries as_owner
  where
    joined : (p q r : Bool) → (p && q) || (p && r) ≡ p && (r || q)
    joined false q r = refl
    joined true false false = refl
    joined true false true = refl
    joined true true false = refl
    joined true true true = refl

pub swept_none : (owner : SidValue) (holder : Holder) (self : Option SidValue) (path : List Guid) (whole : List Entry)
    (want owned : ℕ) → ((bit : ℕ) → bit < 32 → has_bit owned bit ≡ has_bit want bit
    && (is_implicit_owner_right bit && holds holder owner)) → Swept owner holder self path whole whole want want 0 owned
unfolding granted_as_owner
swept_none owner holder self path whole want owned had = record {
  by_entries = λ bit lt. ap (λ (b : Bool). b
      || (has_bit want bit && granted_by_entries whole holder self owner path bit)) (has_bit-zero bit);
  as_owner = λ bit lt.
      ap (λ (b : Bool). b && not (list_any sets_owner_rights whole)) (had bit lt)
      ∙ and_assoc (has_bit want bit) (is_implicit_owner_right bit && holds holder owner) (not (list_any sets_owner_rights whole));
}

-- one entry decides some of the undecided rights, and sets the owner's rights or doesn't
pub swept_step : (owner : SidValue) (holder : Holder) (self : Option SidValue) (path : List Guid) (whole : List Entry)
    (entry : Entry) (others : List Entry) (want undecided allowed owned undecided' allowed' owned' : ℕ)
    → Swept owner holder self path whole (entry ∷ others) want undecided allowed owned
    → ((bit : ℕ) → bit < 32 → has_bit undecided' bit ≡ has_bit undecided bit
    && not (has_bit undecided bit && decides entry holder self owner path bit))
    → ((bit : ℕ) → bit < 32 → has_bit allowed' bit ≡ has_bit allowed bit
    || ((has_bit undecided bit && decides entry holder self owner path bit) && is_allow entry.kind))
    → ((bit : ℕ) → has_bit owned' bit ≡ has_bit owned bit && not (sets_owner_rights entry)) → Swept owner holder self
    path whole others want undecided' allowed' owned'
unfolding granted_by_entries
swept_step owner holder self path whole entry others want undecided allowed owned undecided' allowed' owned' swept
    undecided_bits allowed_bits owned_bits = record {
      by_entries = λ bit lt.
          let all : Bool = has_bit want bit && granted_by_entries whole holder self owner path bit in
          ap (λ (b : Bool). b || (has_bit undecided' bit && granted_by_entries others holder self owner path bit))
          (allowed_bits bit lt)
          ∙ ap (λ (b : Bool). (has_bit allowed bit
          || ((has_bit undecided bit && decides entry holder self owner path bit) && is_allow entry.kind))
          || (b && granted_by_entries others holder self owner path bit))
          (undecided_bits bit lt)
          ∙ entry_step (has_bit allowed bit) (has_bit undecided bit) (decides entry holder self owner path bit)
          (is_allow entry.kind) (granted_by_entries others holder self owner path bit) all (swept.by_entries bit lt);
      as_owner = λ bit lt.
          ap (λ (b : Bool). b && not (list_any sets_owner_rights others)) (owned_bits bit)
          ∙ owner_step (has_bit owned bit) (sets_owner_rights entry) (list_any sets_owner_rights others)
          (has_bit want bit && granted_as_owner owner whole holder bit) (swept.as_owner bit lt);
    }

-- the same, by what the code computes
pub swept_more : (owner : SidValue) (holder : Holder) (self : Option SidValue) (path : List Guid) (whole : List Entry)
    (entry : Entry) (others : List Entry) (want undecided allowed owned : ℕ) (decided given left : ℕ)
    → Swept owner holder self path whole (entry ∷ others) want undecided allowed owned → decided < 2 ^ 32
    → ((bit : ℕ) → bit < 32 → has_bit decided bit ≡ has_bit undecided bit && decides entry holder self owner path bit)
    → ((bit : ℕ) → has_bit given bit ≡ has_bit decided bit && is_allow entry.kind)
    → ((bit : ℕ) → has_bit left bit ≡ has_bit owned bit && not (sets_owner_rights entry)) → Swept owner holder self
    path whole others want (bit_and undecided (bit_not w32 decided)) (bit_or allowed given) left
swept_more owner holder self path whole entry others want undecided allowed owned decided given left swept small
    decides_bits given_bits left_bits =
    swept_step owner holder self path whole entry others want undecided allowed owned
    (bit_and undecided (bit_not w32 decided)) (bit_or allowed given) left swept
    (λ bit lt. has_bit-and undecided (bit_not w32 decided) bit ∙ ap (λ (b : Bool). has_bit undecided bit && b)
    (has_bit-not decided bit small lt ∙ ap not (decides_bits bit lt)))
    (λ bit lt. has_bit-or allowed given bit ∙ ap (λ (b : Bool). has_bit allowed bit || b)
    (given_bits bit ∙ ap (λ (b : Bool). b && is_allow entry.kind) (decides_bits bit lt)))
    left_bits

-- the same of one right that is not open
pub closed_at : (owner : SidValue) (holder : Holder) (self : Option SidValue) (path : List Guid)
    (whole others : List Entry) (want undecided allowed owned bit : ℕ) → bit < 32 → Swept owner holder self path whole
    others want undecided allowed owned → has_bit undecided bit ≡ false → has_bit owned bit ≡ false
    → has_bit allowed bit ≡ has_bit want bit && granted_to owner whole holder self path bit
closed_at owner holder self path whole others want undecided allowed owned bit lt swept none_undecided none_owned =
    let shut : has_bit undecided bit || (has_bit owned bit && not (has_bit allowed bit)) ≡ false
    = rw (none_undecided, none_owned) refl in
    closed (has_bit want bit) (has_bit allowed bit) (has_bit undecided bit) (has_bit owned bit)
    (granted_by_entries others holder self owner path bit) (list_any sets_owner_rights others)
    (granted_by_entries whole holder self owner path bit) (granted_as_owner owner whole holder bit)
    (swept.by_entries bit lt) (swept.as_owner bit lt) shut

pub swept_closed : (owner : SidValue) (holder : Holder) (self : Option SidValue) (path : List Guid)
    (whole others : List Entry) (want undecided allowed owned : ℕ) → Swept owner holder self path whole others want
    undecided allowed owned → allowed < 2 ^ 32 → bit_or undecided (bit_and owned (bit_not w32 allowed)) ≡ 0
    → (bit : ℕ) → bit < 32 → has_bit allowed bit ≡ has_bit want bit && granted_to owner whole holder self path bit
swept_closed owner holder self path whole others want undecided allowed owned swept small none = λ bit lt.
    let open_bit : has_bit undecided bit || (has_bit owned bit && not (has_bit allowed bit)) ≡ false =
    ap (λ (b : Bool). has_bit undecided bit || (has_bit owned bit && b)) (sym (has_bit-not allowed bit small lt))
    ∙ ap (λ (b : Bool). has_bit undecided bit || b) (sym (has_bit-and owned (bit_not w32 allowed) bit))
    ∙ sym (has_bit-or undecided (bit_and owned (bit_not w32 allowed)) bit)
    ∙ ap (λ (n : ℕ). has_bit n bit) none
    ∙ has_bit-zero bit in
    closed (has_bit want bit) (has_bit allowed bit) (has_bit undecided bit) (has_bit owned bit)
    (granted_by_entries others holder self owner path bit) (list_any sets_owner_rights others)
    (granted_by_entries whole holder self owner path bit) (granted_as_owner owner whole holder bit)
    (swept.by_entries bit lt) (swept.as_owner bit lt) open_bit

pub swept_all : (owner : SidValue) (holder : Holder) (self : Option SidValue) (path : List Guid) (whole : List Entry)
    (want undecided allowed owned : ℕ) → Swept owner holder self path whole [] want undecided allowed owned
    → (bit : ℕ) → bit < 32 → has_bit (bit_or allowed owned) bit ≡ has_bit want bit && granted_to owner whole holder
    self path bit
unfolding granted_by_entries
swept_all owner holder self path whole want undecided allowed owned swept = λ bit lt.
    has_bit-or allowed owned bit
    ∙ ended (has_bit want bit) (has_bit allowed bit) (has_bit undecided bit) (has_bit owned bit)
    (granted_by_entries whole holder self owner path bit) (granted_as_owner owner whole holder bit)
    (swept.by_entries bit lt) (swept.as_owner bit lt)
