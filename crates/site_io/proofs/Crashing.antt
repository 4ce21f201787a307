-- What a crash leaves of a slot, call by call.
use Rattle.std.proofs.Common.{◌≡◌, inl, inr, Bool, true, false, ℕ, List, [], ◌∷◌, ◌++◌, All, refl, sym, ◌∙◌, ap}
use Rattle.std.proofs.Common.{arith, append_assoc}
use Rattle.std.proofs.lemmas.List.{append-nil}
use Rattle.std.proofs.lemmas.List.Elements.{All-push}
use Rattle.std.specs.Bool.{MatchBool}
use Rattle.site_io.specs.Calls.{held_after, held_by}
use Rattle.site_io.specs.Crashed.{synced_in, kept_after, left_after, kept_by, EndsInSync, CrashedTo}
use Rattle.site_io.specs.declared.slot.Slot.{Slot}
use Rattle.site_io.specs.declared.slot.Slot.TheVariants.{A, B}
use Rattle.site_io.specs.declared.call.Call.{Call}
use Rattle.site_io.specs.declared.call.Call.TheVariants.{Write, Sync, Emit, Other}
use Rattle.site_io.proofs.Moments.{held_push}

-- how many of so many bytes are left after calls
abbrev pub left_by : Slot → ℕ → List Call → ℕ
left_by slot most [] = most
left_by slot most (call ∷ calls) = left_by slot (left_after slot most call) calls

kept_push : (slot : Slot) (most : ℕ) (held : List ℕ) (calls : List Call) (call : Call)
    → kept_by slot most held (calls ++ call ∷ []) ≡ kept_after slot (left_by slot most calls)
    (kept_by slot most held calls) call
kept_push slot most held [] call = refl
kept_push slot most held (first ∷ calls) call = kept_push slot (left_after slot most first)
    (kept_after slot most held first) calls call

left_push : (slot : Slot) (most : ℕ) (calls : List Call) (call : Call) → left_by slot most (calls ++ call ∷ [])
    ≡ left_after slot (left_by slot most calls) call
left_push slot most [] call = refl
left_push slot most (first ∷ calls) call = left_push slot (left_after slot most first) calls call

-- a sync changes nothing that a read gives
sync_same : (slot : Slot) (held : List ℕ) (call : Call) → synced_in slot call ≡ true → held_after slot held call ≡ held
sync_same A held (Sync A) so = refl
sync_same B held (Sync B) so = refl
sync_same A held (Sync B) so = refl
sync_same B held (Sync A) so = refl
sync_same slot held (Write written at bytes) so = cc so
sync_same slot held (Emit bytes) so = refl
sync_same slot held Other so = refl

pub record Crashing (slot : Slot) (first : List ℕ) (calls : List Call) (kept : ℕ) (image : List ℕ) (left : ℕ) : Type 0
  where
    pub until : List Call
    pub later : List Call
    pub all : calls ≡ until ++ later
    pub last : EndsInSync slot until
    pub none : All (λ call. synced_in slot call ≡ false) later
    pub bytes : image ≡ kept_by slot kept (held_by slot first until) later
    pub rest : left ≡ left_by slot kept later

no_calls : (slot : Slot) → All (λ call. synced_in slot call ≡ false) []
no_calls slot k d within = absurd (omega (arith, within))

pub crashing_first : (slot : Slot) (first : List ℕ) (kept : ℕ) → Crashing slot first [] kept first kept
crashing_first slot first kept = record {
  until = [];
  later = [];
  all = refl;
  last = inl refl;
  none
      = no_calls slot;
  bytes = refl;
  rest = refl;
}

-- one call more, which synced the slot or didn't
next : (synced : Bool) (slot : Slot) (first : List ℕ) (calls : List Call) (kept : ℕ) (call : Call)
    (held image new : List ℕ) (left left_new : ℕ) → synced_in slot call ≡ synced
    → Crashing slot first calls kept image left → held ≡ held_by slot first calls
    → MatchBool synced ((new ≡ held) × (left_new ≡ kept))
    ((new ≡ kept_after slot left image call) × (left_new ≡ left_after slot left call))
    → Crashing slot first (calls ++ call ∷ []) kept new left_new
next true slot first calls kept call held image new left left_new so crashing in_slot is = record {
  until = calls ++ call ∷ [];
  later = [];
  all = sym (append-nil (calls ++ call ∷ []));
  last = inr (calls, call, refl, so);
  none = no_calls slot;
  bytes = is.0 ∙ in_slot ∙ sym (sync_same slot (held_by slot first calls) call so)
      ∙ sym (held_push slot first calls call);
  rest = is.1;
}
next false slot first calls kept call held image new left left_new so crashing in_slot is = record {
  until = crashing.until;
  later = crashing.later ++ call ∷ [];
  all = ap (λ (cs : List Call). cs ++ call ∷ []) crashing.all ∙ append_assoc crashing.until crashing.later (call ∷ []);
  last = crashing.last;
  none = All-push (λ call. synced_in slot call ≡ false) crashing.later call crashing.none so;
  bytes = is.0 ∙ (λ i. kept_after slot (crashing.rest i) (crashing.bytes i) call)
      ∙ sym (kept_push slot kept (held_by slot first crashing.until) crashing.later call);
  rest = is.1 ∙ ap (λ most. left_after slot most call) crashing.rest ∙ sym (left_push slot kept crashing.later call);
}

pub crashing_more : (slot : Slot) (first : List ℕ) (calls : List Call) (kept : ℕ) (call : Call)
    (held image new : List ℕ) (left left_new : ℕ) → Crashing slot first calls kept image left → held
    ≡ held_by slot first calls
    → MatchBool (synced_in slot call) ((new ≡ held) × (left_new ≡ kept))
    ((new ≡ kept_after slot left image call) × (left_new ≡ left_after slot left call))
    → Crashing slot first (calls ++ call ∷ []) kept new left_new
crashing_more slot first calls kept call held image new left left_new = next (synced_in slot call) slot first calls
    kept call held image new left left_new refl

pub crashed : (slot : Slot) (first : List ℕ) (calls : List Call) (kept : ℕ) (image : List ℕ) (left : ℕ)
    → Crashing slot first calls kept image left → CrashedTo slot first calls kept image
crashed slot first calls kept image left crashing
    = record {
      until = crashing.until;
      later = crashing.later;
      all = crashing.all;
      last = crashing.last;
      none
          = crashing.none;
      bytes = crashing.bytes;
    }
