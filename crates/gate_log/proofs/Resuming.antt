-- What opening a store answers.
use Rattle.std.proofs.Common.{◌≡◌, ◌⊎◌, ℕ, ◌<◌, ◌≤◌, ◌^◌, List, length, take, Option, Result, Ok, Err}
use Rattle.std.proofs.Common.{Bool, false, refl, sym, ap, subst, ⊎_elim}
use Rattle.std.specs.Option.{IfSome}
use Rattle.std.specs.Result.{IsErr, IsErrOf}
use Rattle.site_io.specs.Counts.{HasRisen}
use Rattle.site_io.specs.Disk.{Images, images_of, at_slot, ReadsFull}
use Rattle.site_io.specs.Outside.{OnlyLooks}
use Rattle.site_io.specs.declared.site.Site.{Ghosts}
use Rattle.site_io.specs.declared.slot.Slot.{Slot}
use Rattle.site_io.specs.declared.slot.Slot.TheVariants.{A, B}
use Rattle.site_io.proofs.Counts.{risen_since}
use Rattle.site_io.proofs.Looking.{looks_on}
use Rattle.gate_log.specs.Counts.{Counts}
use Rattle.gate_log.specs.Layout.{HasRecords}
use Rattle.gate_log.specs.Reading.{AreHeads, IsLive}
use Rattle.gate_log.specs.Resumed.{IsResumed}
use Rattle.gate_log.specs.Store.{other, number_of, HasBodies, IsBrokenStore, IsEmptyStore, IsOne, OtherRests}
use Rattle.gate_log.specs.StoreOfLog.{RestsIn}
use Rattle.gate_log.specs.declared.fault.LogFault.{LogFault}
use Rattle.gate_log.specs.declared.fault.LogFault.TheVariants.{Empty, Broken, Site, Memory}
use Rattle.gate_log.specs.declared.log.Log.{Log}
use Rattle.gate_log.specs.declared.version.Version.{Version}
use Rattle.gate_log.proofs.Heads.{head_read, both_heads, head_empty, one_head}
use Rattle.gate_log.proofs.Opening.{always_told, and_told, told_back, ok_then, never_refused, Answer, Found}
use Rattle.gate_log.proofs.Opening.{found_rests, found_store, found_only, found_stands}

-- what is told has no bodies of another
map_told : (P Q : Images → Type 0) (r : Option Images) → ((held : Images) → P held → Q held) → IfSome r P → IfSome r Q
map_told P Q r f p = and_told P P Q r p p (λ held here again. f held here)

-- where slot A is of version 1, the store isn't empty
pub one_full : (head : List ℕ) (r : Option Images) → IfSome r (λ held. head ≡ take 14 held.a) → IsOne head
    → IfSome r (λ held. IsEmptyStore held → ⊥)
one_full head r is one = map_told (λ held. head ≡ take 14 held.a) (λ held. IsEmptyStore held → ⊥) r
    (λ held here empty. empty.0 (one_head head held.a here one).0) is

-- nor where what the slots begin with isn't that of an empty one
pub heads_full : (a b : List ℕ) (r : Option Images) → IfSome r (AreHeads a b) → (IsEmptyStore (images_of a b) → ⊥)
    → IfSome r (λ held. IsEmptyStore held → ⊥)
heads_full a b r heads full = map_told (AreHeads a b) (λ held. IsEmptyStore held → ⊥) r
    (λ held here empty. full (head_empty a b held here empty)) heads

module _ {S : Type 0} (s : Ghosts S) where
  -- the heads of both slots, read one after the other
  pub heads_read : (x y : S) (n m : ℕ) (a b : List ℕ) → OnlyLooks s x y → length a ≡ 14 → n ≤ length a
      → IfSome (s.reads x) (λ held. ReadsFull 0 n a (at_slot A held)) → length b ≡ 14 → m ≤ length b
      → IfSome (s.reads y) (λ held. ReadsFull 0 m b (at_slot B held))
      → IfSome (s.reads x) (AreHeads (take n a) (take m b))
  heads_read x y n m a b looks room_a within_a read_a room_b within_b read_b =
      both_heads (take n a) (take m b) (s.reads x) (head_read A (s.reads x) n a room_a within_a read_a)
      (told_back (λ held. take m b ≡ take 14 held.b) (s.reads x) (s.reads y) looks.held
      (head_read B (s.reads y) m b room_b within_b read_b))

  -- the site failed, or there was no memory
  pub stopped_resume : {T : Type 0} (x y : S) (shown : T → List (List ℕ)) (e : LogFault)
      (result : Result (Log × T) LogFault) → result ≡ Err e → (e ≡ Site) ⊎ (e ≡ Memory) → OnlyLooks s x y
      → (e ≡ Site → HasRisen (s.slot_faults x) (s.slot_faults y)) → IsResumed s x y result shown
  stopped_resume {T = T} x y shown e result is may looks risen =
      subst (λ (r : Result (Log × T) LogFault). IsResumed s x y r shown) (sym is) (record {
        bodies = tt;
        store = tt;
        only = tt;
        counts = tt;
        empty = λ never. absurd (not_empty never);
        broken = λ never. absurd (not_broken never);
        complete = always_told (λ held. (bodies : List (List ℕ)) → HasBodies held bodies → (IsErrOf here Empty → ⊥)
            × (IsErrOf here Broken → ⊥)) (s.reads x) (λ held bodies has. (not_empty, not_broken));
        complete_empty = always_told (λ held. IsEmptyStore held → IsErr here × (IsErrOf here Broken → ⊥)) (s.reads x)
            (λ held empty. (refl, not_broken));
        stands = tt;
        unspent = tt;
        faults = (
          λ never. ⊎_elim (λ a. cc (a, never)) (λ b. cc (b, never)) may,
          λ never. ⊎_elim (λ a. cc (a, never)) (λ b. cc (b, never)) may,
        );
        outside = looks;
        cause = λ failed. let same : e ≡ Site = cc failed in risen same;
      })
    where
      here : Result (Log × T) LogFault
      here = Err e

      not_empty : IsErrOf here Empty → ⊥
      not_empty never = ⊎_elim (λ a. cc (a, never)) (λ b. cc (b, never)) may

      not_broken : IsErrOf here Broken → ⊥
      not_broken never = ⊎_elim (λ a. cc (a, never)) (λ b. cc (b, never)) may

  -- neither slot is open
  pub empty_resume : {T : Type 0} (x y : S) (shown : T → List (List ℕ)) → OnlyLooks s x y
      → IfSome (s.reads x) IsEmptyStore → IsResumed s x y (Err Empty) shown
  empty_resume {T = T} x y shown looks empty =
      let here : Result (Log × T) LogFault = Err Empty in
      let not : IsErrOf here Broken → ⊥ = λ never. cc never in
      record {
        bodies = tt;
        store = tt;
        only = tt;
        counts = tt;
        empty = λ _. empty;
        broken = λ never. absurd (not never);
        complete = never_refused here (s.reads x) (λ _. empty) (λ never. absurd (not never));
        complete_empty = always_told (λ held. IsEmptyStore held → IsErr here × (IsErrOf here Broken → ⊥)) (s.reads x)
            (λ held none. (refl, not));
        stands = tt;
        unspent = tt;
        faults = (λ never. cc never, λ never. cc never);
        outside = looks;
        cause = λ never. absurd cc;
      }

  -- a slot is open, and the slots represent no bodies
  pub broken_resume : {T : Type 0} (x y : S) (shown : T → List (List ℕ)) → OnlyLooks s x y
      → IfSome (s.reads x) IsBrokenStore → IsResumed s x y (Err Broken) shown
  broken_resume {T = T} x y shown looks broken =
      let here : Result (Log × T) LogFault = Err Broken in
      let not : IsErrOf here Empty → ⊥ = λ never. cc never in
      record {
        bodies = tt;
        store = tt;
        only = tt;
        counts = tt;
        empty = λ never. absurd (not never);
        broken = λ _. broken;
        complete = never_refused here (s.reads x) (λ never. absurd (not never)) (λ _. broken);
        complete_empty = map_told IsBrokenStore
            (λ held. IsEmptyStore held → IsErr here × (IsErrOf here Broken → ⊥)) (s.reads x)
            (λ held no_store empty. absurd (no_store.full empty)) broken;
        stands = tt;
        unspent = tt;
        faults = (λ never. cc never, λ never. cc never);
        outside = looks;
        cause = λ never. absurd cc;
      }

  -- the live slot was read
  pub live_resume : (x y z : S) (version : Version) (live : Slot) (generation : ℕ) (other_open : Bool) (r : Answer)
      → OnlyLooks s x y → IsLive s y z version live generation other_open r
      → IfSome (s.reads x) (λ held. OtherRests version live generation other_open (at_slot (other live) held))
      → 0 < generation → generation < 2 ^ 64 → IfSome (s.reads x) (λ held. IsEmptyStore held → ⊥)
      → (IfSome (s.reads x) (λ held. (end : ℕ) (bodies : List (List ℕ)) → HasRecords (at_slot live held)
      (number_of version) generation end bodies → ⊥) → IfSome (s.reads x) IsBrokenStore)
      → IsResumed s x z r (λ parts. parts.items)
  live_resume x y z version live generation other_open r looks slot rest above below full refused =
      let found : Found r (s.reads x) = found_rests r (s.reads x) (s.reads y) version live generation other_open
      looks.held slot.records slot.counts slot.log rest above below in
      let broken : IsErrOf r Broken → IfSome (s.reads x) IsBrokenStore = λ is. refused
      (told_back (λ held. (end : ℕ) (bodies : List (List ℕ)) → HasRecords (at_slot live held) (number_of version)
      generation end bodies → ⊥) (s.reads x) (s.reads y) looks.held (slot.broken is)) in
      let through = looks_on s x y z looks slot.outside in
      record {
        bodies = found;
        store = found_store r (s.reads x) found;
        only = found_only r (s.reads x) found;
        counts = slot.counts;
        empty = λ never. absurd (slot.only.1 never);
        broken = broken;
        complete = never_refused r (s.reads x) (λ never. absurd (slot.only.1 never)) broken;
        complete_empty = map_told (λ held. IsEmptyStore held → ⊥)
            (λ held. IsEmptyStore held → IsErr r × (IsErrOf r Broken → ⊥)) (s.reads x)
            (λ held here empty. absurd (here empty)) full;
        stands = found_stands r (s.reads x) (s.reads z) (s.now z) (s.left z) through.held found slot.unsettled;
        unspent = ok_then r (λ found. (found.0.settled ≡ false) × (found.0.spent ≡ false))
            (λ found. found.0.spent ≡ false) slot.unsettled (λ found is. is.1);
        faults = (slot.only.0, slot.only.2);
        outside = through;
        cause = λ is. risen_since (s.slot_faults x) (s.slot_faults y) (s.slot_faults z) looks.never_falls
            (slot.cause is);
      }

  -- the same fault, in the place of what would be shown otherwise
  pub same_fault : {T U : Type 0} (x y : S) (shown : T → List (List ℕ)) (seen : U → List (List ℕ)) (fault : LogFault)
      (result : Result (Log × U) LogFault) → result ≡ Err fault → IsResumed s x y (Err fault) shown
      → IsResumed s x y result seen
  same_fault {T = T} {U = U} x y shown seen fault result is resumed =
      subst (λ (r : Result (Log × U) LogFault). IsResumed s x y r seen) (sym is) (record {
        bodies = tt;
        store = tt;
        only = tt;
        counts = tt;
        empty = λ e. resumed.empty (again Empty e);
        broken = λ e. resumed.broken (again Broken e);
        complete = map_told (λ held. (bodies : List (List ℕ)) → HasBodies held bodies → (IsErrOf first Empty → ⊥)
            × (IsErrOf first Broken → ⊥)) (λ held. (bodies : List (List ℕ)) → HasBodies held bodies
            → (IsErrOf second Empty → ⊥) × (IsErrOf second Broken → ⊥)) (s.reads x)
            (λ held never bodies has. (
              λ e. (never bodies has).0 (again Empty e),
              λ e. (never bodies has).1 (again Broken e),
            )) resumed.complete;
        complete_empty = map_told (λ held. IsEmptyStore held → IsErr first × (IsErrOf first Broken → ⊥))
            (λ held. IsEmptyStore held → IsErr second × (IsErrOf second Broken → ⊥)) (s.reads x)
            (λ held never empty. (refl, λ e. (never empty).1 (again Broken e))) resumed.complete_empty;
        stands = tt;
        unspent = tt;
        faults = (λ e. resumed.faults.0 (again _ e), λ e. resumed.faults.1 (again _ e));
        outside = resumed.outside;
        cause = λ e. resumed.cause (again Site e);
      })
    where
      first : Result (Log × T) LogFault
      first = Err fault

      second : Result (Log × U) LogFault
      second = Err fault

      again : (f : LogFault) → IsErrOf second f → IsErrOf first f
      again f e = let same : fault ≡ f = cc e in ap (λ (g : LogFault). Err g) same

  -- the same bodies, shown otherwise
  pub shown_otherwise : {T U : Type 0} (x y : S) (shown : T → List (List ℕ)) (seen : U → List (List ℕ)) (log : Log)
      (t : T) (u : U) → seen u ≡ shown t → IsResumed s x y (Ok (log, t)) shown → IsResumed s x y (Ok (log, u)) seen
  shown_otherwise {T = T} {U = U} x y shown seen log t u same resumed = record {
    bodies = subst (λ (l : List (List ℕ)). IfSome (s.reads x) (λ held. RestsIn log held l)) (sym same)
        resumed.bodies;
    store = subst (λ (l : List (List ℕ)). IfSome (s.reads x) (λ held. HasBodies held l)) (sym same) resumed.store;
    only = subst (λ (l : List (List ℕ)). IfSome (s.reads x) (λ held. (others : List (List ℕ)) → HasBodies held others
        → others ≡ l)) (sym same) resumed.only;
    counts = subst (λ (l : List (List ℕ)). Counts log.first log.behind l) (sym same) resumed.counts;
    empty = λ never. absurd cc;
    broken = λ never. absurd cc;
    complete = always_told (λ held. (bodies : List (List ℕ)) → HasBodies held bodies → (IsErrOf second Empty → ⊥)
        × (IsErrOf second Broken → ⊥)) (s.reads x) (λ held bodies has. (λ never. cc never, λ never. cc never));
    complete_empty = map_told (λ held. IsEmptyStore held → IsErr first × (IsErrOf first Broken → ⊥))
        (λ held. IsEmptyStore held → IsErr second × (IsErrOf second Broken → ⊥)) (s.reads x)
        (λ held never empty. let no = (never empty).0 in absurd (cc no)) resumed.complete_empty;
    stands = resumed.stands;
    unspent = resumed.unspent;
    faults = (λ never. cc never, λ never. cc never);
    outside = resumed.outside;
    cause = λ never. absurd cc;
  }
    where
      first : Result (Log × T) LogFault
      first = Ok (log, t)

      second : Result (Log × U) LogFault
      second = Ok (log, u)
