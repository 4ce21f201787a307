-- What opening a store finds.
use Rattle.std.proofs.Common.{◌≡◌, ℕ, ◌<◌, ◌^◌, List, Option, Some, None, Result, Ok, Err, Bool, true, false, Vec}
use Rattle.std.proofs.Common.{take, drop, sym, subst, arith}
use Rattle.std.specs.declared.alloc.Global.{Global}
use Rattle.std.specs.Option.{IfSome}
use Rattle.std.specs.Result.{IfOk, IsErr, IsErrOf}
use Rattle.site_io.specs.Told.{StaysTold}
use Rattle.site_io.specs.Disk.{Images, images_of, at_slot}
use Rattle.site_io.specs.declared.slot.Slot.{Slot}
use Rattle.site_io.specs.declared.slot.Slot.TheVariants.{A, B}
use Rattle.gate_log.specs.Counts.{Counts}
use Rattle.gate_log.specs.Layout.{HasRecords}
use Rattle.gate_log.specs.Reading.{AreHeads, IsNewer, IsOpened}
use Rattle.gate_log.specs.Store.{other, number_of, HasBodies, HasBodiesTwo, IsBrokenStore, IsEmptyStore, IsOne}
use Rattle.gate_log.specs.Store.{IsOlder, OtherRests, Rests}
use Rattle.gate_log.specs.StoreOfLog.{RestsIn, StandsIn}
use Rattle.gate_log.specs.declared.fault.LogFault.{LogFault}
use Rattle.gate_log.specs.declared.fault.LogFault.TheVariants.{Broken, Empty}
use Rattle.gate_log.specs.declared.log.Log.{Log}
use Rattle.gate_log.specs.declared.version.Version.{Version}
use Rattle.gate_log.specs.declared.version.Version.TheVariants.{Two}
use Rattle.gate_log.proofs.Images.{rests_has}
use Rattle.gate_log.proofs.Heads.{one_head, head_one, head_empty, empty_head}
use Rattle.gate_log.proofs.Refusing.{newer_none, broken_one, broken_two}
use Rattle.gate_log.proofs.Single.{none_empty, one_list}

-- two facts of one answer
pub two_ok : {X E : Type 0} (r : Result X E) (P Q S : X → Type 0) → IfOk r P → IfOk r Q → ((x : X) → P x → Q x → S x)
    → IfOk r S
two_ok (Ok x) P Q S p q f = f x p q
two_ok (Err e) P Q S p q f = tt

pub ok_then : {X E : Type 0} (r : Result X E) (P S : X → Type 0) → IfOk r P → ((x : X) → P x → S x) → IfOk r S
ok_then (Ok x) P S p f = f x p
ok_then (Err e) P S p f = tt

older_than : (bytes : List ℕ) (generation lower : ℕ) → IsOpened bytes lower → lower < generation
    → IsOlder generation bytes
older_than bytes generation lower opened less = (lower, drop 14 bytes, opened.above, less, opened.head)

-- the newer of two open slots
pub newer_rests : (images : Images) (in_a in_b : ℕ) (slot : Slot) (generation : ℕ) (other_open : Bool)
    → IsOpened images.a in_a → IsOpened images.b in_b → other_open ≡ true → IsNewer slot generation in_a in_b
    → OtherRests Two slot generation other_open (at_slot (other slot) images) × IsOpened (at_slot slot images)
    generation
newer_rests images in_a in_b A generation other_open of_a of_b is_open newer =
    let here : IsOpened images.a generation = subst (λ g. IsOpened images.a g) (sym newer.0) of_a in (
      subst (λ o. OtherRests Two A generation o images.b) (sym is_open)
          (older_than images.b generation in_b of_b (omega (arith, newer.0, newer.1))),
      here,
    )
newer_rests images in_a in_b B generation other_open of_a of_b is_open newer =
    let here : IsOpened images.b generation = subst (λ g. IsOpened images.b g) (sym newer.0) of_b in (
      subst (λ o. OtherRests Two B generation o images.a) (sym is_open)
          (older_than images.a generation in_a of_a (omega (arith, newer.0, newer.1))),
      here,
    )

pub newer_refused : (images : Images) (bodies : List (List ℕ)) (in_a in_b : ℕ) (slot : Slot) (generation : ℕ)
    → IsOpened images.a in_a → IsOpened images.b in_b → IsNewer slot generation in_a in_b
    → ((end : ℕ) (bodies : List (List ℕ)) → HasRecords (at_slot slot images) 2 generation end bodies → ⊥)
    → HasBodiesTwo images bodies → ⊥
newer_refused images bodies in_a in_b A generation of_a of_b newer none two =
    newer_none images bodies A generation in_b (subst (λ g. IsOpened images.a g) (sym newer.0) of_a) of_b
    (omega (arith, newer.0, newer.1)) (λ end bodies has less. none end bodies has) two
newer_refused images bodies in_a in_b B generation of_a of_b newer none two =
    newer_none images bodies B generation in_a (subst (λ g. IsOpened images.b g) (sym newer.0) of_b) of_a
    (omega (arith, newer.0, newer.1)) (λ end bodies has less. none end bodies has) two

pub stands_then : (r0 r1 : Option Images) (n : ℕ) (l : ℕ → Images → List ℕ → Type 0) (log : Log)
    (bodies : List (List ℕ)) → StaysTold r0 r1 → IfSome r0 (λ held. RestsIn log held bodies) → log.settled ≡ false
    → StandsIn log r1 n l
stands_then None None n l log bodies told rests unsettled = λ unspent. (tt, λ settled. cc (settled, unsettled))
stands_then None (Some after) n l log bodies told rests unsettled = absurd told
stands_then (Some held) None n l log bodies told rests unsettled = absurd told
stands_then (Some held) (Some after) n l log bodies told rests unsettled = λ unspent.
    ((bodies, subst (λ i. RestsIn log i bodies) (sym told) rests), λ settled. cc (settled, unsettled))

-- No other bodies.
pub only_these : (r0 : Option Images) (log : Log) (bodies : List (List ℕ))
    → IfSome r0 (λ held. RestsIn log held bodies)
    → IfSome r0 (λ held. (others : List (List ℕ)) → HasBodies held others → others ≡ bodies)
only_these None log bodies rests = tt
only_these (Some held) log bodies rests = λ others has. one_list held bodies others
    (rests_has log.version log.live log.generation log.end log.other_open held bodies rests.rests) has

-- what is known of a log that was opened
abbrev pub LogIs : Log → Version → Slot → ℕ → Bool → Type 0
LogIs log version live generation other_open = (log.version ≡ version) × (log.live ≡ live)
    × (log.generation ≡ generation) × (log.other_open ≡ other_open)

rests_in : (log : Log) (held : Images) (bodies : List (List ℕ)) (version : Version) (live : Slot) (generation : ℕ)
    (other_open : Bool) → LogIs log version live generation other_open
    → HasRecords (at_slot live held) (number_of version) generation log.end bodies → Counts log.first log.behind
    bodies → OtherRests version live generation other_open (at_slot (other live) held) → 0 < generation
    → generation < 2 ^ 64 → RestsIn log held bodies
rests_in log held bodies version live generation other_open is has counts rest above below = record {
  rests = subst (λ v. Rests v log.live log.generation log.end log.other_open held bodies) (sym is.0)
      (subst (λ slot. Rests version slot log.generation log.end log.other_open held bodies) (sym is.1)
      (subst (λ g. Rests version live g log.end log.other_open held bodies) (sym is.2)
      (subst (λ o. Rests version live generation log.end o held bodies) (sym is.3)
      (record { has = has; rest = rest; above = above; below = below }))));
  counts = counts;
}

pub told_back : (P : Images → Type 0) (r0 r1 : Option Images) → StaysTold r0 r1 → IfSome r1 P → IfSome r0 P
told_back P None None told p = tt
told_back P (Some held) (Some after) told p = subst P told p
told_back P None (Some after) told p = tt
told_back P (Some held) None told p = absurd told

pub and_told : (P Q R : Images → Type 0) (r : Option Images) → IfSome r P → IfSome r Q
    → ((held : Images) → P held → Q held → R held) → IfSome r R
and_told P Q R None p q f = tt
and_told P Q R (Some held) p q f = f held p q

pub always_told : (P : Images → Type 0) (r : Option Images) → ((held : Images) → P held) → IfSome r P
always_told P None p = tt
always_told P (Some held) p = p held

-- of all the bytes of a slot
pub bytes_told : (P : List ℕ → Type 0) (slot : Slot) (r : Option Images) (bytes : List ℕ)
    → IfSome r (λ held. bytes ≡ at_slot slot held) → P bytes → IfSome r (λ held. P (at_slot slot held))
bytes_told P slot None bytes is p = tt
bytes_told P slot (Some held) bytes is p = subst P is p

abbrev pub Answer : Type 0
Answer = Result (Log × Vec (List ℕ) Global) LogFault

pub found_rests : (r : Answer) (r0 r1 : Option Images) (version : Version) (live : Slot) (generation : ℕ)
    (other_open : Bool) → StaysTold r0 r1
    → IfOk r (λ found. IfSome r1 (λ held. HasRecords (at_slot live held) (number_of version) generation found.0.end
    found.1.items)) → IfOk r (λ found. Counts found.0.first found.0.behind found.1.items)
    → IfOk r (λ found. LogIs found.0 version live generation other_open)
    → IfSome r0 (λ held. OtherRests version live generation other_open (at_slot (other live) held)) → 0
    < generation → generation < 2 ^ 64
    → IfOk r (λ found. IfSome r0 (λ held. RestsIn found.0 held found.1.items))
found_rests (Err fault) r0 r1 version live generation other_open told records counts is rest above below = tt
found_rests (Ok found) r0 r1 version live generation other_open told records counts is rest above below =
    and_told (λ held. HasRecords (at_slot live held) (number_of version) generation found.0.end
    found.1.items) (λ held. OtherRests version live generation other_open (at_slot (other live) held))
    (λ held. RestsIn found.0 held found.1.items) r0
    (told_back (λ held. HasRecords (at_slot live held) (number_of version) generation found.0.end
    found.1.items) r0 r1 told records) rest
    (λ held has beside. rests_in found.0 held found.1.items version live generation other_open is has
    counts beside above below)

-- what follows from it
abbrev pub Found : Answer → Option Images → Type 0
Found r r0 = IfOk r (λ found. IfSome r0 (λ held. RestsIn found.0 held found.1.items))

pub found_store : (r : Answer) (r0 : Option Images) → Found r r0
    → IfOk r (λ found. IfSome r0 (λ held. HasBodies held found.1.items))
found_store (Err fault) r0 found = tt
found_store (Ok x) None found = tt
found_store (Ok x) (Some held) found = rests_has x.0.version x.0.live x.0.generation x.0.end x.0.other_open held
    x.1.items found.rests

pub found_only : (r : Answer) (r0 : Option Images) → Found r r0
    → IfOk r (λ found. IfSome r0 (λ held. (others : List (List ℕ)) → HasBodies held others → others
    ≡ found.1.items))
found_only (Err fault) r0 found = tt
found_only (Ok x) r0 found = only_these r0 x.0 x.1.items found

pub found_stands : (r : Answer) (r0 r1 : Option Images) (n : ℕ) (l : ℕ → Images → List ℕ → Type 0) → StaysTold r0 r1
    → Found r r0 → IfOk r (λ found. (found.0.settled ≡ false) × (found.0.spent ≡ false))
    → IfOk r (λ found. StandsIn found.0 r1 n l)
found_stands (Err fault) r0 r1 n l told found unsettled = tt
found_stands (Ok x) r0 r1 n l told found unsettled = stands_then r0 r1 n l x.0 x.1.items told found
    unsettled.0

-- A store that has bodies is neither empty nor broken.
pub never_refused : {X : Type 0} (r : Result X LogFault) (r0 : Option Images)
    → (IsErrOf r Empty → IfSome r0 IsEmptyStore) → (IsErrOf r Broken → IfSome r0 IsBrokenStore)
    → IfSome r0 (λ held. (bodies : List (List ℕ)) → HasBodies held bodies → (IsErrOf r Empty → ⊥)
    × (IsErrOf r Broken → ⊥))
never_refused r None empty broken = tt
never_refused r (Some held) empty broken = λ bodies has.
    ((λ e. none_empty held bodies (empty e) has), (λ e. (broken e).none bodies has))

-- a slot of version 1 whose records don't end
pub one_refused : (head : List ℕ) (r : Option Images) → IfSome r (λ held. head ≡ take 14 held.a) → IsOne head
    → IfSome r (λ held. (end : ℕ) (bodies : List (List ℕ)) → HasRecords held.a 1 1 end bodies → ⊥)
    → IfSome r IsBrokenStore
one_refused head None is one none = tt
one_refused head (Some held) is one none = broken_one held (one_head head held.a is one) none

-- slots that no store of version 2 has
pub two_refused : (a b : List ℕ) (r : Option Images) → IfSome r (AreHeads a b) → (IsOne a → ⊥)
    → (IsEmptyStore (images_of a b) → ⊥) → ((images : Images) → AreHeads a b images → (bodies : List (List ℕ))
    → HasBodiesTwo images bodies → ⊥) → IfSome r IsBrokenStore
two_refused a b None heads not_one full none = tt
two_refused a b (Some held) heads not_one full none =
    broken_two held (λ one. not_one (head_one a held.a heads.0 one)) (λ empty. full (head_empty a b held heads empty))
    (none held heads)

-- a live slot whose records don't end
pub live_refused : (a b : List ℕ) (r : Option Images) (slot : Slot) (generation : ℕ) → IfSome r (AreHeads a b)
    → (IsOne a → ⊥) → (IsEmptyStore (images_of a b) → ⊥)
    → ((images : Images) → AreHeads a b images
    → ((end : ℕ) (bodies : List (List ℕ)) → HasRecords (at_slot slot images) 2 generation end bodies → ⊥)
    → (bodies : List (List ℕ)) → HasBodiesTwo images bodies → ⊥)
    → IfSome r (λ held. (end : ℕ) (bodies : List (List ℕ)) → HasRecords (at_slot slot held) 2 generation end bodies
    → ⊥) → IfSome r IsBrokenStore
live_refused a b None slot generation heads not_one full none stuck = tt
live_refused a b (Some held) slot generation heads not_one full none stuck =
    broken_two held (λ one. not_one (head_one a held.a heads.0 one)) (λ empty. full (head_empty a b held heads empty))
    (none held heads stuck)

pub empty_told : (a b : List ℕ) (r : Option Images) → IfSome r (AreHeads a b) → IsEmptyStore (images_of a b)
    → IfSome r IsEmptyStore
empty_told a b None heads empty = tt
empty_told a b (Some held) heads empty = empty_head a b held heads empty

pub never_empty : {X : Type 0} (x : Result X LogFault) (a b : List ℕ) (r : Option Images) → IfSome r (AreHeads a b)
    → (IsEmptyStore (images_of a b) → ⊥) → IfSome r (λ held. IsEmptyStore held → IsErr x × (IsErrOf x Broken → ⊥))
never_empty x a b None heads full = tt
never_empty x a b (Some held) heads full = λ empty. absurd (full (head_empty a b held heads empty))
