-- Values that were sent, one after the other.
use Rattle.std.proofs.Common.{◌≡◌, ℕ, suc, ◌+◌, ◌<◌, ◌≤◌, Bool, true, false, List, [], ◌∷◌, ◌++◌, length, map, get_or}
use Rattle.std.proofs.Common.{drop, drop-cons}
use Rattle.std.proofs.Common.{add-one, Option, Some, None, Result, Ok, Err, refl, sym, subst, ap, ◌∙◌, append_assoc}
use Rattle.std.specs.Prelude.{◌&&◌, ◌||◌, option_map}
use Rattle.std.specs.List.{list_all, list_any, cons_option, AllByRecursion}
use Rattle.std.specs.Option.{option_map_or, option_to_list}
use Rattle.std.specs.Result.{result_ok}
use Rattle.std.proofs.Math.Bool.{and_assoc}
use Rattle.std.proofs.lemmas.List.{drop_all, append-nil, map-append}
use Rattle.ad_bytes.specs.Reading.{IsBytes}
use Rattle.ad_value.specs.Value.{Value, same_key}
use Rattle.ad_value.specs.declared.fault.ValueFault.{ValueFault}
use Rattle.ad_value.specs.declared.fault.ValueFault.TheVariants as fault
use Rattle.ad_schema.specs.declared.line.SchemaRecord.{SchemaRecord}
use Rattle.ad_schema.specs.Meaning.{attr_is_link}
use Rattle.ad_dir_objects.specs.declared.object.Stored.{Stored as StoredIn}
use Rattle.ad_dir_objects.specs.declared.object.Stored.TheVariants as kept
use Rattle.ad_dir_objects.specs.Seen.{stored_seen}
use Rattle.ad_dir_model.specs.Object.{Stored, plain, link}
use Rattle.ad_dir_model.specs.Directory.{Directory}
use Rattle.ad_needs_rules.specs.Checks.{Refusal, Check, code, or_code, first_failing}
use Rattle.ad_change_values.specs.declared.refusal.Refusal.{Refusal as RefusalIn}
use Rattle.ad_change_values.specs.declared.refusal.Refusal.TheVariants as refusal
use Rattle.ad_change_values.specs.Values.{value_in, reads, is_short, target_of, stored_of, leads, all_stored}
use Rattle.ad_change_values.specs.Values.{are_repeated}
use Rattle.ad_change_values.specs.Judging.{StopsAt, values_in, reading_checks}

-- ---- lists

pub cut : {A : Type 0} (xs : List A) (i : ℕ) (x : A) → i < length xs → x ≡ get_or xs i x → drop i xs ≡ x
    ∷ drop (i + 1) xs
cut xs i x lt is = drop-cons xs i x lt ∙ ap (λ y. y ∷ drop (suc i) xs) (sym is) ∙ ap (λ n. x ∷ drop n xs)
    (sym (add-one i))

pub any_seen : {X Y : Type 0} (test : Y → Bool) (seen : X → Y) (xs : List X) → list_any test (map seen xs)
    ≡ list_any (λ (x : X). test (seen x)) xs
any_seen test seen [] = refl
any_seen test seen (x ∷ xs) = ap (λ (b : Bool). test (seen x) || b) (any_seen test seen xs)

pub all_seen : {X Y : Type 0} (test : Y → Bool) (seen : X → Y) (xs : List X) → list_all test (map seen xs)
    ≡ list_all (λ (x : X). test (seen x)) xs
all_seen test seen [] = refl
all_seen test seen (x ∷ xs) = ap (λ (b : Bool). test (seen x) && b) (all_seen test seen xs)

-- ---- what is judged

-- checks that stop where some of them stop
pub stops : (cs ds : List Check) (e : RefusalIn) → ((r : Refusal) → first_failing cs ≡ Some r
    → first_failing ds ≡ Some r) → StopsAt cs e → StopsAt ds e
stops cs ds (refusal.Code n) also stopped = also (code n) stopped
stops cs ds refusal.Memory also stopped = tt

-- one check that holds, or doesn't
pub one_holds : (b : Bool) (n : ℕ) → b ≡ true → first_failing (or_code b n ∷ []) ≡ None
unfolding first_failing
one_holds b n is = rw is refl

pub one_stops : (b : Bool) (n : ℕ) (r : Refusal) → first_failing (or_code b n ∷ []) ≡ Some r → b ≡ false
unfolding first_failing
one_stops true n r is = let none : None ≡ Some r = is in absurd cc
one_stops false n r is = refl

pub was_held : (b : Bool) (n : ℕ) → first_failing (or_code b n ∷ []) ≡ None → b ≡ true
unfolding first_failing
was_held true n is = refl
was_held false n is = let some : Some (code n) ≡ None = is in absurd cc

pub first_stops : (b : Bool) (n : ℕ) (cs : List Check) (r : Refusal) → first_failing (or_code b n ∷ []) ≡ Some r
    → first_failing (or_code b n ∷ cs) ≡ Some r
unfolding first_failing
first_stops true n cs r is = let none : None ≡ Some r = is in absurd cc
first_stops false n cs r is = is

-- ---- values that are read

pub record AreReadTo (schema : List SchemaRecord) (attr : ℕ) (sent : List (List ℕ)) (i : ℕ) (short : Bool)
    (read : List Value) : Type 0 where
  pub all_read : list_all (reads schema attr) (drop i sent) ≡ list_all (reads schema attr) sent
  pub none_long : (short && list_all (is_short schema attr) (drop i sent)) ≡ list_all (is_short schema attr) sent
  pub values : read ++ values_in schema attr (drop i sent) ≡ values_in schema attr sent
  pub bytes : AllByRecursion IsBytes (drop i sent) → AllByRecursion IsBytes sent

front_of : {A : Type 0} (o : Option A) (xs : List A) → option_to_list o ++ xs ≡ cons_option o xs
front_of None xs = refl
front_of (Some x) xs = refl

pub reads_more : (schema : List SchemaRecord) (attr : ℕ) (sent : List (List ℕ)) (i : ℕ) (x : List ℕ)
    (short one : Bool) (read after : List Value)
    → i < length sent → x ≡ get_or sent i x → reads schema attr x ≡ true → one ≡ is_short schema attr x
    → after ≡ read ++ option_to_list (result_ok (value_in schema attr x)) → IsBytes x
    → AreReadTo schema attr sent i short read → AreReadTo schema attr sent (i + 1) (short && one) after
reads_more schema attr sent i x short one read after lt is reads' short' read' bytes' before =
    let rest : List (List ℕ) = drop (i + 1) sent in
    let at : drop i sent ≡ x ∷ rest = cut sent i x lt is in record {
      all_read = sym (ap (list_all (reads schema attr)) at ∙ ap (λ (b : Bool). b && list_all (reads schema attr) rest)
          reads') ∙ before.all_read;
      none_long = and_assoc short one (list_all (is_short schema attr) rest)
          ∙ ap (λ (b : Bool). short && (b && list_all (is_short schema attr) rest)) short'
          ∙ sym (ap (λ (xs : List (List ℕ)). short && list_all (is_short schema attr) xs) at) ∙ before.none_long;
      values = ap (λ (vs : List Value). vs ++ values_in schema attr rest) read'
          ∙ append_assoc read (option_to_list (result_ok (value_in schema attr x))) (values_in schema attr rest)
          ∙ ap (λ (vs : List Value). read ++ vs)
          (front_of (result_ok (value_in schema attr x)) (values_in schema attr rest))
          ∙ sym (ap (λ (xs : List (List ℕ)). read ++ values_in schema attr xs) at) ∙ before.values;
      bytes = λ others. before.bytes (subst (AllByRecursion IsBytes) (sym at) (bytes', others));
    }

-- ---- one more

pub one_read : (schema : List SchemaRecord) (attr : ℕ) (bytes : List ℕ) (v : Value) (read after : List Value)
    → value_in schema attr bytes ≡ Ok v
    → after ≡ read ++ v ∷ [] → IsBytes bytes → (first_failing (or_code (reads schema attr bytes) 21 ∷ []) ≡ None)
    × ((true ≡ is_short schema attr bytes) × (after ≡ read ++ option_to_list (result_ok (value_in schema attr bytes)))
    × IsBytes bytes)
unfolding first_failing
one_read schema attr bytes v read after is made are = rw is (refl, (refl, made, are))

pub one_long : (schema : List SchemaRecord) (attr : ℕ) (bytes : List ℕ) (read : List Value)
    → value_in schema attr bytes ≡ Err fault.TooLong → IsBytes bytes
    → (first_failing (or_code (reads schema attr bytes) 21 ∷ []) ≡ None)
    × ((false ≡ is_short schema attr bytes) × (read ≡ read ++ option_to_list (result_ok (value_in schema attr bytes)))
    × IsBytes bytes)
unfolding first_failing
one_long schema attr bytes read is are = rw is (refl, (refl, sym (append-nil read), are))

pub one_unread : (schema : List SchemaRecord) (attr : ℕ) (bytes : List ℕ) → value_in schema attr bytes
    ≡ Err fault.Syntax
    → first_failing (or_code (reads schema attr bytes) 21 ∷ []) ≡ Some (code 21)
unfolding first_failing
one_unread schema attr bytes is = rw is refl

-- one isn't read
pub reads_no_more : (schema : List SchemaRecord) (attr : ℕ) (sent : List (List ℕ)) (i : ℕ) (x : List ℕ) (short : Bool)
    (read : List Value) (r : Refusal)
    → i < length sent → x ≡ get_or sent i x → AreReadTo schema attr sent i short read
    → first_failing (or_code (reads schema attr x) 21 ∷ []) ≡ Some r → first_failing (reading_checks schema attr sent)
    ≡ Some r
unfolding first_failing
reads_no_more schema attr sent i x short read r lt is before fails =
    let unread : reads schema attr x ≡ false = one_stops (reads schema attr x) 21 r fails in
    let none : list_all (reads schema attr) sent ≡ false =
    sym before.all_read ∙ ap (list_all (reads schema attr)) (cut sent i x lt is)
    ∙ ap (λ (b : Bool). b && list_all (reads schema attr) (drop (i + 1) sent)) unread in
    let same : Some (code 21) ≡ Some r = rw unread at fails in
    rw none same

-- all are read, and one is too long
pub is_long : (schema : List SchemaRecord) (attr : ℕ) (sent : List (List ℕ)) (i : ℕ) (short : Bool)
    (read : List Value) → length sent ≤ i
    → AreReadTo schema attr sent i short read → short ≡ false → first_failing (reading_checks schema attr sent)
    ≡ Some (code 19)
unfolding first_failing
is_long schema attr sent i short read le before long =
    let rest : drop i sent ≡ [] = drop_all i sent le in
    let all : list_all (reads schema attr) sent ≡ true = sym before.all_read ∙ ap (list_all (reads schema attr)) rest in
    let one : list_all (is_short schema attr) sent ≡ false = sym before.none_long
    ∙ ap (λ (b : Bool). b && list_all (is_short schema attr) (drop i sent)) long in
    rw (all, one) refl

-- all are read and none is too long
pub are_read : (schema : List SchemaRecord) (attr : ℕ) (sent : List (List ℕ)) (i : ℕ) (short : Bool)
    (read : List Value) → length sent ≤ i
    → AreReadTo schema attr sent i short read → short ≡ true
    → (first_failing (reading_checks schema attr sent) ≡ None)
    × ((read ≡ values_in schema attr sent) × AllByRecursion IsBytes sent)
unfolding first_failing
are_read schema attr sent i short read le before none =
    let rest : drop i sent ≡ [] = drop_all i sent le in
    let all : list_all (reads schema attr) sent ≡ true = sym before.all_read ∙ ap (list_all (reads schema attr)) rest in
    let each : list_all (is_short schema attr) sent ≡ true = sym before.none_long
    ∙ ap (λ (b : Bool). b && list_all (is_short schema attr) (drop i sent)) none
    ∙ ap (list_all (is_short schema attr)) rest in (
      rw (all, each) refl,
      (
        sym (append-nil read) ∙ ap (λ (xs : List (List ℕ)). read ++ values_in schema attr xs)
            (sym rest) ∙ before.values,
        before.bytes (subst (AllByRecursion IsBytes) (sym rest) tt),
      ),
    )

-- ---- repeated values

pub repeats_here : (read : List Value) (i : ℕ) (x : Value) → i < length read → x ≡ get_or read i x
    → are_repeated (drop i read) ≡ (list_any (λ other. same_key x.key other.key) (drop (i + 1) read)
    || are_repeated (drop (i + 1) read))
unfolding are_repeated
repeats_here read i x lt is = ap are_repeated (cut read i x lt is)

pub none_repeated : (read : List Value) (i : ℕ) → length read ≤ i → are_repeated (drop i read) ≡ false
unfolding are_repeated
none_repeated read i le = ap are_repeated (drop_all i read le)

-- ---- links

pub record LeadTo (dir : Directory) (attr : ℕ) (sent : List (List ℕ)) (i : ℕ) (stored : List Stored) : Type 0 where
  pub leads : list_all (leads dir attr) (drop i sent) ≡ list_all (leads dir attr) sent
  pub values : stored ++ all_stored dir attr (drop i sent) ≡ all_stored dir attr sent

leads_by : (dir : Directory) (attr : ℕ) (text : List ℕ) (target : Option ℕ) → attr_is_link dir.schema attr ≡ true
    → target_of dir text ≡ target → leads dir attr text ≡ option_map_or (λ number. true) target false
leads_by dir attr text target a_link is = rw (a_link, is) refl

stored_by : (dir : Directory) (attr : ℕ) (text : List ℕ) (target : Option ℕ) → attr_is_link dir.schema attr ≡ true
    → target_of dir text ≡ target → stored_of dir attr text ≡ option_map link target
unfolding stored_of
stored_by dir attr text target a_link is = rw (a_link, is) refl

pub leads_more : (dir : Directory) (attr : ℕ) (sent : List (List ℕ)) (i : ℕ) (x : List ℕ) (n : ℕ)
    (stored after : List StoredIn)
    → i < length sent → x ≡ get_or sent i x → attr_is_link dir.schema attr ≡ true → Some n ≡ target_of dir x
    → after ≡ stored ++ kept.Link n ∷ [] → LeadTo dir attr sent i (map stored_seen stored)
    → LeadTo dir attr sent (i + 1) (map stored_seen after)
unfolding all_stored
leads_more dir attr sent i x n stored after lt is a_link target made before =
    let rest : List (List ℕ) = drop (i + 1) sent in
    let at : drop i sent ≡ x ∷ rest = cut sent i x lt is in
    let here : leads dir attr x ≡ true = leads_by dir attr x (Some n) a_link (sym target) in
    let first : stored_of dir attr x ≡ Some (link n) = stored_by dir attr x (Some n) a_link (sym target) in record {
      leads = sym (ap (list_all (leads dir attr)) at ∙ ap (λ (b : Bool). b && list_all (leads dir attr) rest) here)
          ∙ before.leads;
      values = ap (λ (ss : List StoredIn). map stored_seen ss ++ all_stored dir attr rest) made
          ∙ ap (λ (ss : List Stored). ss ++ all_stored dir attr rest) (map-append stored_seen stored (kept.Link n ∷ []))
          ∙ append_assoc (map stored_seen stored) (link n ∷ []) (all_stored dir attr rest)
          ∙ sym (ap (λ (xs : List (List ℕ)). map stored_seen stored ++ all_stored dir attr xs) at
          ∙ ap (λ (o : Option Stored). map stored_seen stored ++ cons_option o (all_stored dir attr rest)) first)
          ∙ before.values;
    }

-- one names no object
pub leads_no_more : (dir : Directory) (attr : ℕ) (sent : List (List ℕ)) (i : ℕ) (x : List ℕ) (stored : List Stored)
    → i < length sent → x ≡ get_or sent i x → attr_is_link dir.schema attr ≡ true → None ≡ target_of dir x
    → LeadTo dir attr sent i stored
    → first_failing (or_code (list_all (leads dir attr) sent) 19 ∷ []) ≡ Some (code 19)
unfolding first_failing
leads_no_more dir attr sent i x stored lt is a_link target before =
    let here : leads dir attr x ≡ false = leads_by dir attr x None a_link (sym target) in
    let none : list_all (leads dir attr) sent ≡ false =
    sym before.leads ∙ ap (list_all (leads dir attr)) (cut sent i x lt is)
    ∙ ap (λ (b : Bool). b && list_all (leads dir attr) (drop (i + 1) sent)) here in
    rw none refl

pub all_lead : (dir : Directory) (attr : ℕ) (sent : List (List ℕ)) (i : ℕ) (stored : List Stored) → length sent ≤ i
    → LeadTo dir attr sent i stored
    → (first_failing (or_code (list_all (leads dir attr) sent) 19 ∷ []) ≡ None) × (stored ≡ all_stored dir attr sent)
unfolding all_stored
all_lead dir attr sent i stored le before =
    let rest : drop i sent ≡ [] = drop_all i sent le in
    let all : list_all (leads dir attr) sent ≡ true = sym before.leads ∙ ap (list_all (leads dir attr)) rest in (
      one_holds (list_all (leads dir attr) sent) 19 all,
      sym (append-nil stored) ∙ ap (λ (xs : List (List ℕ)). stored ++ all_stored dir attr xs) (sym rest)
          ∙ before.values,
    )

-- ---- values that are no links

plain_lead : (dir : Directory) (attr : ℕ) (sent : List (List ℕ)) → attr_is_link dir.schema attr ≡ false
    → list_all (leads dir attr) sent ≡ true
plain_lead dir attr [] no_link = refl
plain_lead dir attr (x ∷ xs) no_link = rw no_link (plain_lead dir attr xs no_link)

seen_plain : (vs : List Value) → map stored_seen (map (λ (v : Value). kept.Plain v) vs) ≡ map plain vs
seen_plain [] = refl
seen_plain (v ∷ vs) = ap (λ (ss : List Stored). plain v ∷ ss) (seen_plain vs)

plain_stored : (dir : Directory) (attr : ℕ) (sent : List (List ℕ)) → attr_is_link dir.schema attr ≡ false
    → all_stored dir attr sent ≡ map plain (values_in dir.schema attr sent)
unfolding all_stored stored_of
plain_stored dir attr [] no_link = refl
plain_stored dir attr (x ∷ xs) no_link =
    rw no_link (by_value (value_in dir.schema attr x) (plain_stored dir attr xs no_link))
  where
    by_value : (r : Result Value ValueFault) → all_stored dir attr xs ≡ map plain (values_in dir.schema attr xs)
        → cons_option (option_map plain (result_ok r)) (all_stored dir attr xs)
        ≡ map plain (cons_option (result_ok r) (values_in dir.schema attr xs))
    by_value (Ok v) same = ap (λ (ss : List Stored). plain v ∷ ss) same
    by_value (Err e) same = same

pub all_are_plain : (dir : Directory) (attr : ℕ) (sent : List (List ℕ)) (read : List Value) (stored : List StoredIn)
    → attr_is_link dir.schema attr ≡ false → read ≡ values_in dir.schema attr sent → stored
    ≡ map (λ (v : Value). kept.Plain v) read
    → (first_failing (or_code (list_all (leads dir attr) sent) 19 ∷ []) ≡ None)
    × (map stored_seen stored ≡ all_stored dir attr sent)
all_are_plain dir attr sent read stored no_link is made = (
  one_holds (list_all (leads dir attr) sent) 19 (plain_lead dir attr sent no_link),
  ap (map stored_seen) made ∙ seen_plain read ∙ ap (map plain) is ∙ sym (plain_stored dir attr sent no_link),
)
