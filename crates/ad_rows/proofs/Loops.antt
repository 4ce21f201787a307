-- Loops over rows and attributes: what the whole gives is what the rest gives.
use Rattle.std.proofs.Common.{◌≡◌, ◌∙◌, ℕ, suc, ◌+◌, ◌<◌, ◌≤◌, Bool, true, false, List, [], ◌∷◌, ◌++◌, map, length}
use Rattle.std.proofs.Common.{drop, get_or, Option, Some, None, Result, Ok, Err, refl, sym, ap, ◌&&◌, arith}
use Rattle.std.specs.Option.{IfSome, option_and_then}
use Rattle.std.proofs.lemmas.List.{at_drop_more, at_drop_all}
use Rattle.std.proofs.lemmas.Bool.{le-leb, lt-leb}
use Rattle.ad_bytes.specs.Reading.{◌>>=◌}
use Rattle.ad_schema.specs.declared.line.SchemaRecord.{SchemaRecord}
use Rattle.row_store.specs.declared.row.Row.{Row}
use Rattle.ad_dir_model.specs.Object.{Held, Object}
use Rattle.ad_rows.specs.Parsing.{attrs_rise, object_in}
use Rattle.ad_rows.specs.declared.fault.RowFault.{RowFault}
use Rattle.ad_rows.specs.declared.taking.Taken.{Taken}
use Rattle.ad_rows.specs.Reading.{HasTaken, IsStillTaken}
use Rattle.ad_rows.specs.Taking.{Parts, number_of, body_of, parts_of, with_object, with_row, with_rows, past}
use Rattle.ad_rows.specs.Taking.{records_among}

-- the item at a place, before the rest
pub here : {X Y : Type 0} (F : List X → Y) (xs : List X) (i : ℕ) (x : X) (total : Y) → i < length xs → x
    ≡ get_or xs i x → F (drop i xs) ≡ total → F (x ∷ drop (i + 1) xs) ≡ total
here F xs i x total less is so_far = ap (λ (y : _). F (y ∷ drop (i + 1) xs)) is ∙ sym (at_drop_more F xs i x less)
    ∙ so_far

pub if_on : {A : Type 0} (P Q : A → Type 0) (r : Option A) → IfSome r P → IfSome r (λ s. P s → Q s) → IfSome r Q
if_on P Q None p f = tt
if_on P Q (Some s) p f = f p

pub if_all : {A : Type 0} (P : A → Type 0) (r : Option A) → ((s : A) → P s) → IfSome r P
if_all P None f = tt
if_all P (Some s) f = f s

if_then : {A : Type 0} (P Q R : A → Type 0) (r : Option A) → IfSome r (λ s. P s → Q s) → IfSome r (λ s. Q s → R s)
    → IfSome r (λ s. P s → R s)
if_then P Q R None f g = tt
if_then P Q R (Some s) f g = λ p. g (f p)

-- ---- attributes

abbrev rising : {X : Type 0} → (X → Held) → ℕ → List X → Bool
rising seen least xs = attrs_rise least (map seen xs)

pub rise_cut : {X : Type 0} (seen : X → Held) (xs : List X) (i least : ℕ) (x : X) → i < length xs → x ≡ get_or xs i x
    → (seen x).attr < least → rising seen least (drop i xs) ≡ rising seen 0 xs → false ≡ rising seen 0 xs
unfolding attrs_rise
rise_cut seen xs i least x less is below so_far =
    let one = here (rising seen least) xs i x (rising seen 0 xs) less is so_far in
    sym (ap (λ (b : Bool). b && attrs_rise (suc (seen x).attr) (map seen (drop (i + 1) xs)))
    (lt-leb least (seen x).attr below)) ∙ one

pub rise_on : {X : Type 0} (seen : X → Held) (xs : List X) (i least next : ℕ) (x : X) → i < length xs → x
    ≡ get_or xs i x → least ≤ (seen x).attr → next ≡ (seen x).attr + 1 → rising seen least (drop i xs)
    ≡ rising seen 0 xs → rising seen next (drop (i + 1) xs) ≡ rising seen 0 xs
unfolding attrs_rise
rise_on seen xs i least next x less is from is_next so_far =
    let one = here (rising seen least) xs i x (rising seen 0 xs) less is so_far in
    let same : next ≡ suc (seen x).attr = omega (arith, is_next) in
    ap (λ (n : ℕ). rising seen n (drop (i + 1) xs)) same
    ∙ sym (ap (λ (b : Bool). b && attrs_rise (suc (seen x).attr) (map seen (drop (i + 1) xs)))
    (le-leb least (seen x).attr from)) ∙ one

pub rise_end : {X : Type 0} (seen : X → Held) (xs : List X) (i least : ℕ) → length xs ≤ i
    → rising seen least (drop i xs) ≡ rising seen 0 xs → true ≡ rising seen 0 xs
unfolding attrs_rise
rise_end seen xs i least past so_far = sym (at_drop_all (rising seen least) xs i past) ∙ so_far

-- ---- rows

pub object_step : (schema : Option (List SchemaRecord)) (parts : Parts) (r : Row) (number : ℕ) (bytes : List ℕ)
    (o : Object) (objects : List Object) → number_of r parts.last ≡ Ok number → body_of r ≡ Ok bytes
    → object_in schema number bytes ≡ Ok o → objects ≡ parts.objects ++ o ∷ []
    → with_object schema parts r ≡ Ok (record {
      objects = objects;
      last = number;
      pending = parts.pending;
      meta
          = parts.meta;
    })
unfolding with_object
object_step schema parts r number bytes o objects is_number is_body is_object longer
    = rw (is_number, is_body, is_object, longer) refl

-- the first of those that are left isn't of its form
pub rows_stop : (schema : Option (List SchemaRecord)) (rest : List Row) (parts : Parts) (x : Row) (e : RowFault)
    (total : Result Parts RowFault) → with_row schema parts x ≡ Err e → with_rows schema parts (x ∷ rest) ≡ total
    → total ≡ Err e
unfolding with_rows
rows_stop schema rest parts x e total bad so_far = sym so_far
    ∙ ap (λ (y : Result Parts RowFault). y >>= λ more. with_rows schema more rest) bad

-- it is
pub rows_on : (schema : Option (List SchemaRecord)) (rest : List Row) (first old new : Taken) (x : Row)
    (total : Result Parts RowFault) → IsStillTaken schema first old → IsStillTaken schema old new
    → with_row schema (parts_of old) x ≡ Ok (parts_of new) → with_rows schema (parts_of old) (x ∷ rest) ≡ total
    → IsStillTaken schema first new × (with_rows schema (parts_of new) rest ≡ total)
unfolding with_rows
rows_on schema rest first old new x total so_far more good all = (
  if_then (λ (s : List SchemaRecord). HasTaken s first) (λ (s : List SchemaRecord). HasTaken s old)
      (λ (s : List SchemaRecord). HasTaken s new) schema so_far more,
  sym (ap (λ (y : Result Parts RowFault). y >>= λ parts. with_rows schema parts rest) good) ∙ all,
)

-- none is left
pub rows_end : (schema : Option (List SchemaRecord)) (left : List Row) (parts : Parts) (total : Result Parts RowFault)
    → length left ≡ 0 → with_rows schema parts left ≡ total → total ≡ Ok parts
unfolding with_rows
rows_end schema [] parts total none so_far = sym so_far
rows_end schema (r ∷ left) parts total none so_far = absurd (omega (arith, none))

-- ---- records

pub pass_stop : (rows : List Row) (i : ℕ) (before : List SchemaRecord) (x : Row) (total : Option (List SchemaRecord))
    → i < length rows → x ≡ get_or rows i x → past before x ≡ None → records_among before (drop i rows) ≡ total → None
    ≡ total
unfolding records_among
pass_stop rows i before x total less is none so_far =
    let one = here (records_among before) rows i x total less is so_far in
    sym (ap (option_and_then (λ more. records_among more (drop (i + 1) rows))) none) ∙ one

pub pass_on : (rows : List Row) (i : ℕ) (before more : List SchemaRecord) (x : Row)
    (total : Option (List SchemaRecord)) → i < length rows → x ≡ get_or rows i x → past before x ≡ Some more
    → records_among before (drop i rows) ≡ total → records_among more (drop (i + 1) rows) ≡ total
unfolding records_among
pass_on rows i before more x total less is some so_far =
    let one = here (records_among before) rows i x total less is so_far in
    sym (ap (option_and_then (λ more. records_among more (drop (i + 1) rows))) some) ∙ one

pub pass_end : (rows : List Row) (i : ℕ) (before : List SchemaRecord) (total : Option (List SchemaRecord))
    → length rows ≤ i → records_among before (drop i rows) ≡ total → Some before ≡ total
unfolding records_among
pass_end rows i before total past so_far = sym (at_drop_all (records_among before) rows i past) ∙ so_far
