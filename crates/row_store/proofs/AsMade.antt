-- Rows that are written as they are made.
use Rattle.std.proofs.Common.{◌≡◌, ◌∙◌, ◌+◌, ◌≤◌, ◌<◌, ◌^◌, ℕ, List, [], ◌∷◌, ◌++◌, length, take, drop, refl, sym, ap}
use Rattle.std.proofs.Common.{subst, arith}
use Rattle.std.proofs.lemmas.List.{append-nil, length-append, length-drop, length-take-le, take_at, drop_at}
use Rattle.std.proofs.lemmas.List.{drop-drop, drop-append-le}
use Rattle.std.proofs.Math.ListN.{drop_of_length-le}
use Rattle.ad_bytes.specs.Reading.{SpellsEach, many_at}
use Rattle.ad_bytes.specs.Numbers.{be_bytes}
use Rattle.ad_bytes.proofs.Many.{many_reader}
use Rattle.row_store.specs.declared.row.Row.{Row}
use Rattle.row_store.specs.Row.{SpellsRow, SpellsBatch, rows_size}
use Rattle.row_store.specs.RowReading.{row_at}
use Rattle.row_store.specs.Written.{rows_found, rows_in, IsWritten}
use Rattle.row_store.proofs.RowCodec.{row_reader, each_push, batch_spelled}
use Rattle.row_store.proofs.Sizes.{rows_long}

rows_are : (rows : List Row) (count : ℕ) (text : List ℕ) → length rows ≡ count → SpellsEach SpellsRow rows text
    → rows_in count text ≡ rows
rows_are rows count text many s =
    ap rows_found (ap (many_at row_at count) (sym (append-nil text))
    ∙ (many_reader SpellsRow row_at row_reader count).again rows text [] (many, s))

is_written : (rows : List Row) (count : ℕ) (bytes : List ℕ) → 30 ≤ length bytes → length rows ≡ count
    → SpellsEach SpellsRow rows (drop 30 bytes) → IsWritten count bytes
is_written rows count bytes room many s =
    let same : rows_in count (drop 30 bytes) ≡ rows = rows_are rows count (drop 30 bytes) many s in
    record {
      room = room;
      many = ap length same ∙ many;
      spelled = subst (λ (l : List Row). SpellsEach SpellsRow l (drop 30 bytes)) (sym same) s;
    }

-- no rows, after so many bytes
nothing : (old zeros bytes : List ℕ) → old ≡ [] → bytes ≡ old ++ zeros → length zeros ≡ 30 → drop 30 bytes ≡ []
nothing old zeros bytes none put long =
    let is : bytes ≡ zeros = put ∙ ap (λ (l : List ℕ). l ++ zeros) none in
    let most : length bytes ≤ 30 = omega (arith, ap length is, long) in
    drop_of_length-le bytes most

pub none_in : (old zeros bytes : List ℕ) → old ≡ [] → bytes ≡ old ++ zeros → length zeros ≡ 30
    → rows_in 0 (drop 30 bytes) ≡ []
none_in old zeros bytes none put long = rows_are [] 0 (drop 30 bytes) refl (nothing old zeros bytes none put long)

pub none_written : (old zeros bytes : List ℕ) → old ≡ [] → bytes ≡ old ++ zeros → length zeros ≡ 30 → IsWritten 0 bytes
none_written old zeros bytes none put long =
    let is : bytes ≡ zeros = put ∙ ap (λ (l : List ℕ). l ++ zeros) none in
    is_written [] 0 bytes (omega (arith, ap length is, long)) refl (nothing old zeros bytes none put long)

-- one row more
longer : (bytes text new : List ℕ) → 30 ≤ length bytes → new ≡ bytes ++ text → drop 30 new ≡ drop 30 bytes ++ text
longer bytes text new room put = ap (drop 30) put ∙ drop-append-le 30 bytes text room

one_more : (rows : List Row) (row : Row) (count : ℕ) → length rows ≡ count → length (rows ++ row ∷ []) ≡ count + 1
one_more rows row count many = length-append rows (row ∷ []) ∙ ap (λ (n : ℕ). n + 1) many

spelled_more : (count : ℕ) (bytes text new : List ℕ) (row : Row) → IsWritten count bytes → SpellsRow row text → new
    ≡ bytes ++ text → SpellsEach SpellsRow (rows_in count (drop 30 bytes) ++ row ∷ []) (drop 30 new)
spelled_more count bytes text new row w s put =
    subst (SpellsEach SpellsRow (rows_in count (drop 30 bytes) ++ row ∷ [])) (sym (longer bytes text new w.room put))
    (each_push (rows_in count (drop 30 bytes)) row (drop 30 bytes) text w.spelled s)

pub more_in : (count : ℕ) (bytes text new : List ℕ) (row : Row) → IsWritten count bytes → SpellsRow row text → new
    ≡ bytes ++ text → rows_in (count + 1) (drop 30 new) ≡ rows_in count (drop 30 bytes) ++ row ∷ []
more_in count bytes text new row w s put =
    let rows : List Row = rows_in count (drop 30 bytes) in
    rows_are (rows ++ row ∷ []) (count + 1) (drop 30 new) (one_more rows row count w.many)
    (spelled_more count bytes text new row w s put)

pub more_written : (count : ℕ) (bytes text new : List ℕ) (row : Row) → IsWritten count bytes → SpellsRow row text
    → new ≡ bytes ++ text → IsWritten (count + 1) new
more_written count bytes text new row w s put =
    let rows : List Row = rows_in count (drop 30 bytes) in
    let long : length new ≡ length bytes + length text = ap length put ∙ length-append bytes text in
    is_written (rows ++ row ∷ []) (count + 1) new (omega (arith, long, w.room)) (one_more rows row count w.many)
    (spelled_more count bytes text new row w s put)

-- there are no more rows than bytes
count_least : (rows : List Row) → length rows ≤ rows_size rows
count_least [] = omega arith
count_least (row ∷ rows) = omega (arith, count_least rows)

pub few : (count : ℕ) (bytes : List ℕ) → IsWritten count bytes → count ≤ length bytes
few count bytes w =
    let rows : List Row = rows_in count (drop 30 bytes) in
    let long : length (drop 30 bytes) ≡ rows_size rows = rows_long rows (drop 30 bytes) w.spelled in
    omega (arith, long, count_least rows, w.many, length-drop 30 bytes)

-- the count before them
pub counted : (count : ℕ) (bytes body : List ℕ) → IsWritten count bytes → count < 2 ^ 64 → body ≡ be_bytes 8 count
    ++ drop 30 bytes → SpellsBatch (rows_in count (drop 30 bytes)) body
counted count bytes body w fits is =
    let rows : List Row = rows_in count (drop 30 bytes) in
    batch_spelled rows (drop 30 bytes) body (omega (arith, w.many, fits)) w.spelled
    (is ∙ ap (λ (n : ℕ). be_bytes 8 n ++ drop 30 bytes) (sym w.many))

-- a slice whose bytes from 22 on were written over, as its vector has them
pub count_put : (n : ℕ) (bytes into new count : List ℕ) → n ≡ length bytes → 30 ≤ n → into ≡ bytes → length count ≡ 8
    → new ≡ take 22 into ++ (count ++ drop 30 into) → drop 22 (take n (new ++ drop (length new) bytes)) ≡ count
    ++ drop 30 bytes
count_put n bytes into new count long within same eight put =
    let size : length into ≡ n = ap length same ∙ sym long in
    let front : length (take 22 into) ≡ 22 = length-take-le 22 into (omega (arith, size, within)) in
    let whole : length new ≡ n = omega (
      arith,
      ap length put,
      length-append (take 22 into) (count ++ drop 30 into),
      length-append count (drop 30 into),
      length-drop 30 into,
      front,
      eight,
      size,
      within,
    ) in
    ap (drop 22) (take_at new (drop (length new) bytes) n whole ∙ put)
    ∙ drop_at (take 22 into) (count ++ drop 30 into) 22 front ∙ ap (λ (l : List ℕ). count ++ drop 30 l) same

-- eight bytes after the first 22
pub eight_over : (into given count : List ℕ) → given ≡ count → take 22 into ++ (given ++ drop 8 (drop 22 into))
    ≡ take 22 into ++ (count ++ drop 30 into)
eight_over into given count is = ap (λ (l : List ℕ). take 22 into ++ (l ++ drop 8 (drop 22 into))) is
    ∙ ap (λ (l : List ℕ). take 22 into ++ (count ++ l)) (drop-drop 8 22 into)
