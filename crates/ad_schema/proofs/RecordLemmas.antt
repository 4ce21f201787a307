-- The lines of a record, one after the other.
use Rattle.std.proofs.Common.{◌≡◌, ℕ, ◌+◌, ◌<◌, ◌≤◌, Bool, true, false, ◌||◌, List, [], ◌∷◌, ◌++◌, length, get_or}
use Rattle.std.proofs.Common.{take, drop, cond, refl, Option, Some, None, map, filter, ◌∙◌, ap, sym, append_assoc}
use Rattle.std.proofs.Common.{arith}
use Rattle.std.specs.List.{cons_option, filter_map}
use Rattle.std.specs.Option.{option_or, option_map, option_to_list}
use Rattle.std.proofs.lemmas.List.{at_drop_more, at_drop_all, take_more, append-nil}
use Rattle.ad_schema.specs.declared.line.SchemaKind.{SchemaKind}
use Rattle.ad_schema.specs.declared.line.Line.{Line}
use Rattle.ad_schema.specs.declared.line.SchemaRecord.{SchemaRecord}
use Rattle.ad_schema.specs.declared.field.Field.{Field}
use Rattle.ad_schema.specs.Fields.{is_line_of, values_of, value_if}
use Rattle.ad_schema.specs.Attributes.{same_kind, lines_of, lines_if}
use Rattle.ad_schema.specs.Faults.{bad_line, bad_behind, bad_value}

-- ---- bad values

pub bad_starts : (kind : SchemaKind) (lines : List Line) → bad_value kind lines ≡ bad_behind kind (take 0 lines)
    (drop 0 lines)
unfolding bad_value
bad_starts kind lines = refl

pub bad_at : (kind : SchemaKind) (lines : List Line) (i : ℕ) (line : Line) → i < length lines → line
    ≡ get_or lines i line
    → bad_behind kind (take i lines) (drop i lines) ≡ option_or (bad_line kind (take i lines) line)
    (bad_behind kind (take (i + 1) lines) (drop (i + 1) lines))
unfolding bad_behind
bad_at kind lines i line lt is =
    at_drop_more (bad_behind kind (take i lines)) lines i line lt
    ∙ rw (sym is) (ap (λ (before : List Line). option_or (bad_line kind (take i lines) line)
    (bad_behind kind before (drop (i + 1) lines))) (sym (rw (sym is) at (take_more lines i line lt))))

pub bad_ends : (kind : SchemaKind) (lines : List Line) (i : ℕ) → length lines ≤ i → bad_behind kind (take i lines)
    (drop i lines) ≡ None
unfolding bad_behind
bad_ends kind lines i le = at_drop_all (bad_behind kind (take i lines)) lines i le

-- ---- lists of values

pub values_step : {A : Type 0} (f : List ℕ → Option A) (field system : Field) (line : Line) (rest : List Line)
    → filter_map f (values_of field system (line ∷ rest)) ≡ cons_option (value_if f field system line)
    (filter_map f (values_of field system rest))
unfolding values_of value_if
values_step f field system line rest = by_test (is_line_of field line || is_line_of system line)
  where
    by_test : (test : Bool) → filter_map f
        (map (λ (l : Line). l.value) (cond test (line ∷ filter (λ l. is_line_of field l || is_line_of system l) rest)
        (filter (λ l. is_line_of field l || is_line_of system l) rest))) ≡ cons_option (cond test (f line.value) None)
        (filter_map f (map (λ (l : Line). l.value) (filter (λ l. is_line_of field l || is_line_of system l) rest)))
    by_test true = refl
    by_test false = refl

-- one line more of a list of values
pub values_at : {A : Type 0} (f : List ℕ → Option A) (field system : Field) (lines : List Line) (i : ℕ) (line : Line)
    → i < length lines → line ≡ get_or lines i line
    → filter_map f (values_of field system (drop i lines)) ≡ cons_option (value_if f field system line)
    (filter_map f (values_of field system (drop (i + 1) lines)))
values_at f field system lines i line lt is =
    at_drop_more (λ ls. filter_map f (values_of field system ls)) lines i line lt
    ∙ ap (λ (l : Line). filter_map f (values_of field system (l ∷ drop (i + 1) lines))) (sym is)
    ∙ values_step f field system line (drop (i + 1) lines)

pub values_end : {A : Type 0} (f : List ℕ → Option A) (field system : Field) (lines : List Line) (i : ℕ)
    → length lines ≤ i → filter_map f (values_of field system (drop i lines)) ≡ []
unfolding values_of
values_end f field system lines i le = at_drop_all (λ ls. filter_map f (values_of field system ls)) lines i le

-- ---- what is pushed so far, before what the rest gives

pub pushed : {A : Type 0} (front all rest whole : List A) (x : A) (found : Option A) → front ++ all ≡ whole → all
    ≡ cons_option found rest → found ≡ Some x → (front ++ x ∷ []) ++ rest ≡ whole
pushed front all rest whole x found so_far step is = append_assoc front (x ∷ []) rest
    ∙ sym (ap (λ (l : List _). front ++ l) (rw is at step)) ∙ so_far

pub passed : {A : Type 0} (front all rest whole : List A) (found : Option A) → front ++ all ≡ whole → all
    ≡ cons_option found rest → found ≡ None → front ++ rest ≡ whole
passed front all rest whole found so_far step is = sym (ap (λ (l : List _). front ++ l) (rw is at step)) ∙ so_far

pub ended : {A : Type 0} (front all whole : List A) → front ++ all ≡ whole → all ≡ [] → front ≡ whole
ended front all whole so_far none = sym (append-nil front) ∙ sym (ap (λ (l : List _). front ++ l) none) ∙ so_far

-- an element of a list, before what is after it
pub items_at : {A : Type 0} (xs : List A) (i : ℕ) (x : A) → i < length xs → x ≡ get_or xs i x → drop i xs
    ≡ cons_option (Some x) (drop (i + 1) xs)
items_at xs i x lt is = at_drop_more (λ l. l) xs i x lt ∙ ap (λ (y : _). y ∷ drop (i + 1) xs) (sym is)

-- ---- the lines of the records of a kind

records_step : (kind : SchemaKind) (r : SchemaRecord) (rest : List SchemaRecord) → lines_of kind (r ∷ rest)
    ≡ cons_option (lines_if kind r) (lines_of kind rest)
unfolding lines_of lines_if
records_step kind r rest = by_test (same_kind r.kind kind)
  where
    by_test : (test : Bool) → map (λ (r : SchemaRecord). r.lines)
        (cond test (r ∷ filter (λ r. same_kind r.kind kind) rest) (filter (λ r. same_kind r.kind kind) rest))
        ≡ cons_option (cond test (Some r.lines) None)
        (map (λ (r : SchemaRecord). r.lines) (filter (λ r. same_kind r.kind kind) rest))
    by_test true = refl
    by_test false = refl

pub records_at : (kind : SchemaKind) (records : List SchemaRecord) (i : ℕ) (r : SchemaRecord) → i < length records → r
    ≡ get_or records i r
    → lines_of kind (drop i records) ≡ cons_option (lines_if kind r) (lines_of kind (drop (i + 1) records))
records_at kind records i r lt is =
    at_drop_more (lines_of kind) records i r lt
    ∙ ap (λ (other : SchemaRecord). lines_of kind (other ∷ drop (i + 1) records)) (sym is)
    ∙ records_step kind r (drop (i + 1) records)

pub records_end : (kind : SchemaKind) (records : List SchemaRecord) (i : ℕ) → length records ≤ i
    → lines_of kind (drop i records) ≡ []
unfolding lines_of
records_end kind records i le = at_drop_all (lines_of kind) records i le

map_option : {A B : Type 0} (f : A → B) (o : Option A) (xs : List A) → map f (cons_option o xs)
    ≡ cons_option (option_map f o) (map f xs)
map_option f None xs = refl
map_option f (Some x) xs = refl

pub lines_at : {A : Type 0} (f : List Line → A) (kind : SchemaKind) (records : List SchemaRecord) (i : ℕ)
    (r : SchemaRecord) → i < length records → r ≡ get_or records i r
    → map f (lines_of kind (drop i records)) ≡ cons_option (option_map f (lines_if kind r))
    (map f (lines_of kind (drop (i + 1) records)))
lines_at f kind records i r lt is = ap (map f) (records_at kind records i r lt is) ∙ map_option f (lines_if kind r)
    (lines_of kind (drop (i + 1) records))

pub lines_end : {A : Type 0} (f : List Line → A) (kind : SchemaKind) (records : List SchemaRecord) (i : ℕ)
    → length records ≤ i → map f (lines_of kind (drop i records)) ≡ []
lines_end f kind records i le = ap (map f) (records_end kind records i le)

alone : (kind : SchemaKind) (o : Option (List Line)) → cons_option o (lines_of kind []) ≡ lines_of kind []
    ++ option_to_list o
unfolding lines_of
alone kind None = refl
alone kind (Some x) = refl

-- one record more after the others
pub lines_push : (kind : SchemaKind) (records : List SchemaRecord) (r : SchemaRecord)
    → lines_of kind (records ++ r ∷ []) ≡ lines_of kind records ++ option_to_list (lines_if kind r)
lines_push kind [] r = records_step kind r [] ∙ alone kind (lines_if kind r)
lines_push kind (first ∷ records) r =
    records_step kind first (records ++ r ∷ [])
    ∙ ap (cons_option (lines_if kind first)) (lines_push kind records r)
    ∙ in_front (lines_if kind first) (lines_of kind records) (option_to_list (lines_if kind r))
    ∙ ap (λ (ls : List (List Line)). ls ++ option_to_list (lines_if kind r)) (sym (records_step kind first records))
  where
    in_front : (o : Option (List Line)) (xs ys : List (List Line)) → cons_option o (xs ++ ys) ≡ cons_option o xs ++ ys
    in_front None xs ys = refl
    in_front (Some x) xs ys = refl

-- there are no more of a kind than records
pub lines_few : (kind : SchemaKind) (records : List SchemaRecord) → length (lines_of kind records) ≤ length records
lines_few kind [] = let none : length (lines_of kind []) ≡ 0 = ap length (records_end kind [] 0 (omega arith))
    in omega arith
lines_few kind (r ∷ records) =
    let less = one_more (lines_if kind r) (lines_of kind records) in
    let step = ap length (records_step kind r records) in
    omega (arith, less, step, lines_few kind records)
  where
    one_more : (o : Option (List Line)) (xs : List (List Line)) → length (cons_option o xs) ≤ length xs + 1
    one_more None xs = omega arith
    one_more (Some x) xs = omega arith
