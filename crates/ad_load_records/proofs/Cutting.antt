-- A text in two parts, of which the first ends after an empty line: its records are those of both.
use Rattle.std.proofs.Common.{◌≡◌, ◌⊎◌, ℕ, ◌+◌, ◌-◌, ◌<◌, ◌≤◌, Bool, true, false, Option, None, Some, Result, Ok, Err}
use Rattle.std.proofs.Common.{inl, inr, refl, sym, ap, ◌∙◌, subst, arith}
use Rattle.std.proofs.Common.{List, [], ◌∷◌, ◌++◌, length, map, take, drop, append_assoc, length-append}
use Rattle.std.specs.Prelude.{nat_le, is_some, option_map}
use Rattle.std.proofs.Math.Seq.{take-add}
use Rattle.std.proofs.lemmas.Bool.Decides.{nat_tests}
use Rattle.std.proofs.lemmas.List.{take-append-drop, take_rest, append-nil, length-map, length-take-le}
use Rattle.ad_bytes.specs.Reading.{◌>>=◌, need}
use Rattle.ad_ldif.specs.Lines.{Block, blocks, lines_from}
use Rattle.ad_ldif.specs.Pieces.{EndsRecord, line_ends}
use Rattle.ad_ldif.specs.Records.{Entry, Fault, record_of as entry_at}
use Rattle.ad_ldif.specs.Story.{Story, told, story_of, story, story_from}
use Rattle.ad_ldif.proofs.PieceLemmas.{cut_records}
use Rattle.ad_load_records.specs.declared.fault.LoadFault.{LoadFault}
use Rattle.ad_load_records.specs.declared.fault.LoadCause.TheVariants as cause
use Rattle.ad_load_records.specs.Faults.{of_all}
use Rattle.ad_load_records.specs.Pieces.{read_on, Came, read_of, gives}
use Rattle.ad_load_records.specs.Prefixed.{prefixed}
use Rattle.ad_load_records.specs.Records.{Record, max_text, record_of, records_of, all_of, records_in}
use Rattle.ad_load_records.proofs.Few.{few_from}
use Rattle.ad_load_records.proofs.Prefixed.{first_then, prefixed_nothing}
use Rattle.ad_load_records.proofs.Reading.{not_long, whole_text}

-- what the first part gives, and then the second
abbrev pub then_more : Result (List Record) LoadFault → Result (List Record) LoadFault → Result (List Record) LoadFault
then_more first more = first >>= λ records. prefixed records more

first_more : (first : Result Record LoadFault) (others more : Result (List Record) LoadFault)
    → first_then first (then_more others more) ≡ then_more (first_then first others) more
first_more (Err f) others more = refl
first_more (Ok x) (Err f) more = refl
first_more (Ok x) (Ok xs) (Err f) = refl
first_more (Ok x) (Ok xs) (Ok ys) = refl

told_more : (read : Result Entry Fault) (all part : Story) (more : Result (List Record) LoadFault) → all_of all
    ≡ then_more (all_of part) more
    → all_of (told read all) ≡ then_more (all_of (told read part)) more
unfolding records_of
told_more (Err f) all part more e = refl
told_more (Ok entry) all part more e = ap (first_then (record_of entry)) e ∙ first_more (record_of entry)
    (all_of part) more

all_more : (front others : List Block) → all_of (story_of (front ++ others)) ≡ then_more (all_of (story_of front))
    (all_of (story_of others))
unfolding story_of records_of
all_more [] others = prefixed_nothing (all_of (story_of others))
all_more (block ∷ front) others = told_more (entry_at block) (story_of (front ++ others)) (story_of front)
    (all_of (story_of others)) (all_more front others)

-- the same of the text
parts : (line : ℕ) (text rest : List ℕ) → EndsRecord text → all_of (story_from line (text ++ rest))
    ≡ then_more (all_of (story_from line text)) (all_of (story_from (line + line_ends text) rest))
parts line text rest ends =
    ap (λ (bs : List Block). all_of (story_of bs)) (cut_records line text rest ends)
    ∙ all_more (blocks false (lines_from line text)) (blocks false (lines_from (line + line_ends text) rest))

-- ---- after records that were read before

pub part_read : (records others : List Record) (line : ℕ) (text rest : List ℕ) → EndsRecord text
    → read_on records line text ≡ Ok others
    → read_on records line (text ++ rest) ≡ read_on others (line + line_ends text) rest
part_read records others line text rest ends read = ap (prefixed records) (parts line text rest ends) ∙
    by (all_of (story_from line text)) (all_of (story_from (line + line_ends text) rest)) read where
      by : (first more : Result (List Record) LoadFault) → prefixed records first ≡ Ok others
          → prefixed records (then_more first more) ≡ prefixed others more
      by (Err f) more e = absurd cc
      by (Ok xs) (Err f) e = refl
      by (Ok xs) (Ok ys) e = let same : records ++ xs ≡ others = cc in ap (λ (l : List Record). Ok l)
          (sym (append_assoc records xs ys) ∙ ap (λ (l : List Record). l ++ ys) same)

pub part_fault : (records : List Record) (line : ℕ) (text rest : List ℕ) (f : LoadFault) → EndsRecord text
    → read_on records line text ≡ Err f → read_on records line (text ++ rest) ≡ Err f
part_fault records line text rest f ends read = ap (prefixed records) (parts line text rest ends) ∙
    by (all_of (story_from line text)) (all_of (story_from (line + line_ends text) rest)) read where
      by : (first more : Result (List Record) LoadFault) → prefixed records first ≡ Err f
          → prefixed records (then_more first more) ≡ Err f
      by (Err g) more e = e
      by (Ok xs) more e = absurd cc

-- a text has no more records than bytes
pub part_few : (records others : List Record) (line : ℕ) (text : List ℕ) → read_on records line text ≡ Ok others
    → length others ≤ length records + length text
part_few records others line text read = by (all_of (story_from line text)) read (few_from line text) where
  by : (all : Result (List Record) LoadFault) → prefixed records all ≡ Ok others
      → ((rs : List Record) → all ≡ Ok rs → length rs ≤ length text) → length others ≤ length records + length text
  by (Err f) e few = absurd cc
  by (Ok rs) e few =
      let same : records ++ rs ≡ others = cc in
      omega (arith, ap length same, length-append records rs, few rs refl)

-- ---- the first bytes of those that are held; `bytes` are these as the code has them

held_parts : (held rest : List ℕ) (end : ℕ) → held ++ rest ≡ take end held ++ (drop end held ++ rest)
held_parts held rest end = ap (λ (l : List ℕ). l ++ rest) (sym (take-append-drop end held))
    ∙ append_assoc (take end held) (drop end held) rest

pub front_read : (records others : List Record) (line : ℕ) (held bytes left rest : List ℕ) (end : ℕ) → bytes ≡ held
    → left ≡ drop end held → EndsRecord (take end held)
    → read_on records line (take end bytes) ≡ Ok others → read_on records line (held ++ rest)
    ≡ read_on others (line + line_ends (take end bytes)) (left ++ rest)
front_read records others line held bytes left rest end same is ends read =
    let front : take end bytes ≡ take end held = ap (take end) same in
    ap (read_on records line) (held_parts held rest end)
    ∙ part_read records others line (take end held) (drop end held ++ rest) ends
    (ap (read_on records line) (sym front) ∙ read)
    ∙ ap (λ (t : List ℕ). read_on others (line + line_ends t) (drop end held ++ rest)) (sym front)
    ∙ ap (λ (t : List ℕ). read_on others (line + line_ends (take end bytes)) (t ++ rest)) (sym is)

pub front_fault : (records : List Record) (line : ℕ) (held bytes rest : List ℕ) (end : ℕ) (f : LoadFault) → bytes
    ≡ held → EndsRecord (take end held)
    → read_on records line (take end bytes) ≡ Err f → read_on records line (held ++ rest) ≡ Err f
front_fault records line held bytes rest end f same ends read =
    ap (read_on records line) (held_parts held rest end)
    ∙ part_fault records line (take end held) (drop end held ++ rest) f ends
    (ap (λ (t : List ℕ). read_on records line (take end t)) (sym same) ∙ read)

pub records_few : {X : Type 0} (seen : X → Record) (items others : List X) (line : ℕ) (text : List ℕ)
    → read_on (map seen items) line text ≡ Ok (map seen others)
    → length others ≤ length items + length text
records_few {X} seen items others line text read =
    let new : length (map seen others) ≡ length others = simp length-map in
    let old : length (map seen items) ≡ length items = simp length-map in
    omega (arith, part_few (map seen items) (map seen others) line text read, new, old)

pub front_few : {X : Type 0} (seen : X → Record) (items others : List X) (line : ℕ) (held bytes left : List ℕ)
    (end : ℕ) → bytes ≡ held → left ≡ drop end held → end ≤ length held
    → read_on (map seen items) line (take end bytes) ≡ Ok (map seen others) → length others + length left
    ≤ length items + length held
front_few {X} seen items others line held bytes left end same is within read =
    let front : length (take end bytes) ≡ end = ap (λ (t : List ℕ). length (take end t)) same
    ∙ length-take-le end held within in
    let parts : length (take end held) + length (drop end held) ≡ length held
    = sym (length-append (take end held) (drop end held)) ∙ ap length (take-append-drop end held) in
    omega (
      arith,
      records_few seen items others line (take end bytes) read,
      front,
      parts,
      length-take-le end held
          within,
      ap length is,
    )

-- a text that ends so, after others
ends_longer : (front text : List ℕ) → EndsRecord text → EndsRecord (front ++ text)
ends_longer front text (inl ends) = inl (
  front ++ ends.0,
  ap (λ (t : List ℕ). front ++ t) ends.1
      ∙ sym (append_assoc front ends.0 _),
)
ends_longer front text (inr ends) = inr (
  front ++ ends.0,
  ap (λ (t : List ℕ). front ++ t) ends.1
      ∙ sym (append_assoc front ends.0 _),
)

pub ends_behind : (text : List ℕ) (from end : ℕ) → EndsRecord (take end (take (length text - from) (drop from text)))
    → EndsRecord (take (from + end) text)
ends_behind text from end ends =
    subst EndsRecord (sym (take-add from end text))
    (ends_longer (take from text) _ (subst (λ (t : List ℕ). EndsRecord (take end t)) (take_rest text from) ends))

-- ---- what came, and what the whole text gives

pub first_gives : (line : ℕ) (held : List ℕ) (records : List Record) (rest : List ℕ) → line ≡ 1 → held ≡ [] → records
    ≡ []
    → gives (record { count = 0; line = line; held = held; records = records; stop = None }) rest ≡ records_in rest
unfolding gives records_in story
first_gives line held records rest l h r =
    let none : 0 + length rest ≡ length rest = omega arith in
    rw (l, h, r, none) (ap (λ (all : Result (List Record) LoadFault). need (nat_le (length rest) max_text)
    (of_all cause.TooLong) >>= λ _. all) (sym (prefixed_nothing (all_of (story_from 1 rest)))))

pub whole_gives : (records : List Record) (text : List ℕ) → records ≡ [] → length text ≤ 67108864 → records_in text
    ≡ read_on records 1 text
whole_gives records text none le = not_long text le ∙ sym (whole_text text)
    ∙ prefixed_nothing (all_of (story_from 1 text)) ∙ ap (λ (r : List Record). read_on r 1 text) (sym none)

pub long_more : (n : ℕ) → 67108864 < n → false ≡ nat_le n max_text
unfolding max_text
long_more n lt = grind (arith, nat_tests)

pub short_more : (n : ℕ) → n ≤ 67108864 → true ≡ nat_le n max_text
unfolding max_text
short_more n le = grind (arith, nat_tests)

pub long_gives : (came : Came) (piece rest : List ℕ) → 67108864 < came.count + length piece
    → gives came (piece ++ rest) ≡ Err (of_all cause.TooLong)
unfolding gives max_text
long_gives came piece rest lt =
    let count : 67108864 < came.count + length (piece ++ rest) = omega (arith, lt, length-append piece rest) in
    let test : nat_le (came.count + length (piece ++ rest)) 67108864 ≡ false = grind (arith, nat_tests) in
    rw test refl

short_gives : (came : Came) (rest : List ℕ) → came.count + length rest ≤ 67108864 → gives came rest ≡ read_of came rest
unfolding gives max_text
short_gives came rest le =
    let test : nat_le (came.count + length rest) 67108864 ≡ true = grind (arith, nat_tests) in
    rw test refl

-- a piece that was taken
next_gives : (old new : Came) (piece rest : List ℕ) → new.count ≡ old.count + length piece
    → read_of old (piece ++ rest) ≡ read_of new rest → gives old (piece ++ rest) ≡ gives new rest
unfolding gives
next_gives old new piece rest count read =
    let same : old.count + length (piece ++ rest) ≡ new.count + length rest
    = omega (arith, count, length-append piece rest) in
    ap (λ (n : ℕ). need (nat_le n max_text) (of_all cause.TooLong) >>= λ _. read_of old (piece ++ rest)) same
    ∙ ap (λ (all : Result (List Record) LoadFault). need (nat_le (new.count + length rest) max_text)
    (of_all cause.TooLong) >>= λ _. all) read

read_open : (came : Came) (rest : List ℕ) → came.stop ≡ None → read_of came rest ≡ read_on came.records came.line
    (came.held ++ rest)
read_open came rest e = rw e refl

read_stopped : (came : Came) (rest : List ℕ) (f : LoadFault) → came.stop ≡ Some f → read_of came rest ≡ Err f
read_stopped came rest f e = rw e refl

pub open_next : (old new : Came) (piece rest : List ℕ) → old.stop ≡ None → new.stop ≡ None → new.count ≡ old.count
    + length piece
    → read_on old.records old.line (old.held ++ (piece ++ rest)) ≡ read_on new.records new.line (new.held ++ rest)
    → gives old (piece ++ rest) ≡ gives new rest
open_next old new piece rest a b count read = next_gives old new piece rest count
    (read_open old (piece ++ rest) a ∙ read ∙ sym (read_open new rest b))

pub fault_next : (old new : Came) (piece rest : List ℕ) (f : LoadFault) → old.stop ≡ None → new.stop ≡ Some f
    → new.count ≡ old.count + length piece
    → read_on old.records old.line (old.held ++ (piece ++ rest)) ≡ Err f → gives old (piece ++ rest) ≡ gives new rest
fault_next old new piece rest f a b count read = next_gives old new piece rest count
    (read_open old (piece ++ rest) a ∙ read ∙ sym (read_stopped new rest f b))

pub stopped_next : (old new : Came) (piece rest : List ℕ) (f : LoadFault) → old.stop ≡ Some f → new.stop ≡ Some f
    → new.count ≡ old.count + length piece
    → gives old (piece ++ rest) ≡ gives new rest
stopped_next old new piece rest f a b count = next_gives old new piece rest count
    (read_stopped old (piece ++ rest) f a ∙ sym (read_stopped new rest f b))

-- the end
pub stopped_end : (came : Came) (f : LoadFault) → came.stop ≡ Some f → came.count ≤ 67108864 → gives came [] ≡ Err f
stopped_end came f e le = short_gives came [] (omega (arith, le)) ∙ read_stopped came [] f e

pub open_end : (came : Came) (text : List ℕ) → came.stop ≡ None → came.count ≤ 67108864 → text ≡ came.held
    → gives came [] ≡ read_on came.records came.line text
open_end came text open_text le is =
    short_gives came [] (omega (arith, le)) ∙ read_open came [] open_text ∙ ap (read_on came.records came.line)
    (append-nil came.held ∙ sym is)

-- the fault that stands where the code has a line and a cause
pub some_stop : {X : Type 0} (f : X → LoadFault) (o : Option X) → is_some o ≡ true → (g : LoadFault)
    × (option_map f o ≡ Some g)
some_stop f (Some x) e = (f x, refl)
some_stop f None e = absurd cc

pub none_stop : {X : Type 0} (f : X → LoadFault) (o : Option X) → is_some o ≡ false → option_map f o ≡ None
none_stop f (Some x) e = absurd cc
none_stop f None e = refl
