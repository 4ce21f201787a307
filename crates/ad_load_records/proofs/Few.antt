-- A text has no more records than bytes.
use Rattle.std.proofs.Common.{◌≡◌, ℕ, ◌+◌, ◌≤◌, Bool, true, false, Option, Some, None, Result, Ok, Err, List, [], ◌∷◌}
use Rattle.std.proofs.Common.{◌++◌, length, eqb, refl, ap, arith}
use Rattle.std.specs.Prelude.{◌&&◌, if◌then◌else◌}
use Rattle.ad_bytes.specs.Reading.{◌>>=◌}
use Rattle.ad_ldif.specs.Lines.{Line, Block, begins_with, is_empty, lengthened, physical, continuation, logical}
use Rattle.ad_ldif.specs.Lines.{lines_from, lines_before_empty, blocks}
use Rattle.ad_ldif.specs.Records.{Entry, Fault, record_of as entry_at}
use Rattle.ad_ldif.specs.Story.{Story, told, story_of, story_from}
use Rattle.ad_load_records.specs.declared.fault.LoadFault.{LoadFault}
use Rattle.ad_load_records.specs.Records.{Record, record_of, records_of, all_of}

if_at_most : {A : Type 0} (f : A → ℕ) (t : Bool) (x y : A) (n : ℕ) → f x ≤ n → f y ≤ n → f (if t then x else y) ≤ n
if_at_most f true x y n p q = p
if_at_most f false x y n p q = q

lengthened_one : (b : ℕ) (lines : List (List ℕ)) → length (lengthened b lines) ≤ length lines + 1
lengthened_one b [] = omega arith
lengthened_one b (line ∷ lines) = omega arith

physical_few : (text : List ℕ) → length (physical text) ≤ length text
unfolding physical
physical_few [] = omega arith
physical_few (b ∷ rest) =
    let few : length (physical rest) ≤ length rest = physical_few rest in
    let one : length (lengthened b (physical rest)) ≤ length (physical rest) + 1 = lengthened_one b (physical rest) in
    if_at_most length (eqb b 13 && begins_with 10 rest) (physical rest)
    (if eqb b 10 then [] ∷ physical rest else lengthened b (physical rest)) (length (b ∷ rest)) (omega arith)
    (if_at_most length (eqb b 10) ([] ∷ physical rest) (lengthened b (physical rest)) (length (b ∷ rest))
    (omega arith) (omega arith))

logical_few : (open_line : Bool) (n : ℕ) (lines : List (List ℕ)) → length (logical open_line n lines) ≤ length lines
unfolding logical
logical_few open_line n [] = omega arith
logical_few open_line n (line ∷ lines) =
    let inside : length (logical true (n + 1) lines) ≤ length lines = logical_few true (n + 1) lines in
    let outside : length (logical false (n + 1) lines) ≤ length lines = logical_few false (n + 1) lines in
    let all = length (line ∷ lines) in
    let blank : List Line = record { number = n; text = [] } ∷ logical false (n + 1) lines in
    let whole : List Line = record { number = n; text = line ++ continuation lines } ∷ logical true (n + 1) lines in
    let third : List Line = if is_empty line then blank else whole in
    let second : List Line = if begins_with 35 line then logical true (n + 1) lines else third in
    if_at_most length (open_line && begins_with 32 line) (logical true (n + 1) lines) second all (omega arith)
    (if_at_most length (begins_with 35 line) (logical true (n + 1) lines) third all (omega arith)
    (if_at_most length (is_empty line) blank whole all (omega arith) (omega arith)))

blocks_few : (inside : Bool) (lines : List Line) → length (blocks inside lines) ≤ length lines
unfolding blocks
blocks_few inside [] = omega arith
blocks_few inside (line ∷ lines) =
    let first : length (blocks true lines) ≤ length lines = blocks_few true lines in
    let other : length (blocks false lines) ≤ length lines = blocks_few false lines in
    let all = length (line ∷ lines) in
    let begun : List Block = record { first = line; others = lines_before_empty lines } ∷ blocks true lines in
    let second : List Block = if inside then blocks true lines else begun in
    if_at_most length (is_empty line.text) (blocks false lines) second all (omega arith)
    (if_at_most length inside (blocks true lines) begun all (omega arith) (omega arith))

told_few : (r : Result Entry Fault) (s : Story) (n : ℕ) → length s.records ≤ n → length (told r s).records ≤ n + 1
told_few (Ok entry) s n le = omega (arith, le)
told_few (Err f) s n le = omega arith

story_few : (bs : List Block) → length (story_of bs).records ≤ length bs
unfolding story_of
story_few [] = omega arith
story_few (b ∷ bs) =
    let one : length (told (entry_at b) (story_of bs)).records ≤ length bs + 1 = told_few (entry_at b) (story_of bs)
    (length bs) (story_few bs) in
    omega arith

records_as_many : (stop : Option Fault) (entries : List Entry) (rs : List Record) → records_of stop entries ≡ Ok rs
    → length rs ≤ length entries
unfolding records_of
records_as_many None [] rs e = let same : [] ≡ rs = cc in omega (arith, ap length same)
records_as_many (Some f) [] rs e = absurd cc
records_as_many stop (entry ∷ entries) rs e = by (record_of entry) (records_of stop entries)
    (records_as_many stop entries) e where
      by : (first : Result Record LoadFault) (others : Result (List Record) LoadFault)
          → ((xs : List Record) → others ≡ Ok xs → length xs ≤ length entries)
          → (first >>= λ x. others >>= λ xs. Ok (x ∷ xs)) ≡ Ok rs → length rs ≤ length (entry ∷ entries)
      by (Err f) others few q = absurd cc
      by (Ok x) (Err f) few q = absurd cc
      by (Ok x) (Ok xs) few q =
          let same : x ∷ xs ≡ rs = cc in
          let le : length xs ≤ length entries = few xs refl in
          omega (arith, ap length same)

pub few_from : (n : ℕ) (text : List ℕ) (rs : List Record) → all_of (story_from n text) ≡ Ok rs → length rs ≤ length text
unfolding lines_from
few_from n text rs e =
    let a = records_as_many (story_from n text).stop (story_from n text).records rs e in
    let b : length (story_from n text).records ≤ length (blocks false (logical false n (physical text))) = story_few
    (blocks false (logical false n (physical text))) in
    let c = blocks_few false (logical false n (physical text)) in
    let d = logical_few false n (physical text) in
    let f = physical_few text in
    omega arith
