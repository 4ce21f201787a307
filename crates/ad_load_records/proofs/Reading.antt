-- Records, as they come from the reader of the grammar.
use Rattle.std.proofs.Common.{◌≡◌, ℕ, ◌+◌, ◌<◌, ◌≤◌, true, false, Option, Some, None, Result, Ok, Err, IfOk}
use Rattle.std.proofs.Common.{List, [], length, map, get_or, drop, refl, sym, ap, ◌∙◌, arith}
use Rattle.std.specs.Prelude.{nat_le}
use Rattle.std.specs.Option.{option_or}
use Rattle.std.proofs.lemmas.List.{drop_all, length-map}
use Rattle.std.proofs.lemmas.Bool.{true≢false}
use Rattle.std.proofs.lemmas.Bool.Decides.{nat_tests}
use Rattle.ad_bytes.specs.Reading.{GivesUnless}
use Rattle.ad_ldif.specs.declared.fault.LdifFault.{LdifFault}
use Rattle.ad_ldif.specs.declared.fault.LdifFault.TheVariants as reader
use Rattle.ad_ldif.specs.declared.record.LdifLine.{LdifLine as HeldLine}
use Rattle.ad_ldif.specs.Records.{Entry}
use Rattle.ad_ldif.specs.Story.{Story, told, nothing, story, story_from, Tells}
use Rattle.ad_schema.specs.declared.line.SchemaKind.{SchemaKind}
use Rattle.ad_load_records.specs.declared.fault.LoadFault.{LoadFault}
use Rattle.ad_load_records.specs.declared.fault.LoadCause.TheVariants as cause
use Rattle.ad_load_records.specs.Faults.{is_memory, of_all}
use Rattle.ad_load_records.specs.Records.{Record, max_text, kind_in, kind_of, record_of, records_of, all_of, records_in}
use Rattle.ad_load_records.specs.Seen.{held_field, of_reader}
use Rattle.ad_load_records.proofs.Lists.{cut}
use Rattle.ad_load_records.proofs.Prefixed.{first_then}
use Rattle.ad_load_records.proofs.Few.{few_from}

kind_next : (lines : List HeldLine) (i : ℕ) (line : HeldLine) (found : Option SchemaKind) → i < length lines
    → get_or lines i line ≡ line → found ≡ kind_in (held_field line)
    → kind_of (map held_field (drop i lines)) ≡ option_or found (kind_of (map held_field (drop (i + 1) lines)))
unfolding kind_of
kind_next lines i line found lt is e =
    ap (λ ls. kind_of (map held_field ls)) (cut lines i line lt is)
    ∙ ap (λ o. option_or o (kind_of (map held_field (drop (i + 1) lines)))) (sym e)

-- a line that names one, and a line that doesn't
pub kind_found : (lines : List HeldLine) (i : ℕ) (line : HeldLine) (found : Option SchemaKind) (kind : SchemaKind)
    → i < length lines → get_or lines i line ≡ line → found ≡ kind_in (held_field line) → found ≡ Some kind
    → kind_of (map held_field (drop i lines)) ≡ Some kind
kind_found lines i line found kind lt is e some =
    kind_next lines i line found lt is e ∙ ap (λ o. option_or o (kind_of (map held_field (drop (i + 1) lines)))) some

pub kind_passed : (lines : List HeldLine) (i : ℕ) (line : HeldLine) (found : Option SchemaKind) → i < length lines
    → get_or lines i line ≡ line → found ≡ kind_in (held_field line) → found ≡ None
    → kind_of (map held_field (drop i lines)) ≡ kind_of (map held_field (drop (i + 1) lines))
kind_passed lines i line found lt is e none =
    kind_next lines i line found lt is e ∙ ap (λ o. option_or o (kind_of (map held_field (drop (i + 1) lines)))) none

pub kind_none : (lines : List HeldLine) (i : ℕ) → length lines ≤ i → kind_of (map held_field (drop i lines)) ≡ None
unfolding kind_of
kind_none lines i le = ap (λ ls. kind_of (map held_field ls)) (drop_all i lines le)

pub more_told : (before after : Story) (entry : Entry) → before ≡ told (Ok entry) after → all_of before
    ≡ first_then (record_of entry) (all_of after)
unfolding records_of
more_told before after entry e = ap all_of e

pub none_told : (before : Story) → before ≡ nothing → all_of before ≡ Ok []
unfolding records_of
none_told before e = ap all_of e

pub stop_told : (before after : Story) (f : LdifFault) → Tells before (Err f) after → is_memory (of_reader f) ≡ false
    → all_of before ≡ Err (of_reader f)
unfolding records_of
stop_told before after (reader.Bad n k) t m = ap all_of t
stop_told before after reader.Memory t m = absurd (true≢false m)

pub too_long : (text : List ℕ) → 67108864 < length text → records_in text ≡ Err (of_all cause.TooLong)
unfolding records_in max_text
too_long text lt =
    let test : nat_le (length text) 67108864 ≡ false = grind (arith, nat_tests) in
    rw test refl

pub not_long : (text : List ℕ) → length text ≤ 67108864 → records_in text ≡ all_of (story text)
unfolding records_in max_text
not_long text le =
    let test : nat_le (length text) 67108864 ≡ true = grind (arith, nat_tests) in
    rw test refl

-- a text from its first line on
pub whole_text : (text : List ℕ) → all_of (story_from 1 text) ≡ all_of (story text)
unfolding story
whole_text text = refl

as_many : {X : Type 0} (seen : X → Record) (items : List X) (text : List ℕ) → length text ≤ 67108864
    → all_of (story text) ≡ Ok (map seen items) → length items ≤ 67108864
unfolding story
as_many seen items text le e =
    let most : length (map seen items) ≤ length text = few_from 1 text (map seen items) e in
    let same : length (map seen items) ≡ length items = simp length-map in
    omega arith

pub few_read : {V X : Type 0} (items : V → List X) (seen : X → Record) (r : Result V LoadFault) (text : List ℕ)
    → length text ≤ 67108864 → GivesUnless is_memory (λ v. map seen (items v)) r (all_of (story text))
    → IfOk r (λ v. length (items v) ≤ 67108864)
few_read items seen (Ok v) text le g = as_many seen (items v) text le g
few_read items seen (Err e) text le g = tt
