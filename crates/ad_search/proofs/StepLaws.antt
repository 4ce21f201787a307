-- Entries joined one after the other.
use Rattle.std.proofs.Common.{◌≡◌, ℕ, suc, add-one, ◌+◌, ◌<◌, ◌≤◌, Bool, ◌||◌, List, [], ◌∷◌, ◌++◌, length}
use Rattle.std.proofs.Common.{length-append, drop, get_or, Option, Some, None, sym, ap, ◌∙◌, append_assoc}
use Rattle.std.specs.Prelude.{is_some}
use Rattle.std.proofs.lemmas.List.{drop_all, drop_more}
use Rattle.ad_ids.specs.declared.token.Token.{Token}
use Rattle.ad_dn.specs.declared.rdn.Dn.{Dn}
use Rattle.ad_ldap.specs.MessageValue.{SearchValue}
use Rattle.ad_dir_model.specs.Directory.{Directory}
use Rattle.ad_search.specs.declared.joining.Joined.{Joined}
use Rattle.ad_entries.specs.Entry.{Entry}
use Rattle.ad_search.specs.Search.{done, stop_code, end_code, entry_or_end, entries_from}
use Rattle.ad_search.specs.Steps.{entries_among, with_rest, goes_on, Steps}
use Rattle.ad_search.specs.ReadSteps.{Counts}
use Rattle.ad_search.proofs.SeenLaws.{entries_apart, no_entries}

-- ---- one entry

pub stops : (id size : ℕ) (joined : Joined) (entry : Entry) (code have next : ℕ) → have ≡ length joined.bytes.items
    → next ≡ length entry.message → Some code ≡ stop_code size joined.given have next
    → Steps id size joined (entry ∷ []) joined (Some code)
unfolding entries_from
stops id size joined entry code have next is_have is_next stop rest =
    let is : stop_code size joined.given (length joined.bytes.items) (length entry.message) ≡ Some code =
    ap (λ (n : ℕ). stop_code size joined.given n (length entry.message)) (sym is_have)
    ∙ ap (stop_code size joined.given have) (sym is_next) ∙ sym stop in
    ap (λ (stop : Option ℕ). joined.bytes.items ++ entry_or_end id stop entry.message
    (entries_from id size (suc joined.given) (length joined.bytes.items + length entry.message)
    (joined.is_short || entry.is_short) rest))
    (sym is)

pub joins : (id size : ℕ) (before after : Joined) (entry : Entry) (have next : ℕ) → have ≡ length before.bytes.items
    → next ≡ length entry.message → None ≡ stop_code size before.given have next
    → after.bytes.items ≡ before.bytes.items ++ entry.message → after.given ≡ before.given + 1 → after.is_short
    ≡ before.is_short || entry.is_short
    → Steps id size before (entry ∷ []) after None
unfolding entries_from
joins id size before after entry have next is_have is_next stop bytes given short rest =
    let none : stop_code size before.given (length before.bytes.items) (length entry.message) ≡ None =
    ap (λ (n : ℕ). stop_code size before.given n (length entry.message)) (sym is_have)
    ∙ ap (stop_code size before.given have) (sym is_next) ∙ sym stop in
    ap (λ (bs : List ℕ). bs ++ entries_from id size after.given (length bs) after.is_short rest) bytes
    ∙ ap (λ (n : ℕ). (before.bytes.items ++ entry.message) ++ entries_from id size n
    (length (before.bytes.items ++ entry.message)) after.is_short rest) (given ∙ add-one before.given)
    ∙ ap (λ (n : ℕ). (before.bytes.items ++ entry.message) ++ entries_from id size (suc before.given) n after.is_short
    rest) (length-append before.bytes.items entry.message)
    ∙ ap (λ (b : Bool). (before.bytes.items ++ entry.message) ++ entries_from id size (suc before.given)
    (length before.bytes.items + length entry.message) b rest) short
    ∙ append_assoc before.bytes.items entry.message
    (entries_from id size (suc before.given) (length before.bytes.items + length entry.message)
    (before.is_short || entry.is_short) rest)
    ∙ ap (λ (stop : Option ℕ). before.bytes.items ++ entry_or_end id stop entry.message
    (entries_from id size (suc before.given) (length before.bytes.items + length entry.message)
    (before.is_short || entry.is_short) rest))
    (sym none)

-- as it is counted
pub stops_counted : (size : ℕ) (joined : Joined) (entry : Entry) (code have next : ℕ) → have
    ≡ length joined.bytes.items
    → next ≡ length entry.message → Some code ≡ stop_code size joined.given have next
    → Counts size joined joined (length entry.message) (Some code)
stops_counted size joined entry code have next is_have is_next stop =
    sym (ap (λ (stop : Option ℕ). is_some stop)
    (stop ∙ ap (stop_code size joined.given have) is_next
    ∙ ap (λ (n : ℕ). stop_code size joined.given n (length entry.message)) is_have))

pub joins_counted : (size : ℕ) (before after : Joined) (entry : Entry) (have next : ℕ) → have
    ≡ length before.bytes.items
    → next ≡ length entry.message → None ≡ stop_code size before.given have next
    → after.bytes.items ≡ before.bytes.items ++ entry.message → after.given ≡ before.given + 1
    → Counts size before after (length entry.message) None
joins_counted size before after entry have next is_have is_next stop bytes given = (
  sym (stop ∙ ap (stop_code size before.given have) is_next
      ∙ ap (λ (n : ℕ). stop_code size before.given n (length entry.message)) is_have),
  given ∙ add-one before.given,
  ap length bytes ∙ length-append before.bytes.items entry.message,
)

-- ---- one object

pub steps_none : (id size : ℕ) (joined : Joined) (entries : List Entry) → entries ≡ [] → Steps id size joined entries
    joined None
steps_none id size joined entries none rest = ap (λ (es : List Entry). with_rest id size joined (es ++ rest)) (sym none)

pub steps_one : (id size : ℕ) (before after : Joined) (code : Option ℕ) (entry : Entry) (entries : List Entry)
    → entries ≡ entry ∷ [] → Steps id size before (entry ∷ []) after code
    → Steps id size before entries after code
steps_one id size before after code entry entries one steps rest = steps rest
    ∙ ap (λ (es : List Entry). with_rest id size before (es ++ rest)) (sym one)

-- ---- all objects

-- the entries of an object and of those after it
abbrev All : Directory → Token → ℕ → SearchValue → ℕ → Dn → List ℕ → List Entry
All dir token id search flags base ns = entries_among dir token id search flags base ns

apart : (dir : Directory) (token : Token) (id : ℕ) (search : SearchValue) (flags : ℕ) (base : Dn) (ns : List ℕ)
    (i : ℕ) → i < length ns
    → All dir token id search flags base (drop i ns) ≡ All dir token id search flags base (get_or ns i 0 ∷ [])
    ++ All dir token id search flags base (drop (i + 1) ns)
apart dir token id search flags base ns i lt =
    ap (All dir token id search flags base) (drop_more ns i 0 lt) ∙ entries_apart dir token id search flags base
    (get_or ns i 0) (drop (i + 1) ns)

pub goes_to : (dir : Directory) (token : Token) (id : ℕ) (search : SearchValue) (flags : ℕ) (base : Dn) (ns : List ℕ)
    (i size : ℕ) (before after : Joined) (code : Option ℕ) (whole : List ℕ)
    → i < length ns
    → Steps id size before (All dir token id search flags base (get_or ns i 0 ∷ [])) after code
    → with_rest id size before (All dir token id search flags base (drop i ns)) ≡ whole
    → goes_on id size after code (All dir token id search flags base (drop (i + 1) ns)) ≡ whole
goes_to dir token id search flags base ns i size before after code whole lt steps so_far =
    steps (All dir token id search flags base (drop (i + 1) ns))
    ∙ ap (with_rest id size before) (sym (apart dir token id search flags base ns i lt))
    ∙ so_far

pub comes_to_end : (dir : Directory) (token : Token) (id : ℕ) (search : SearchValue) (flags : ℕ) (base : Dn)
    (ns : List ℕ) (i size : ℕ) (joined : Joined) (whole : List ℕ)
    → length ns ≤ i → with_rest id size joined (All dir token id search flags base (drop i ns)) ≡ whole
    → joined.bytes.items ++ done id (end_code joined.is_short) [] ≡ whole
unfolding entries_from
comes_to_end dir token id search flags base ns i size joined whole le so_far =
    ap (with_rest id size joined) (sym (ap (All dir token id search flags base) (drop_all i ns le)
    ∙ no_entries dir token id search flags base)) ∙ so_far
