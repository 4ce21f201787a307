-- What a search tried, one object after the other.
use Rattle.std.proofs.Common.{◌≡◌, ℕ, suc, ◌+◌, ◌<◌, ◌≤◌, Bool, true, false, ◌&&◌, List, [], ◌∷◌, ◌++◌, length, drop}
use Rattle.std.proofs.Common.{get_or, Option, Some, None, Result, Ok, Err, OnOk, inl, inr, refl, sym, subst, ap, ◌∙◌}
use Rattle.std.proofs.Common.{append_assoc, arith}
use Rattle.std.specs.Prelude.{not, ◌==◌, slice_get, if◌then◌else◌, is_some}
use Rattle.std.specs.List.{flat_map}
use Rattle.std.proofs.lemmas.Bool.{cases_Bool, both_ways}
use Rattle.std.proofs.lemmas.List.{append-nil, drop_all, drop_more}
use Rattle.std.proofs.lemmas.Option.{none-some, same_Some, slice_get_past, slice_get_cases}
use Rattle.ad_ids.specs.declared.token.Token.{Token}
use Rattle.ad_dn.specs.declared.rdn.Dn.{Dn}
use Rattle.ad_schema.specs.declared.info.AttrInfo.{AttrInfo}
use Rattle.ad_schema.specs.Attributes.{attrs_of}
use Rattle.ad_ldap.specs.MessageValue.{SearchValue}
use Rattle.ad_dir_model.specs.Shown.{shown}
use Rattle.ad_dir_model.specs.Directory.{Directory}
use Rattle.ad_types.specs.Tried.{TriedValue, tried_values}
use Rattle.ad_search.specs.declared.joining.Joined.{Joined}
use Rattle.ad_search.specs.declared.observing.Trace.{Trace}
use Rattle.ad_search.specs.Search.{stop_code}
use Rattle.ad_value.specs.Value.{Value}
use Rattle.ad_entries.specs.Seen.{is_readable}
use Rattle.ad_entries.specs.Entry.{is_asked}
use Rattle.ad_entries.specs.Places.{HasPlaces}
use Rattle.ad_entries.proofs.RisingLaws.{along}
use Rattle.ad_entries.proofs.PlaceLaws.{told_if, told_at_places, given_of}
use Rattle.ad_search.specs.Reads.{read_on, has_attr, attr_reads, descriptor_reads, entry_reads, found_among, long}
use Rattle.ad_search.specs.Reads.{unless_stops, given_from}
use Rattle.ad_search.specs.ReadSteps.{read_of, read_at, reads_at_each, kept, and_then, Counts, reads_behind}
use Rattle.ad_search.specs.ReadSteps.{kept_behind, ReadsOne}
use Rattle.ad_search.proofs.AmongLaws.{Has, none_found, one_found, found_apart}

-- ---- attributes by their places

one_read : (dir : Directory) (token : Token) (number : ℕ) (search : SearchValue) (place : ℕ) (info : AttrInfo)
    → slice_get (attrs_of dir.schema) place ≡ Some info
    → told_if dir token number search (read_at dir number) place
    ≡ (if has_attr dir token number search place info then read_on dir number place ∷ [] else [])
unfolding read_at
one_read dir token number search place info is =
    ap (λ (b : Bool). if b then read_at dir number place else []) (given_of dir token number search place info is)
    ∙ ap (λ (found : Option AttrInfo). if is_asked search.attrs info.name && is_readable dir token number place info
    then read_of dir number place found else []) is
    ∙ both (is_asked search.attrs info.name && is_readable dir token number place info)
    (not (length (shown dir number place) == 0))
  where
    both : (a b : Bool) → (if a then (if b then read_on dir number place ∷ [] else []) else [])
        ≡ (if a && b then read_on dir number place ∷ [] else [])
    both true b = refl
    both false b = refl

each_read : (dir : Directory) (token : Token) (number : ℕ) (search : SearchValue) (place : ℕ) (infos : List AttrInfo)
    → ((i : ℕ) (info : AttrInfo) → slice_get infos i ≡ Some info → slice_get (attrs_of dir.schema) (place + i)
    ≡ Some info)
    → along (told_if dir token number search (read_at dir number)) place infos ≡ attr_reads dir token number search
    place infos
unfolding along attr_reads
each_read dir token number search place [] at = refl
each_read dir token number search place (info ∷ infos) at =
    let here : place + 0 ≡ place = omega arith in
    ap (λ (rs : List TriedValue). rs ++ along (told_if dir token number search (read_at dir number)) (suc place) infos)
    (one_read dir token number search place info
    (subst (λ (n : ℕ). slice_get (attrs_of dir.schema) n ≡ Some info) here (at 0 info refl)))
    ∙ ap (λ (rs : List TriedValue). (if has_attr dir token number search place info then read_on dir number place ∷ []
    else []) ++ rs)
    (each_read dir token number search (suc place) infos
    (λ i other is. subst (λ (n : ℕ). slice_get (attrs_of dir.schema) n ≡ Some other) (further i)
    (at (suc i) other is)))
  where
    further : (i : ℕ) → place + suc i ≡ suc place + i
    further i = omega arith

all_read : (dir : Directory) (number : ℕ) (places : List ℕ) → reads_at_each dir number places
    ≡ flat_map (read_at dir number) places
unfolding reads_at_each
all_read dir number [] = refl
all_read dir number (p ∷ ps) = ap (λ (rs : List TriedValue). read_at dir number p ++ rs) (all_read dir number ps)

bare_read : (dir : Directory) (number place : ℕ) → shown dir number place ≡ [] → read_at dir number place ≡ []
unfolding read_at
bare_read dir number place none = by (slice_get (attrs_of dir.schema) place)
  where
    by : (found : Option AttrInfo) → read_of dir number place found ≡ []
    by None = refl
    by (Some info) = ap (λ (vs : List Value). if not (length vs == 0) then read_on dir number place ∷ [] else []) none

-- What the places of an entry tell is what its attributes tell.
read_at_places : (dir : Directory) (token : Token) (number : ℕ) (search : SearchValue) (places : List ℕ)
    → HasPlaces dir token number search places
    → reads_at_each dir number places ≡ attr_reads dir token number search 0 (attrs_of dir.schema)
read_at_places dir token number search places has =
    all_read dir number places
    ∙ told_at_places dir token number search (read_at dir number) places (λ place none. bare_read dir number place none)
    has
    ∙ each_read dir token number search 0 (attrs_of dir.schema)
    (λ i info is. subst (λ (n : ℕ). slice_get (attrs_of dir.schema) n ≡ Some info) (from_none i) is)
  where
    from_none : (i : ℕ) → i ≡ 0 + i
    from_none i = omega arith

-- one place
pub none_read : (dir : Directory) (number place : ℕ) (tried : List TriedValue) → length (attrs_of dir.schema) ≤ place
    → tried ≡ tried ++ read_at dir number place
unfolding read_at
none_read dir number place tried le =
    sym (append-nil tried) ∙ ap (λ (found : Option AttrInfo). tried ++ read_of dir number place found)
    (sym (slice_get_past (attrs_of dir.schema) place le))

read_there : (dir : Directory) (number place : ℕ) → place < length (attrs_of dir.schema)
    → (if not (length (shown dir number place) == 0) then read_on dir number place ∷ [] else [])
    ≡ read_at dir number place
unfolding read_at
read_there dir number place lt = elim ((slice_get_cases (attrs_of dir.schema) place).1) [
  | inl there ↦ ap (read_of dir number place) (sym there.2)
  | inr past ↦ let le : length (attrs_of dir.schema) ≤ place = past.0 in absurd (omega (arith, le, lt))
]

pub read_ok : {A E : Type 0} → (r : Result A E) (dir : Directory) (number place : ℕ) (before after : List TriedValue)
    (has : Bool) (value : TriedValue) → place < length (attrs_of dir.schema)
    → has ≡ not (length (shown dir number place) == 0) → value ≡ read_on dir number place
    → OnOk r (after ≡ before ++ (if has then value ∷ [] else [])) → OnOk r (after ≡ before ++ read_at dir number place)
read_ok (Ok x) dir number place before after has value lt is of new =
    new
    ∙ ap (λ (v : TriedValue). before ++ (if has then v ∷ [] else [])) of
    ∙ ap (λ (b : Bool). before ++ (if b then read_on dir number place ∷ [] else [])) is
    ∙ ap (λ (rs : List TriedValue). before ++ rs) (read_there dir number place lt)
read_ok (Err e) dir number place before after has value lt is of new = tt

-- those so far, and those that are left
pub reads_more : (dir : Directory) (number : ℕ) (places : List ℕ) (i : ℕ) (before tried after : List TriedValue) → i
    < length places
    → tried ++ reads_at_each dir number (drop i places) ≡ before ++ reads_at_each dir number places → after ≡ tried
    ++ read_at dir number (get_or places i 0)
    → after ++ reads_at_each dir number (drop (i + 1) places) ≡ before ++ reads_at_each dir number places
unfolding reads_at_each
reads_more dir number places i before tried after lt so_far new =
    ap (λ (ts : List TriedValue). ts ++ reads_at_each dir number (drop (i + 1) places)) new
    ∙ append_assoc tried (read_at dir number (get_or places i 0)) (reads_at_each dir number (drop (i + 1) places))
    ∙ ap (λ (ps : List ℕ). tried ++ reads_at_each dir number ps) (sym (drop_more places i 0 lt))
    ∙ so_far

pub reads_end : (dir : Directory) (number : ℕ) (places : List ℕ) (i : ℕ) (before tried : List TriedValue)
    → length places ≤ i
    → tried ++ reads_at_each dir number (drop i places) ≡ before ++ reads_at_each dir number places → tried ≡ before
    ++ reads_at_each dir number places
unfolding reads_at_each
reads_end dir number places i before tried le so_far =
    sym (append-nil tried) ∙ ap (λ (ps : List ℕ). tried ++ reads_at_each dir number ps) (sym (drop_all i places le))
    ∙ so_far

-- the attributes, and then the descriptor
pub entry_ok : {A E : Type 0} → (r : Result A E) (dir : Directory) (token : Token) (search : SearchValue)
    (flags number : ℕ) (places : List ℕ) (before between after : List TriedValue)
    → HasPlaces dir token number search places → between ≡ before ++ reads_at_each dir number places
    → OnOk r (after ≡ between ++ descriptor_reads dir token number search flags)
    → OnOk r (after ≡ before ++ entry_reads dir token search flags number)
unfolding entry_reads
entry_ok (Ok x) dir token search flags number places before between after are attrs descriptor =
    descriptor
    ∙ ap (λ (ts : List TriedValue). ts ++ descriptor_reads dir token number search flags)
    (attrs ∙ ap (λ (rs : List TriedValue). before ++ rs) (read_at_places dir token number search places are))
    ∙ append_assoc before (attr_reads dir token number search 0 (attrs_of dir.schema))
    (descriptor_reads dir token number search flags)
entry_ok (Err e) dir token search flags number places before between after are attrs descriptor = tt

-- ---- what is kept

pub keeps_nothing : (tried : Option (List TriedValue)) → and_then tried [] ≡ tried
keeps_nothing None = refl
keeps_nothing (Some ts) = ap Some (append-nil ts)

pub keeps_both : (tried : Option (List TriedValue)) (first second : List TriedValue)
    → and_then (and_then tried first) second ≡ and_then tried (first ++ second)
keeps_both None first second = refl
keeps_both (Some ts) first second = ap Some (append_assoc ts first second)

-- one that isn't kept
pub drops : (trace : Trace) (more : List TriedValue) → trace.is_kept ≡ false → kept trace ≡ and_then (kept trace) more
drops trace more is = rw is refl

pub keeps : {A E : Type 0} → (r : Result A E) (trace next : Trace) (more : List TriedValue) → trace.is_kept ≡ true
    → next.is_kept ≡ trace.is_kept
    → OnOk r (tried_values next.tried.items ≡ tried_values trace.tried.items ++ more)
    → OnOk r (kept next ≡ and_then (kept trace) more)
keeps (Ok x) trace next more is same are = rw (same, is) (ap Some are)
keeps (Err e) trace next more is same are = tt

if_kept : (is_kept : Bool) (tried list : List TriedValue) → (if is_kept then Some tried else None) ≡ Some list → tried
    ≡ list
if_kept true tried list is = same_Some tried list is
if_kept false tried list is = absurd (none-some list is)

-- a trace that is kept from the start
pub is_all : (before after : Option (List TriedValue)) (trace : Trace) (list : List TriedValue) → kept trace ≡ after
    → after ≡ and_then before list → before ≡ Some [] → tried_values trace.tried.items ≡ list
is_all before after trace list are is from = if_kept trace.is_kept (tried_values trace.tried.items) list
    (are ∙ is ∙ ap (λ (b : Option (List TriedValue)). and_then b list) from)

-- ---- one object

pub reads_none : (dir : Directory) (token : Token) (id : ℕ) (search : SearchValue) (flags : ℕ) (base : Dn) (n : ℕ)
    (joined : Joined) (trace : Trace) → false ≡ Has dir token search base n
    → ReadsOne dir token id search flags base n joined trace joined trace None
reads_none dir token id search flags base n joined trace is others =
    ap (λ (ns : List ℕ). kept_behind dir token id search flags joined None (kept trace) (ns ++ others))
    (sym (none_found dir token search base n is))

-- the entry with which the search ends
pub reads_stop : (dir : Directory) (token : Token) (id : ℕ) (search : SearchValue) (flags : ℕ) (base : Dn) (n : ℕ)
    (before next : Joined) (trace : Trace) (bytes code : ℕ) → true ≡ Has dir token search base n
    → bytes ≡ long dir token id search flags n → Counts search.size before next bytes (Some code)
    → ReadsOne dir token id search flags base n before trace next trace (Some code)
unfolding given_from
reads_stop dir token id search flags base n before next trace bytes code is are counts others =
    sym (keeps_nothing (kept trace))
    ∙ ap (λ (ns : List ℕ). and_then (kept trace) (flat_map (entry_reads dir token search flags) ns))
    (sym (by (stop_code search.size before.given (length before.bytes.items) (long dir token id search flags n))
    stops))
    ∙ ap (λ (ns : List ℕ). kept_behind dir token id search flags before None (kept trace) (ns ++ others))
    (sym (one_found dir token search base n is))
  where
    rest : List ℕ
    rest = n ∷ given_from dir token id search flags (suc before.given)
        (length before.bytes.items + long dir token id search flags n) others

    by : (code : Option ℕ) → is_some code ≡ true → unless_stops code rest ≡ []
    by None it = absurd (both_ways false refl it)
    by (Some code) it = refl

    stops : is_some (stop_code search.size before.given (length before.bytes.items)
        (long dir token id search flags n)) ≡ true
    stops = ap (λ (l : ℕ). is_some (stop_code search.size before.given (length before.bytes.items) l)) (sym are)
        ∙ counts

-- one that is joined
pub reads_next : (dir : Directory) (token : Token) (id : ℕ) (search : SearchValue) (flags : ℕ) (base : Dn) (n : ℕ)
    (before next : Joined) (trace told : Trace) (bytes : ℕ) → true ≡ Has dir token search base n
    → bytes ≡ long dir token id search flags n → Counts search.size before next bytes None
    → kept told ≡ and_then (kept trace) (entry_reads dir token search flags n)
    → ReadsOne dir token id search flags base n before trace next told None
unfolding given_from
reads_next dir token id search flags base n before next trace told bytes is are counts new others =
    ap (λ (ts : Option (List TriedValue)). and_then ts (behind next.given (length next.bytes.items))) new
    ∙ keeps_both (kept trace) (entry_reads dir token search flags n) (behind next.given (length next.bytes.items))
    ∙ ap (λ (g : ℕ). and_then (kept trace) (entry_reads dir token search flags n
    ++ behind g (length next.bytes.items))) counts.1
    ∙ ap (λ (j : ℕ). and_then (kept trace) (entry_reads dir token search flags n ++ behind (suc before.given) j))
    (counts.2 ∙ ap (λ (l : ℕ). length before.bytes.items + l) are)
    ∙ ap (λ (code : Option ℕ). and_then (kept trace) (flat_map (entry_reads dir token search flags)
    (unless_stops code (n ∷ given_from dir token id search flags (suc before.given)
    (length before.bytes.items + long dir token id search flags n) others)))) (sym goes_on)
    ∙ ap (λ (ns : List ℕ). kept_behind dir token id search flags before None (kept trace) (ns ++ others))
    (sym (one_found dir token search base n is))
  where
    behind : ℕ → ℕ → List TriedValue
    behind given joined = reads_behind dir token id search flags given joined others

    goes_on : stop_code search.size before.given (length before.bytes.items) (long dir token id search flags n) ≡ None
    goes_on = ap (λ (l : ℕ). stop_code search.size before.given (length before.bytes.items) l) (sym are) ∙ counts.0

-- ---- objects one after the other

-- what is kept so far and of those that are left is all
abbrev pub SoFar : Directory → Token → ℕ → SearchValue → ℕ → Dn → List ℕ → ℕ → Option (List TriedValue) → Joined
    → Trace → Type 0
SoFar dir token id search flags base ns i first joined trace =
    kept_behind dir token id search flags joined None (kept trace) (found_among dir token search base (drop i ns))
    ≡ and_then first (reads_behind dir token id search flags 0 0 (found_among dir token search base ns))

pub none_yet : (dir : Directory) (token : Token) (id : ℕ) (search : SearchValue) (flags : ℕ) (base : Dn) (ns : List ℕ)
    (joined : Joined) (trace : Trace) → joined.bytes.items ≡ [] → joined.given ≡ 0
    → SoFar dir token id search flags base ns 0 (kept trace) joined trace
none_yet dir token id search flags base ns joined trace bytes given =
    ap (λ (g : ℕ). and_then (kept trace) (reads_behind dir token id search flags g (length joined.bytes.items)
    (found_among dir token search base ns))) given
    ∙ ap (λ (bs : List ℕ). and_then (kept trace) (reads_behind dir token id search flags 0 (length bs)
    (found_among dir token search base ns))) bytes

pub reads_to : (dir : Directory) (token : Token) (id : ℕ) (search : SearchValue) (flags : ℕ) (base : Dn) (ns : List ℕ)
    (i : ℕ) (first : Option (List TriedValue)) (before next : Joined) (trace told : Trace) (code : Option ℕ) → i
    < length ns
    → ReadsOne dir token id search flags base (get_or ns i 0) before trace next told code
    → SoFar dir token id search flags base ns i first before trace
    → kept_behind dir token id search flags next code (kept told) (found_among dir token search base (drop (i + 1) ns))
    ≡ and_then first (reads_behind dir token id search flags 0 0 (found_among dir token search base ns))
reads_to dir token id search flags base ns i first before next trace told code lt one so_far =
    one (found_among dir token search base (drop (i + 1) ns))
    ∙ ap (kept_behind dir token id search flags before None (kept trace))
    (sym (ap (found_among dir token search base) (drop_more ns i 0 lt) ∙ found_apart dir token search base
    (get_or ns i 0) (drop (i + 1) ns)))
    ∙ so_far

pub reads_to_end : (dir : Directory) (token : Token) (id : ℕ) (search : SearchValue) (flags : ℕ) (base : Dn)
    (ns : List ℕ) (i : ℕ) (first : Option (List TriedValue)) (joined : Joined) (trace : Trace) → length ns ≤ i
    → SoFar dir token id search flags base ns i first joined trace
    → kept trace ≡ and_then first (reads_behind dir token id search flags 0 0 (found_among dir token search base ns))
unfolding given_from found_among
reads_to_end dir token id search flags base ns i first joined trace le so_far =
    sym (keeps_nothing (kept trace))
    ∙ ap (λ (left : List ℕ). kept_behind dir token id search flags joined None (kept trace)
    (found_among dir token search base left)) (sym (drop_all i ns le))
    ∙ so_far

-- of a result that says nothing of it
pub on_ok : {A E : Type 0} → (r : Result A E) (P : Type 0) → P → OnOk r P
on_ok (Ok x) P is = is
on_ok (Err e) P is = tt

pub on_ok_too : {A E : Type 0} → (r : Result A E) (P Q : Type 0) → (P → Q) → OnOk r P → OnOk r Q
on_ok_too (Ok x) P Q gives is = gives is
on_ok_too (Err e) P Q gives is = tt
