-- The answer of a search and what it tried, from what is found below its base.
use Rattle.std.proofs.Common.{◌≡◌, ℕ, Bool, true, false, List, [], ◌++◌, Option, Some, None, Result, Ok, Err, IfOk, OnOk}
use Rattle.std.proofs.Common.{refl, sym, subst, ap, ◌∙◌}
use Rattle.std.specs.Prelude.{if◌then◌else◌, find}
use Rattle.ad_ids.specs.declared.token.Token.{Token}
use Rattle.ad_dn.specs.declared.rdn.Dn.{Dn}
use Rattle.ad_ldap.specs.MessageValue.{SearchValue}
use Rattle.ad_dir_model.specs.Objects.{is_live, numbers}
use Rattle.ad_dir_model.specs.Names.{rdns_of}
use Rattle.ad_dir_model.specs.Directory.{Directory}
use Rattle.ad_types.specs.Tried.{TriedValue, tried_values}
use Rattle.ad_entries.specs.Seen.{Seen, seen_of, view}
use Rattle.ad_entries.specs.Entry.{Entry}
use Rattle.ad_search.specs.declared.observing.Trace.{Trace}
use Rattle.ad_search.specs.Scope.{same_rdns, is_named, is_there, matched}
use Rattle.ad_search.specs.Search.{done, entries_of, entries_from, answer_at}
use Rattle.ad_search.specs.Reads.{found_among, reads_in, reads_at}
use Rattle.ad_search.specs.Steps.{entries_among, objects_asked}
use Rattle.ad_search.specs.ReadSteps.{kept, and_then, reads_behind}
use Rattle.ad_search.proofs.FoundLaws.{Stands}
use Rattle.ad_search.proofs.AmongLaws.{same_entries}
use Rattle.ad_search.proofs.BaseLaws.{passes, any_of_found, none_of}
use Rattle.ad_search.proofs.AskedLaws.{enough}

-- ---- below a base that is there

pub asked_enough : (dir : Directory) (token : Token) (search : SearchValue) (base : Dn) (n : ℕ)
    → Stands dir → is_live dir.objects n ≡ true
    → Some (seen_of dir token n) ≡ find (is_named base.rdns) (view dir token)
    → found_among dir token search base (objects_asked dir search.scope n) ≡ found_among dir token search base
    (numbers dir.objects)
unfolding seen_of
asked_enough dir token search base n stands live is =
    let same : same_rdns (rdns_of dir n) base.rdns ≡ true = passes (is_named base.rdns) (view dir token)
    (seen_of dir token n) is in
    enough dir token search base n stands live same

pub answered : (dir : Directory) (token : Token) (id : ℕ) (search : SearchValue) (flags : ℕ) (base : Dn) (n : ℕ)
    (ns : List ℕ)
    → Some (seen_of dir token n) ≡ find (is_named base.rdns) (view dir token)
    → found_among dir token search base ns ≡ found_among dir token search base (numbers dir.objects)
    → entries_from id search.size 0 0 false (entries_among dir token id search flags base ns)
    ≡ answer_at dir.schema (view dir token) id search flags (Some base)
unfolding is_there view entries_among
answered dir token id search flags base n ns is same =
    ap (entries_from id search.size 0 0 false)
    (same_entries dir token id search flags base ns (numbers dir.objects) same)
    ∙ sym (ap (λ (b : Bool). if b then entries_from id search.size 0 0 false
    (entries_of dir.schema id search flags base (view dir token))
    else done id 32 (matched (view dir token) base.rdns))
    (any_of_found (is_named base.rdns) (view dir token) (seen_of dir token n) is))

pub read_there : (dir : Directory) (token : Token) (id : ℕ) (search : SearchValue) (flags : ℕ) (base : Dn) (n : ℕ)
    (ns : List ℕ)
    → Some (seen_of dir token n) ≡ find (is_named base.rdns) (view dir token)
    → found_among dir token search base ns ≡ found_among dir token search base (numbers dir.objects)
    → reads_behind dir token id search flags 0 0 (found_among dir token search base ns)
    ≡ reads_at dir token id search flags (Some base)
unfolding is_there
read_there dir token id search flags base n ns is same =
    ap (reads_behind dir token id search flags 0 0) same
    ∙ sym (ap (λ (b : Bool). if b then reads_in dir token id search flags base else [])
    (any_of_found (is_named base.rdns) (view dir token) (seen_of dir token n) is))

-- ---- below one that isn't

pub not_there : (dir : Directory) (token : Token) (id : ℕ) (search : SearchValue) (flags : ℕ) (base : Dn) → None
    ≡ find (is_named base.rdns) (view dir token)
    → done id 32 (matched (view dir token) base.rdns) ≡ answer_at dir.schema (view dir token) id search flags
    (Some base)
unfolding is_there
not_there dir token id search flags base is =
    sym (ap (λ (b : Bool). if b then entries_from id search.size 0 0 false
    (entries_of dir.schema id search flags base (view dir token))
    else done id 32 (matched (view dir token) base.rdns))
    (none_of (is_named base.rdns) (view dir token) is))

pub not_read : (dir : Directory) (token : Token) (id : ℕ) (search : SearchValue) (flags : ℕ) (base : Dn) → None
    ≡ find (is_named base.rdns) (view dir token)
    → [] ≡ reads_at dir token id search flags (Some base)
unfolding is_there
not_read dir token id search flags base is =
    sym (ap (λ (b : Bool). if b then reads_in dir token id search flags base else [])
    (none_of (is_named base.rdns) (view dir token) is))
