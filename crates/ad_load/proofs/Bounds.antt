-- The limits as they are judged, and what phase 4 says of them.
use Rattle.std.proofs.Common.{◌≡◌, ℕ, ◌+◌, ◌-◌, ◌<◌, ◌≤◌, ◌^◌, Bool, true, false, Result, Ok, Err, List, length, map}
use Rattle.std.proofs.Common.{get_or, drop, refl, sym, ap, ◌∙◌, arith}
use Rattle.std.specs.Prelude.{nat_le, ◌&&◌}
use Rattle.std.specs.Option.{option_and_then}
use Rattle.std.specs.List.{list_all}
use Rattle.std.proofs.lemmas.Bool.{le-leb, leb-true}
use Rattle.std.proofs.lemmas.List.{drop_all}
use Rattle.ad_bytes.specs.Reading.{◌>>=◌, need}
use Rattle.ad_ids.specs.SidValue.{SidValue}
use Rattle.ad_dn.specs.declared.rdn.Rdn.{Rdn}
use Rattle.ad_dn.specs.Text.{rdns_text}
use Rattle.ad_schema.specs.declared.line.SchemaRecord.{SchemaRecord}
use Rattle.ad_dir_model.specs.Limits.{max_objects, max_weight, max_counter, max_text}
use Rattle.ad_dir_model.specs.Object.{Object}
use Rattle.ad_dir_model.specs.Weight.{objects_weight, weight}
use Rattle.ad_load_objects.specs.declared.drafts.Draft.{Draft as HeldDraft}
use Rattle.ad_load_records.specs.declared.fault.LoadFault.{LoadFault}
use Rattle.ad_load_records.specs.declared.fault.LoadCause.TheVariants as cause
use Rattle.ad_load_records.specs.Faults.{of_all}
use Rattle.ad_load_objects.specs.Drafts.{Draft, draft_sid}
use Rattle.ad_load.specs.Links.{domain_of, objects_of, directory_with, meta_of, root_rdns, next_rid, unsettled}
use Rattle.ad_load.specs.Links.{is_shallow, is_within_limits, all_defaults, linked, rid_of, above, above_all}
use Rattle.ad_load_objects.specs.Seen.{draft_seen}
use Rattle.ad_load_records.proofs.Lists.{cut}
use Rattle.ad_load_records.proofs.Inverting.{and_true}

and_is : (a : Bool) → (a && true) ≡ a
and_is true = refl
and_is false = refl

six_are : (a b c d e n a' b' c' d' e' : Bool) → a ≡ a' → b ≡ b' → c ≡ c' → d ≡ d' → e ≡ e' → n ≡ true
    → (a && b && c && d && e) ≡ (a' && b' && c' && n && d' && e')
six_are a b c d e n a' b' c' d' e' pa pb pc pd pe pn =
    ap (λ (x : Bool). x && b && c && d && e) pa
    ∙ ap (λ (x : Bool). a' && x && c && d && e) pb
    ∙ ap (λ (x : Bool). a' && b' && x && d && e) pc
    ∙ ap (λ (x : Bool). a' && b' && c' && x && e) pd
    ∙ ap (λ (x : Bool). a' && b' && c' && d' && x) pe
    ∙ ap (λ (x : Bool). x && d' && e') (sym (and_is (a' && b' && c')))
    ∙ ap (λ (x : Bool). a' && b' && c' && x && d' && e') (sym pn)

number_fits : (drafts : List Draft) → length drafts ≤ 67108864 → nat_le (length drafts + 1) max_counter ≡ true
unfolding max_counter
number_fits drafts few = le-leb (length drafts + 1) (2 ^ 32 - 1) (omega (arith, few))

pub limits_are : (schema : List SchemaRecord) (drafts : List Draft) (objects : List Object)
    (few shallow light rid short : Bool) → length drafts ≤ 67108864
    → few ≡ nat_le (length objects) max_objects → shallow ≡ list_all (is_shallow drafts) drafts → light
    ≡ nat_le (objects_weight schema objects) max_weight
    → rid ≡ nat_le (meta_of schema drafts).next_rid max_counter → short
    ≡ nat_le (length (rdns_text (meta_of schema drafts).suffix)) max_text
    → (few && shallow && light && rid && short) ≡ is_within_limits drafts (directory_with schema drafts objects)
unfolding is_within_limits weight meta_of
limits_are schema drafts objects few shallow light rid short count pf ps pl pr pt =
    six_are few shallow light rid short (nat_le (length drafts + 1) max_counter) _ _ _ _ _ pf ps pl pr pt
    (number_fits drafts count)

pub counter_fits : (few shallow light rid short : Bool) (number : ℕ) → rid ≡ nat_le number max_counter
    → (few && shallow && light && rid && short) ≡ true → number < 2 ^ 32
unfolding max_counter
counter_fits few shallow light rid short number pr all =
    let a = and_true (few && shallow && light && rid) short all in
    let b = and_true (few && shallow && light) rid a.0 in
    let le : number ≤ 2 ^ 32 - 1 = leb-true number (2 ^ 32 - 1) (sym pr ∙ b.1) in
    omega (arith, le)

-- ---- phase 4, step by step

-- what is answered of any drafts, of these
pub within_by : (schema : List SchemaRecord) (drafts : List Draft) (objects : List Object) (within shallow : Bool)
    (rid : ℕ) (suffix : List Rdn)
    → ((all : List Draft) → length all ≤ 67108864 → shallow ≡ list_all (is_shallow all) all → rid
    ≡ (meta_of schema all).next_rid → suffix ≡ (meta_of schema all).suffix
    → within ≡ is_within_limits all (directory_with schema all objects))
    → length drafts ≤ 67108864 → shallow ≡ list_all (is_shallow drafts) drafts → rid
    ≡ next_rid schema (domain_of schema drafts) drafts
    → suffix ≡ drop 1 (root_rdns drafts) → within ≡ is_within_limits drafts (directory_with schema drafts objects)
unfolding meta_of
within_by schema drafts objects within shallow rid suffix judged few ps pr pt = judged drafts few ps pr pt

pub objects_stop : (schema : List SchemaRecord) (drafts : List Draft) (f : LoadFault) → objects_of schema drafts
    ≡ Err f → linked schema drafts ≡ Err f
unfolding linked unsettled
objects_stop schema drafts f e =
    ap (λ (r : Result (List Object) LoadFault). (r >>= λ objects. Ok
    (directory_with schema drafts objects)) >>= λ dir. need (is_within_limits drafts dir) (of_all cause.Limit)
    >>= λ _. all_defaults schema (domain_of schema drafts) >>= λ _. Ok dir) e

with_objects : (schema : List SchemaRecord) (drafts : List Draft) (objects : List Object) → objects_of schema drafts
    ≡ Ok objects
    → linked schema drafts ≡ (need (is_within_limits drafts (directory_with schema drafts objects))
    (of_all cause.Limit) >>= λ _. all_defaults schema (domain_of schema drafts) >>= λ _. Ok
    (directory_with schema drafts objects))
unfolding linked unsettled
with_objects schema drafts objects e =
    ap (λ (r : Result (List Object) LoadFault). (r >>= λ objects. Ok
    (directory_with schema drafts objects)) >>= λ dir. need (is_within_limits drafts dir) (of_all cause.Limit)
    >>= λ _. all_defaults schema (domain_of schema drafts) >>= λ _. Ok dir) e

pub limits_stop : (schema : List SchemaRecord) (drafts : List Draft) (objects : List Object)
    → objects_of schema drafts ≡ Ok objects → is_within_limits drafts (directory_with schema drafts objects) ≡ false
    → linked schema drafts ≡ Err (of_all cause.Limit)
limits_stop schema drafts objects e out =
    with_objects schema drafts objects e
    ∙ ap (λ (b : Bool). need b (of_all cause.Limit) >>= λ _. all_defaults schema
    (domain_of schema drafts) >>= λ _. Ok (directory_with schema drafts objects)) out

pub defaults_stop : (schema : List SchemaRecord) (drafts : List Draft) (objects : List Object) (f : LoadFault)
    → objects_of schema drafts ≡ Ok objects → is_within_limits drafts (directory_with schema drafts objects) ≡ true
    → all_defaults schema (domain_of schema drafts) ≡ Err f → linked schema drafts ≡ Err f
defaults_stop schema drafts objects f e within stop =
    with_objects schema drafts objects e
    ∙ ap (λ (b : Bool). need b (of_all cause.Limit) >>= λ _. all_defaults schema
    (domain_of schema drafts) >>= λ _. Ok (directory_with schema drafts objects)) within
    ∙ ap (λ (r : Result (Unit {0}) LoadFault). r >>= λ _. Ok (directory_with schema drafts objects)) stop

pub all_linked : (schema : List SchemaRecord) (drafts : List Draft) (objects : List Object)
    → objects_of schema drafts ≡ Ok objects → is_within_limits drafts (directory_with schema drafts objects) ≡ true
    → all_defaults schema (domain_of schema drafts) ≡ Ok tt → linked schema drafts
    ≡ Ok (directory_with schema drafts objects)
all_linked schema drafts objects e within defaults =
    with_objects schema drafts objects e
    ∙ ap (λ (b : Bool). need b (of_all cause.Limit) >>= λ _. all_defaults schema
    (domain_of schema drafts) >>= λ _. Ok (directory_with schema drafts objects)) within
    ∙ ap (λ (r : Result (Unit {0}) LoadFault). r >>= λ _. Ok (directory_with schema drafts objects)) defaults

-- ---- the counter of identifiers

pub above_next : (schema : List SchemaRecord) (domain : SidValue) (n : ℕ) (drafts : List HeldDraft) (i : ℕ)
    (one : HeldDraft) → i < length drafts → get_or drafts i one ≡ one
    → above_all schema domain n (map draft_seen (drop i drafts))
    ≡ above_all schema domain (above n (option_and_then (rid_of domain) (draft_sid schema (draft_seen one))))
    (map draft_seen (drop (i + 1) drafts))
unfolding above_all
above_next schema domain n drafts i one lt is
    = ap (λ (ds : List HeldDraft). above_all schema domain n (map draft_seen ds)) (cut drafts i one lt is)

pub above_end : (schema : List SchemaRecord) (domain : SidValue) (n : ℕ) (drafts : List HeldDraft) (i : ℕ)
    → length drafts ≤ i → above_all schema domain n (map draft_seen (drop i drafts)) ≡ n
unfolding above_all
above_end schema domain n drafts i le = ap (λ (ds : List HeldDraft). above_all schema domain n (map draft_seen ds))
    (drop_all i drafts le)

pub meta_is : (schema : List SchemaRecord) (drafts : List Draft) (n rid : ℕ) (suffix : List Rdn)
    → n ≡ length drafts + 1 → rid ≡ next_rid schema (domain_of schema drafts) drafts
    → suffix ≡ drop 1 (root_rdns drafts)
    → meta_of schema drafts ≡ record { next_number = n; next_rid = rid; suffix = suffix }
unfolding meta_of
meta_is schema drafts n rid suffix pn pr ps =
    ap (λ (k : ℕ). record {
      next_number = k;
      next_rid = next_rid schema (domain_of schema drafts) drafts;
      suffix
          = drop 1 (root_rdns drafts);
    }) (sym pn)
    ∙ ap (λ (k : ℕ). record { next_number = n; next_rid = k; suffix = drop 1 (root_rdns drafts) }) (sym pr)
    ∙ ap (λ (rdns : List Rdn). record { next_number = n; next_rid = rid; suffix = rdns }) (sym ps)
