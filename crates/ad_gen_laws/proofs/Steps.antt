-- Each object of the sample after those before it.
use Rattle.std.proofs.Common.{◌≡◌, ◌∙◌, ℕ, suc, ◌+◌, ◌*◌, ◌<◌, ◌≤◌, false, List, [], ◌∷◌, ◌++◌, append_assoc, None}
use Rattle.std.proofs.Common.{Some, Ok, refl, ap, arith, codes}
use Rattle.ad_gen.specs.Frames.{in_domain, builtin_administrators}
use Rattle.ad_load_objects.specs.Drafts.{Draft, naming_value}
use Rattle.ad_load_objects.specs.Objects.{DraftValues, nothing_kept, parent_of, is_taken, is_sid_used, with_lines, draft_of}
use Rattle.ad_load_objects.specs.Objects.{with_record}
use Rattle.ad_gen_laws.specs.Plain.{Plain, fields_from, record_at}
use Rattle.ad_gen_laws.specs.Base.{base_schema}
use Rattle.ad_gen_laws.specs.Sample.{domain, system, sd_holder, administrators, unit, user, IsOfClass}
use Rattle.ad_gen_laws.specs.Sent.{domain_sd, protected_sd}
use Rattle.ad_gen_laws.specs.Drafts.{unit_line, user_line, given_sid, given_member, domain_sid, domain_draft}
use Rattle.ad_gen_laws.specs.Drafts.{system_draft, administrators_draft, unit_draft, sd_holder_draft, user_draft}
use Rattle.ad_gen_laws.specs.Drafts.{unit_drafts, users_of, user_drafts, first_drafts, upper_drafts}
use Rattle.ad_gen_laws.proofs.Schema.{IsObject, unit_object, user_object, fixed_objects}
use Rattle.ad_gen_laws.proofs.Classes.{domain_class, system_class, sd_holder_class, administrators_class, unit_class}
use Rattle.ad_gen_laws.proofs.Classes.{user_class}
use Rattle.ad_gen_laws.proofs.Values.{unit_values, system_values, holder_values}
use Rattle.ad_gen_laws.proofs.Given.{domain_given, administrators_given, user_given}
use Rattle.ad_gen_laws.proofs.Sids.{domain_has, system_sid, user_unused}
use Rattle.ad_gen_laws.proofs.Free.{below_root, below_system, unit_free, administrators_free}
use Rattle.ad_gen_laws.proofs.Found.{unit_found, user_free, none_among_units}

made : (ds : List Draft) (k : ℕ) (p : Plain) (class parent : ℕ) (kept : DraftValues) → IsObject p → parent_of ds p.rdns
    ≡ Some parent
    → IsOfClass class p → is_taken ds parent (naming_value p.rdns) ≡ false → with_lines base_schema ds class
    (fields_from (k + 1) p.lines) ≡ Ok kept
    → with_record base_schema ds (record_at k p)
    ≡ Ok (ds ++ record { rdns = p.rdns; parent = parent; class = class; given = kept.given; sd = kept.sd } ∷ [])
unfolding with_record draft_of
made ds k p class parent kept object above is free lines
    = rw (object (k + 1)) (rw above (rw (is.class_is k (k + 1)) (rw is.naming (rw free (rw lines refl)))))

pub domain_step : with_record base_schema [] (record_at 270 domain) ≡ Ok (domain_draft ∷ [])
unfolding parent_of is_taken
domain_step = made [] 270 domain 1 0 (record { given = given_sid 272 domain_sid ∷ []; sd = Some domain_sd })
    fixed_objects.0 refl domain_class refl domain_given

pub system_step : with_record base_schema (domain_draft ∷ []) (record_at 275 system)
    ≡ Ok (domain_draft ∷ system_draft ∷ [])
unfolding is_taken
system_step = made (domain_draft ∷ []) 275 system 3 1 nothing_kept fixed_objects.1.0 (below_root [] _) system_class
    refl (system_values (domain_draft ∷ []) 276)

builtin_unused : is_sid_used base_schema (domain_draft ∷ system_draft ∷ []) (Some builtin_administrators) ≡ false
unfolding is_sid_used
builtin_unused = rw (domain_has, system_sid) refl

pub administrators_step : with_record base_schema (domain_draft ∷ system_draft ∷ []) (record_at 282 administrators)
    ≡ Ok first_drafts
administrators_step =
    let ds : List Draft = domain_draft ∷ system_draft ∷ [] in
    made ds 282 administrators 4 1 (record {
      given = given_sid 284 builtin_administrators ∷ given_member ∷ [];
      sd
          = None;
    }) fixed_objects.1.1.1.0
    (below_root (system_draft ∷ []) _) administrators_class administrators_free (administrators_given ds builtin_unused)

pub unit_step : (i : ℕ) → i < 1000 → with_record base_schema (first_drafts ++ unit_drafts i)
    (record_at (unit_line i) (unit i)) ≡ Ok (first_drafts ++ (unit_drafts i ++ unit_draft i ∷ []))
unit_step i few =
    let ds = first_drafts ++ unit_drafts i in
    made ds (unit_line i) (unit i) 2 1 nothing_kept (unit_object i)
    (below_root (system_draft ∷ administrators_draft ∷ unit_drafts i) _) (unit_class i) (unit_free i few)
    (unit_values ds i (unit_line i + 1))

holder_free : (n : ℕ) → is_taken (first_drafts ++ unit_drafts n) 2 (codes "AdminSDHolder") ≡ false
unfolding is_taken
holder_free n = none_among_units 2 n (codes "AdminSDHolder") (omega arith)

pub holder_step : (n : ℕ) → with_record base_schema (first_drafts ++ unit_drafts n) (record_at 278 sd_holder)
    ≡ Ok (upper_drafts n)
holder_step n =
    let ds = first_drafts ++ unit_drafts n in
    made ds 278 sd_holder 3 2 (record { given = []; sd = Some protected_sd }) fixed_objects.1.1.0
    (below_system (administrators_draft ∷ unit_drafts n) _) sd_holder_class (holder_free n) (holder_values ds 279)

user_above : (n i j : ℕ) (more : List Draft) → i < 1000 → i < n → parent_of (upper_drafts n ++ more) (user i j).rdns
    ≡ Some (i + 4)
unfolding parent_of
user_above n i j more few less =
    rw (append_assoc (unit_drafts n) (sd_holder_draft ∷ []) more) (unit_found n i (sd_holder_draft ∷ more) few less)

pub user_step : (n i j : ℕ) → n ≤ 1000 → i < n → j < 10 → with_record base_schema
    (upper_drafts n ++ (user_drafts i ++ users_of i j)) (record_at (user_line i (suc j)) (user i (suc j)))
    ≡ Ok ((upper_drafts n ++ (user_drafts i ++ users_of i j)) ++ user_draft i (suc j) ∷ [])
user_step n i j few less least =
    let more = user_drafts i ++ users_of i j in
    let ds = upper_drafts n ++ more in
    let k = user_line i (suc j) in
    let small : i < 1000 = omega (arith, few, less) in
    let two : k + 1 + 1 ≡ k + 2 = omega arith in
    made ds k (user i (suc j)) 5 (i + 4) (record {
      given = given_sid (k + 1 + 1) (in_domain (1000 + 10 * i + suc j))
          ∷ [];
      sd = None;
    }) (user_object i (suc j))
    (user_above n i (suc j) more small less) (user_class i (suc j)) (user_free n i j small least)
    (user_given ds i (suc j) (k + 1) small (omega (arith, least)) (user_unused n i j small least))
    ∙ ap (λ (line : ℕ). Ok (ds ++ record {
      rdns = (user i (suc j)).rdns;
      parent = i + 4;
      class = 5;
      given
          = given_sid line (in_domain (1000 + 10 * i + suc j)) ∷ [];
      sd = None;
    } ∷ [])) two
