-- What a verdict tells is what was tried last.
use Rattle.std.proofs.Common.{◌≡◌, ℕ, suc, Bool, true, false, List, [], ◌∷◌, map, take, Option, Some, None, inl, inr}
use Rattle.std.proofs.Common.{refl, sym, ap, subst, ◌∙◌}
use Rattle.std.specs.Prelude.{find, is_some, if◌then◌else◌}
use Rattle.std.specs.List.{AllByRecursion, list_any}
use Rattle.std.specs.Option.{option_map_or}
use Rattle.std.proofs.lemmas.Bool.{cases_Bool, both_ways}
use Rattle.std.proofs.lemmas.Option.{none-some, same_Some}
use Rattle.ad_ids.specs.declared.token.Token.{Token}
use Rattle.ad_ldap.specs.declared.controls.Settings.{Settings}
use Rattle.ad_ldap.specs.MessageValue.{OpValue, Bind, Unbind, SearchOf, ModifyOf, AddOf, DeleteOf, RenameOf}
use Rattle.ad_ldap.specs.MessageValue.{CompareOf, Abandon, Extended}
use Rattle.ad_dir_objects.specs.declared.act.Act.{Act}
use Rattle.ad_dir_model.specs.Directory.{Directory}
use Rattle.ad_access_dir.specs.Sight.{is_granted}
use Rattle.ad_types.specs.Tried.{TriedValue}
use Rattle.ad_needs_rules.specs.declared.need.Need.{Need}
use Rattle.ad_needs_rules.specs.declared.outcome.Verdict.TheVariants.{Granted, Missing}
use Rattle.ad_needs_rules.specs.Needs.{Alternative, is_met, need_of, want_of}
use Rattle.ad_needs_rules.specs.Checks.{Refusal, code, hidden, missing, or_missing, all_met, first_failing, by_checks}
use Rattle.ad_needs_rules.proofs.FirstFailing.{head_passes, head_fails}
use Rattle.ad_needs_rules.specs.Verdicts.{verdict_of}
use Rattle.ad_needs.specs.Tries.{first_granted, success_of, failure_of, tries}
use Rattle.ad_needs.specs.Traces.{requirements, reaches, trace_of, told_of, TellsLast, GrantsAll}
use Rattle.ad_needs.proofs.StepLaws.{met_by}
use Rattle.ad_needs.proofs.ReachLaws.{delete_leads, modify_leads, rename_leads, add_leads}

-- ---- the requirements

same_missing : (a b : Need) → missing a ≡ missing b → a ≡ b
same_missing a b e = cc

all_fail : (r : List Alternative) → AllByRecursion (λ (t : TriedValue). t.success ≡ false) (failure_of r)
all_fail [] = tt
all_fail (a ∷ as') = (refl, tt)

as_told : (r : List Alternative) → map told_of (failure_of r) ≡ take 1 (map want_of r)
as_told [] = refl
as_told (a ∷ as') = refl

pub tells_last : (dir : Directory) (token : Token) (rs : List (List Alternative)) (need : Need)
    → first_failing (all_met dir token rs) ≡ Some (missing need) → TellsLast need (tries dir token rs)
unfolding first_failing tries
tells_last dir token [] need is = absurd (none-some (missing need) is)
tells_last dir token (r ∷ rs) need is = by (λ e. tells_last dir token rs need e) (first_granted dir token r) refl
  where
    by : (first_failing (all_met dir token rs) ≡ Some (missing need) → TellsLast need (tries dir token rs))
        → (first : Option Alternative) → first_granted dir token r ≡ first
        → TellsLast need (option_map_or (λ (a : Alternative). success_of a ∷ tries dir token rs)
        (first_granted dir token r) (failure_of r))
    by others None none =
        let same : need_of r ≡ need = same_missing (need_of r) need (same_Some (missing (need_of r)) (missing need)
        (sym (head_fails (or_missing dir token r) (all_met dir token rs) (met_by dir token r None none)) ∙ is)) in
        record {
          before = [];
          last = failure_of r;
          are = ap (λ (f : Option Alternative). option_map_or (λ (a : Alternative). success_of a ∷ tries dir token rs)
              f (failure_of r)) none;
          granted = tt;
          missing = all_fail r;
          told = as_told r ∙ ap (λ (n : Need). take 1 n.alternatives) same;
        }
    by others (Some a) some =
        let rest = others (sym (head_passes (or_missing dir token r) (all_met dir token rs)
        (met_by dir token r (Some a) some)) ∙ is) in
        record {
          before = success_of a ∷ rest.before;
          last = rest.last;
          are = ap (λ (f : Option Alternative). option_map_or (λ (x : Alternative). success_of x ∷ tries dir token rs)
              f (failure_of r)) some
              ∙ ap (λ (ts : List TriedValue). success_of a ∷ ts) rest.are;
          granted = (refl, rest.granted);
          missing = rest.missing;
          told = rest.told;
        }

pub grants_all : (dir : Directory) (token : Token) (rs : List (List Alternative))
    → first_failing (all_met dir token rs) ≡ None → GrantsAll rs (tries dir token rs)
unfolding first_failing tries
grants_all dir token [] is = record { each = refl; granted = tt }
grants_all dir token (r ∷ rs) is = by (λ e. grants_all dir token rs e) (first_granted dir token r) refl
  where
    by : (first_failing (all_met dir token rs) ≡ None → GrantsAll rs (tries dir token rs))
        → (first : Option Alternative) → first_granted dir token r ≡ first
        → GrantsAll (r ∷ rs) (option_map_or (λ (a : Alternative). success_of a ∷ tries dir token rs)
        (first_granted dir token r) (failure_of r))
    by others None none = absurd (none-some (missing (need_of r))
        (sym is ∙ head_fails (or_missing dir token r) (all_met dir token rs) (met_by dir token r None none)))
    by others (Some a) some =
        let rest = others (sym (head_passes (or_missing dir token r) (all_met dir token rs)
        (met_by dir token r (Some a) some)) ∙ is) in
        subst (GrantsAll (r ∷ rs)) (sym (ap
        (λ (f : Option Alternative). option_map_or (λ (x : Alternative). success_of x ∷ tries dir token rs) f
        (failure_of r)) some))
        (record { each = ap (λ (n : ℕ). suc n) rest.each; granted = (refl, rest.granted) })

-- ---- the verdict

missing_is : (f : Option Refusal) (act : Act) (need : Need) → by_checks f act ≡ Missing need → f ≡ Some (missing need)
missing_is None act need is = absurd cc
missing_is (Some (code n)) act need is = absurd cc
missing_is (Some (hidden rdns)) act need is = absurd cc
missing_is (Some (missing n)) act need is = ap (λ (m : Need). Some (missing m)) (by n need is)
  where
    by : (a b : Need) → Missing a ≡ Missing b → a ≡ b
    by a b e = cc

granted_is : (f : Option Refusal) (act other : Act) → by_checks f act ≡ Granted other → f ≡ None
granted_is None act other is = refl
granted_is (Some (code n)) act other is = absurd cc
granted_is (Some (hidden rdns)) act other is = absurd cc
granted_is (Some (missing n)) act other is = absurd cc

-- what the requirements say, with some act
record Leads (dir : Directory) (token : Token) (op : OpValue) (s : Settings) : Type 0 where
  act : Act
  is : verdict_of dir token op s ≡ by_checks (first_failing (all_met dir token (requirements dir token op s))) act

leads : (dir : Directory) (token : Token) (op : OpValue) (s : Settings) → reaches (verdict_of dir token op s) ≡ true
    → Leads dir token op s
unfolding verdict_of requirements
leads dir token (AddOf a) s is = record { act = _; is = add_leads dir token a s is }
leads dir token (DeleteOf dn) s is = record { act = _; is = delete_leads dir token dn s is }
leads dir token (RenameOf r) s is = record { act = _; is = rename_leads dir token r s is }
leads dir token (ModifyOf m) s is = record { act = _; is = modify_leads dir token m s is }
leads dir token Bind s is = absurd (both_ways false refl is)
leads dir token Unbind s is = absurd (both_ways false refl is)
leads dir token (SearchOf x) s is = absurd (both_ways false refl is)
leads dir token (CompareOf x) s is = absurd (both_ways false refl is)
leads dir token Abandon s is = absurd (both_ways false refl is)
leads dir token Extended s is = absurd (both_ways false refl is)

pub missing_tells : (dir : Directory) (token : Token) (op : OpValue) (s : Settings) (need : Need)
    → verdict_of dir token op s ≡ Missing need → TellsLast need (trace_of dir token op s)
unfolding trace_of
missing_tells dir token op s need is =
    let reached : reaches (verdict_of dir token op s) ≡ true = ap reaches is in
    let lead = leads dir token op s reached in
    subst (TellsLast need) (sym (ap (λ (b : Bool). if b then tries dir token (requirements dir token op s) else [])
    reached))
    (tells_last dir token (requirements dir token op s) need
    (missing_is (first_failing (all_met dir token (requirements dir token op s))) lead.act need (sym lead.is ∙ is)))

pub granted_tells : (dir : Directory) (token : Token) (op : OpValue) (s : Settings) (act : Act)
    → verdict_of dir token op s ≡ Granted act → GrantsAll (requirements dir token op s) (trace_of dir token op s)
unfolding trace_of
granted_tells dir token op s act is =
    let reached : reaches (verdict_of dir token op s) ≡ true = ap reaches is in
    let lead = leads dir token op s reached in
    subst (GrantsAll (requirements dir token op s))
    (sym (ap (λ (b : Bool). if b then tries dir token (requirements dir token op s) else []) reached))
    (grants_all dir token (requirements dir token op s)
    (granted_is (first_failing (all_met dir token (requirements dir token op s))) lead.act act (sym lead.is ∙ is)))
