-- The request that replaces all values of one attribute by one value: its checks, up to its name and after it.
use Rattle.std.proofs.Common.{◌≡◌, ℕ, Bool, true, false, List, [], ◌∷◌, ◌++◌, Option, Some, None, cond, refl, sym, ap}
use Rattle.std.proofs.Common.{◌∙◌}
use Rattle.std.specs.Prelude.{is_some, unwrap_or}
use Rattle.std.specs.List.{flat_map}
use Rattle.std.proofs.lemmas.Bool.{false≢true}
use Rattle.ad_ids.specs.declared.token.Token.{Token}
use Rattle.ad_ldap.specs.declared.items.Item.{Item}
use Rattle.ad_schema_classes.proofs.IndexLemmas.{same_itself}
use Rattle.ad_dir_objects.specs.declared.act.Act.{Act}
use Rattle.ad_dir_model.specs.Directory.{Directory}
use Rattle.ad_needs_rules.specs.declared.outcome.Verdict.{Verdict}
use Rattle.ad_needs_rules.specs.declared.outcome.Verdict.TheVariants.{Granted}
use Rattle.ad_needs_rules.specs.Checks.{Check, Refusal, code, hidden, missing, first_failing, by_checks, or_code}
use Rattle.ad_needs_rules.specs.Checks.{all_met}
use Rattle.ad_needs_rules.specs.Requests.{is_name, number_named, or_hidden}
use Rattle.ad_needs_rules.proofs.FirstFailing.{head_holds, both_hold, head_passes, all_pass}
use Rattle.ad_needs_rules.specs.Modifying.{items_of, item_checks, modify_needs, modify_checks}
use Rattle.ad_search_laws.specs.Told.{replacement, IsSeenAs}

abbrev pub only : List ℕ → List ℕ → Item
only name value = record { op = 2; attr = name; values = value ∷ [] }

pub one_item : (name value : List ℕ) → items_of (only name value ∷ []) name ≡ only name value ∷ []
one_item name value = ap (λ (b : Bool). cond b (only name value ∷ []) []) (same_itself name)

module _ (dir : Directory) (token : Token) (number : ℕ) (dn name value : List ℕ) (flags : ℕ)
    (seen : IsSeenAs dir token number dn) where
  items : List Item
  items = only name value ∷ []

  behind_name : ℕ → List Check
  behind_name n = flat_map (item_checks dir n flags items) items
      ++ all_met dir token (modify_needs dir token n flags items)

  number_is : number_named dir token dn ≡ number
  number_is = ap (λ (found : Option ℕ). unwrap_or found 0) seen.named

  checks_begin : modify_checks dir token (replacement dn name value) flags ≡ or_code (is_name dn) 34
      ∷ or_hidden dir token dn ∷ behind_name (number_named dir token dn)
  unfolding modify_checks items behind_name
  checks_begin = refl

  -- none fails, where none of the one item does and what it needs is granted
  pub all_hold : first_failing (item_checks dir number flags (only name value ∷ []) (only name value)) ≡ None
      → first_failing (all_met dir token (modify_needs dir token number flags (only name value ∷ []))) ≡ None
      → first_failing (modify_checks dir token (replacement dn name value) flags) ≡ None
  unfolding behind_name items first_failing
  all_hold own met =
      ap first_failing checks_begin
      ∙ head_passes (or_code (is_name dn) 34) (or_hidden dir token dn ∷ behind_name (number_named dir token dn))
      seen.reads
      ∙ head_passes (or_hidden dir token dn) (behind_name (number_named dir token dn)) (ap is_some seen.named)
      ∙ ap (λ (n : ℕ). first_failing (behind_name n)) number_is
      ∙ all_pass (item_checks dir number flags items (only name value) ++ [])
      (all_met dir token (modify_needs dir token number flags items))
      (all_pass (item_checks dir number flags items (only name value)) [] own)
      ∙ met

  -- and the other way
  pub all_held : first_failing (modify_checks dir token (replacement dn name value) flags) ≡ None
      → (first_failing (item_checks dir number flags (only name value ∷ []) (only name value)) ≡ None)
      × (first_failing (all_met dir token (modify_needs dir token number flags (only name value ∷ []))) ≡ None)
  unfolding behind_name items first_failing
  all_held none =
      let first = head_holds (or_code (is_name dn) 34)
      (or_hidden dir token dn ∷ behind_name (number_named dir token dn)) (sym (ap first_failing checks_begin) ∙ none)
      in
      let second = head_holds (or_hidden dir token dn) (behind_name (number_named dir token dn)) first.1 in
      let further : first_failing (behind_name number) ≡ None
      = sym (ap (λ (n : ℕ). first_failing (behind_name n)) number_is) ∙ second.1 in
      let parts = both_hold (item_checks dir number flags items (only name value) ++ [])
      (all_met dir token (modify_needs dir token number flags items)) further in
      ((both_hold (item_checks dir number flags items (only name value)) [] parts.0).0, parts.1)

-- ---- verdicts

is_granted_one : Verdict → Bool
is_granted_one (Granted act) = true
is_granted_one _ = false

pub none_failed : (found : Option Refusal) (asked act : Act) → by_checks found asked ≡ Granted act → found ≡ None
unfolding is_granted_one
none_failed None asked act is = refl
none_failed (Some (code n)) asked act is = absurd (false≢true (ap is_granted_one is))
none_failed (Some (hidden rdns)) asked act is = absurd (false≢true (ap is_granted_one is))
none_failed (Some (missing need)) asked act is = absurd (false≢true (ap is_granted_one is))
