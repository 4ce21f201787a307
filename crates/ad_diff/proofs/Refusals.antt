-- No differences are both told and refused.
use Rattle.std.proofs.Common.{◌≡◌, ◌∙◌, ◌<◌, ℕ, suc, true, false, inl, inr, List, [], ◌∷◌, length, get_or, refl, sym}
use Rattle.std.proofs.Common.{ap}
use Rattle.std.proofs.Common.{subst, arith}
use Rattle.std.specs.Prelude.{All, ◌≤◌, not}
use Rattle.std.proofs.lemmas.List.{length-map}
use Rattle.std.proofs.lemmas.List.Filters.{length-filter_both}
use Rattle.std.proofs.lemmas.List.{get_or-map}
use Rattle.ad_dir_model.specs.Directory.{Directory}
use Rattle.ad_principals.proofs.Remaining.{too_many}
use Rattle.ad_both.specs.declared.both.Both.{Both}
use Rattle.ad_diff_rights.specs.declared.tokens.DiffFault.{DiffFault}
use Rattle.ad_both.specs.Both.{objects_of_both}
use Rattle.ad_diff_rights.specs.Both.{are_principals, principals_of_both}
use Rattle.ad_diff_rights.specs.Parties.{HasToken, IsRefused}
use Rattle.ad_diff.specs.declared.numbering.Grouped.{Grouped}
use Rattle.ad_diff.specs.Text.{members}
use Rattle.ad_diff.specs.Answers.{DiffTold}

no_refusal : (before after : Directory) (principals : List Both) (fault : DiffFault)
    → All (λ (p : Both). HasToken before p.before × HasToken after p.after) principals
    → IsRefused before after principals fault → ⊥
no_refusal before after [] fault all refused = refused
no_refusal before after (p ∷ others) fault all (inl many) =
    let token : HasToken before p.before = (all 0 p (omega arith)).0 in
    too_many before p.before [] token.0 many.1 token.1
no_refusal before after (p ∷ others) fault all (inr (had, inl many)) =
    let token : HasToken after p.after = (all 0 p (omega arith)).1 in
    too_many after p.after [] token.0 many.1 token.1
no_refusal before after (p ∷ others) fault all (inr (had, inr (has, later))) =
    no_refusal before after others fault (λ i d lt. all (suc i) d (omega (arith, lt))) later

some_objects : (before after : Directory) (principals objects : List Grouped) (i : ℕ)
    → members principals ≡ principals_of_both before after → members objects ≡ objects_of_both before after
    → i < length principals → 0 < length objects
some_objects before after principals objects i they_are things_are lt =
    let few : length (principals_of_both before after) ≤ length (objects_of_both before after) =
    omega (
      arith,
      length-filter_both (are_principals before after) (λ (o : Both). not (are_principals before after o))
          (λ o. refl) (objects_of_both before after),
    ) in
    let many : length principals ≡ length (principals_of_both before after) =
    sym (length-map principals (λ (g : Grouped). g.both)) ∙ ap length they_are in
    let all : length objects ≡ length (objects_of_both before after) =
    sym (length-map objects (λ (g : Grouped). g.both)) ∙ ap length things_are in
    omega (arith, few, many, all, lt)

pub diff_either : (before after : Directory) (answer line : List ℕ) → DiffTold before after true answer
    → DiffTold before after false line → ⊥
diff_either before after answer line told refused =
    let none : Grouped = record { both = record { before = 0; after = 0 }; group = 0 } in
    no_refusal before after (members told.principals) refused.0
    (λ i d lt.
    let less : i < length told.principals = subst (λ (n : ℕ). i < n) (length-map told.principals
    (λ (h : Grouped). h.both)) lt in
    let g : Grouped = get_or told.principals i none in
    let is : get_or (members told.principals) i d ≡ g.both =
    get_or-map (λ (h : Grouped). h.both) told.principals i none d less in
    let differs = told.exact i none less 0 none (some_objects before after told.principals told.objects i
    told.are_principals told.are_objects less) in
    subst (λ (p : Both). HasToken before p.before × HasToken after p.after) (sym is)
    ((differs.was, differs.was_token), (differs.is, differs.is_token)))
    (subst (λ (ps : List Both). IsRefused before after ps refused.0) (sym told.are_principals) refused.1)
