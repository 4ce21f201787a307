-- What a rename is answered with, by how far the code comes.
use Rattle.std.proofs.Common.{◌≡◌, ℕ, zero, suc, ◌-◌, arith, ◌<◌, true, false, not, List, [], ◌∷◌, ◌++◌, Option, Some}
use Rattle.std.proofs.Common.{None, refl, sym, ap, ◌∙◌}
use Rattle.std.specs.Prelude.{codes, ◌==◌, option_map}
use Rattle.std.proofs.lemmas.Bool.{eq-eqb, ne_eqb}
use Rattle.std.proofs.lemmas.List.{map-append}
use Rattle.ad_ids.specs.declared.token.Token.{Token}
use Rattle.ad_acl.specs.Mask.{create_child}
use Rattle.ad_schema.specs.declared.info.AttrId.{AttrId}
use Rattle.ad_schema.specs.Attributes.{attr_named}
use Rattle.ad_dir_model.specs.Attributes.{attr_place}
use Rattle.ad_dir_model.specs.Objects.{parent_at}
use Rattle.ad_dn.specs.declared.rdn.Rdn.{Rdn}
use Rattle.ad_dn.specs.declared.rdn.Dn.{Dn}
use Rattle.ad_dn.specs.Reading.{dn_of}
use Rattle.ad_ldap.specs.declared.controls.Settings.{Settings}
use Rattle.ad_ldap.specs.declared.requests.Rename.{Rename}
use Rattle.ad_ldap.specs.MessageValue.{RenameOf}
use Rattle.ad_dir_model.specs.Tree.{root, is_below_within}
use Rattle.ad_dir_model.specs.Directory.{Directory}
use Rattle.ad_access_dir.specs.Sight.{visible_of, matched}
use Rattle.ad_needs_rules.specs.declared.outcome.Verdict.{Verdict}
use Rattle.ad_needs_rules.specs.declared.outcome.Verdict.TheVariants.{Refused, Hidden}
use Rattle.ad_needs_rules.specs.Needs.{Alternative, needs}
use Rattle.ad_needs_rules.specs.Checks.{first_failing, or_code, or_missing, all_met}
use Rattle.ad_needs_rules.specs.Requests.{object_named, class_at, class_path}
use Rattle.ad_needs_rules.specs.Deleting.{to_leave}
use Rattle.ad_needs_rules.specs.Renaming.{new_rdn, new_parent, is_typed, move_needs, to_write, name_needs, rename_needs}
use Rattle.ad_needs_rules.specs.Renaming.{rename_checks}
use Rattle.ad_needs.specs.Moves.{parent_by, is_outside, rename_rest, rename_judged, in_place_judged, moved_judged}
use Rattle.ad_needs_rules.specs.Verdicts.{verdict_of}
use Rattle.ad_needs_rules.specs.Judged.{refusal_of}
use Rattle.ad_needs_rules.proofs.Refusing.{goes_on, stops}
use Rattle.ad_needs_rules.proofs.NameChecks.{coded, holds}

-- ---- needs, one after the other

pub needs_stop : (dir : Directory) (token : Token) (xs ys : List (List Alternative)) (verdict : Verdict)
    → Some verdict ≡ refusal_of (all_met dir token xs) → Some verdict ≡ refusal_of (all_met dir token (xs ++ ys))
needs_stop dir token xs ys verdict some =
    stops (all_met dir token xs) (all_met dir token ys) verdict some
    ∙ ap refusal_of (sym (map-append (or_missing dir token) xs ys))

pub needs_go_on : (dir : Directory) (token : Token) (xs ys : List (List Alternative)) (found : Option Verdict)
    → None ≡ refusal_of (all_met dir token xs) → found ≡ refusal_of (all_met dir token ys) → found
    ≡ refusal_of (all_met dir token (xs ++ ys))
needs_go_on dir token xs ys found none is =
    is ∙ sym (goes_on (all_met dir token xs) (all_met dir token ys) none)
    ∙ ap refusal_of (sym (map-append (or_missing dir token) xs ys))

-- ---- after the names

pub rest_root : (dir : Directory) (token : Token) (number : ℕ) (rdn : Rdn) (superior : Option ℕ) → number ≡ root
    → Some (Refused 53) ≡ refusal_of (rename_rest dir token number rdn superior)
unfolding rename_rest
rest_root dir token number rdn superior same =
    coded (or_code (is_typed dir.schema (class_at dir number) rdn) 64 ∷ or_code (is_outside dir number superior) 53
    ∷ all_met dir token (rename_needs dir number (parent_by dir number superior))) 53 (not (number == root))
    (ap not (eq-eqb number root same))

rest_below : (dir : Directory) (token : Token) (number : ℕ) (rdn : Rdn) (superior : Option ℕ) → (number ≡ root → ⊥)
    → refusal_of (or_code (is_typed dir.schema (class_at dir number) rdn) 64
    ∷ or_code (is_outside dir number superior) 53
    ∷ all_met dir token (rename_needs dir number (parent_by dir number superior)))
    ≡ refusal_of (rename_rest dir token number rdn superior)
unfolding rename_rest
rest_below dir token number rdn superior below =
    sym (holds (or_code (is_typed dir.schema (class_at dir number) rdn) 64 ∷ or_code (is_outside dir number superior) 53
    ∷ all_met dir token (rename_needs dir number (parent_by dir number superior))) 53 (not (number == root))
    (ap not (ne_eqb number root below)))

pub rest_untyped : (dir : Directory) (token : Token) (number : ℕ) (rdn : Rdn) (superior : Option ℕ)
    → (number ≡ root → ⊥)
    → is_typed dir.schema (class_at dir number) rdn ≡ false
    → Some (Refused 64) ≡ refusal_of (rename_rest dir token number rdn superior)
rest_untyped dir token number rdn superior below untyped =
    coded (or_code (is_outside dir number superior) 53
    ∷ all_met dir token (rename_needs dir number (parent_by dir number superior))) 64
    (is_typed dir.schema (class_at dir number) rdn) untyped
    ∙ rest_below dir token number rdn superior below

pub rest_inside : (dir : Directory) (token : Token) (number : ℕ) (rdn : Rdn) (superior : Option ℕ) → (number ≡ root → ⊥)
    → is_typed dir.schema (class_at dir number) rdn ≡ true → is_outside dir number superior ≡ false
    → Some (Refused 53) ≡ refusal_of (rename_rest dir token number rdn superior)
rest_inside dir token number rdn superior below typed inside =
    coded (all_met dir token (rename_needs dir number (parent_by dir number superior))) 53
    (is_outside dir number superior) inside
    ∙ sym (holds (or_code (is_outside dir number superior) 53
    ∷ all_met dir token (rename_needs dir number (parent_by dir number superior))) 64
    (is_typed dir.schema (class_at dir number) rdn) typed)
    ∙ rest_below dir token number rdn superior below

pub rest_needs : (dir : Directory) (token : Token) (number : ℕ) (rdn : Rdn) (superior : Option ℕ) (parent : ℕ)
    → (number ≡ root → ⊥)
    → is_typed dir.schema (class_at dir number) rdn ≡ true → is_outside dir number superior ≡ true → parent
    ≡ parent_by dir number superior
    → refusal_of (all_met dir token (rename_needs dir number parent))
    ≡ refusal_of (rename_rest dir token number rdn superior)
rest_needs dir token number rdn superior parent below typed outside is =
    ap (λ (p : ℕ). refusal_of (all_met dir token (rename_needs dir number p))) is
    ∙ sym (holds (all_met dir token (rename_needs dir number (parent_by dir number superior))) 53
    (is_outside dir number superior) outside)
    ∙ sym (holds (or_code (is_outside dir number superior) 53
    ∷ all_met dir token (rename_needs dir number (parent_by dir number superior))) 64
    (is_typed dir.schema (class_at dir number) rdn) typed)
    ∙ rest_below dir token number rdn superior below

-- ---- with the names that were read

pub in_place_unseen : (dir : Directory) (token : Token) (rdns : List Rdn) (rdn : Rdn) → None ≡ visible_of dir token rdns
    → Hidden (record { rdns = matched dir token rdns }) ≡ in_place_judged dir token rdns rdn
unfolding in_place_judged first_failing
in_place_unseen dir token rdns rdn none = rw (sym none) refl

pub in_place_seen : (dir : Directory) (token : Token) (rdns : List Rdn) (rdn : Rdn) (number : ℕ) → Some number
    ≡ visible_of dir token rdns
    → rename_judged dir token number rdn None ≡ in_place_judged dir token rdns rdn
unfolding in_place_judged rename_judged first_failing
in_place_seen dir token rdns rdn number some = rw (sym some) refl

pub moved_unread : (dir : Directory) (token : Token) (rdns : List Rdn) (rdn : Rdn) (text : List ℕ) → None ≡ dn_of text
    → Refused 34 ≡ moved_judged dir token rdns rdn text
unfolding moved_judged first_failing
moved_unread dir token rdns rdn text none = rw (sym none) refl

pub moved_unseen : (dir : Directory) (token : Token) (rdns : List Rdn) (rdn : Rdn) (text : List ℕ) (above : Dn)
    → Some above ≡ dn_of text
    → None ≡ visible_of dir token rdns → Hidden (record { rdns = matched dir token rdns })
    ≡ moved_judged dir token rdns rdn text
unfolding moved_judged first_failing
moved_unseen dir token rdns rdn text above read none = rw (sym read, sym none) refl

pub moved_nowhere : (dir : Directory) (token : Token) (rdns : List Rdn) (rdn : Rdn) (text : List ℕ) (above : Dn)
    (number : ℕ) → Some above ≡ dn_of text
    → Some number ≡ visible_of dir token rdns → None ≡ visible_of dir token above.rdns
    → Hidden (record { rdns = matched dir token above.rdns }) ≡ moved_judged dir token rdns rdn text
unfolding moved_judged first_failing object_named
moved_nowhere dir token rdns rdn text above number read some none = rw (sym read, sym some, sym none) refl

pub moved_seen : (dir : Directory) (token : Token) (rdns : List Rdn) (rdn : Rdn) (text : List ℕ) (above : Dn)
    (number parent : ℕ)
    → Some above ≡ dn_of text → Some number ≡ visible_of dir token rdns → Some parent ≡ visible_of dir token above.rdns
    → rename_judged dir token number rdn (Some parent) ≡ moved_judged dir token rdns rdn text
unfolding moved_judged rename_judged first_failing object_named
moved_seen dir token rdns rdn text above number parent read some is = rw (sym read, sym some, sym is) refl

-- ---- the whole

pub rename_unread : (dir : Directory) (token : Token) (r : Rename) (s : Settings) → None ≡ dn_of r.dn
    → Refused 34 ≡ verdict_of dir token (RenameOf r) s
unfolding verdict_of rename_checks first_failing
rename_unread dir token r s none = rw (sym none) refl

pub rename_partless : (dir : Directory) (token : Token) (r : Rename) (s : Settings) (dn : Dn) → Some dn ≡ dn_of r.dn
    → None ≡ new_rdn r → Refused 34 ≡ verdict_of dir token (RenameOf r) s
unfolding verdict_of rename_checks first_failing
rename_partless dir token r s dn read none = rw (sym read, sym none) refl

pub rename_in_place : (dir : Directory) (token : Token) (r : Rename) (s : Settings) (dn : Dn) (rdn : Rdn) → Some dn
    ≡ dn_of r.dn
    → Some rdn ≡ new_rdn r → None ≡ r.superior → in_place_judged dir token dn.rdns rdn
    ≡ verdict_of dir token (RenameOf r) s
unfolding verdict_of rename_checks in_place_judged rename_rest first_failing object_named new_parent
rename_in_place dir token r s dn rdn read part none = rw (sym read, sym part, sym none) refl

pub rename_moved : (dir : Directory) (token : Token) (r : Rename) (s : Settings) (dn : Dn) (rdn : Rdn) (text : List ℕ)
    → Some dn ≡ dn_of r.dn
    → Some rdn ≡ new_rdn r → Some text ≡ r.superior → moved_judged dir token dn.rdns rdn text
    ≡ verdict_of dir token (RenameOf r) s
unfolding verdict_of rename_checks moved_judged rename_rest first_failing object_named new_parent
rename_moved dir token r s dn rdn text read part some = rw (sym read, sym part, sym some) refl

-- ---- a move

pub stays : (dir : Directory) (token : Token) (number parent : ℕ) → parent_at dir.objects number ≡ parent
    → None ≡ refusal_of (all_met dir token (move_needs dir number parent))
unfolding refusal_of first_failing
stays dir token number parent same = rw (eq-eqb (parent_at dir.objects number) parent same) refl

pub resting : (dir : Directory) (number parent : ℕ) → parent_at dir.objects number ≡ parent → []
    ≡ move_needs dir number parent
resting dir number parent same = rw (eq-eqb (parent_at dir.objects number) parent same) refl

pub moving : (dir : Directory) (number parent : ℕ) → (parent_at dir.objects number ≡ parent → ⊥)
    → to_leave dir number ∷ (needs parent create_child (class_path dir.schema (class_at dir number)) ∷ []) ∷ []
    ≡ move_needs dir number parent
moving dir number parent differs = rw (ne_eqb (parent_at dir.objects number) parent differs) refl

pub leaves_not : (dir : Directory) (token : Token) (number parent : ℕ) (verdict : Verdict)
    → (parent_at dir.objects number ≡ parent → ⊥)
    → Some verdict ≡ refusal_of (all_met dir token (to_leave dir number ∷ [])) → Some verdict
    ≡ refusal_of (all_met dir token (move_needs dir number parent))
leaves_not dir token number parent verdict differs refused =
    needs_stop dir token (to_leave dir number ∷ [])
    ((needs parent create_child (class_path dir.schema (class_at dir number)) ∷ []) ∷ []) verdict refused
    ∙ ap (λ (all : List (List Alternative)). refusal_of (all_met dir token all)) (moving dir number parent differs)

pub leaves : (dir : Directory) (token : Token) (number parent : ℕ) (create : Alternative) (found : Option Verdict)
    → (parent_at dir.objects number ≡ parent → ⊥)
    → create ≡ needs parent create_child (class_path dir.schema (class_at dir number)) → None
    ≡ refusal_of (all_met dir token (to_leave dir number ∷ []))
    → found ≡ refusal_of (all_met dir token ((create ∷ []) ∷ [])) → found
    ≡ refusal_of (all_met dir token (move_needs dir number parent))
leaves dir token number parent create found differs is none rest =
    needs_go_on dir token (to_leave dir number ∷ [])
    ((needs parent create_child (class_path dir.schema (class_at dir number)) ∷ []) ∷ []) found none
    (rest ∙ ap (λ (a : Alternative). refusal_of (all_met dir token ((a ∷ []) ∷ []))) is)
    ∙ ap (λ (all : List (List Alternative)). refusal_of (all_met dir token all)) (moving dir number parent differs)

-- ---- the names

pub nameless : (dir : Directory) (token : Token) (number : ℕ) → None ≡ attr_named dir.schema (codes "name")
    → None ≡ refusal_of (all_met dir token (name_needs dir number (attr_place dir.schema (codes "name"))))
unfolding refusal_of first_failing
nameless dir token number none =
    ap (λ (o : Option AttrId). refusal_of
    (all_met dir token (name_needs dir number (option_map (λ (id : AttrId). id.0) o)))) none

pub named_not : (dir : Directory) (token : Token) (number attr naming : ℕ) (rest : List (List Alternative))
    (verdict : Verdict) → attr ≡ naming
    → Some verdict ≡ refusal_of (all_met dir token (to_write dir number attr ∷ [])) → Some verdict
    ≡ refusal_of (all_met dir token (to_write dir number naming ∷ rest))
named_not dir token number attr naming rest verdict is refused =
    needs_stop dir token (to_write dir number naming ∷ []) rest verdict
    (refused ∙ ap (λ (n : ℕ). refusal_of (all_met dir token (to_write dir number n ∷ []))) is)

pub named_so : (dir : Directory) (token : Token) (number attr naming : ℕ) (rest : List (List Alternative))
    (found : Option Verdict) → attr ≡ naming
    → None ≡ refusal_of (all_met dir token (to_write dir number attr ∷ [])) → found
    ≡ refusal_of (all_met dir token rest)
    → found ≡ refusal_of (all_met dir token (to_write dir number naming ∷ rest))
named_so dir token number attr naming rest found is none other =
    needs_go_on dir token (to_write dir number naming ∷ []) rest found
    (none ∙ ap (λ (n : ℕ). refusal_of (all_met dir token (to_write dir number n ∷ []))) is) other
