-- What a Delete is answered with, by how far the code comes.
use Rattle.std.proofs.Common.{◌≡◌, ℕ, Bool, List, ◌∷◌, Some, None, sym, ap, ◌∙◌}
use Rattle.std.specs.Prelude.{not, ◌==◌}
use Rattle.std.proofs.lemmas.Bool.{eq-eqb, ne_eqb}
use Rattle.ad_ids.specs.declared.token.Token.{Token}
use Rattle.ad_dn.specs.declared.rdn.Dn.{Dn}
use Rattle.ad_dn.specs.Reading.{dn_of}
use Rattle.ad_ldap.specs.declared.controls.Settings.{Settings}
use Rattle.ad_ldap.specs.MessageValue.{DeleteOf}
use Rattle.ad_dir_objects.specs.declared.act.Act.TheVariants as act
use Rattle.ad_dir_model.specs.Tree.{root}
use Rattle.ad_dir_model.specs.Directory.{Directory}
use Rattle.ad_access_dir.specs.Sight.{visible_of, matched}
use Rattle.ad_needs_rules.specs.declared.outcome.Verdict.{Verdict}
use Rattle.ad_needs_rules.specs.declared.outcome.Verdict.TheVariants.{Granted, Refused, Hidden}
use Rattle.ad_needs_rules.specs.Checks.{Check, or_code, all_met}
use Rattle.ad_needs_rules.specs.Requests.{number_named, or_hidden}
use Rattle.ad_needs_rules.specs.Deleting.{delete_needs, delete_checks, delete_act}
use Rattle.ad_needs_rules.specs.Verdicts.{verdict_of}
use Rattle.ad_needs_rules.specs.Judged.{refusal_of}
use Rattle.ad_needs_rules.proofs.Refusing.{refuses, grants}
use Rattle.ad_needs_rules.proofs.NameChecks.{coded, holds, unread, reads, number_read, unseen, seen}

-- the checks after the name and its object
abbrev behind : Directory → Token → List ℕ → Bool → List Check
behind dir token text tree = or_code (not (number_named dir token text == root)) 53
    ∷ all_met dir token (delete_needs dir (number_named dir token text) tree)

-- where there is one
to_object : (dir : Directory) (token : Token) (text : List ℕ) (tree : Bool) (dn : Dn) (number : ℕ) → Some dn
    ≡ dn_of text
    → Some number ≡ visible_of dir token dn.rdns → refusal_of (behind dir token text tree)
    ≡ refusal_of (delete_checks dir token text tree)
unfolding delete_checks
to_object dir token text tree dn number some is =
    sym (seen (behind dir token text tree) dir token text dn number some is)
    ∙ sym (reads (or_hidden dir token text ∷ behind dir token text tree) text dn some)

-- where it isn't the root
to_needs : (dir : Directory) (token : Token) (text : List ℕ) (tree : Bool) (dn : Dn) (number : ℕ) → Some dn ≡ dn_of text
    → Some number ≡ visible_of dir token dn.rdns → (number ≡ root → ⊥)
    → refusal_of (all_met dir token (delete_needs dir number tree)) ≡ refusal_of (delete_checks dir token text tree)
to_needs dir token text tree dn number some is below =
    let named = number_read dir token text dn number some is in
    ap (λ (n : ℕ). refusal_of (all_met dir token (delete_needs dir n tree))) named
    ∙ sym (holds (all_met dir token (delete_needs dir (number_named dir token text) tree)) 53
    (not (number_named dir token text == root))
    (ap not (ne_eqb (number_named dir token text) root (λ same. below (named ∙ same)))))
    ∙ to_object dir token text tree dn number some is

pub delete_unread : (dir : Directory) (token : Token) (text : List ℕ) (s : Settings) → None ≡ dn_of text → Refused 34
    ≡ verdict_of dir token (DeleteOf text) s
unfolding verdict_of delete_checks
delete_unread dir token text s none =
    refuses (delete_checks dir token text s.tree) (delete_act dir token text s.tree) (Refused 34)
    (unread (or_hidden dir token text ∷ behind dir token text s.tree) text none)

pub delete_unseen : (dir : Directory) (token : Token) (text : List ℕ) (s : Settings) (dn : Dn) → Some dn ≡ dn_of text
    → None ≡ visible_of dir token dn.rdns → Hidden (record { rdns = matched dir token dn.rdns })
    ≡ verdict_of dir token (DeleteOf text) s
unfolding verdict_of delete_checks
delete_unseen dir token text s dn some none =
    refuses (delete_checks dir token text s.tree) (delete_act dir token text s.tree)
    (Hidden (record { rdns = matched dir token dn.rdns }))
    (unseen (behind dir token text s.tree) dir token text dn some none
    ∙ sym (reads (or_hidden dir token text ∷ behind dir token text s.tree) text dn some))

pub delete_root : (dir : Directory) (token : Token) (text : List ℕ) (s : Settings) (dn : Dn) (number : ℕ) → Some dn
    ≡ dn_of text
    → Some number ≡ visible_of dir token dn.rdns → number ≡ root → Refused 53 ≡ verdict_of dir token (DeleteOf text) s
unfolding verdict_of
delete_root dir token text s dn number some is same =
    refuses (delete_checks dir token text s.tree) (delete_act dir token text s.tree) (Refused 53)
    (coded (all_met dir token (delete_needs dir (number_named dir token text) s.tree)) 53
    (not (number_named dir token text == root))
    (ap not (eq-eqb (number_named dir token text) root (sym (number_read dir token text dn number some is) ∙ same)))
    ∙ to_object dir token text s.tree dn number some is)

pub delete_needed : (dir : Directory) (token : Token) (text : List ℕ) (s : Settings) (dn : Dn) (number : ℕ)
    (verdict : Verdict) → Some dn ≡ dn_of text
    → Some number ≡ visible_of dir token dn.rdns → (number ≡ root → ⊥)
    → Some verdict ≡ refusal_of (all_met dir token (delete_needs dir number s.tree)) → verdict
    ≡ verdict_of dir token (DeleteOf text) s
unfolding verdict_of
delete_needed dir token text s dn number verdict some is below refused =
    refuses (delete_checks dir token text s.tree) (delete_act dir token text s.tree) verdict
    (refused ∙ to_needs dir token text s.tree dn number some is below)

pub delete_granted : (dir : Directory) (token : Token) (text : List ℕ) (s : Settings) (dn : Dn) (number : ℕ) → Some dn
    ≡ dn_of text
    → Some number ≡ visible_of dir token dn.rdns → (number ≡ root → ⊥)
    → None ≡ refusal_of (all_met dir token (delete_needs dir number s.tree))
    → Granted (act.Delete number s.tree) ≡ verdict_of dir token (DeleteOf text) s
unfolding verdict_of
delete_granted dir token text s dn number some is below none =
    ap (λ (n : ℕ). Granted (act.Delete n s.tree)) (number_read dir token text dn number some is)
    ∙ grants (delete_checks dir token text s.tree) (delete_act dir token text s.tree)
    (none ∙ to_needs dir token text s.tree dn number some is below)
