-- What the names in an operation represent.
use Rattle.std.proofs.Common.{◌≡◌, ℕ, Bool, true, List, [], length, Option, Some, None, refl, ap, ◌∙◌}
use Rattle.std.specs.Prelude.{◌==◌, not, is_some, option_map, unwrap_or, drop}
use Rattle.ad_ids.specs.declared.token.Token.{Token}
use Rattle.ad_sd.specs.declared.parts.SdParts.{SdParts}
use Rattle.ad_dn.specs.declared.rdn.Rdn.{Rdn}
use Rattle.ad_dn.specs.declared.rdn.Dn.{Dn}
use Rattle.ad_dn.specs.Reading.{dn_of}
use Rattle.ad_schema.specs.declared.info.ClassId.{ClassId}
use Rattle.ad_ldap.specs.declared.controls.Settings.{Settings}
use Rattle.ad_ldap.specs.declared.requests.Add.{Add}
use Rattle.ad_ldap.specs.declared.requests.Modify.{Modify}
use Rattle.ad_ldap.specs.declared.requests.Rename.{Rename}
use Rattle.ad_ldap.specs.MessageValue.{ModifyOf, AddOf, DeleteOf, RenameOf}
use Rattle.ad_needs_rules.specs.declared.outcome.Verdict.{Verdict}
use Rattle.ad_needs.specs.declared.trying.Trace.{Trace}
use Rattle.ad_dir_model.specs.Directory.{Directory}
use Rattle.ad_access_dir.specs.Sight.{visible_of}
use Rattle.ad_types.specs.Tried.{tried_values}
use Rattle.ad_needs_rules.specs.Requests.{is_name, object_named, number_named}
use Rattle.ad_needs_rules.proofs.NameChecks.{object_read, parts_read}
use Rattle.ad_needs_rules.specs.Adding.{has_parts, parent_named, parent_number, new_class, class_number, new_sd}
use Rattle.ad_needs_rules.specs.Adding.{add_needs}
use Rattle.ad_needs_rules.specs.Deleting.{delete_needs}
use Rattle.ad_needs_rules.specs.Renaming.{new_parent, rename_needs}
use Rattle.ad_needs_rules.specs.Modifying.{modify_needs}
use Rattle.ad_needs.specs.Tries.{tries}
use Rattle.ad_needs.specs.Traces.{requirements}
use Rattle.ad_needs.specs.Steps.{kept, Steps}
use Rattle.ad_needs.proofs.StepLaws.{tried_all}

-- ---- objects

-- a text that is a name's is read
pub name_there : (text : List ℕ) (read : Option Dn) → is_name text ≡ true → read ≡ dn_of text → is_some read ≡ true
name_there text read name is = by read (ap (λ (r : Option Dn). is_some (option_map (λ (dn : Dn). dn.rdns) r)) is ∙ name)
  where
    by : (r : Option Dn) → is_some (option_map (λ (dn : Dn). dn.rdns) r) ≡ true → is_some r ≡ true
    by None e = e
    by (Some dn) e = refl

pub object_there : (dir : Directory) (token : Token) (text : List ℕ) (dn : Dn) (found : Option ℕ)
    → is_some (object_named dir token text) ≡ true → Some dn ≡ dn_of text
    → found ≡ visible_of dir token dn.rdns → is_some found ≡ true
object_there dir token text dn found seen some is =
    ap (λ (f : Option ℕ). is_some f) (object_read dir token text dn found some is) ∙ seen

parent_is : (dir : Directory) (token : Token) (a : Add) (dn : Dn) (found : Option ℕ) → Some dn ≡ dn_of a.dn → found
    ≡ visible_of dir token (drop 1 dn.rdns) → found ≡ parent_named dir token a
unfolding parent_named
parent_is dir token a dn found some is = is ∙ ap (λ (rdns : List Rdn). visible_of dir token (drop 1 rdns))
    (parts_read a.dn dn some)

-- a text that is a name's with parts is read
pub parts_there : (a : Add) (read : Option Dn) → has_parts a ≡ true → read ≡ dn_of a.dn → is_some read ≡ true
parts_there a read has is = by read (ap (λ (r : Option Dn). not (length (parts r) == 0)) is ∙ has)
  where
    parts : Option Dn → List Rdn
    parts r = unwrap_or (option_map (λ (dn : Dn). dn.rdns) r) []

    by : (r : Option Dn) → not (length (parts r) == 0) ≡ true → is_some r ≡ true
    by None e = e
    by (Some dn) e = refl

pub parent_there : (dir : Directory) (token : Token) (a : Add) (dn : Dn) (found : Option ℕ)
    → is_some (parent_named dir token a) ≡ true → Some dn ≡ dn_of a.dn
    → found ≡ visible_of dir token (drop 1 dn.rdns) → is_some found ≡ true
parent_there dir token a dn found seen some is =
    ap (λ (f : Option ℕ). is_some f) (parent_is dir token a dn found some is) ∙ seen

pub parent_number_is : (dir : Directory) (token : Token) (a : Add) (dn : Dn) (number : ℕ) → Some dn ≡ dn_of a.dn
    → Some number ≡ visible_of dir token (drop 1 dn.rdns) → number ≡ parent_number dir token a
parent_number_is dir token a dn number some is = ap (λ (f : Option ℕ). unwrap_or f 0)
    (parent_is dir token a dn (Some number) some is)

-- ---- classes

pub class_there : (dir : Directory) (a : Add) (class : Option ClassId) → is_some (new_class dir a) ≡ true
    → option_map (λ (id : ClassId). id.0) class ≡ new_class dir a → is_some class ≡ true
class_there dir a class some is = by class (ap (λ (k : Option ℕ). is_some k) is ∙ some)
  where
    by : (k : Option ClassId) → is_some (option_map (λ (id : ClassId). id.0) k) ≡ true → is_some k ≡ true
    by None e = e
    by (Some id) e = refl

-- ---- what was tried

pub deleting_tried : (dir : Directory) (token : Token) (text : List ℕ) (s : Settings) (number : ℕ)
    (before after : Trace) (refusal : Option Verdict) → number ≡ number_named dir token text → kept before ≡ Some []
    → Steps dir token before (delete_needs dir number s.tree) after refusal → tried_values after.tried.items
    ≡ tries dir token (requirements dir token (DeleteOf text) s)
unfolding requirements
deleting_tried dir token text s number before after refusal is none steps =
    tried_all dir token before after (delete_needs dir number s.tree) refusal none steps
    ∙ ap (λ (n : ℕ). tries dir token (delete_needs dir n s.tree)) is

pub renaming_tried : (dir : Directory) (token : Token) (r : Rename) (s : Settings) (number parent : ℕ)
    (before after : Trace) (refusal : Option Verdict) → number ≡ number_named dir token r.dn
    → parent ≡ new_parent dir token r → kept before ≡ Some []
    → Steps dir token before (rename_needs dir number parent) after refusal → tried_values after.tried.items
    ≡ tries dir token (requirements dir token (RenameOf r) s)
unfolding requirements
renaming_tried dir token r s number parent before after refusal is above none steps =
    tried_all dir token before after (rename_needs dir number parent) refusal none steps
    ∙ ap (λ (n : ℕ). tries dir token (rename_needs dir n parent)) is
    ∙ ap (λ (p : ℕ). tries dir token (rename_needs dir (number_named dir token r.dn) p)) above

pub modifying_tried : (dir : Directory) (token : Token) (m : Modify) (s : Settings) (number : ℕ)
    (before after : Trace) (refusal : Option Verdict) → number ≡ number_named dir token m.dn → kept before ≡ Some []
    → Steps dir token before (modify_needs dir token number s.sd_flags m.items) after refusal
    → tried_values after.tried.items ≡ tries dir token (requirements dir token (ModifyOf m) s)
unfolding requirements
modifying_tried dir token m s number before after refusal is none steps =
    tried_all dir token before after (modify_needs dir token number s.sd_flags m.items) refusal none steps
    ∙ ap (λ (n : ℕ). tries dir token (modify_needs dir token n s.sd_flags m.items)) is

pub adding_tried : (dir : Directory) (token : Token) (a : Add) (s : Settings) (parent class : ℕ) (sd : Option SdParts)
    (before after : Trace) (refusal : Option Verdict) → parent ≡ parent_number dir token a
    → class ≡ class_number dir a → sd ≡ new_sd a s.sd_flags → kept before ≡ Some []
    → Steps dir token before (add_needs dir parent class sd) after refusal → tried_values after.tried.items
    ≡ tries dir token (requirements dir token (AddOf a) s)
unfolding requirements
adding_tried dir token a s parent class sd before after refusal is of brings none steps =
    tried_all dir token before after (add_needs dir parent class sd) refusal none steps
    ∙ ap (λ (p : ℕ). tries dir token (add_needs dir p class sd)) is
    ∙ ap (λ (k : ℕ). tries dir token (add_needs dir (parent_number dir token a) k sd)) of
    ∙ ap (λ (x : Option SdParts). tries dir token (add_needs dir (parent_number dir token a) (class_number dir a) x))
    brings
