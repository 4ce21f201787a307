-- What is judged of one object holds of each that has its descriptor and class, and to whose identifier the holders
-- answer alike.
use Rattle.std.proofs.Common.{◌≡◌, ℕ, ◌<◌, ◌≤◌, Bool, true, false, ◌&&◌, ◌||◌, List, [], ◌∷◌, ◌++◌, length}
use Rattle.std.proofs.Common.{get_or, replicate, ◌⊎◌, Option, Some, None, inl, inr, IfSome}
use Rattle.std.proofs.Common.{refl, sym, subst, ap, ◌∙◌, arith}
use Rattle.std.specs.Prelude.{not, nat_eq, slice_get, slice_set}
use Rattle.std.specs.List.{AllByRecursion}
use Rattle.std.proofs.lemmas.Bool.{cases_lt, eqb-true, eqb-false}
use Rattle.std.proofs.lemmas.Grind.{get_or-set_at}
use Rattle.std.proofs.lemmas.List.{get_or-set_other, get_or_past, get_or-replicate, length-replicate}
use Rattle.std.proofs.lemmas.Option.{slice_get_past}
use Rattle.ad_ids.specs.SidValue.{SidValue}
use Rattle.ad_ids.specs.declared.token.Token.{Token}
use Rattle.ad_acl.specs.declared.kind.AceKind.{AceKind}
use Rattle.ad_acl.specs.declared.kind.AceKind.TheVariants.{Allow, Deny, Audit}
use Rattle.ad_acl.specs.Mask.{read_property, control_access}
use Rattle.ad_sd.specs.declared.parts.Sd.{Sd}
use Rattle.ad_access.specs.Holder.{Holder, first_holder, second_holder}
use Rattle.ad_access.specs.Matching.{answers_to_self}
use Rattle.ad_access.specs.Grant.{granted}
use Rattle.ad_access.specs.Alike.{AnswerAlike}
use Rattle.ad_access.proofs.Alike.{granted_alike}
use Rattle.ad_types.specs.TypesOf.{path_of}
use Rattle.ad_schema.specs.declared.info.AttrInfo.{AttrInfo}
use Rattle.ad_schema.specs.declared.line.SchemaRecord.{SchemaRecord}
use Rattle.ad_schema.specs.Attributes.{attrs_of}
use Rattle.ad_ids.specs.declared.guid.Guid.{Guid}
use Rattle.ad_ldap.specs.MessageValue.{SearchValue}
use Rattle.ad_dir_model.specs.Objects.{object_at, sd_at}
use Rattle.ad_dir_model.specs.Identity.{self_sid}
use Rattle.ad_dir_model.specs.Directory.{Directory}
use Rattle.ad_access_dir.specs.Sight.{is_granted}
use Rattle.ad_entries.specs.declared.kinds.SelfMatch.{SelfMatch}
use Rattle.ad_entries.specs.declared.kinds.Kind.{Kind}
use Rattle.ad_entries.specs.Seen.{is_never_read, is_granted_on, is_readable}
use Rattle.ad_entries.specs.Entry.{changing_attrs}
use Rattle.ad_entries.specs.Kinds.{AnswersSo, IsOf}
use Rattle.ad_entries.specs.Places.{is_asked_of, is_asked_at, is_readable_of, is_readable_at}
use Rattle.ad_entries.specs.Verdicts.{AreTrue, KnowsOf}
use Rattle.ad_constructed_dir.specs.Changing.{changing_of}
use Rattle.ad_constructed_dir.proofs.AlikeLaws.{changing_so}

-- ---- the identifier

audit_denies : (holder : Holder) (self : Option SidValue) → answers_to_self Audit holder self
    ≡ answers_to_self Deny holder self
audit_denies holder None = refl
audit_denies holder (Some sid) = refl

second_denies : (token : Token) (self : Option SidValue) → answers_to_self Deny (second_holder token) self
    ≡ answers_to_self Allow (second_holder token) self
second_denies token None = refl
second_denies token (Some sid) = refl

alike : (token : Token) (a b : Option SidValue) (own : SelfMatch) → AnswersSo token a own → AnswersSo token b own
    → AnswerAlike token a b
alike token a b own of_a of_b = record { first = first; second = second }
  where
    denies : answers_to_self Deny (first_holder token) a ≡ answers_to_self Deny (first_holder token) b
    denies = sym of_a.denies ∙ of_b.denies

    restricted : answers_to_self Allow (second_holder token) a ≡ answers_to_self Allow (second_holder token) b
    restricted = sym of_a.restricted ∙ of_b.restricted

    second_deny : answers_to_self Deny (second_holder token) a ≡ answers_to_self Deny (second_holder token) b
    second_deny = second_denies token a ∙ restricted ∙ sym (second_denies token b)

    first : (kind : AceKind) → answers_to_self kind (first_holder token) a ≡ answers_to_self kind (first_holder token) b
    first Allow = sym of_a.holds ∙ of_b.holds
    first Deny = denies
    first Audit = audit_denies (first_holder token) a ∙ denies ∙ sym (audit_denies (first_holder token) b)

    second : (kind : AceKind) → answers_to_self kind (second_holder token) a
        ≡ answers_to_self kind (second_holder token) b
    second Allow = restricted
    second Deny = second_deny
    second Audit = audit_denies (second_holder token) a ∙ second_deny ∙ sym (audit_denies (second_holder token) b)

-- ---- two objects of one kind

granted_path : (dir : Directory) (token : Token) (kind : Kind) (n m : ℕ) (path : List Guid) (bit : ℕ)
    → IsOf dir token kind n → IsOf dir token kind m → is_granted dir token n path bit ≡ is_granted dir token m path bit
unfolding is_granted
granted_path dir token kind n m path bit of_n of_m =
    let sd : Sd = sd_at dir.objects n in
    granted_alike sd.owner sd.dacl.entries token (self_sid dir n) (self_sid dir m) path bit
    (alike token (self_sid dir n) (self_sid dir m) kind.own of_n.answers of_m.answers)
    ∙ ap (λ (s : Sd). granted s.owner s.dacl.entries token (self_sid dir m) path bit) (of_n.sd ∙ sym of_m.sd)

granted_so : (dir : Directory) (token : Token) (kind : Kind) (n m attr bit : ℕ) → IsOf dir token kind n
    → IsOf dir token kind m → is_granted_on dir token n attr bit ≡ is_granted_on dir token m attr bit
granted_so dir token kind n m attr bit of_n of_m =
    let path = λ (c : ℕ). path_of dir.schema (record { 0 = c }) (record { 0 = attr }) in
    granted_path dir token kind n m (path (object_at dir.objects n).class) bit of_n of_m
    ∙ ap (λ (c : ℕ). is_granted dir token m (path c) bit) (of_n.class_is ∙ sym of_m.class_is)

readable_so : (dir : Directory) (token : Token) (kind : Kind) (n m attr : ℕ) (info : AttrInfo) → IsOf dir token kind n
    → IsOf dir token kind m → is_readable dir token n attr info ≡ is_readable dir token m attr info
unfolding is_readable
readable_so dir token kind n m attr info of_n of_m =
    ap (λ (b : Bool). (not (is_never_read info.name) && b)
    && (not info.confidential || is_granted_on dir token n attr control_access))
    (granted_so dir token kind n m attr read_property of_n of_m)
    ∙ ap (λ (b : Bool). (not (is_never_read info.name) && is_granted_on dir token m attr read_property)
    && (not info.confidential || b)) (granted_so dir token kind n m attr control_access of_n of_m)

-- what may be read of one may be read of the other
pub readable_alike : (dir : Directory) (token : Token) (kind : Kind) (n m attr : ℕ) → IsOf dir token kind n
    → IsOf dir token kind m → is_readable_at dir token n attr ≡ is_readable_at dir token m attr
unfolding is_readable_at
readable_alike dir token kind n m attr of_n of_m = by (slice_get (attrs_of dir.schema) attr)
  where
    by : (info : Option AttrInfo) → is_readable_of dir token n attr info ≡ is_readable_of dir token m attr info
    by None = refl
    by (Some info) = readable_so dir token kind n m attr info of_n of_m

-- and what it may change
pub changing_alike : (dir : Directory) (token : Token) (search : SearchValue) (kind : Kind) (n m : ℕ)
    → IsOf dir token kind n → IsOf dir token kind m
    → changing_attrs search (changing_of dir token n) ≡ changing_attrs search (changing_of dir token m)
changing_alike dir token search kind n m of_n of_m =
    ap (changing_attrs search) (changing_so dir token n m (of_n.class_is ∙ sym of_m.class_is)
    (λ path bit. granted_path dir token kind n m path bit of_n of_m))

-- ---- one kind

pub same_record : (token : Token) (self : Option SidValue) (a b : SelfMatch) → (a.holds ≡ b.holds) × (a.denies ≡ b.denies)
    × (a.restricted ≡ b.restricted) → AnswersSo token self a → AnswersSo token self b
same_record token self a b same is = record {
  holds = sym same.0 ∙ is.holds;
  denies = sym same.1 ∙ is.denies;
  restricted = sym same.2 ∙ is.restricted;
}

-- ---- what was judged

-- as code judges it
pub readable_here : (dir : Directory) (token : Token) (number attr : ℕ) (info : AttrInfo)
    → slice_get (attrs_of dir.schema) attr ≡ Some info
    → is_readable dir token number attr info ≡ is_readable_at dir token number attr
unfolding is_readable_at
readable_here dir token number attr info is = sym (ap (is_readable_of dir token number attr) is)

pub none_asked : (schema : List SchemaRecord) (sent : List (List ℕ)) (attr : ℕ) → length (attrs_of schema) ≤ attr
    → is_asked_at schema sent attr ≡ false
unfolding is_asked_at
none_asked schema sent attr le = ap (is_asked_of sent) (slice_get_past (attrs_of schema) attr le)

-- what is judged of one of the kind is so of each
pub knows_more : (dir : Directory) (token : Token) (kind : Kind) (n attr : ℕ) (so : Bool)
    (old new : List (Option Bool)) → IsOf dir token kind n → so ≡ is_readable_at dir token n attr
    → ((truth : ℕ → Bool) → so ≡ truth attr → AreTrue truth old → AreTrue truth new)
    → KnowsOf dir token kind old → KnowsOf dir token kind new
knows_more dir token kind n attr so old new of_n is keeps knows m of_m =
    keeps (is_readable_at dir token m) (is ∙ readable_alike dir token kind n m attr of_n of_m) (knows m of_m)

-- one more verdict
pub kept_true : (truth : ℕ → Bool) (verdicts : List (Option Bool)) (place : ℕ) (so : Bool) → place < length verdicts
    → so ≡ truth place → AreTrue truth verdicts → AreTrue truth (slice_set verdicts place (Some so))
kept_true truth verdicts place so lt is are other = by_test (nat_eq place other) refl
  where
    by_test : (test : Bool) → nat_eq place other ≡ test
        → IfSome (get_or (slice_set verdicts place (Some so)) other None) (λ s. s ≡ truth other)
    by_test true same =
        let at : place ≡ other = eqb-true place other same in
        subst (λ (v : Option Bool). IfSome v (λ s. s ≡ truth other))
        (sym (get_or-set_at verdicts place other (Some so) None (sym at) lt)) (is ∙ ap truth at)
    by_test false apart =
        subst (λ (v : Option Bool). IfSome v (λ s. s ≡ truth other))
        (sym (get_or-set_other verdicts place other (Some so) None (λ (e : other ≡ place). eqb-false place other apart
        (sym e)))) (are other)

pub cases_verdict : (v : Option Bool) → (v ≡ None) ⊎ ((so : Bool) × (v ≡ Some so))
cases_verdict None = inl refl
cases_verdict (Some so) = inr (so, refl)

abbrev no_verdict : Option Bool
no_verdict = None

-- nothing was judged
pub none_judged : (truth : ℕ → Bool) (n : ℕ) → AreTrue truth (replicate n None)
none_judged truth n place = elim (cases_lt place n) [
  | inl within ↦ subst (λ (v : Option Bool). IfSome v (λ s. s ≡ truth place)) (sym (get_or-replicate n place None None
      within)) tt
  | inr past ↦ subst (λ (v : Option Bool). IfSome v (λ s. s ≡ truth place)) (sym (get_or_past (replicate n None) place
      None (let long : length (replicate n no_verdict) ≡ n = length-replicate n no_verdict in
      omega (arith, past, long)))) tt
]

-- ---- what is kept of kinds

pub all_with : {A : Type 0} → (P : A → Type 0) (xs : List A) (x : A) → AllByRecursion P xs → P x
    → AllByRecursion P (xs ++ x ∷ [])
all_with P [] x all is = (is, tt)
all_with P (y ∷ ys) x all is = (all.0, all_with P ys x all.1 is)
