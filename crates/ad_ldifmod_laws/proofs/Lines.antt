-- What a line asks for: an object that its name leads to, and a change that leaves a list one of own entries.
use Rattle.std.proofs.Common.{◌≡◌, ℕ, Bool, true, List, [], ◌∷◌, ◌++◌, Option, Some, None, Result, Ok, Err, refl, sym}
use Rattle.std.proofs.Common.{ap, subst, ◌∙◌, inl, inr}
use Rattle.std.specs.Prelude.{filter, codes, unwrap_or, not, IfSome, ◌&&◌}
use Rattle.std.specs.Option.{option_map, option_and_then}
use Rattle.std.specs.List.{AllByRecursion}
use Rattle.std.specs.Str.{bytes_eq}
use Rattle.std.proofs.lemmas.Bool.{cases_Bool, and_parts}
use Rattle.std.proofs.lemmas.Option.{same_Some, none-some, cond_some, option_and_then_some}
use Rattle.ad_bytes.proofs.Steps.{from_bind, from_ok}
use Rattle.ad_ids.specs.SidValue.{SidValue, same_sid}
use Rattle.ad_ids.specs.Sid.{IsSid}
use Rattle.ad_acl.specs.declared.kind.AceKind.{AceKind}
use Rattle.ad_acl.specs.Entry.{Entry}
use Rattle.ad_acl.specs.Writing.{IsEntry}
use Rattle.ad_sd.specs.declared.parts.AceList.{AceList}
use Rattle.ad_sd.specs.declared.parts.SdParts.{SdParts}
use Rattle.ad_sddl.specs.declared.fault.SddlFault.{SddlFault}
use Rattle.ad_sddl.specs.Canonical.{AreEntriesIf}
use Rattle.ad_sddl.specs.Reading.{read_of}
use Rattle.ad_inherit.specs.Whole.{is_explicit, explicit_entries}
use Rattle.ad_dn.specs.declared.rdn.Dn.{Dn}
use Rattle.ad_dn.specs.Reading.{dn_of}
use Rattle.ad_dir_model.specs.Directory.{Directory}
use Rattle.ad_dir_model.specs.Identity.{domain_sid}
use Rattle.ad_dir_model.specs.Names.{found}
use Rattle.ad_needs_rules.specs.Requests.{parts_in}
use Rattle.ad_ldifmod.specs.Lines.{Parts, divided, verb_of, with_verb, with_word, parts_behind, parts_of}
use Rattle.ad_ldifmod.specs.Changes.{if_read, sole, sole_entry, begins_entry, entry_of, is_kind, if_own, own_entry}
use Rattle.ad_ldifmod.specs.Changes.{change_of}
use Rattle.ad_ldifmod.specs.Lists.{Step, or_bad, changed, number_named, step_of}
use Rattle.ad_ldifmod.specs.declared.fault.GrantKind.{GrantKind}
use Rattle.ad_ldifmod.specs.declared.fault.GrantKind.TheVariants as kind
use Rattle.ad_ldifmod_laws.proofs.Mapped.{map_some}
use Rattle.ad_ldifmod_laws.proofs.SidRanges.{parts_are}

-- ---- own entries: those with their ranges that don't say that they were inherited

pub record IsOwn (e : Entry) : Type 0 where
  pub ranges : IsEntry e
  pub explicit : is_explicit e ≡ true

abbrev pub AreOwn : List Entry → Type 0
AreOwn entries = AllByRecursion IsOwn entries

pub own_explicit : (entries : List Entry) → AreOwn entries → explicit_entries entries ≡ entries
own_explicit [] own = refl
own_explicit (e ∷ es) own = let here = own.0.explicit
    in rw here (ap (λ (t : List Entry). e ∷ t) (own_explicit es own.1))

pub own_ranges : (entries : List Entry) → AreOwn entries → AllByRecursion IsEntry entries
own_ranges [] own = tt
own_ranges (e ∷ es) own = (own.0.ranges, own_ranges es own.1)

pub explicit_own : (entries : List Entry) → AllByRecursion IsEntry entries → AreOwn (explicit_entries entries)
explicit_own [] are = tt
explicit_own (e ∷ es) are = elim (cases_Bool (is_explicit e)) [
  | inl own ↦ rw own (record { ranges = are.0; explicit = own }, explicit_own es are.1)
  | inr inherited ↦ rw inherited (explicit_own es are.1)
]

own_push : (entries : List Entry) (e : Entry) → AreOwn entries → IsOwn e → AreOwn (entries ++ e ∷ [])
own_push [] e own is = (is, tt)
own_push (x ∷ xs) e own is = (own.0, own_push xs e own.1 is)

own_filter : (test : Entry → Bool) (entries : List Entry) → AreOwn entries → AreOwn (filter test entries)
own_filter test [] own = tt
own_filter test (e ∷ es) own = elim (cases_Bool (test e)) [
  | inl stays ↦ rw stays (own.0, own_filter test es own.1)
  | inr goes ↦ rw goes (own_filter test es own.1)
]

-- ---- the entry of a text

if_read_some : (r : Result SdParts SddlFault) (parts : SdParts) → if_read r ≡ Some parts → r ≡ Ok parts
if_read_some (Ok p) parts e = ap (λ (q : SdParts). Ok q) (same_Some p parts e)
if_read_some (Err f) parts e = absurd (none-some parts e)

sole_is : (entries : List Entry) (e : Entry) → sole entries ≡ Some e → AllByRecursion IsEntry entries → IsEntry e
sole_is [] e is are = absurd (none-some e is)
sole_is (x ∷ []) e is are = subst IsEntry (same_Some x e is) are.0
sole_is (x ∷ y ∷ others) e is are = absurd (none-some e is)

abbrev parts : Option SidValue → Option SidValue → Option AceList → Option AceList → SdParts
parts owner group dacl sacl = record { owner = owner; group = group; dacl = dacl; sacl = sacl }

sole_of : (owner group : Option SidValue) (dacl sacl : Option AceList) (e : Entry)
    → sole_entry (parts owner group dacl sacl) ≡ Some e → AreEntriesIf dacl → IsEntry e
sole_of (Some owner) group dacl sacl e is are = absurd (none-some e is)
sole_of None (Some group) dacl sacl e is are = absurd (none-some e is)
sole_of None None None sacl e is are = absurd (none-some e is)
sole_of None None (Some list) (Some sacl) e is are = absurd (none-some e is)
sole_of None None (Some list) None e is are = sole_is list.entries e is are

entry_is : (domain : Option SidValue) (text : List ℕ) (e : Entry) → IfSome domain IsSid → entry_of domain text
    ≡ Some e → IsEntry e
unfolding entry_of
entry_is domain text e known is = elim (cases_Bool (begins_entry text)) [
  | inl begins ↦ by (rw begins at is)
  | inr other ↦ absurd (none-some e (rw other at is))
]
  where
    by : option_and_then sole_entry (if_read (read_of domain (codes "D:" ++ text))) ≡ Some e → IsEntry e
    by there = option_and_then_some sole_entry (if_read (read_of domain (codes "D:" ++ text))) e there
        (λ p reads one. sole_of p.owner p.group p.dacl p.sacl e one
        (parts_are domain (codes "D:" ++ text) p known
        (if_read_some (read_of domain (codes "D:" ++ text)) p reads)).dacl)

own_is : (kind : AceKind) (domain : Option SidValue) (text : List ℕ) (e : Entry) → IfSome domain IsSid
    → own_entry kind domain text ≡ Some e → IsOwn e
own_is kind domain text e known is =
    option_and_then_some (if_own kind) (entry_of domain text) e is (λ x there own.
    let both = cond_some (is_kind x.kind kind && is_explicit x) x e own in
    subst IsOwn both.1 (record {
      ranges = entry_is domain text x known there;
      explicit
          = (and_parts (is_kind x.kind kind) (is_explicit x) both.0).1;
    }))

-- ---- what a change makes of a list

abbrev pub KeepsOwn : Step → Type 0
KeepsOwn step = (entries : List Entry) → AreOwn entries → AreOwn (changed step.change entries)

change_is : (domain : Option SidValue) (word : List ℕ) (p : Parts) (step : Step) → IfSome domain IsSid → verb_of word
    ≡ Some p.verb → change_of domain p.verb p.what ≡ Some step.change → KeepsOwn step
change_is domain word p step known verb is = elim (cases_Bool (bytes_eq word (codes "grant"))) [
  | inl grants ↦
      (let which = same_Some _ p.verb (rw grants at verb) in
      map_some _ _ step.change (subst (λ v. change_of domain v p.what ≡ Some step.change) (sym which) is)
      (λ e there same.
      subst (λ c. (entries : List Entry) → AreOwn entries → AreOwn (changed c entries)) same
      (λ entries own. own_push entries e own (own_is _ domain p.what e known there))))
  | inr other ↦ elim (cases_Bool (bytes_eq word (codes "deny"))) [
    | inl denies ↦
        (let which = same_Some _ p.verb (rw (other, denies) at verb) in
        map_some _ _ step.change (subst (λ v. change_of domain v p.what ≡ Some step.change) (sym which) is)
        (λ e there same.
        subst (λ c. (entries : List Entry) → AreOwn entries → AreOwn (changed c entries)) same
        (λ entries own. (own_is _ domain p.what e known there, own))))
    | inr third ↦ elim (cases_Bool (bytes_eq word (codes "revoke"))) [
      | inl revokes ↦
          (let which = same_Some _ p.verb (rw (other, third, revokes) at verb) in
          map_some _ _ step.change (subst (λ v. change_of domain v p.what ≡ Some step.change) (sym which) is)
          (λ s there same.
          subst (λ c. (entries : List Entry) → AreOwn entries → AreOwn (changed c entries)) same
          (λ entries own. own_filter (λ entry. not (same_sid entry.sid s)) entries own)))
      | inr none ↦ absurd (none-some p.verb (rw (other, third, none) at verb))
    ]
  ]
]

-- ---- a line

pub record IsStep (dir : Directory) (step : Step) : Type 0 where
  pub named : found dir (parts_in step.name) ≡ Some step.number
  pub keeps : KeepsOwn step

named_is : (dir : Directory) (name : List ℕ) (number : ℕ) → number_named dir name ≡ Some number
    → found dir (parts_in name) ≡ Some number
unfolding number_named
named_is dir name number e = by (dn_of name) e
  where
    by : (o : Option Dn) → option_and_then (λ (dn : Dn). found dir dn.rdns) o ≡ Some number
        → found dir (unwrap_or (option_map (λ dn. dn.rdns) o) []) ≡ Some number
    by None is = absurd (none-some number is)
    by (Some dn) is = is

there : {A : Type 0} (k : GrantKind) (o : Option A) (x : A) → or_bad k o ≡ Ok x → o ≡ Some x
there k None x e = absurd cc
there k (Some y) x e = ap (λ z. Some z) (from_ok y x e)

verb_is : (line : List ℕ) (p : Parts) → parts_of line ≡ Some p → (word : List ℕ) × (verb_of word ≡ Some p.verb)
unfolding parts_of
verb_is line p e =
    option_and_then_some parts_behind (divided 32 line) p e (λ first e1 e2.
    option_and_then_some (with_word first.0) (divided 32 first.1) p e2 (λ rest e3 e4.
    map_some (with_verb rest) (verb_of first.0) p e4
    (λ verb e5 same. (first.0, e5 ∙ ap (λ (q : Parts). Some q.verb) same))))

pub step_is : (dir : Directory) (line : List ℕ) (step : Step) → IfSome (domain_sid dir) IsSid → step_of dir line
    ≡ Ok step → IsStep dir step
unfolding step_of
step_is dir line step known e =
    from_bind (or_bad kind.Form (parts_of line)) _ step e (λ p e1 e2.
    from_bind (or_bad kind.Entry (change_of (domain_sid dir) p.verb p.what)) _ step e2 (λ change e3 e4.
    from_bind (or_bad kind.Name (number_named dir p.name)) _ step e4 (λ number e5 e6.
    let same = from_ok (record { number = number; change = change; name = p.name }) step e6 in
    let verb = verb_is line p (there kind.Form (parts_of line) p e1) in
    subst (IsStep dir) same (record {
      named = named_is dir p.name number (there kind.Name (number_named dir p.name) number e5);
      keeps = change_is (domain_sid dir) verb.0 p (record { number = number; change = change; name = p.name }) known
          verb.1 (there kind.Entry (change_of (domain_sid dir) p.verb p.what) change e3);
    }))))
