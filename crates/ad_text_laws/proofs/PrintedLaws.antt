-- The texts of who and can are of such lines.
use Rattle.std.proofs.Common.{Bool, ◌≡◌, ◌∙◌, ℕ, ◌+◌, ◌^◌, ◌<◌, ◌≤◌, true, false, if◌then◌else◌, Option, Some, None, List, []}
use Rattle.std.proofs.Common.{◌∷◌, ◌++◌, length, refl, sym, ap, subst, append_assoc, arith}
use Rattle.std.specs.Prelude.{◌&&◌, ◌||◌, ◌==◌, codes, filter}
use Rattle.std.specs.List.{AllByRecursion, flat_map}
use Rattle.std.proofs.lemmas.Bool.{false≢true, and_parts}
use Rattle.std.proofs.lemmas.List.{append-nil}
use Rattle.std.proofs.lemmas.Option.{none-some, same_Some}
use Rattle.std.proofs.lemmas.Grind.{flat_map-append}
use Rattle.ad_bytes.specs.Puts.{spaced, ended}
use Rattle.ad_ids.specs.SidValue.{SidValue, same_sid, contains_sid}
use Rattle.ad_ids.specs.Sid.{IsSid}
use Rattle.ad_ids.specs.WellKnown.{everyone, authenticated_users}
use Rattle.ad_ids.specs.SidText.{sid_text}
use Rattle.ad_ids.specs.declared.guid.Guid.{Guid}
use Rattle.ad_ids.specs.declared.token.Token.{Token}
use Rattle.ad_acl.specs.declared.kind.AceKind.{AceKind}
use Rattle.ad_acl.specs.declared.kind.AceKind.TheVariants.{Allow, Deny, Audit}
use Rattle.ad_acl.specs.Entry.{Entry}
use Rattle.ad_acl.specs.Mask.{has_bit, write_owner, access_system_security}
use Rattle.ad_access.specs.Holder.{Holder as AccessHolder, first_holder}
use Rattle.ad_access.specs.Grant.{decides, granted_as_owner}
use Rattle.ad_dn.specs.declared.rdn.Dn.{Dn}
use Rattle.ad_dn.specs.Text.{dn_text}
use Rattle.ad_dir_model.specs.Directory.{Directory}
use Rattle.ad_dir_model.specs.Objects.{is_live, numbers, sd_at}
use Rattle.ad_dir_model.specs.Identity.{self_sid}
use Rattle.ad_dir_model.specs.Names.{name_text}
use Rattle.ad_dir_model.specs.Changes.{goes_with}
use Rattle.ad_dir_model.proofs.Counting.{all_numbers}
use Rattle.ad_access_dir.specs.Sight.{is_granted}
use Rattle.ad_principals.specs.Groups.{anonymous}
use Rattle.ad_principals.proofs.Identified.{principal_live}
use Rattle.ad_principals.proofs.Rising.{one_sid}
use Rattle.ad_identities.specs.declared.identity.Identity.{Identity}
use Rattle.ad_identities.specs.Identities.{always, is_told, is_without_principal, IsIdentityBy, IsIdentity}
use Rattle.ad_needs_rules.specs.Needs.{Alternative}
use Rattle.ad_questions.specs.declared.question.Question.{Question}
use Rattle.ad_questions.specs.Requirements.{requirements, are_met}
use Rattle.ad_who.specs.declared.decider.Decider.{Decider}
use Rattle.ad_who.specs.declared.decider.Decider.TheVariants.{Privilege, Owner, Allowed, Refused, Nothing}
use Rattle.ad_who.specs.declared.reason.Reason.{Reason}
use Rattle.ad_who.specs.Reason.{last_of, on_object, reason_of, told}
use Rattle.ad_who.specs.Decider.{by_kind, deciding_from, decider_for, decider, grants, decider_at}
use Rattle.ad_who.proofs.Parties.{token_alone}
use Rattle.ad_who.specs.Lines.{name_or, IsTokenIf}
use Rattle.ad_who.specs.Lines.{reason_text, line_if, told_line, who_line, AreWhoLines, can_line, can_text}
use Rattle.ad_who.proofs.Deciding.{decided_granted}
use Rattle.ad_text_laws.specs.Lines.{facts_of}
use Rattle.ad_text_laws.specs.Facts.{HasGranted, HasReason, Holder, holder_line, holder_by, holder_of, IsHolder, holders_text}
use Rattle.ad_text_laws.specs.Facts.{Held, held_by, held_of, IsHeld, helds_text}
use Rattle.ad_text_laws.specs.Facts.{word_text, title_text, HasTitle}
use Rattle.ad_text_laws.specs.Printed.{title_at}
use Rattle.ad_text_laws.specs.Printed.{HasForms, name_at, holders_if, holder_at, IsOfHolders}
use Rattle.ad_text_laws.specs.Printed.{held_if, held_at, helds_at, IsOfHeld}
use Rattle.ad_text_laws.proofs.FactLaws.{holders_back, helds_back}

-- ---- what decides, where it grants

-- a place below this number
abbrev IsBelow : ℕ → Decider → Type 0
IsBelow n Privilege = Unit {0}
IsBelow n Owner = Unit {0}
IsBelow n (Allowed place) = place < n
IsBelow n (Refused place) = Unit {0}
IsBelow n Nothing = Unit {0}

kind_below : (kind : AceKind) (place n : ℕ) → place < n → IsBelow n (by_kind kind place)
kind_below Allow place n lt = lt
kind_below Deny place n lt = tt
kind_below Audit place n lt = tt

entries_below : (place n : ℕ) (dacl : List Entry) (holder : AccessHolder) (self : Option SidValue) (owner : SidValue)
    (path : List Guid) (bit : ℕ) → place + length dacl ≤ n
    → IsBelow n (deciding_from place dacl holder self owner path bit)
unfolding deciding_from
entries_below place n [] holder self owner path bit few = tt
entries_below place n (entry ∷ others) holder self owner path bit few =
    by_test (entries_below (place + 1) n others holder self owner path bit (omega (arith, few)))
    (decides entry holder self owner path bit)
  where
    by_test : IsBelow n (deciding_from (place + 1) others holder self owner path bit) → (b : Bool)
        → IsBelow n (if b then by_kind entry.kind place else deciding_from (place + 1) others holder self owner path bit)
    by_test later true = kind_below entry.kind place n (omega (arith, few))
    by_test later false = later

holder_below : (n : ℕ) (owner : SidValue) (dacl : List Entry) (holder : AccessHolder) (self : Option SidValue)
    (path : List Guid) (bit : ℕ) → 1 + length dacl ≤ n → IsBelow n (decider_for owner dacl holder self path bit)
unfolding decider_for
holder_below n owner dacl holder self path bit few = by_test (granted_as_owner owner dacl holder bit)
  where
    by_test : (b : Bool) → IsBelow n (if b then Owner else deciding_from 1 dacl holder self owner path bit)
    by_test true = tt
    by_test false = entries_below 1 n dacl holder self owner path bit few

by_privilege : (n : ℕ) (system security take : Bool) (d : Decider) → IsBelow n d
    → IsBelow n (if system then (if security then Privilege else Nothing) else (if take then Privilege else d))
by_privilege n true true take d is = tt
by_privilege n true false take d is = tt
by_privilege n false security true d is = tt
by_privilege n false security false d is = is

at_below : (n : ℕ) (dir : Directory) (token : Token) (number : ℕ) (path : List Guid) (bit : ℕ)
    → 1 + length (sd_at dir.objects number).dacl.entries ≤ n → IsBelow n (decider_at dir token number path bit)
unfolding decider_at decider
at_below n dir token number path bit few =
    let sd = sd_at dir.objects number in
    by_privilege n (bit == access_system_security) (has_bit token.privileges 0)
    ((bit == write_owner) && has_bit token.privileges 1)
    (decider_for sd.owner sd.dacl.entries (first_holder token) (self_sid dir number) path bit)
    (holder_below n sd.owner sd.dacl.entries (first_holder token) (self_sid dir number) path bit few)

has_granted : (d : Decider) → grants d ≡ true → IsBelow (2 ^ 64) d → HasGranted d
has_granted Privilege e below = tt
has_granted Owner e below = tt
has_granted (Allowed place) e below = below
has_granted (Refused place) e below = absurd (false≢true e)
has_granted Nothing e below = absurd (false≢true e)

granted_at : (dir : Directory) (token : Token) (number : ℕ) (path : List Guid) (bit : ℕ) → HasForms dir
    → token.restricting ≡ [] → is_granted dir token number path bit ≡ true
    → HasGranted (decider_at dir token number path bit)
granted_at dir token number path bit forms none e =
    has_granted (decider_at dir token number path bit) (decided_granted dir token number path bit none ∙ e)
    (at_below (2 ^ 64) dir token number path bit (omega (arith, forms.lists number)))

-- ---- why

on_has : (own : Bool) (d : Decider) → HasGranted d → HasReason (on_object own d)
on_has true d has = has
on_has false d has = has

reason_has : (dir : Directory) (token : Token) (number : ℕ) (alternatives : List Alternative) → HasForms dir
    → token.restricting ≡ [] → HasReason (reason_of dir token number alternatives)
unfolding reason_of
reason_has dir token number [] forms none = tt
reason_has dir token number (a ∷ others) forms none =
    by (is_granted dir token a.object a.path a.bit) refl (reason_has dir token number others forms none)
  where
    by : (t : Bool) → is_granted dir token a.object a.path a.bit ≡ t
        → HasReason (reason_of dir token number others)
        → HasReason (if t then on_object (a.object == number) (decider_at dir token a.object a.path a.bit)
        else reason_of dir token number others)
    by true e later = on_has (a.object == number) (decider_at dir token a.object a.path a.bit)
        (granted_at dir token a.object a.path a.bit forms none e)
    by false e later = later

told_has : (dir : Directory) (token : Token) (number : ℕ) (needed : List (List Alternative)) (r : Reason)
    → HasForms dir → token.restricting ≡ [] → told dir token number needed ≡ Some r → HasReason r
unfolding told
told_has dir token number needed r forms none is = by (are_met dir token needed) is
  where
    by : (t : Bool) → (if t then Some (reason_of dir token number (last_of needed)) else None) ≡ Some r → HasReason r
    by true e = subst HasReason (same_Some (reason_of dir token number (last_of needed)) r e)
        (reason_has dir token number (last_of needed) forms none)
    by false e = absurd (none-some r e)

-- ---- identifiers

sid_of : (authority number : ℕ) → authority < 2 ^ 48 → number < 2 ^ 32
    → IsSid (record { authority = authority; sub_authorities = number ∷ [] })
sid_of authority number low small = record {
  authority = low;
  at_least_one = omega arith;
  at_most_15 = omega arith;
  sub_authorities = (small, tt);
}

own_sid : (a b : SidValue) → IsSid a → same_sid a b ≡ true → IsSid b
own_sid a b is same = subst IsSid (one_sid a b same) is

-- one of three, or another
of_four : (sid : SidValue) (x y z : Bool) → (x ≡ true → IsSid sid) → (y ≡ true → IsSid sid) → (z ≡ true → IsSid sid)
    → (told : Bool) → (told ≡ true → IsSid sid) → ((x || (y || (z || false))) || told) ≡ true → IsSid sid
of_four sid true y z a b c told d e = a refl
of_four sid false true z a b c told d e = b refl
of_four sid false false true a b c told d e = c refl
of_four sid false false false a b c true d e = d refl
of_four sid false false false a b c false d e = absurd (false≢true e)

lone_sid : (dir : Directory) (sid : SidValue) → HasForms dir → is_without_principal dir sid ≡ true → IsSid sid
unfolding is_without_principal
lone_sid dir sid forms is =
    of_four sid (same_sid anonymous sid) (same_sid everyone sid) (same_sid authenticated_users sid)
    (own_sid anonymous sid (sid_of 5 7 (omega arith) (omega arith)))
    (own_sid everyone sid (sid_of 1 0 (omega arith) (omega arith)))
    (own_sid authenticated_users sid (sid_of 5 11 (omega arith) (omega arith)))
    (is_told dir sid) (forms.told sid)
    (and_parts (contains_sid always sid || is_told dir sid) _ is).0

pub identity_sid : (dir : Directory) (sid : SidValue) (number : Option ℕ) → HasForms dir → IsIdentityBy dir sid number
    → IsSid sid
identity_sid dir sid None forms is = lone_sid dir sid forms is
identity_sid dir sid (Some number) forms is = forms.sids number sid is.1

pub title_has : (dir : Directory) (sid : SidValue) (number : Option ℕ) → HasForms dir → IsIdentityBy dir sid number
    → HasTitle (title_at dir number)
title_has dir sid None forms is = tt
title_has dir sid (Some number) forms is = forms.names number (principal_live dir number is.0)

-- ---- who

title_is : (dir : Directory) (number : Option ℕ) → name_or dir number ≡ title_text (title_at dir number)
unfolding name_text
title_is dir None = refl
title_is dir (Some number) = refl

holder_ended : (r : Option Reason) (sid : SidValue) (name : Option Dn)
    → spaced (word_text r) ++ (spaced (sid_text sid) ++ ended (title_text name))
    ≡ holders_text (holder_by r sid name ∷ [])
holder_ended r sid name =
    ap (λ (t : List ℕ). spaced (word_text r) ++ t)
    (sym (append_assoc (spaced (sid_text sid)) (title_text name) (10 ∷ [])))
    ∙ sym (append_assoc (spaced (word_text r)) (spaced (sid_text sid) ++ title_text name) (10 ∷ []))
    ∙ sym (append-nil (ended (holder_line (holder_by r sid name))))

holder_text : (o : Option Reason) (sid : SidValue) (name : Option Dn)
    → line_if o (spaced (sid_text sid) ++ ended (title_text name)) ≡ holders_text (holders_if o sid name)
holder_text (Some r) sid name = holder_ended (Some r) sid name
holder_text None sid name = refl

one_holder : (o : Option Reason) (sid : SidValue) (name : Option Dn)
    → ((r : Reason) → o ≡ Some r → IsHolder (holder_by (Some r) sid name))
    → AllByRecursion IsHolder (holders_if o sid name)
one_holder (Some r) sid name is = (is r refl, tt)
one_holder None sid name is = tt

all_both : {A : Type 0} (Is : A → Type 0) (a b : List A) → AllByRecursion Is a → AllByRecursion Is b
    → AllByRecursion Is (a ++ b)
all_both Is [] b p q = q
all_both Is (x ∷ a) b p q = (p.0, all_both Is a b p.1 q)

who_text : (dir : Directory) (number : ℕ) (needed : List (List Alternative)) (identity : Identity)
    (token : Option Token)
    → who_line dir number needed identity token ≡ holders_text (holder_at dir number needed identity token)
unfolding told_line
who_text dir number needed identity (Some token) =
    ap (λ (name : List ℕ). line_if (told dir token number needed) (spaced (sid_text identity.sid) ++ ended name))
    (title_is dir identity.number)
    ∙ holder_text (told dir token number needed) identity.sid (title_at dir identity.number)
who_text dir number needed identity None =
    ap (λ (name : List ℕ). codes "none " ++ (spaced (sid_text identity.sid) ++ ended name))
    (title_is dir identity.number)
    ∙ holder_ended None identity.sid (title_at dir identity.number)

who_form : (dir : Directory) (number : ℕ) (needed : List (List Alternative)) (identity : Identity)
    (token : Option Token) → HasForms dir → IsIdentity dir identity → IsTokenIf dir identity token
    → AllByRecursion IsHolder (holder_at dir number needed identity token)
who_form dir number needed identity (Some token) forms one is =
    one_holder (told dir token number needed) identity.sid (title_at dir identity.number)
    (λ r e. record {
      reason = told_has dir token number needed r forms (token_alone dir identity.sid identity.number token is) e;
      sid = identity_sid dir identity.sid identity.number forms one;
      name = title_has dir identity.sid identity.number forms one;
    })
who_form dir number needed identity None forms one is = (
  record {
    reason = tt;
    sid = identity_sid dir identity.sid identity.number forms one;
    name = title_has dir identity.sid identity.number forms one;
  },
  tt,
)

pub of_holders : (dir : Directory) (number : ℕ) (needed : List (List Alternative)) (identities : List Identity)
    (text : List ℕ)
    → HasForms dir → AllByRecursion (IsIdentity dir) identities → AreWhoLines dir number needed identities text
    → IsOfHolders dir number needed identities text
of_holders dir number needed [] text forms each none = record {
  holders = [];
  are = refl;
  form = tt;
  lines = none;
  read = ap (facts_of holder_of) none ∙ holders_back [] tt;
}
of_holders dir number needed (identity ∷ others) text forms each (token, rest, is, split, more) =
    let later = of_holders dir number needed others rest forms each.1 more in
    let own = holder_at dir number needed identity token in
    let all = own ++ later.holders in
    let form = all_both IsHolder own later.holders (who_form dir number needed identity token forms each.0 is) later.form
    in
    let lines : text ≡ holders_text all =
    split ∙ ap (λ (t : List ℕ). t ++ rest) (who_text dir number needed identity token)
    ∙ ap (λ (t : List ℕ). holders_text own ++ t) later.lines
    ∙ sym (flat_map-append (λ (h : Holder). ended (holder_line h)) own later.holders) in
    record {
      holders = all;
      are = (token, later.holders, is, refl, later.are);
      form = form;
      lines = lines;
      read = ap (facts_of holder_of) lines ∙ holders_back all form;
    }

-- ---- can

held_text : (o : Option Reason) (name : Dn) → line_if o (ended (dn_text name)) ≡ helds_text (held_if o name)
held_text (Some r) name = sym (append_assoc (spaced (reason_text r)) (dn_text name) (10 ∷ []))
    ∙ sym (append-nil (ended (spaced (reason_text r) ++ dn_text name)))
held_text None name = refl

one_held : (o : Option Reason) (name : Dn) → ((r : Reason) → o ≡ Some r → IsHeld (held_by r name))
    → AllByRecursion IsHeld (held_if o name)
one_held (Some r) name is = (is r refl, tt)
one_held None name is = tt

module _ (dir : Directory) (token : Token) (question : Question) (forms : HasForms dir)
    (none : token.restricting ≡ []) where
  can_form : (number : ℕ) → is_live dir.objects number ≡ true
      → AllByRecursion IsHeld (held_at dir token question number)
  can_form number live =
      one_held (told dir token number (requirements dir question number)) (name_at dir number)
      (λ r e. record {
        reason = told_has dir token number (requirements dir question number) r forms none e;
        name = forms.names number live;
      })

  cans_form : (ns : List ℕ) → AllByRecursion (λ n. is_live dir.objects n ≡ true) ns
      → AllByRecursion IsHeld (flat_map (held_at dir token question) ns)
  cans_form [] live = tt
  cans_form (n ∷ ns) live = all_both IsHeld (held_at dir token question n) (flat_map (held_at dir token question) ns)
      (can_form n live.0) (cans_form ns live.1)

  can_one : (number : ℕ) → can_line dir token question number ≡ helds_text (held_at dir token question number)
  unfolding told_line name_text
  can_one number = held_text (told dir token number (requirements dir question number)) (name_at dir number)

  cans_text : (ns : List ℕ) → flat_map (can_line dir token question) ns ≡ helds_text (flat_map (held_at dir token question) ns)
  cans_text [] = refl
  cans_text (n ∷ ns) =
      ap (λ (t : List ℕ). t ++ flat_map (can_line dir token question) ns) (can_one n)
      ∙ ap (λ (t : List ℕ). helds_text (held_at dir token question n) ++ t) (cans_text ns)
      ∙ sym (flat_map-append (λ (h : Held). ended (spaced (reason_text h.reason) ++ dn_text h.name))
      (held_at dir token question n) (flat_map (held_at dir token question) ns))

  filtered : (test : ℕ → Bool) (ns : List ℕ) → AllByRecursion (λ n. is_live dir.objects n ≡ true) ns
      → AllByRecursion (λ n. is_live dir.objects n ≡ true) (filter test ns)
  filtered test [] live = tt
  filtered test (n ∷ ns) live = by (test n) (filtered test ns live.1)
    where
      by : (t : Bool) → AllByRecursion (λ m. is_live dir.objects m ≡ true) (filter test ns)
          → AllByRecursion (λ m. is_live dir.objects m ≡ true) (if t then n ∷ filter test ns else filter test ns)
      by true rest = (live.0, rest)
      by false rest = rest

  pub of_held : (base : ℕ) → IsOfHeld dir token question base
  unfolding can_text
  of_held base =
      let live = all_numbers (λ (n : ℕ). is_live dir.objects n ≡ true) dir.objects (λ n live. live) in
      let ns = filter (goes_with dir base) (numbers dir.objects) in
      let form = cans_form ns (filtered (goes_with dir base) (numbers dir.objects) live) in
      record {
        form = form;
        lines = cans_text ns;
        read = ap (facts_of held_of) (cans_text ns) ∙ helds_back (helds_at dir token question base) form;
      }
