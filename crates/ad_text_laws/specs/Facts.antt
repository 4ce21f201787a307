-- What a line of an answer tells, and how it is read back.
use Rattle.std.specs.Prelude.{ℕ, Option, Some, None, option_map, option_and_then, List, ◌++◌, codes}
use Rattle.std.specs.Prelude.{if◌then◌else◌, ◌<◌, ◌^◌}
use Rattle.std.specs.List.{flat_map}
use Rattle.std.specs.Str.{bytes_eq}
use Rattle.ad_bytes.specs.Puts.{spaced, ended}
use Rattle.ad_ids.specs.SidValue.{SidValue}
use Rattle.ad_ids.specs.Sid.{IsSid}
use Rattle.ad_ids.specs.SidText.{sid_text}
use Rattle.ad_ids.specs.SidFront.{sid_of_text}
use Rattle.ad_dn.specs.declared.rdn.Dn.{Dn}
use Rattle.ad_dn.specs.Value.{AreRdns}
use Rattle.ad_dn.specs.Text.{dn_text}
use Rattle.ad_dn.specs.Reading.{dn_of}
use Rattle.ad_who.specs.declared.decider.Decider.{Decider}
use Rattle.ad_who.specs.declared.decider.Decider.TheVariants.{Privilege, Owner, Allowed, Refused, Nothing}
use Rattle.ad_who.specs.declared.reason.Reason.{Reason}
use Rattle.ad_who.specs.declared.reason.Reason.TheVariants.{Free, Own, Above}
use Rattle.ad_who.specs.Lines.{reason_text}
use Rattle.ad_questions.specs.Question.{behind}
use Rattle.ad_text_laws.specs.Lines.{word_of, number_of}

-- ---- what decides

abbrev pub decider_of : List ℕ → Option Decider
decider_of word =
    if bytes_eq word (codes "privilege") then Some Privilege
    else if bytes_eq word (codes "owner") then Some Owner
    else option_map Allowed (number_of word)

-- what decides grants the right; a place is below 2^64
abbrev pub HasGranted : Decider → Type 0
HasGranted Privilege = Unit {0}
HasGranted Owner = Unit {0}
HasGranted (Allowed place) = place < 2 ^ 64
HasGranted (Refused place) = ⊥
HasGranted Nothing = ⊥

-- ---- why a token is told yes

-- after `parent:` it is what decides on the parent
abbrev pub parent_or : Option (List ℕ) → List ℕ → Option Reason
parent_or None word = option_map Own (decider_of word)
parent_or (Some rest) word = option_map Above (decider_of rest)

unfoldable pub reason_in : List ℕ → Option Reason
reason_in word = if bytes_eq word (codes "-") then Some Free else parent_or (behind (codes "parent:") word) word

abbrev pub HasReason : Reason → Type 0
HasReason Free = Unit {0}
HasReason (Own decider) = HasGranted decider
HasReason (Above decider) = HasGranted decider

-- ---- who is told yes, and who has no token

-- why, or that there is no token
abbrev pub word_text : Option Reason → List ℕ
word_text None = codes "none"
word_text (Some reason) = reason_text reason

unfoldable pub word_in : List ℕ → Option (Option Reason)
word_in word = if bytes_eq word (codes "none") then Some None
    else option_map (λ (reason : Reason). Some reason) (reason_in word)

abbrev pub HasWord : Option Reason → Type 0
HasWord None = Unit {0}
HasWord (Some reason) = HasReason reason

-- the name of an object; a hyphen where there is none
abbrev pub title_text : Option Dn → List ℕ
title_text None = codes "-"
title_text (Some name) = dn_text name

abbrev pub title_or : Option Dn → List ℕ → Option (Option Dn)
title_or None text = if bytes_eq text (codes "-") then Some None else None
title_or (Some name) text = Some (Some name)

unfoldable pub title_in : List ℕ → Option (Option Dn)
title_in text = title_or (dn_of text) text

abbrev pub HasTitle : Option Dn → Type 0
HasTitle None = Unit {0}
HasTitle (Some name) = AreRdns name.rdns

-- one of them: why, the identifier and the name
pub record Holder : Type 0 where
  pub reason : Option Reason
  pub sid : SidValue
  pub name : Option Dn

abbrev pub holder_line : Holder → List ℕ
holder_line h = spaced (word_text h.reason) ++ (spaced (sid_text h.sid) ++ title_text h.name)

abbrev pub holder_by : Option Reason → SidValue → Option Dn → Holder
holder_by reason sid name = record { reason = reason; sid = sid; name = name }

unfoldable pub holder_of : List ℕ → Option Holder
holder_of line =
    option_and_then (λ (first : List ℕ × List ℕ).
    option_and_then (λ (second : List ℕ × List ℕ).
    option_and_then (λ (reason : Option Reason).
    option_and_then (λ (sid : SidValue).
    option_map (λ (name : Option Dn). holder_by reason sid name) (title_in second.1))
    (sid_of_text second.0)) (word_in first.0)) (word_of first.1)) (word_of line)

pub record IsHolder (h : Holder) : Type 0 where
  pub reason : HasWord h.reason
  pub sid : IsSid h.sid
  pub name : HasTitle h.name

-- the text of who: a line each
abbrev pub holders_text : List Holder → List ℕ
holders_text holders = flat_map (λ (h : Holder). ended (holder_line h)) holders

-- ---- about what somebody is told yes

-- an object: why, and the name
pub record Held : Type 0 where
  pub reason : Reason
  pub name : Dn

abbrev pub held_line : Held → List ℕ
held_line h = spaced (reason_text h.reason) ++ dn_text h.name

abbrev pub held_by : Reason → Dn → Held
held_by reason name = record { reason = reason; name = name }

unfoldable pub held_of : List ℕ → Option Held
held_of line =
    option_and_then (λ (first : List ℕ × List ℕ).
    option_and_then (λ (reason : Reason). option_map (λ (name : Dn). held_by reason name) (dn_of first.1))
    (reason_in first.0)) (word_of line)

pub record IsHeld (h : Held) : Type 0 where
  pub reason : HasReason h.reason
  pub name : AreRdns h.name.rdns

-- the text of can: a line each
abbrev pub helds_text : List Held → List ℕ
helds_text held = flat_map (λ (h : Held). ended (held_line h)) held
