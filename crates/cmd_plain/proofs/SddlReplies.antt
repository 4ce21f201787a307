-- What a text is answered with.
use Rattle.std.proofs.Common.{◌≡◌, inl, inr, ℕ, ◌+◌, ◌-◌, ◌<◌, ◌≤◌, ◌++◌, Bool, true, false, if◌then◌else◌, List}
use Rattle.std.proofs.Common.{length, take, Option, None, Some, Ok, Err, Result, sym, ap, ◌∙◌, arith}
use Rattle.std.specs.Prelude.{codes}
use Rattle.std.proofs.lemmas.List.{length-take-le}
use Rattle.site_io.specs.Told.{BothTold}
use Rattle.ad_acl.specs.declared.write_fault.AclWriteFault.TheVariants.{TooLong}
use Rattle.ad_sd.specs.declared.parts.SdParts.{SdParts}
use Rattle.ad_sd.specs.Writing.{written}
use Rattle.ad_sddl.specs.declared.fault.SddlKind.{SddlKind}
use Rattle.ad_sddl.specs.declared.fault.SddlFault.{SddlFault}
use Rattle.ad_sddl.specs.declared.fault.SddlFault.TheVariants.{Bad}
use Rattle.ad_sddl.specs.Grammar.{SpellsSddl}
use Rattle.ad_sddl.specs.Reading.{read_of}
use Rattle.cmd_plain.specs.Sddl.{limit, ends_a_line, text_of, NoDescriptorText, RefusesText, NoText, Refuses, word_of}
use Rattle.cmd_plain.specs.Sddl.{refusal, IsRefusedSo, IsPartlyEmitted}

length_without : (ends : Bool) (input : List ℕ) → limit + 1 < length input → limit
    < length (if ends then take (length input - 1) input else input)
length_without true input above =
    let shorter = length-take-le (length input - 1) input (omega arith) in
    omega (arith, shorter)
length_without false input above = omega (arith, above)

pub is_long : (input : List ℕ) → limit + 1 < length input → limit < length (text_of input)
unfolding text_of
is_long input above = length_without (ends_a_line input) input above

pub long_refused : (text line : List ℕ) → limit < length text → line ≡ refusal (codes "long") limit
    → NoDescriptorText text × RefusesText text line
long_refused text line above line_is = (
  (λ d. omega (arith, above, d.2.within)),
  inl
      (record { above = above; line_is = line_is }),
)

pub bad_refused : (text line word : List ℕ) (fault : SddlKind) (place : ℕ) → length text ≤ limit
    → ((parts : SdParts) → SpellsSddl None parts text → ◌≡◌ {A = Result SdParts SddlFault} (Ok parts)
    (Err (Bad place fault))) → read_of None text ≡ Err (Bad place fault) → word ≡ word_of fault → line
    ≡ refusal word place → NoDescriptorText text × RefusesText text line
bad_refused text line word fault place within only first word_is line_is = (
  (λ d. let both = only d.0 d.2.spelled in absurd cc),
  inr
      (inl (record {
        within = within;
        fault = fault;
        place = place;
        stands_first = first;
        line_is = line_is
            ∙ ap (λ (w : List ℕ). refusal w place) word_is;
      })),
)

pub list_refused : (text line : List ℕ) (parts : SdParts) → length text ≤ limit → SpellsSddl None parts text
    → ((others : SdParts) → SpellsSddl None others text → ◌≡◌ {A = Result SdParts SddlFault} (Ok others) (Ok parts))
    → written parts ≡ Err TooLong → line ≡ refusal (codes "long") (length text) → NoDescriptorText text
    × RefusesText text line
list_refused text line parts within spelled only long line_is = (
  (λ d.
      let same : d.0 ≡ parts = cc (only d.0 d.2.spelled) in
      let fits : written parts ≡ Ok d.1 = sym (ap written same) ∙ d.2.written_so in
      absurd cc),
  inr (inr (record { within = within; parts = parts; spelled = spelled; too_long = long; line_is = line_is })),
)

-- ---- what is emitted

pub refused_so : (rest left before after : Option (List ℕ)) (line bytes : List ℕ)
    → BothTold rest left (λ input behind. Unit {0} × (NoText input × Refuses input line)) → bytes ≡ line
    → BothTold before after (λ old new. new ≡ old ++ bytes) → IsRefusedSo rest left before after
refused_so None None before after line bytes r same e = tt
refused_so (Some input) (Some behind) None None line bytes r same e = (r.1.0, tt)
refused_so (Some input) (Some behind) (Some old) (Some new) line bytes r same e
    = (r.1.0, (line, r.1.1, e ∙ ap (λ (l : List ℕ). old ++ l) same))
refused_so None (Some behind) before after line bytes r same e = absurd r
refused_so (Some input) None before after line bytes r same e = absurd r
refused_so (Some input) (Some behind) None (Some new) line bytes r same e = absurd e
refused_so (Some input) (Some behind) (Some old) None line bytes r same e = absurd e

pub front_refused : (rest left before after : Option (List ℕ)) (line bytes : List ℕ)
    → BothTold rest left (λ input behind. Unit {0} × (NoText input × Refuses input line)) → bytes ≡ line
    → BothTold before after (λ old new. (n : ℕ) × (new ≡ old ++ take n bytes)) → IsPartlyEmitted rest left before
    after
front_refused None None before after line bytes r same e = tt
front_refused (Some input) (Some behind) None None line bytes r same e = tt
front_refused (Some input) (Some behind) (Some old) (Some new) line bytes r same e
    = (line, inr r.1.1, e.0, e.1 ∙ ap (λ (l : List ℕ). old ++ take e.0 l) same)
front_refused None (Some behind) before after line bytes r same e = absurd r
front_refused (Some input) None before after line bytes r same e = absurd r
front_refused (Some input) (Some behind) None (Some new) line bytes r same e = absurd e
front_refused (Some input) (Some behind) (Some old) None line bytes r same e = absurd e
