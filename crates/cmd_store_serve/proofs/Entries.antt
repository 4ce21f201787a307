-- The entries among the messages of a reply, message by message.
use Rattle.std.proofs.Common.{◌≡◌, ◌∙◌, ℕ, suc, ◌+◌, ◌≤◌, Bool, true, false, List, Ok, Err, ap, arith}
use Rattle.ad_bytes.specs.Reading.{Reading}
use Rattle.ad_ber.specs.Reading.{element_at}
use Rattle.ad_ber.specs.declared.finding.Tagged.{Tagged}
use Rattle.ad_ber.specs.declared.fault.BerFault.{BerFault}
use Rattle.cmd_store_serve.specs.Answers.{operation_of, is_entry, one_if, with_message, entries_within}

pub entries_more : (n k : ℕ) (bytes behind : List ℕ) (m : Tagged) → n ≡ suc k → element_at bytes ≡ Ok (m, behind)
    → entries_within n bytes ≡ one_if (is_entry (operation_of m.body)) + entries_within k behind
unfolding entries_within
entries_more n k bytes behind m is e =
    ap (λ (j : ℕ). entries_within j bytes) is
    ∙ ap (λ (r : Reading Tagged BerFault). with_message r (entries_within k)) e

pub entries_end : (n k : ℕ) (bytes : List ℕ) (d : BerFault) → n ≡ suc k → element_at bytes ≡ Err d
    → entries_within n bytes ≡ 0
unfolding entries_within
entries_end n k bytes d is e = ap (λ (j : ℕ). entries_within j bytes) is
    ∙ ap (λ (r : Reading Tagged BerFault). with_message r (entries_within k)) e

pub entries_none : (n : ℕ) (bytes : List ℕ) → n ≡ 0 → entries_within n bytes ≡ 0
unfolding entries_within
entries_none n bytes is = ap (λ (j : ℕ). entries_within j bytes) is

pub one_small : (b : Bool) → one_if b ≤ 1
one_small true = omega arith
one_small false = omega arith
