-- What a line asks for, part by part, and what becomes of the lists.
use Rattle.std.proofs.Common.{◌≡◌, ℕ, true, List, Ok, refl, sym, subst, inl, inr}
use Rattle.std.specs.Prelude.{◌==◌}
use Rattle.std.proofs.lemmas.Bool.{cases_Bool, eq-eqb, both_ways}
use Rattle.std.proofs.lemmas.Bool.{eqb-true}
use Rattle.ad_dir_model.specs.Directory.{Directory}
use Rattle.ad_dir_model.specs.Identity.{domain_sid}
use Rattle.ad_ldifmod.specs.declared.change.Change.{Change}
use Rattle.ad_ldifmod.specs.declared.fault.GrantKind.TheVariants as kind
use Rattle.ad_ldifmod.specs.Lines.{Parts, parts_of}
use Rattle.ad_ldifmod.specs.Changes.{change_of}
use Rattle.ad_ldifmod.specs.Lists.{Lists, Step, or_bad, number_named, step_of, changed_list, after_step, after_if}
use Rattle.ad_ldifmod.specs.Messages.{message_of}
use Rattle.ad_ldifmod.specs.Grants.{message_by}
use Rattle.ad_ldifmod.specs.Steps.{IsChanged}
use Rattle.ad_ldifmod.specs.Taken.{ListCache, lists_in}

-- what the parts of a line represent
pub record Reached (dir : Directory) (line : List ℕ) (parts : Parts) (change : Change) (number : ℕ) : Type 0 where
  pub parts_are : or_bad kind.Form (parts_of line) ≡ Ok parts
  pub change_is : or_bad kind.Entry (change_of (domain_sid dir) parts.verb parts.what) ≡ Ok change
  pub number_is : or_bad kind.Name (number_named dir parts.name) ≡ Ok number

abbrev asked : Parts → Change → ℕ → Step
asked parts change number = record { number = number; change = change; name = parts.name }

pub step_is : (dir : Directory) (line : List ℕ) (parts : Parts) (change : Change) (number : ℕ)
    → Reached dir line parts change number
    → step_of dir line ≡ Ok (asked parts change number)
unfolding step_of
step_is dir line parts change number is = rw is.parts_are (rw is.change_is (rw is.number_is refl))

same_number : (n : ℕ) → (n == n) ≡ true
same_number n = eq-eqb n n refl

pub message_is : (dir : Directory) (lists : Lists) (id : ℕ) (line : List ℕ) (parts : Parts) (change : Change)
    (number : ℕ) → Reached dir line parts change number
    → message_by dir lists id line ≡ message_of id parts.name (changed_list change (lists number))
unfolding message_by
message_is dir lists id line parts change number is = rw (step_is dir line parts change number is)
    (rw (same_number number) refl)

-- the list of the one object is another one, and no other
changed_at : (dir : Directory) (old new : ListCache) (number : ℕ) (change : Change) (name : List ℕ)
    → IsChanged dir old new number change
    → (n : ℕ) → lists_in dir new n ≡ after_step (record { number = number; change = change; name = name })
    (lists_in dir old) n
changed_at dir old new number change name is n = elim (cases_Bool (n == number)) [
  | inl same ↦ (let at = eqb-true n number same
      in rw same (subst (λ (k : ℕ). lists_in dir new k ≡ changed_list change (lists_in dir old k)) (sym at) is.here))
  | inr other ↦ rw other (is.others n (λ at. both_ways (n == number) other (eq-eqb n number at)))
]

pub lists_are : (dir : Directory) (old new : ListCache) (line : List ℕ) (parts : Parts) (change : Change) (number : ℕ)
    → Reached dir line parts change number
    → IsChanged dir old new number change → lists_in dir new ≡ after_if (step_of dir line) (lists_in dir old)
lists_are dir old new line parts change number is changed =
    rw (step_is dir line parts change number is) (λ i n. changed_at dir old new number change parts.name changed n i)
