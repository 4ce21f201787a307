use Rattle.std.proofs.Common.{◌≡◌, ◌∙◌, Bool, true, false, List, ℕ, Bor, bytes_eq, refl, sym, ap}
use Rattle.std.specs.Prelude.{◌||◌, if◌then◌else◌}
use Rattle.std.specs.Cmp.Lexicographic.{nat_list_eq_equiv}
use Rattle.indexmap.specs.IndexSet.{contains_by}
use Rattle.ad_diff_rights.proofs.sought.enter.Goals as goal

or_of : (new old : Bool) → (if new then true else old) ≡ (old || new)
or_of true true = refl
or_of true false = refl
or_of false true = refl
or_of false false = refl

pub returns : goal.returns
returns c = λ label.
    let old = contains_by (λ (key : Bor (List ℕ)). bytes_eq label key.now) c.args.table.now in
    c.in_ok-insert.ensures.updates.0 (record { ref_ptr = (0, 0); now = label })
    ∙ or_of (bytes_eq c.args.label.now label) old
    ∙ ap (λ (is : Bool). old || is) (sym (nat_list_eq_equiv.symm label c.args.label.now))
