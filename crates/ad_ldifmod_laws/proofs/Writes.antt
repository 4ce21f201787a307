-- An object whose DACL is written: its explicit part gets the list, and nothing else of what is explicit changes.
use Rattle.std.proofs.Common.{◌≡◌, ℕ, ◌<◌, true, Some, refl, sym, ap, subst, ◌∙◌, inl, inr}
use Rattle.std.proofs.lemmas.Bool.{cases_Bool, eqb-true, eqb-false}
use Rattle.std.specs.Prelude.{nat_eq}
use Rattle.ad_sd.specs.declared.parts.AceList.{AceList}
use Rattle.ad_sd.specs.declared.parts.Sd.{Sd}
use Rattle.ad_inherit.specs.Whole.{explicit_list, explicit_part}
use Rattle.ad_inherit.proofs.Wholes.{explicit_part-whole}
use Rattle.ad_dir_model.specs.Object.{Object}
use Rattle.ad_dir_model.specs.Objects.{Rise, object_of, is_live, object_at, sd_at, put}
use Rattle.ad_dir_model.specs.Tree.{root}
use Rattle.ad_dir_model.specs.Directory.{Directory}
use Rattle.ad_dir_model.specs.Inheritance.{whole_at, stored, written, settled, guid_at}
use Rattle.ad_dir_model.proofs.Finding.{of-live, at_number, live_above, rise_put, at-put_same, at-put_other}
use Rattle.ad_dir_model.proofs.Inheriting.{explicit-explicit, whole_below, whole_root}
use Rattle.ad_ldifmod_laws.specs.Keeping.{with_dacl, with_list}
use Rattle.ad_ldifmod_laws.proofs.Names.{IsLike, rest_put}

-- what is explicit of a descriptor that should be had is what is explicit of the own one
explicit_whole : (dir : Directory) (o : Object) → explicit_part (whole_at dir o) ≡ explicit_part o.sd
explicit_whole dir o = elim (cases_Bool (nat_eq o.number root)) [
  | inl is ↦ ap explicit_part (whole_root dir o (eqb-true o.number root is)) ∙ explicit-explicit o.sd
  | inr other ↦
      ap explicit_part (whole_below dir o (eqb-false o.number root other))
      ∙ explicit_part-whole (sd_at dir.objects o.parent) o.sd (guid_at dir.schema o.class)
]

explicit_with : (list : AceList) (sd : Sd) → explicit_part (with_dacl list sd) ≡ with_dacl (explicit_list list)
    (explicit_part sd)
unfolding explicit_part
explicit_with list sd = refl

-- what a write of a live object's list makes
pub record IsGiven (dir now : Directory) (number : ℕ) (list : AceList) : Type 0 where
  pub like : IsLike dir now
  pub rise : Rise now.objects
  pub here : explicit_part (sd_at now.objects number) ≡ with_dacl (explicit_list list)
      (explicit_part (sd_at dir.objects number))
  pub others : (n : ℕ) → (number ≡ n → ⊥) → object_at now.objects n ≡ object_at dir.objects n

pub is_given : (dir : Directory) (number : ℕ) (list : AceList) → Rise dir.objects → is_live dir.objects number ≡ true
    → IsGiven dir (written dir (with_list list (object_at dir.objects number))) number list
unfolding written stored
is_given dir number list rise live =
    let o : Object = object_at dir.objects number in
    let given : Object = with_list list o in
    let p : Object = settled dir given in
    let same : p.number ≡ number = at_number dir.objects number live in
    let found : object_of dir.objects p.number ≡ Some o = ap (object_of dir.objects) same ∙ of-live dir.objects number
    live in
    let above : 0 < p.number = subst (λ (n : ℕ). 0 < n) (sym same) (live_above 0 dir.objects number rise live) in
    let at_number_of : object_at (put p dir.objects) number ≡ p = ap (object_at (put p dir.objects)) (sym same)
    ∙ at-put_same p dir.objects in
    record {
      like = record { schema = refl; meta = refl; rest = rest_put 0 p o dir.objects rise found refl };
      rise = rise_put 0 p dir.objects rise above;
      here = ap (λ (x : Object). explicit_part x.sd) at_number_of ∙ explicit_whole dir given ∙ explicit_with list o.sd;
      others = λ n differ. at-put_other p dir.objects n (λ e. differ (sym same ∙ e));
    }
