-- Which objects a token sees, by what the code looks at.
use Rattle.std.proofs.Common.{◌≡◌, ℕ, Bool, true, ◌||◌, refl, sym, ap, ◌∙◌}
use Rattle.std.proofs.lemmas.Bool.{ne_eqb}
use Rattle.ad_ids.specs.declared.token.Token.{Token}
use Rattle.ad_sd.specs.declared.parts.Sd.{Sd}
use Rattle.ad_access.specs.Visible.{sees}
use Rattle.ad_dir_model.specs.Objects.{parent_at, sd_at}
use Rattle.ad_dir_model.specs.Tree.{root}
use Rattle.ad_dir_model.specs.Identity.{self_sid}
use Rattle.ad_dir_model.specs.Settings.{list_object_mode}
use Rattle.ad_dir_model.specs.Directory.{Directory}
use Rattle.ad_access_dir.specs.Sight.{is_visible}

pub root_visible : (dir : Directory) (token : Token) (number : ℕ) → number ≡ 1 → true ≡ is_visible dir token number
unfolding is_visible
root_visible dir token number is = rw is refl

pub visible_by : (dir : Directory) (token : Token) (number parent : ℕ) (mode : Bool) (above own : Sd) (r : Bool)
    → (number ≡ 1 → ⊥) → parent ≡ parent_at dir.objects number
    → mode ≡ list_object_mode dir → above ≡ sd_at dir.objects parent → own ≡ sd_at dir.objects number
    → r ≡ sees mode above (self_sid dir parent) own (self_sid dir number) token → r ≡ is_visible dir token number
unfolding is_visible
visible_by dir token number parent mode above own r below is_parent is_mode is_above is_own is =
    is
    ∙ ap (λ (m : Bool). sees m above (self_sid dir parent) own (self_sid dir number) token) is_mode
    ∙ ap (λ (s : Sd). sees (list_object_mode dir) s (self_sid dir parent) own (self_sid dir number) token) is_above
    ∙ ap (λ (s : Sd). sees (list_object_mode dir) (sd_at dir.objects parent) (self_sid dir parent) s
    (self_sid dir number) token) is_own
    ∙ ap (λ (p : ℕ). sees (list_object_mode dir) (sd_at dir.objects p) (self_sid dir p) (sd_at dir.objects number)
    (self_sid dir number) token) is_parent
    ∙ sym (ap (λ (b : Bool). b || sees (list_object_mode dir) (sd_at dir.objects (parent_at dir.objects number))
    (self_sid dir (parent_at dir.objects number)) (sd_at dir.objects number) (self_sid dir number) token)
    (ne_eqb number root below))
