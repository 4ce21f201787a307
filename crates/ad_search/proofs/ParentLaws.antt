-- Where list-object mode is off, all below one parent is seen or nothing is.
use Rattle.std.proofs.Common.{◌≡◌, ℕ, Bool, false, ◌||◌, sym, ap, ◌∙◌}
use Rattle.std.specs.Prelude.{◌≢◌}
use Rattle.std.proofs.lemmas.Bool.{ne_eqb}
use Rattle.ad_ids.specs.declared.token.Token.{Token}
use Rattle.ad_access.specs.Visible.{grants_on_object, sees}
use Rattle.ad_dir_model.specs.Objects.{parent_at, sd_at}
use Rattle.ad_dir_model.specs.Tree.{root}
use Rattle.ad_dir_model.specs.Identity.{self_sid}
use Rattle.ad_dir_model.specs.Settings.{list_object_mode}
use Rattle.ad_dir_model.specs.Directory.{Directory}
use Rattle.ad_access_dir.specs.Sight.{is_visible}

by_parent : (dir : Directory) (token : Token) (n : ℕ) → list_object_mode dir ≡ false → n ≢ root
    → is_visible dir token n ≡ (grants_on_object (sd_at dir.objects (parent_at dir.objects n)) token
    (self_sid dir (parent_at dir.objects n)) 2 || false)
unfolding is_visible
by_parent dir token n off below =
    let parent = parent_at dir.objects n in
    ap (λ (b : Bool). b || sees (list_object_mode dir) (sd_at dir.objects parent) (self_sid dir parent)
    (sd_at dir.objects n) (self_sid dir n) token) (ne_eqb n root below)
    ∙ ap (λ (m : Bool). sees m (sd_at dir.objects parent) (self_sid dir parent) (sd_at dir.objects n) (self_sid dir n)
    token) off

-- what is seen of one object below a parent is seen of each
pub kept_so : (dir : Directory) (token : Token) (n parent : ℕ) (shows : Bool) → list_object_mode dir ≡ false
    → n ≢ root → parent_at dir.objects n ≡ parent → is_visible dir token n ≡ shows
    → (m : ℕ) → m ≢ root → parent_at dir.objects m ≡ parent → is_visible dir token m ≡ shows
kept_so dir token n parent shows off below is_parent is m below_m is_parent_m =
    by_parent dir token m off below_m
    ∙ ap (λ (p : ℕ). grants_on_object (sd_at dir.objects p) token (self_sid dir p) 2 || false)
    (is_parent_m ∙ sym is_parent)
    ∙ sym (by_parent dir token n off below)
    ∙ is
