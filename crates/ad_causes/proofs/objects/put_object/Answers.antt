use Rattle.std.proofs.Common.{◌≡◌, ◌∙◌, ◌++◌, ℕ, List, codes, sym, ap}
use Rattle.std.proofs.lemmas.Result.{on_ok_weaker}
use Rattle.ad_sd.specs.declared.parts.Sd.{Sd}
use Rattle.ad_sd.specs.Seen.{seen}
use Rattle.ad_dn.specs.Text.{dn_text}
use Rattle.ad_dir_model.specs.Objects.{sd_at}
use Rattle.ad_causes.specs.Extra.{texts}
use Rattle.ad_causes.specs.Cause.{name_at}
use Rattle.ad_causes.specs.Causes.{class_name, primary_text, history_texts}
use Rattle.ad_causes.specs.Steps.{descriptors_text, changed_text, history_text}
use Rattle.ad_causes.proofs.TextLemmas.{joins, object_is}
use Rattle.ad_causes.proofs.objects.put_object.Goals as goal

pub returns : goal.returns
returns c =
    let before = c.args.before.now in
    let after = c.args.after.now in
    let o = c.args.o in
    let name = dn_text (name_at after o.after) in
    let named : c.as_slice-name.result.now ≡ name = c.as_slice-name.ensures.value ∙ c.in_ok-name.ensures in
    let was = sd_at before.objects o.before in
    let is = sd_at after.objects o.after in
    let old = c.args.into.now.items in
    let first = c.put_descriptors.new.into.items in
    let second = c.put_changed.new.into.items in
    let third = c.put_changed-2.new.into.items in
    let last = c.put_history.new.into.items in
    let lists = descriptors_text name was is in
    let classes = changed_text (codes "class ") name (class_name before o.before) (class_name after o.after) in
    let primaries = changed_text (codes "primary ") name (primary_text before o.before) (primary_text after o.after) in
    let histories = history_text name (history_texts before o.before) (history_texts after o.after) in
    let one : first ≡ old ++ lists =
    c.in_ok-put_descriptors.ensures
    ∙ ap (λ (n : List ℕ). old ++ descriptors_text n (seen c.live_sd.result) (seen c.live_sd-2.result)) named
    ∙ ap (λ (sd : Sd). old ++ descriptors_text name sd (seen c.live_sd-2.result)) c.live_sd.ensures
    ∙ ap (λ (sd : Sd). old ++ descriptors_text name was sd) c.live_sd-2.ensures in
    let two : second ≡ first ++ classes =
    c.in_ok-put_changed.ensures
    ∙ ap (λ (n : List ℕ). first ++ changed_text (codes "class ") n c.class_name.result.now c.class_name-2.result.now)
    named
    ∙ ap (λ (t : List ℕ). first ++ changed_text (codes "class ") name t c.class_name-2.result.now) c.class_name.ensures
    ∙ ap (λ (t : List ℕ). first ++ changed_text (codes "class ") name (class_name before o.before) t)
    c.class_name-2.ensures in
    let three : third ≡ second ++ primaries =
    c.in_ok-put_changed-2.ensures
    ∙ ap (λ (n : List ℕ). second ++ changed_text (codes "primary ") n c.primary_of.result.now c.primary_of-2.result.now)
    named
    ∙ ap (λ (t : List ℕ). second ++ changed_text (codes "primary ") name t c.primary_of-2.result.now) c.primary_of.ensures
    ∙ ap (λ (t : List ℕ). second ++ changed_text (codes "primary ") name (primary_text before o.before) t)
    c.primary_of-2.ensures in
    on_ok_weaker c.put_history.result
    (λ told.
    let four : last ≡ third ++ histories =
    told
    ∙ ap (λ (n : List ℕ). third ++ history_text n (texts c.as_slice.result.now) (texts c.as_slice-2.result.now)) named
    ∙ ap (λ (t : List (List ℕ)). third ++ history_text name t (texts c.as_slice-2.result.now))
    (ap texts c.as_slice.ensures.value ∙ c.in_ok-had.ensures)
    ∙ ap (λ (t : List (List ℕ)). third ++ history_text name (history_texts before o.before) t)
    (ap texts c.as_slice-2.ensures.value ∙ c.in_ok-has.ensures) in
    joins old first lists (classes ++ (primaries ++ histories)) last one
    (joins first second classes (primaries ++ histories) last two
    (joins second third primaries histories last three four))
    ∙ ap (λ (t : List ℕ). old ++ t) (sym (object_is before after o)))
    c.put_history.ensures
