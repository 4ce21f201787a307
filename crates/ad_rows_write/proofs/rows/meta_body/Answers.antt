use Rattle.std.proofs.Common.{List, ℕ, subst, ◌∙◌}
use Rattle.ad_bytes.specs.Reading.{StartsWith}
use Rattle.ad_bytes.specs.Numbers.{SpellsBe}
use Rattle.ad_dn.specs.Text.{rdns_text}
use Rattle.ad_rows_write.specs.Body.{SpellsText, SpellsName}
use Rattle.ad_rows_write.specs.Appends.{Appends}
use Rattle.ad_rows_write.proofs.Putting.{puts_then, puts_all}
use Rattle.ad_rows_write.proofs.rows.meta_body.Goals as goal

pub returns : goal.returns
returns c =
    let meta = c.args.meta.now in
    let above = rdns_text meta.suffix.rdns in
    let b0 = c.new-body.result.items in
    let b1 = c.put4.new.into.items in
    let b2 = c.put4-2.new.into.items in
    let b3 = c.put_text.new.into.items in
    let p3 : Appends (SpellsText above) b2 b3 = subst (λ (text : List ℕ). Appends (SpellsText text) b2 b3)
    (c.deref.ensures.value ∙ c.in_ok-suffix.ensures.written) c.in_ok-put_text.ensures in
    let name : Appends (SpellsName meta.suffix.rdns) b2 b3 = (p3.0, (c.has_form.ensures, p3.1), p3.2) in
    let Behind : List ℕ → Type 0 = StartsWith (SpellsBe 4) meta.next_rid (SpellsName meta.suffix.rdns) in
    let p2 = puts_then (SpellsBe 4) meta.next_rid (SpellsName meta.suffix.rdns) b1 b2 b3 c.in_ok-put4-2.ensures name in
    let p1 = puts_then (SpellsBe 4) meta.next_number Behind b0 b1 b3 c.in_ok-put4.ensures p2 in
    puts_all (StartsWith (SpellsBe 4) meta.next_number Behind) b3
    (subst (λ (l : List ℕ). Appends (StartsWith (SpellsBe 4) meta.next_number Behind) l b3) c.new-body.ensures.items p1)
