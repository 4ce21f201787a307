use Rattle.std.proofs.Common.{◌≡◌, ℕ, List, map, sym, subst}
use Rattle.ad_bytes.specs.Reading.{StartsWith}
use Rattle.ad_bytes.specs.Numbers.{SpellsBe}
use Rattle.ad_sd.specs.Normal.{SpellsNormal}
use Rattle.ad_dir_objects.specs.Seen.{held_seen}
use Rattle.ad_rows_write.specs.Body.{SpellsText, SpellsList, SpellsHeld}
use Rattle.ad_rows_write.specs.Appends.{Appends}
use Rattle.ad_rows_write.proofs.Putting.{puts_all, puts_mapped, puts_then, puts_weaker}
use Rattle.ad_rows_write.proofs.rows.object_body.Goals as goal

pub returns : goal.returns
returns c = λ of normal.
    let o = c.args.object.now in
    let sd = c.args.sd.now in
    let values = map held_seen o.values in
    let b0 = c.in_ok-body.body.items in
    let b1 = c.put4.new.into.items in
    let b2 = c.put4-2.new.into.items in
    let b3 = c.put_text.new.into.items in
    let b4 = c.put_list.new.into.items in
    let b5 = c.put_bytes.new.into.items in
    let Normal : List ℕ → Type 0 = SpellsNormal of in
    let p5 : Appends Normal b4 b5 = puts_weaker (λ (text : List ℕ). text ≡ sd) Normal b4 b5
    (λ text is. subst Normal (sym is) normal) c.in_ok-put_bytes.ensures in
    let p4 = puts_then (SpellsList SpellsHeld) values Normal b3 b4 b5
    (puts_mapped SpellsHeld held_seen c.as_slice-2.result.now o.values b3 b4 c.as_slice-2.ensures
    c.in_ok-put_list.ensures) p5 in
    let p3 = puts_then SpellsText o.name (StartsWith (SpellsList SpellsHeld) values Normal) b2 b3 b5
    (subst (λ (name : List ℕ). Appends (SpellsText name) b2 b3) c.as_slice.ensures c.in_ok-put_text.ensures) p4 in
    let p2 = puts_then (SpellsBe 4) o.class.0
    (StartsWith SpellsText o.name (StartsWith (SpellsList SpellsHeld) values Normal)) b1 b2 b5
    c.in_ok-put4-2.ensures p3 in
    let p1 = puts_then (SpellsBe 4) o.parent
    (StartsWith (SpellsBe 4) o.class.0
    (StartsWith SpellsText o.name (StartsWith (SpellsList SpellsHeld) values Normal))) b0 b1 b5
    c.in_ok-put4.ensures p2 in
    puts_all (StartsWith (SpellsBe 4) o.parent
    (StartsWith (SpellsBe 4) o.class.0
    (StartsWith SpellsText o.name (StartsWith (SpellsList SpellsHeld) values Normal)))) b5
    (subst (λ (l : List ℕ). Appends (StartsWith (SpellsBe 4) o.parent
    (StartsWith (SpellsBe 4) o.class.0
    (StartsWith SpellsText o.name (StartsWith (SpellsList SpellsHeld) values Normal)))) l b5)
    c.in_ok-body.ensures.items p1)
