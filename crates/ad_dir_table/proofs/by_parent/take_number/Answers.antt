use Rattle.std.proofs.Common.{◌≤◌, length, ◌∙◌, sym, ap, arith}
use Rattle.std.specs.Prelude.{nat_lt}
use Rattle.std.specs.List.{position_or_len}
use Rattle.ad_dir_table.proofs.NumberLaws.{none_first, taken_before, none_before}
use Rattle.ad_dir_table.proofs.by_parent.take_number.Goals as goal

pub returns-then-place-eq0 : goal.returns-then-place-eq0
returns-then-place-eq0 c =
    none_first c.args.number 0 c.args.numbers.now.items c.requires
    (sym (ap (position_or_len (nat_lt c.args.number)) c.as_slice.ensures.value) ∙ sym c.up_to-place.ensures.place
    ∙ c.if-place-eq0.true)

pub returns-then-index-number : goal.returns-then-index-number
returns-then-index-number c =
    let within : c.up_to-place.result ≤ length c.args.numbers.now.items = let w = c.up_to-place.ensures.within
    in let e = ap length c.as_slice.ensures.value in omega (arith, w, e) in
    c.remove-was.ensures.items
    ∙ taken_before c.args.number 0 c.args.numbers.now.items c.up_to-place.result c.index.result.now c.requires within
    c.if-place-eq0.false (sym c.index.ensures ∙ c.if-index-number.true)

pub returns-else-index-number : goal.returns-else-index-number
returns-else-index-number c =
    none_before c.args.number 0 c.args.numbers.now.items c.up_to-place.result c.index.result.now c.requires
    (c.up_to-place.ensures.place ∙ ap (position_or_len (nat_lt c.args.number)) c.as_slice.ensures.value)
    c.if-place-eq0.false (λ e. c.if-index-number.false (c.index.ensures ∙ e))
