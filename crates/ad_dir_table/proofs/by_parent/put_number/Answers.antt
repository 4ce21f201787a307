use Rattle.std.proofs.Common.{ℕ, ◌∙◌, sym, ap}
use Rattle.std.specs.Prelude.{insert, nat_lt}
use Rattle.std.specs.List.{position_or_len}
use Rattle.ad_dir_table.proofs.NumberLaws.{put_is}
use Rattle.ad_dir_table.proofs.by_parent.put_number.Goals as goal

pub returns : goal.returns
returns c =
    let place = c.up_to-place.ensures.place ∙ ap (position_or_len (nat_lt c.args.number)) c.as_slice.ensures.value in
    c.in-Ok.ensures.items ∙ ap (λ (i : ℕ). insert c.args.numbers.now.items i c.args.number) place
    ∙ sym (put_is c.args.number c.args.numbers.now.items)
