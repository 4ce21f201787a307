use Rattle.std.proofs.Common.{◌≡◌, ◌∙◌, ℕ, ◌+◌, List, ◌++◌, ◌∷◌, [], length, length-append, ap, refl, arith}
use Rattle.std.specs.Prelude.{slice_index}
use Rattle.ad_control.specs.Lines.{told_below, number_of}
use Rattle.ad_control_lines.proofs.Counting.{told_few, told_more, numbers_more}
use Rattle.ad_control_lines.proofs.numbers.numbers_of.Goals as goal

pub loop-x-init : goal.loop-x-init
unfolding told_below
loop-x-init c = record {
  long = ap (λ (l : List ℕ). length l) c.in_ok-numbers.ensures.items;
  told = refl;
  each = λ y low. absurd (omega (arith, low));
}

pub overflow_add-told : goal.overflow_add-told
overflow_add-told c = let few = told_few c.args.ways.now c.loop-x.x in omega (arith, few)

pub overflow_add-told-in-loop-x : goal.overflow_add-told-in-loop-x
overflow_add-told-in-loop-x c =
    let few = told_few c.args.ways.now (c.loop-x.x + 1) in
    let more = told_more c.args.ways.now c.loop-x.x in
    omega (arith, few, more)

pub loop-x-preserved : goal.loop-x-preserved
loop-x-preserved c =
    let more = told_more c.args.ways.now c.loop-x.x in
    let put : c.push.new.self.items ≡ c.loop-x.numbers.items ++ number_of c.args.ways.now c.loop-x.x ∷ []
    = c.in_ok-push.ensures.items
    ∙ ap (λ (told : ℕ). c.loop-x.numbers.items ++ (told + 1) ∷ []) c.loop-x.invariant.told in
    record {
      long = ap (λ (l : List ℕ). length l) put
          ∙ length-append c.loop-x.numbers.items (number_of c.args.ways.now c.loop-x.x ∷ [])
          ∙ ap (λ (n : ℕ). n + 1) c.loop-x.invariant.long;
      told = omega (arith, more);
      each = λ y low. ap (λ (l : List ℕ). slice_index l y) put
          ∙ numbers_more c.args.ways.now c.loop-x.numbers.items c.loop-x.x c.loop-x.invariant.long
          c.loop-x.invariant.each y low;
    }
