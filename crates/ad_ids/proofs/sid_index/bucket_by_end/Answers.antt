use Rattle.std.proofs.Common.{◌≡◌, ◌-◌, ℕ, List, [], ◌∷◌, length, get_or, refl, ap, ◌∙◌, arith}
use Rattle.std.proofs.lemmas.Bool.Decides.{nat_tests}
use Rattle.ad_ids.specs.SidIndex.{bucket_by_end, bucket_of_word}
use Rattle.ad_ids.proofs.sid_index.bucket_by_end.Goals as goal

of_none : (words : List ℕ) → length words ≡ 0 → 0 ≡ bucket_of_word (get_or words (length words - 1) 0)
of_none [] e = refl
of_none (word ∷ words) e = absurd (omega (arith, e))

pub returns-then-is_empty-clause-value : goal.returns-then-is_empty-clause-value
unfolding bucket_by_end
returns-then-is_empty-clause-value c =
    let none : length c.sub_authorities-words.result.now ≡ 0
    = grind (arith, nat_tests, c.if-is_empty.true, c.is_empty.ensures) in
    of_none c.sub_authorities-words.result.now none
    ∙ ap (λ (words : List ℕ). bucket_of_word (get_or words (length words - 1) 0)) c.sub_authorities-words.ensures

pub returns-clause-value : goal.returns-clause-value
unfolding bucket_by_end
returns-clause-value c = c.bucket_of_word.ensures.value
    ∙ ap (λ (words : List ℕ). bucket_of_word (get_or words (length words - 1) 0)) c.sub_authorities-words.ensures
