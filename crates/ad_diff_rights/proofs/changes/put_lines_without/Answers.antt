use Rattle.std.proofs.Common.{◌≡◌, ◌∙◌, ◌++◌, ℕ, zero, suc, List, [], ◌∷◌, take, drop, OnOk, ap, refl, subst}
use Rattle.std.specs.Prelude.{Vec}
use Rattle.std.specs.declared.alloc.Global.{Global}
use Rattle.std.proofs.lemmas.List.{append_assoc}
use Rattle.ad_diff_rights.specs.Changes.{line_unless, lines_without}
use Rattle.ad_diff_rights.specs.Steps.{texts}
use Rattle.ad_diff_rights.proofs.changes.put_lines_without.Goals as goal

-- the lines of those up to a place, and then of those from there on
parted : (sign : List ℕ) (others : List (List ℕ)) (count : ℕ) (all : List (Vec ℕ Global))
    → lines_without sign (texts (take count all)) others ++ lines_without sign (texts (drop count all)) others
    ≡ lines_without sign (texts all) others
unfolding lines_without
parted sign others zero all = refl
parted sign others (suc count) [] = refl
parted sign others (suc count) (one ∷ more) =
    append_assoc (line_unless sign others one.items) (lines_without sign (texts (take count more)) others)
    (lines_without sign (texts (drop count more)) others)
    ∙ ap (λ (lines : List ℕ). line_unless sign others one.items ++ lines) (parted sign others count more)

pub returns : goal.returns
returns c =
    let put = λ (all : List (Vec ℕ Global)). lines_without c.args.sign.now (texts all) (texts c.args.others.now) in
    let first = take c.in_ok-count.count c.args.granted.now in
    let rest = drop c.in_ok-count.count c.args.granted.now in
    subst (λ (lines : List ℕ). OnOk c.put_lines_by_table.result (c.put_lines_by_table.new.into.items ≡ lines))
    (ap (λ (lines : List ℕ). lines ++ put c.labels_from.result.now) c.in_ok-count.ensures
    ∙ ap (λ (all : List (Vec ℕ Global)). (c.args.into.now.items ++ put first) ++ put all) c.labels_from.ensures
    ∙ append_assoc c.args.into.now.items (put first) (put rest)
    ∙ ap (λ (lines : List ℕ). c.args.into.now.items ++ lines)
    (parted c.args.sign.now (texts c.args.others.now) c.in_ok-count.count c.args.granted.now))
    c.put_lines_by_table.ensures
