use Rattle.std.proofs.Common.{◌≡◌, ◌∙◌, Bool, true, false, List, Some, map, ap}
use Rattle.ad_ids.specs.declared.token.Token.{Token}
use Rattle.ad_rights_rows.proofs.bases.put_ends.Goals as goal

pub returns-clause-judged : goal.returns-clause-judged
returns-clause-judged c =
    c.in_ok-everybody.ensures.judged c.args.dir.now c.args.tokens.now.all.items
    (c.in_ok-nobody.ensures.judged c.args.dir.now c.args.tokens.now.all.items c.requires.judged)

pub returns-clause-ends : goal.returns-clause-ends
returns-clause-ends c =
    let tokens = c.args.tokens.now.all.items in
    record {
      nobody = c.in_ok-everybody.ensures.kept c.in_ok-nobody.nobody (map (λ (t : Token). false) tokens)
          (c.in_ok-nobody.ensures.place ∙ ap (λ (l : List Bool). Some l) c.in_ok-all_or_none.ensures);
      everybody = c.in_ok-everybody.ensures.place ∙ ap (λ (l : List Bool). Some l) c.in_ok-all_or_none-2.ensures;
    }
