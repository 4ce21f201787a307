use Rattle.std.proofs.Common.{rules}
use Rattle.std.proofs.lemmas.List.Sorted.{answers_always}
use Rattle.ad_rows_sound.proofs.Finds.{Entry}
use Rattle.ad_rows_sound.proofs.Searched.{Searched, searched}
use Rattle.ad_rows_sound.proofs.finding.place_of.Goals as goal

-- the closure gives an entry's number
by_number : (c : goal.After-binary_search_by_key) → Searched c.args.objects.now c.args.number
    c.binary_search_by_key.result
by_number c =
    let facts = c.binary_search_by_key.ensures in
    let by_key = facts.position (λ (e : Entry). e.0.number) (answers_always _ _ _ (λ f a r g called. search rules)) in
    searched c.args.objects.now c.args.number c.requires _ facts.bound by_key

pub returns-clause-found : goal.returns-clause-found
returns-clause-found c = (by_number c).found

pub returns-clause-absent : goal.returns-clause-absent
returns-clause-absent c = (by_number c).absent
