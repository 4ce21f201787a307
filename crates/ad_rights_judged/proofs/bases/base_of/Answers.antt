use Rattle.ad_sets.specs.Sets.{sets_of}
use Rattle.ad_rights_judged.proofs.Keeping.{bases_more}
use Rattle.ad_rights_judged.proofs.bases.base_of.Goals as goal

pub returns-clause-known : goal.returns-clause-known
returns-clause-known c =
    bases_more c.args.dir.now c.args.tokens.now.all.items (sets_of c.args.sets.now) (sets_of c.judge.new.sets)
    c.args.bases.now.known.items c.note.new.bases.known.items _ c.in_ok-place.ensures.kept c.requires.known
    c.requires.live c.in_ok-place.ensures.place c.in_ok-note.ensures
