use Rattle.ad_sets.proofs.Reading.{read_back, nobody_read}
use Rattle.ad_sets.proofs.told.what_is_told_gives_who_is_granted.Goals as goal

pub returns : goal.returns
returns c = record {
  told = λ rows place member row apart there. read_back rows place member row apart there;
  untold = λ rows object member own others. nobody_read rows object member own others;
}
