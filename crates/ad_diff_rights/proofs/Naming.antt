-- What is named stays named.
use Rattle.std.proofs.Common.{List}
use Rattle.ad_ids.specs.SidValue.{SidValue}
use Rattle.ad_sd.specs.declared.parts.Sd.{Sd}
use Rattle.ad_dir_model.specs.Directory.{Directory}
use Rattle.ad_dir_model.specs.Objects.{sd_at}
use Rattle.ad_both.specs.declared.both.Both.{Both}
use Rattle.ad_diff_rights.specs.Named.{Grows, IsNamed, IsNamedBoth}

pub one_still : (old new : List SidValue) (sd : Sd) → Grows old new → IsNamed old sd → IsNamed new sd
one_still old new sd grows is = record {
  owner = grows sd.owner is.owner;
  entries = λ i d lt. grows _ (is.entries i d lt);
}

pub named_still : (before after : Directory) (old new : List SidValue) (o : Both) → Grows old new
    → IsNamedBoth before after old o → IsNamedBoth before after new o
named_still before after old new o grows is = record {
  first = one_still old new (sd_at before.objects o.before) grows is.first;
  second = one_still old new (sd_at after.objects o.after) grows is.second;
}
