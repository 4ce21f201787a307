use Rattle.std.proofs.Common.{◌≡◌, ◌++◌, drop, map}
use Rattle.std.specs.Prelude.{filter}
use Rattle.ad_ldap.specs.MessageValue.{search_seen}
use Rattle.ad_dir_objects.specs.Seen.{held_seen}
use Rattle.ad_dir_model.specs.Object.{Held}
use Rattle.ad_entries.specs.Places.{is_given_at}
use Rattle.ad_entries.specs.Judged.{IsJudgedOf}
use Rattle.ad_entries.proofs.places.push_held.Given as goal

-- those so far and those that are left are all, and what was judged is so
abbrev pub invariant-each : goal.invariant-each
invariant-each l =
    let dir = l.asking.dir.now in
    let token = l.asking.token.now in
    let search = search_seen l.asking.search.now in
    (l.places.items ++ filter (is_given_at dir token l.number search)
    (drop l.held-index (map (λ (held : Held). held.attr) (map held_seen l.values)))
    ≡ l.fn.places.items ++ filter (is_given_at dir token l.number search)
    (map (λ (held : Held). held.attr) (map held_seen l.values)))
    × IsJudgedOf dir token search l.number l.one
