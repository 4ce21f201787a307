use Rattle.std.proofs.Common.{length, ap}
use Rattle.ad_entries.specs.Given.{made_seen}
use Rattle.ad_search.proofs.StepLaws.{stops, joins, stops_counted, joins_counted}
use Rattle.ad_search.proofs.joining.join.Goals as goal

pub returns-in-Some-clause-steps : goal.returns-in-Some-clause-steps
returns-in-Some-clause-steps c = λ id.
    stops id c.args.size c.args.joined.now (made_seen c.args.made.now) c.in-Some.code (length c.as_slice.result.now)
    (length c.as_slice-2.result.now) (ap length c.as_slice.ensures.value) (ap length c.as_slice-2.ensures.value)
    c.in-Some.ensures

pub returns-in-Some-clause-counts : goal.returns-in-Some-clause-counts
returns-in-Some-clause-counts c =
    stops_counted c.args.size c.args.joined.now (made_seen c.args.made.now) c.in-Some.code
    (length c.as_slice.result.now) (length c.as_slice-2.result.now) (ap length c.as_slice.ensures.value)
    (ap length c.as_slice-2.ensures.value) c.in-Some.ensures

pub returns-clause-steps : goal.returns-clause-steps
returns-clause-steps c = λ id.
    joins id c.args.size c.args.joined.now
    (record {
      bytes = c.extend_from_slice.new.self;
      given = c.in_ok-given.given;
      is_short
          = c.either-joined.result;
    }) (made_seen c.args.made.now)
    (length c.as_slice.result.now) (length c.as_slice-2.result.now) (ap length c.as_slice.ensures.value)
    (ap length c.as_slice-2.ensures.value) c.in_default.ensures
    (rw c.as_slice-3.ensures.value at c.in_ok-extend_from_slice.ensures.items) c.in_ok-given.ensures
    c.either-joined.ensures

pub returns-clause-counts : goal.returns-clause-counts
returns-clause-counts c =
    joins_counted c.args.size c.args.joined.now
    (record {
      bytes = c.extend_from_slice.new.self;
      given = c.in_ok-given.given;
      is_short
          = c.either-joined.result;
    }) (made_seen c.args.made.now)
    (length c.as_slice.result.now) (length c.as_slice-2.result.now) (ap length c.as_slice.ensures.value)
    (ap length c.as_slice-2.ensures.value) c.in_default.ensures
    (rw c.as_slice-3.ensures.value at c.in_ok-extend_from_slice.ensures.items) c.in_ok-given.ensures
