use Rattle.std.proofs.Common.{◌≡◌, ◌<◌, drop}
use Rattle.std.specs.Option.{option_and_then}
use Rattle.ad_schema.specs.Numbers.{if_below, digits_behind}
use Rattle.cmd_store_serve.proofs.size.digits_below.Given as goal

abbrev pub invariant-loop-byte : goal.invariant-loop-byte
invariant-loop-byte l = record {
  same : option_and_then (if_below 1001) (digits_behind l.number (drop l.byte-index l.text))
      ≡ option_and_then (if_below 1001) (digits_behind 0 l.text);
  below : l.number < 1001;
}
