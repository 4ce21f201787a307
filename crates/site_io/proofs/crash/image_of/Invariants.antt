use Rattle.std.proofs.Common.{◌≡◌, take}
use Rattle.site_io.specs.Calls.{held_by, MayLeave}
use Rattle.site_io.proofs.Crashing.{Crashing}
use Rattle.site_io.proofs.crash.image_of.Given as goal

abbrev pub invariant-loop-call : goal.invariant-loop-call
invariant-loop-call l = record {
  held : l.held.items ≡ held_by l.slot l.first (take l.call-index l.calls);
  exact : Crashing l.slot l.first (take l.call-index l.calls) l.kept l.image.items l.left;
  may : MayLeave l.slot l.first (λ old. old ≡ l.first) (take l.call-index l.calls) l.image.items;
}
