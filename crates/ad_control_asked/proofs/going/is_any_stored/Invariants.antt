use Rattle.std.proofs.Common.{◌≡◌, drop}
use Rattle.std.specs.List.{list_any}
use Rattle.ad_control_asked.specs.Asked.{is_stored}
use Rattle.ad_control_asked.proofs.going.is_any_stored.Given as goal

-- none so far is stored
abbrev pub invariant-loop-attr : goal.invariant-loop-attr
invariant-loop-attr l =
    list_any (is_stored l.dir l.number) (drop l.attr-index l.attrs) ≡ list_any (is_stored l.dir l.number) l.attrs
