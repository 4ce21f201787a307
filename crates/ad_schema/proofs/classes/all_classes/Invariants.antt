use Rattle.std.proofs.Common.{◌≡◌, ◌++◌, drop, map}
use Rattle.ad_schema.specs.Classes.{class_infos}
use Rattle.ad_schema.proofs.classes.all_classes.Given as goal

abbrev pub invariant-loop-i : goal.invariant-loop-i
invariant-loop-i l = l.infos.items ++ class_infos (map (λ link. link.above) l.links)
    (map (λ link. link.naming) l.links) l.cn l.i (drop l.i (map (λ lines. lines.now) l.lines))
    ≡ class_infos (map (λ link. link.above) l.links) (map (λ link. link.naming) l.links) l.cn 0
    (map (λ lines. lines.now) l.lines)
