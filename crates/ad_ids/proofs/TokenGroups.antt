-- Groups that are parted by their marks, one more at the end.
use Rattle.std.proofs.Common.{◌≡◌, List, [], ◌∷◌, ◌++◌, refl, ap, ◌∙◌}
use Rattle.ad_ids.specs.declared.mark.Mark.{Mark}
use Rattle.ad_ids.specs.declared.mark.Mark.TheVariants.{Enabled, DenyOnly}
use Rattle.ad_ids.specs.SidValue.{SidValue}
use Rattle.ad_ids.specs.Token.{put_enabled, put_deny_only, enabled_of, deny_only_of}

put_enabled-append : (mark : Mark) (sid : SidValue) (xs ys : List SidValue) → put_enabled mark sid (xs ++ ys)
    ≡ put_enabled mark sid xs ++ ys
put_enabled-append Enabled sid xs ys = refl
put_enabled-append DenyOnly sid xs ys = refl

put_deny_only-append : (mark : Mark) (sid : SidValue) (xs ys : List SidValue) → put_deny_only mark sid (xs ++ ys)
    ≡ put_deny_only mark sid xs ++ ys
put_deny_only-append Enabled sid xs ys = refl
put_deny_only-append DenyOnly sid xs ys = refl

pub enabled_of-push : (groups : List (Mark × SidValue)) (mark : Mark) (sid : SidValue)
    → enabled_of (groups ++ (mark, sid) ∷ []) ≡ enabled_of groups ++ put_enabled mark sid []
enabled_of-push [] mark sid = refl
enabled_of-push (group ∷ groups) mark sid =
    ap (put_enabled group.0 group.1) (enabled_of-push groups mark sid) ∙ put_enabled-append group.0 group.1
    (enabled_of groups) (put_enabled mark sid [])

pub deny_only_of-push : (groups : List (Mark × SidValue)) (mark : Mark) (sid : SidValue)
    → deny_only_of (groups ++ (mark, sid) ∷ []) ≡ deny_only_of groups ++ put_deny_only mark sid []
deny_only_of-push [] mark sid = refl
deny_only_of-push (group ∷ groups) mark sid =
    ap (put_deny_only group.0 group.1) (deny_only_of-push groups mark sid) ∙ put_deny_only-append group.0 group.1
    (deny_only_of groups) (put_deny_only mark sid [])
