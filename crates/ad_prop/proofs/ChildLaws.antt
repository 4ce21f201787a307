-- What a descriptor inherits, where its parts are the same.
use Rattle.std.proofs.Common.{◌≡◌, ap, ◌∙◌}
use Rattle.ad_ids.specs.declared.guid.Guid.{Guid}
use Rattle.ad_sd.specs.declared.parts.Sd.{Sd}
use Rattle.ad_inherit.specs.Whole.{whole}

pub same_whole : (above above' own own' : Sd) (class class' : Guid) → above ≡ above' → own ≡ own' → class ≡ class'
    → whole above own class ≡ whole above' own' class'
same_whole above above' own own' class class' a o c =
    ap (λ (x : Sd). whole x own class) a ∙ ap (λ (x : Sd). whole above' x class) o
    ∙ ap (λ (x : Guid). whole above' own' x) c
