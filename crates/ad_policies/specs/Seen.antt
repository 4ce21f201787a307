-- What a link that is read represents.
use Rattle.std.specs.Prelude.{ℕ, List}
use Rattle.ad_policies.specs.declared.links.LinkIn.{LinkIn}
use Rattle.ad_policies.specs.Policies.{PolicyLink}

-- a link, and what stands after it
abbrev pub link_seen : LinkIn → PolicyLink × List ℕ
link_seen link =
    (record { name = link.name.now; disabled = link.disabled; enforced = link.enforced }, link.rest.now)
