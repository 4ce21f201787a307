use Rattle.std.proofs.Common.{◌≡◌, List, ℕ, ◌∙◌, Option, Result, IfOk, sym, subst}
use Rattle.ad_acl.specs.declared.write_fault.AclWriteFault.{AclWriteFault}
use Rattle.ad_ldap.specs.MessageValue.{search_seen}
use Rattle.ad_entries.specs.Given.{descriptor_seen}
use Rattle.ad_entries.proofs.EntryLaws.{descriptor_is}
use Rattle.ad_entries.proofs.descriptor.descriptor_given.Goals as goal

pub returns : goal.returns
returns c =
    subst (λ (given : Option (Result (List ℕ) AclWriteFault)). IfOk c.written.result (λ d. descriptor_seen d ≡ given))
    (descriptor_is c.args.asking.now.dir.now c.args.asking.now.token.now c.args.number
    (search_seen c.args.asking.now.search.now) c.args.asking.now.flags
    (sym c.if-not-asked.false ∙ c.requires.asked) c.if-not-are_read.ensures)
    c.written.ensures
