use Rattle.std.proofs.Common.{sym, subst, arith}
use Rattle.ad_ldap.specs.declared.requests.Message.{Message}
use Rattle.ad_ldap.specs.MessageValue.{message_seen}
use Rattle.ad_ldifmod_message.specs.Written.{IsWritable}
use Rattle.ad_ldifmod.proofs.Framing.{writable}
use Rattle.ad_ldifmod.proofs.messages.message_of.Goals as goal

pub fits-requires : goal.fits-requires
fits-requires c =
    subst (λ (m : Message). IsWritable (message_seen m)) (sym c.in_ok-message.ensures)
    (writable c.args.id c.args.name.now c.in-Ok.sd c.requires.from (omega (arith, c.requires.to)))
