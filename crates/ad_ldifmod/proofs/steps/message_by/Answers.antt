use Rattle.std.proofs.Common.{sym, subst, Result}
use Rattle.std.proofs.lemmas.Result.{on_ok_weaker}
use Rattle.ad_bytes.specs.Reading.{GivesUnless}
use Rattle.ad_ldap.specs.declared.requests.Message.{Message}
use Rattle.ad_ldifmod.specs.declared.fault.Refusal.{Refusal}
use Rattle.ad_ldifmod.specs.Steps.{is_memory_refusal, parts_seen}
use Rattle.ad_ldifmod.specs.Taken.{lists_in}
use Rattle.ad_ldifmod.proofs.Stepping.{message_is, lists_are}
use Rattle.ad_ldifmod.proofs.steps.message_by.Goals as goal

pub returns-clause-message : goal.returns-clause-message
returns-clause-message c =
    subst (λ (r : Result Message Refusal). GivesUnless is_memory_refusal (λ (m : Message). m) c.renewed.result r)
    (sym (message_is c.args.dir.now (lists_in c.args.dir.now c.args.cache.now) c.args.id c.args.line.now
    (parts_seen c.in_ok-parts.parts) c.in_ok-change.change c.in_ok-number.number
    (record {
      parts_are = c.in_ok-parts.ensures;
      change_is = c.in_ok-change.ensures;
      number_is
          = c.in_ok-number.ensures.named;
    })))
    c.renewed.ensures.message

pub returns-clause-lists : goal.returns-clause-lists
returns-clause-lists c =
    on_ok_weaker c.renewed.result
    (λ changed. lists_are c.args.dir.now c.args.cache.now c.renewed.new.cache c.args.line.now
    (parts_seen c.in_ok-parts.parts) c.in_ok-change.change c.in_ok-number.number
    (record {
      parts_are = c.in_ok-parts.ensures;
      change_is = c.in_ok-change.ensures;
      number_is
          = c.in_ok-number.ensures.named;
    }) changed)
    c.renewed.ensures.lists
