use Rattle.std.proofs.Common.{rules}
use Rattle.std.specs.String.{string_bytes}
use Rattle.cmd_plain.proofs.SddlReplies.{refused_so, front_refused}
use Rattle.cmd_plain.proofs.translating.sddl.Goals as goal

pub returns-in-Ok-emit-clause-does : goal.returns-in-Ok-emit-clause-does
returns-in-Ok-emit-clause-does g c =
    record {
      translated = search rules;
      refused = λ _. refused_so (g.I.Source.rest c.args.source.now) (g.I.Source.rest c.reply_to_input.new.source)
          (g.S.Site.emitted c.args.site.now) (g.S.Site.emitted c.emit-in-Ok-Refusal.new.self)
          (string_bytes c.in-Ok-Refusal.line) c.as_bytes-in-Ok-Refusal.result.now
          (rw c.in-Ok-Refusal.field-0-is at c.in-Ok-Refusal.ensures).replies c.as_bytes-in-Ok-Refusal.ensures.value
          c.in-Ok-emit.ensures.output;
      complete = search rules;
      refuses = search rules;
      partly = search rules;
      quiet = search rules;
    }

pub returns-in-Ok-Refusal-clause-does : goal.returns-in-Ok-Refusal-clause-does
returns-in-Ok-Refusal-clause-does g c =
    record {
      translated = search rules;
      refused = search rules;
      complete = search rules;
      refuses = search rules;
      partly = λ _. front_refused (g.I.Source.rest c.args.source.now) (g.I.Source.rest c.reply_to_input.new.source)
          (g.S.Site.emitted c.args.site.now) (g.S.Site.emitted c.emit-in-Ok-Refusal.new.self)
          (string_bytes c.in-Ok-Refusal.line) c.as_bytes-in-Ok-Refusal.result.now
          (rw c.in-Ok-Refusal.field-0-is at c.in-Ok-Refusal.ensures).replies c.as_bytes-in-Ok-Refusal.ensures.value
          c.in-Err-emit-2.ensures.output;
      quiet = search rules;
    }
