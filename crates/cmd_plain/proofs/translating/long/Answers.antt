use Rattle.std.specs.String.{string_bytes}
use Rattle.cmd_plain.specs.Sddl.{text_of}
use Rattle.cmd_plain.proofs.SddlReplies.{is_long, long_refused}
use Rattle.cmd_plain.proofs.translating.long.Goals as goal

pub returns : goal.returns
returns c = λ input above. (
  long_refused (text_of input) (string_bytes c.in_ok-refusal.field-0) (is_long input above)
      c.in_ok-refusal.ensures,
  (λ _. tt),
)
