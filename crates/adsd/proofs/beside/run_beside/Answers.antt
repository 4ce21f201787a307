use Rattle.std.proofs.Common.{◌≡◌, ◌∙◌, ℕ, None, Some, Option, map, ap, refl, sym, subst}
use Rattle.std.specs.Option.{option_map}
use Rattle.std.specs.String.{string_bytes}
use Rattle.cmd_call.specs.Outcome.{status_of}
use Rattle.cmd_call.specs.declared.outcome.Outcome.TheVariants.{NoCommand}
use Rattle.cmd_words.specs.Command.{CommandValue, value_of}
use Rattle.cmd_words.specs.Forms.{command_of}
use Rattle.adsd.proofs.Ends.{Promises, of_command, of_none}
use Rattle.adsd.proofs.beside.run_beside.Goals as goal

pub returns-in-Some : goal.returns-in-Some
returns-in-Some g c =
    let words = map string_bytes c.args.words.now in
    let is : Some (value_of c.in-Some.command) ≡ command_of words =
    sym (ap (option_map value_of) c.in-Some.is) ∙ c.command_of.ensures.command in
    let did = of_command g.I.Source g.S.Site g.T.Site (value_of c.in-Some.command) c.args.source.now c.run_command.new.source
    c.args.site.now c.run_command.new.site c.args.other.now c.run_command.new.other c.run_command.result c.run_command.ensures in
    let asked = subst (λ (asked : Option CommandValue). Promises g.I.Source g.S.Site g.T.Site asked c.args.source.now
    c.run_command.new.source c.args.site.now c.run_command.new.site c.args.other.now c.run_command.new.other (status_of c.run_command.result))
    is did in
    let p = subst (λ (status : ℕ). Promises g.I.Source g.S.Site g.T.Site (command_of words)
    c.args.source.now c.run_command.new.source c.args.site.now c.run_command.new.site c.args.other.now c.run_command.new.other status)
    (sym c.status.ensures) asked in
    record {
      words = p.words;
      untouched = p.untouched;
      does = p.does;
      source_failed = p.source_failed;
      site_failed = p.site_failed;
      slots = p.slots;
    }

pub returns-in-None : goal.returns-in-None
returns-in-None g c =
    let words = map string_bytes c.args.words.now in
    let is : None ≡ command_of words =
    sym (ap (option_map value_of) c.in-None.is) ∙ c.command_of.ensures.command in
    let asked = subst (λ (asked : Option CommandValue). Promises g.I.Source g.S.Site g.T.Site asked c.args.source.now
    c.args.source.now c.args.site.now c.args.site.now c.args.other.now c.args.other.now (status_of NoCommand))
    is (of_none g.I.Source g.S.Site g.T.Site c.args.source.now c.args.site.now c.args.other.now) in
    let p = subst (λ (status : ℕ). Promises g.I.Source g.S.Site g.T.Site (command_of words)
    c.args.source.now c.args.source.now c.args.site.now c.args.site.now c.args.other.now c.args.other.now status)
    (sym c.status-in-None.ensures) asked in
    record {
      words = p.words;
      untouched = p.untouched;
      does = p.does;
      source_failed = p.source_failed;
      site_failed = p.site_failed;
      slots = p.slots;
    }
