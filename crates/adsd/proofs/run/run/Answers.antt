use Rattle.std.proofs.Common.{◌≡◌, ◌∙◌, None, Some, List, map, ap, refl, sym}
use Rattle.std.specs.Option.{option_map}
use Rattle.std.specs.String.{string_bytes}
use Rattle.cmd_call.specs.Outcome.{status_of}
use Rattle.cmd_call.specs.declared.outcome.Outcome.TheVariants.{NoCommand}
use Rattle.cmd_words.specs.Command.{CommandValue, value_of}
use Rattle.cmd_words.specs.Forms.{command_of}
use Rattle.cmd_words.specs.Table.{other_store_of}
use Rattle.adsd.specs.NoSite.{no_site, over_one}
use Rattle.adsd.proofs.Ends.{asked_so, of_command, of_none, by_itself, one_is, two_are, own_alone}
use Rattle.adsd.proofs.run.run.Goals as goal

pub returns-in-Some-other_store : goal.returns-in-Some-other_store
returns-in-Some-other_store g c =
    let words = map string_bytes c.args.words.now in
    let is : Some (value_of c.in-Some.command) ≡ command_of words =
    sym (ap (option_map value_of) c.in-Some.is) ∙ c.command_of.ensures.command in
    let two : Some c.in-Some-other_store.field-0.now ≡ other_store_of (value_of c.in-Some.command) =
    sym (ap (option_map (λ store. store.now)) c.in-Some-other_store.is) ∙ c.other_store.ensures in
    let p = asked_so g.I.Source g.S.Site no_site None (over_one (command_of words)) c.args.source.now
    c.args.source.now c.args.site.now c.args.site.now tt tt (status_of NoCommand) c.status-in-Some-other_store.result
    (two_are (command_of words) (value_of c.in-Some.command) c.in-Some-other_store.field-0.now is two)
    c.status-in-Some-other_store.ensures
    (of_none g.I.Source g.S.Site no_site c.args.source.now c.args.site.now tt) in
    record {
      words = p.words;
      untouched = λ told. (refl, refl);
      does = p.does;
      source_failed = p.source_failed;
      site_failed = λ five. own_alone g.S.Site c.args.site.now c.args.site.now (p.site_failed five);
      slots = p.slots;
    }

pub returns-in-None-other_store : goal.returns-in-None-other_store
returns-in-None-other_store g c =
    let words = map string_bytes c.args.words.now in
    let command = value_of c.in-Some.command in
    let is : Some command ≡ command_of words =
    sym (ap (option_map value_of) c.in-Some.is) ∙ c.command_of.ensures.command in
    let one : None ≡ other_store_of command =
    sym (ap (option_map (λ store. store.now)) c.in-None-other_store.is) ∙ c.other_store.ensures in
    let did = by_itself g.I.Source g.S.Site _ command c.args.source.now c.run_command.new.source c.args.site.now
    c.run_command.new.site c.new-none.result c.run_command.new.other c.run_command.result (sym one) c.new-none.ensures
    c.run_command.ensures in
    let p = asked_so g.I.Source g.S.Site no_site (Some command) (over_one (command_of words)) c.args.source.now
    c.run_command.new.source c.args.site.now c.run_command.new.site tt tt (status_of c.run_command.result)
    c.status.result (one_is (command_of words) command is one) c.status.ensures
    (of_command g.I.Source g.S.Site no_site command c.args.source.now c.run_command.new.source c.args.site.now
    c.run_command.new.site tt tt c.run_command.result did) in
    record {
      words = p.words;
      untouched = λ told. let same = p.untouched told in (same.0, same.1);
      does = p.does;
      source_failed = p.source_failed;
      site_failed = λ five. own_alone g.S.Site c.args.site.now c.run_command.new.site (p.site_failed five);
      slots = p.slots;
    }

pub returns-in-None : goal.returns-in-None
returns-in-None g c =
    let words = map string_bytes c.args.words.now in
    let is : None ≡ command_of words =
    sym (ap (option_map value_of) c.in-None.is) ∙ c.command_of.ensures.command in
    let p = asked_so g.I.Source g.S.Site no_site None (over_one (command_of words)) c.args.source.now
    c.args.source.now c.args.site.now c.args.site.now tt tt (status_of NoCommand) c.status-in-None.result
    (ap over_one is) c.status-in-None.ensures
    (of_none g.I.Source g.S.Site no_site c.args.source.now c.args.site.now tt) in
    record {
      words = p.words;
      untouched = λ told. (refl, refl);
      does = p.does;
      source_failed = p.source_failed;
      site_failed = λ five. own_alone g.S.Site c.args.site.now c.args.site.now (p.site_failed five);
      slots = p.slots;
    }
