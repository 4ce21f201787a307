use Rattle.std.proofs.Common.{◌≡◌, Some, None, Result, Ok, sym, ap, subst, ◌∙◌}
use Rattle.std.specs.Prelude.{option_map}
use Rattle.std.proofs.lemmas.Option.{same_Some, none-some}
use Rattle.ad_bytes.proofs.Machines.{finished_once, offset_of_end}
use Rattle.ad_dn.specs.declared.rdn.Dn.{Dn}
use Rattle.ad_dn.specs.declared.fault.DnFault.{DnFault}
use Rattle.ad_dn.specs.Grammar.{SpellsDn}
use Rattle.ad_dn.specs.Steps.{step, start, finished}
use Rattle.ad_dn.specs.Reading.{name, finished_name}
use Rattle.ad_dn.proofs.ValueLifts.{finished_spells}
use Rattle.ad_dn.proofs.Ends.{reads_names, stop_is_fault, stop_only}
use Rattle.ad_dn.proofs.Spelled.{spelled_are}
use Rattle.ad_dn.proofs.ReadOff.{dn_again, dn_none}
use Rattle.ad_dn.proofs.reading.read.Goals as goal

pub returns-in-Err : goal.returns-in-Err
returns-in-Err c = record {
  found = tt;
  only = λ dn spelled e. absurd (stop_only c.in-Err.fault c.args.text.now dn c.in-Err.ensures.err spelled e);
  value = λ e. dn_none c.args.text.now (λ dn spelled. stop_only c.in-Err.fault c.args.text.now dn c.in-Err.ensures.err
      spelled e);
  fault = stop_is_fault c.in-Err.fault c.args.text.now c.in-Err.ensures.err;
}

pub from_vec-requires : goal.from_vec-requires
from_vec-requires c =
    let read : finished c.in-Ok.state ≡ Some c.in-Some.rdns.items = sym c.in_ok-rdns.ensures
    ∙ ap (option_map (λ v. v.items)) c.in-Some.is in
    spelled_are c.in-Some.rdns.items c.args.text.now
    (finished_spells c.in-Ok.state c.args.text.now c.in-Some.rdns.items c.in-Ok.ensures.ok read)

pub returns-in-Some : goal.returns-in-Some
returns-in-Some c =
    let text = c.args.text.now in
    let items = c.in-Some.rdns.items in
    let read : finished c.in-Ok.state ≡ Some items = sym c.in_ok-rdns.ensures ∙ ap (option_map (λ v. v.items))
    c.in-Some.is in
    let kept : name items ≡ name c.from_vec.result = ap name (sym c.from_vec.ensures) in
    let found : SpellsDn (name c.from_vec.result) text = subst (λ (d : Dn). SpellsDn d text) kept
    (finished_spells c.in-Ok.state text items c.in-Ok.ensures.ok read) in
    record {
      found = found;
      only = λ dn spelled.
          let whole : finished_name c.in-Ok.state ≡ Some dn = finished_once SpellsDn step start finished_name
          reads_names c.in-Ok.state text dn c.in-Ok.ensures.ok spelled in
          let same : dn ≡ name items = same_Some dn (name items) (sym whole ∙ ap (option_map name) read) in
          let given : Dn → Result Dn DnFault = λ d. Ok d in
          ap given (same ∙ kept);
      value = dn_again text (name c.from_vec.result) found;
      fault = tt;
    }

pub returns-in-None : goal.returns-in-None
returns-in-None c =
    let text = c.args.text.now in
    let none : (dn : Dn) → SpellsDn dn text → ⊥ = λ dn spelled. (
    let whole : finished_name c.in-Ok.state ≡ Some dn = finished_once SpellsDn step start finished_name reads_names
    c.in-Ok.state text dn c.in-Ok.ensures.ok spelled in
    let nothing : finished c.in-Ok.state ≡ None = sym c.in_ok-rdns.ensures ∙ ap (option_map (λ v. v.items))
    c.in-None.is in
    none-some dn (sym (ap (option_map name) nothing) ∙ whole)
    ) in
    record {
      found = tt;
      only = λ dn spelled e. absurd (none dn spelled);
      value = λ e. dn_none text none;
      fault = offset_of_end SpellsDn step start finished_name reads_names c.in-Ok.state text c.in-Ok.ensures.ok;
    }
