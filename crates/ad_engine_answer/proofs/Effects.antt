-- What an operation is answered, by what its checks say.
use Rattle.std.proofs.Common.{◌≡◌, ◌∙◌, ℕ, [], Some, None, ap}
use Rattle.ad_ids.specs.declared.token.Token.{Token}
use Rattle.ad_dn.specs.declared.rdn.Dn.{Dn}
use Rattle.ad_dn.specs.Text.{rdns_text}
use Rattle.ad_ldap.specs.declared.controls.Settings.{Settings}
use Rattle.ad_ldap.specs.MessageValue.{OpValue}
use Rattle.ad_dir_objects.specs.declared.act.Act.{Act}
use Rattle.ad_dir_model.specs.Directory.{Directory}
use Rattle.ad_needs_rules.specs.declared.need.Need.{Need}
use Rattle.ad_needs_rules.specs.declared.outcome.Verdict.TheVariants.{Granted, Refused, Hidden, Missing}
use Rattle.ad_needs_rules.specs.Checks.{code, first_failing}
use Rattle.ad_needs_rules.specs.Needs.{need_text}
use Rattle.ad_needs_rules.specs.Verdicts.{verdict_of}
use Rattle.ad_change.specs.Effects.{answered, changes_to, later_checks, made, by_later, by_verdict, effect}

pub refused_first : (dir : Directory) (token : Token) (op : OpValue) (s : Settings) (n : ℕ) → verdict_of dir token op
    s ≡ Refused n
    → effect dir token op s ≡ answered n [] []
unfolding effect
refused_first dir token op s n is = ap (by_verdict dir token) is

pub hidden_first : (dir : Directory) (token : Token) (op : OpValue) (s : Settings) (dn : Dn) → verdict_of dir token op
    s ≡ Hidden dn
    → effect dir token op s ≡ answered 32 (rdns_text dn.rdns) []
unfolding effect
hidden_first dir token op s dn is = ap (by_verdict dir token) is

pub missing_first : (dir : Directory) (token : Token) (op : OpValue) (s : Settings) (need : Need)
    → verdict_of dir token op s ≡ Missing need
    → effect dir token op s ≡ answered 50 [] (need_text dir need)
unfolding effect
missing_first dir token op s need is = ap (by_verdict dir token) is

pub refused_later : (dir : Directory) (token : Token) (op : OpValue) (s : Settings) (act : Act) (n : ℕ)
    → verdict_of dir token op s ≡ Granted act
    → first_failing (later_checks dir token act) ≡ Some (code n) → effect dir token op s ≡ answered n [] []
unfolding effect
refused_later dir token op s act n granted refuses = ap (by_verdict dir token) granted ∙ ap (by_later dir token act)
    refuses

pub made_so : (dir : Directory) (token : Token) (op : OpValue) (s : Settings) (act : Act) → verdict_of dir token op s
    ≡ Granted act
    → first_failing (later_checks dir token act) ≡ None → effect dir token op s ≡ changes_to (made dir token act)
unfolding effect
made_so dir token op s act granted holds = ap (by_verdict dir token) granted ∙ ap (by_later dir token act) holds
