use Rattle.std.proofs.Common.{◌≡◌, ◌∙◌, ◌∷◌, [], ℕ, Option, sym, ap, decimal}
use Rattle.std.specs.Prelude.{option_to_list}
use Rattle.ad_dir.proofs.NameLaws.{if_ok}
use Rattle.ad_ldap.specs.MessageValue.{search_seen}
use Rattle.ad_constructed.specs.Names.{all_items}
use Rattle.ad_constructed_dir.specs.Changing.{changing_of}
use Rattle.ad_entries.specs.Entry.{Given, parts_name, changing_attr}
use Rattle.ad_entries.proofs.GivenLaws.{not_sent, given_sent}
use Rattle.ad_entries.proofs.changing.parts_given.Goals as goal

pub returns-then-not-asked : goal.returns-then-not-asked
unfolding parts_name
returns-then-not-asked c =
    not_sent (search_seen c.args.asking.now.search.now) parts_name
    (changing_of c.args.asking.now.dir.now c.args.asking.now.token.now c.args.number).parts
    (sym c.if-not-asked.true ∙ c.requires.asked)

pub returns : goal.returns
unfolding parts_name changing_of
returns c =
    let search = search_seen c.args.asking.now.search.now in
    let changing = changing_of c.args.asking.now.dir.now c.args.asking.now.token.now c.args.number in
    let is : all_items c.in_ok-values.values.items ≡ changing.parts
    = c.in_ok-values.ensures ∙ ap (λ (n : ℕ). decimal n ∷ []) c.parts_written.ensures in
    if_ok c.given_values.result
    (λ given so. ap (λ (g : Option Given). option_to_list g) so
    ∙ given_sent search parts_name (all_items c.in_ok-values.values.items)
    (sym c.if-not-asked.false ∙ c.requires.asked)
    ∙ ap (changing_attr search parts_name) is)
    c.given_values.ensures
