use Rattle.std.proofs.Common.{◌<◌, Option, Ok, Err, [], map, sym, ap, ◌∙◌, arith}
use Rattle.std.proofs.lemmas.Result.{err_from_is_err_and}
use Rattle.ad_ids.specs.SidValue.{SidValue}
use Rattle.ad_load_records.specs.declared.fault.LoadFault.{LoadFault}
use Rattle.ad_dir_model.specs.Directory.{Meta}
use Rattle.ad_load.specs.Links.{all_defaults}
use Rattle.ad_load.specs.Seen.{entry_seen}
use Rattle.ad_load.proofs.Bounds.{within_by, limits_stop, defaults_stop, all_linked, meta_is}
use Rattle.ad_load.proofs.before_inheritance.check.Goals as goal

pub returns-then-not-within : goal.returns-then-not-within
returns-then-not-within g c =
    let schema = c.args.schema.now in
    let counted = c.args.counted.now in
    let is = c.requires.1.1.1 in
    let objects = map entry_seen c.args.objects.now in
    let within = within_by schema g.all objects c.in_ok-within.within counted.shallow counted.next_rid
    counted.suffix.rdns c.in_ok-within.ensures.within c.requires.0 is.shallow is.rid is.suffix in
    λ m. limits_stop schema g.all objects c.requires.1.1.0 (sym within ∙ c.if-not-within.true)
    ∙ ap (λ (f : LoadFault). Err f) (sym c.bad.ensures)

pub returns-in_err-check_defaults : goal.returns-in_err-check_defaults
returns-in_err-check_defaults g c =
    let p = err_from_is_err_and c.from_residual-in_err-check_defaults.result
    c.from_residual-in_err-check_defaults.ensures.1 in
    let schema = c.args.schema.now in
    let counted = c.args.counted.now in
    let is = c.requires.1.1.1 in
    let objects = map entry_seen c.args.objects.now in
    let within = within_by schema g.all objects c.in_ok-within.within counted.shallow counted.next_rid
    counted.suffix.rdns c.in_ok-within.ensures.within c.requires.0 is.shallow is.rid is.suffix in
    let domain = ap (λ (d : Option SidValue). all_defaults schema d) (sym c.requires.1.0) in
    rw (p.1, p.2) (λ m. defaults_stop schema g.all objects c.in_err-check_defaults.field-0.0
    c.requires.1.1.0 (sym within ∙ c.if-not-within.false) (domain ∙ c.in_err-check_defaults.ensures m))

pub overflow_cast-result : goal.overflow_cast-result
overflow_cast-result g c = let small : c.args.counted.now.next_rid < 4294967296 = c.in_ok-within.ensures.rid
    c.if-not-within.false in omega (arith, small)

pub returns : goal.returns
returns g c =
    let schema = c.args.schema.now in
    let counted = c.args.counted.now in
    let is = c.requires.1.1.1 in
    let objects = map entry_seen c.args.objects.now in
    let within = within_by schema g.all objects c.in_ok-within.within counted.shallow counted.next_rid
    counted.suffix.rdns c.in_ok-within.ensures.within c.requires.0 is.shallow is.rid is.suffix in
    let defaults = ap (λ (d : Option SidValue). all_defaults schema d) (sym c.requires.1.0)
    ∙ c.in_ok-check_defaults.ensures in
    all_linked schema g.all objects c.requires.1.1.0 (sym within ∙ c.if-not-within.false) defaults
    ∙ ap (λ (meta : Meta). Ok (record { schema = schema; objects = objects; pending = []; meta = meta }))
    (meta_is schema g.all counted.next_number counted.next_rid counted.suffix.rdns is.number is.rid is.suffix)
