-- What the lines of the sample's units and containers give.
use Rattle.std.proofs.Common.{◌≡◌, ℕ, List, [], Some, Ok, refl}
use Rattle.std.specs.Prelude.{⊤}
use Rattle.ad_schema_classes.specs.Names.{same_name, place_of}
use Rattle.ad_schema_classes.specs.Chains.{option_at, chain_within, chain, first_along, naming_by}
use Rattle.ad_schema.specs.Attributes.{lines_of, names_of, attr_named}
use Rattle.ad_schema.specs.Fields.{value_of as line_value_of}
use Rattle.ad_schema.specs.Classes.{superclass, superclasses, own_naming, own_namings, cn_of, naming_of}
use Rattle.ad_load_objects.specs.Drafts.{Draft}
use Rattle.ad_load_objects.specs.Through.{through}
use Rattle.ad_load_objects.specs.Objects.{nothing_kept, with_sd, is_dropped, with_ordinary, with_line, with_lines}
use Rattle.ad_gen_laws.specs.Plain.{fields_from}
use Rattle.ad_gen_laws.specs.Base.{attributes, classes, rights, base_schema}
use Rattle.ad_gen_laws.specs.Sample.{unit, system, sd_holder}
use Rattle.ad_gen_laws.specs.Sent.{protected_sd}
use Rattle.ad_gen_laws.proofs.Sent.{protected_read}

unfoldable on_values-1 : ⊤
unfolding fields_from through with_sd is_dropped with_ordinary with_line with_lines same_name place_of attr_named
    names_of lines_of line_value_of
on_values-1 = tt

unfoldable on_values : ⊤
unfolding on_values-1 naming_of naming_by first_along option_at chain chain_within superclasses superclass own_namings
    own_naming cn_of attributes classes rights base_schema
on_values = tt

pub unit_values : (drafts : List Draft) (i k : ℕ) → with_lines base_schema drafts 2 (fields_from k (unit i).lines)
    ≡ Ok nothing_kept
unfolding on_values
unit_values drafts i k = refl

pub system_values : (drafts : List Draft) (k : ℕ) → with_lines base_schema drafts 3 (fields_from k system.lines)
    ≡ Ok nothing_kept
unfolding on_values
system_values drafts k = refl

pub holder_values : (drafts : List Draft) (k : ℕ) → with_lines base_schema drafts 3 (fields_from k sd_holder.lines)
    ≡ Ok (record { given = []; sd = Some protected_sd })
unfolding on_values
holder_values drafts k = rw protected_read refl
