-- What an answer unfolds to compute that records are added to a schema.
use Rattle.std.specs.Prelude.{⊤}
use Rattle.ad_load_records.specs.Schema.{all_added}
use Rattle.ad_gen_laws.specs.Plain.{records_from, fields_from}
use Rattle.ad_load_records.specs.Records.{kind_of}
use Rattle.ad_schema.specs.Records.{added, checked, repeated, is_repeated, has_name, right_guids}
use Rattle.ad_schema.specs.Faults.{missing, bad_value, bad_behind, bad_line, is_bad}
use Rattle.ad_schema.specs.Fields.{field_of, has, value_of, values_of}
use Rattle.ad_schema.specs.Attributes.{names_of, lines_of, right_guid}
use Rattle.ad_schema_classes.specs.Names.{place_of, same_name}
use Rattle.ad_ids.specs.GuidText.{guid_of_text}
use Rattle.uuid.specs.Text.{by_index}
use Rattle.ad_schema.specs.Numbers.{digits_behind, number, number_below, signed_bits, truth_of}

unfoldable on_adding-1 : ⊤
unfolding all_added records_from fields_from kind_of added checked missing bad_value bad_behind bad_line is_bad
    field_of has value_of values_of
on_adding-1 = tt

unfoldable on_adding-2 : ⊤
unfolding repeated is_repeated has_name names_of lines_of place_of same_name right_guids right_guid guid_of_text
    by_index digits_behind number
on_adding-2 = tt

unfoldable pub on_adding : ⊤
unfolding on_adding-1 on_adding-2 number_below signed_bits truth_of
on_adding = tt
