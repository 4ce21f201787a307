-- What an answer unfolds to compute what messages and descriptors are read as.
use Rattle.std.specs.Prelude.{⊤}
use Rattle.ad_ber.specs.Writing.{element_bytes, header, length_bytes, number_element, number_bytes, width}
use Rattle.ad_bytes.specs.Numbers.{be_bytes, byte_at, be_at, part_at, le_at}
use Rattle.ad_ber.specs.Reading.{tag_at, long_at, length_behind, length_at, element_at}
use Rattle.ad_ldap.specs.Reading.{body_at, number_at, boolean_at, option_at, default_at, inside_at, each_within}
use Rattle.ad_ldap.specs.Reading.{values_of}
use Rattle.ad_sd.specs.Reading.{parts_of, header_at, from_offset, present_sid, present_list}
use Rattle.ad_ids.specs.SidReading.{header_at as sid_header_at, sid_at}
use Rattle.ad_acl.specs.Reading.{header_at as entry_header_at, shape_of, guid_if, fixed_at, entry_at, list_header_at}
use Rattle.ad_acl.specs.Reading.{list_at}
use Rattle.ad_bytes.specs.Reading.{many_at}

unfoldable pub on_elements : ⊤
unfolding element_bytes header length_bytes number_element number_bytes width be_bytes
on_elements = tt

unfoldable on_reading-1 : ⊤
unfolding tag_at long_at length_behind length_at element_at byte_at be_at part_at body_at number_at boolean_at
    option_at default_at inside_at
on_reading-1 = tt

unfoldable pub on_reading : ⊤
unfolding on_reading-1 each_within values_of
on_reading = tt

unfoldable on_sd-1 : ⊤
unfolding parts_of header_at from_offset present_sid present_list sid_header_at sid_at entry_header_at shape_of
    guid_if fixed_at entry_at
on_sd-1 = tt

unfoldable pub on_sd : ⊤
unfolding on_sd-1 list_header_at list_at byte_at be_at le_at part_at many_at
on_sd = tt
