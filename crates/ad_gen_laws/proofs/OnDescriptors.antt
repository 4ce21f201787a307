-- What an answer unfolds to compute the bytes of a descriptor's text.
use Rattle.std.specs.Prelude.{⊤}
use Rattle.ad_sddl.specs.Reading.{read_of, rest_at, part_at, once_at, list_at, list_flags_at, list_flag_at}
use Rattle.ad_sddl.specs.Reading.{entries_at, entry_at, type_at, end_at}
use Rattle.ad_sddl.specs.Reading.{codes_at, code_at, guid_at, alias_at, sid_at, hex_at}
use Rattle.ad_sddl.specs.Words.{begins, alias_codes}
use Rattle.ad_acl.specs.Codes.{flag_codes, right_codes}
use Rattle.ad_ids.specs.SidFront.{longest}
use Rattle.ad_ids.specs.SidOfText.{sid_of_text, number_of}
use Rattle.ad_bytes.specs.Numbers.{byte_at, le_bytes, be_bytes}
use Rattle.std.specs.Fmt.{digits}
use Rattle.ad_sd.specs.Writing.{written, laid_out}
use Rattle.ad_acl.specs.Writing.{list_bytes, entry_bytes, behind_header, fixed_bytes}
use Rattle.ad_ids.specs.Sid.{sid_bytes}

unfoldable on_sddl-1 : ⊤
unfolding read_of rest_at part_at once_at list_at list_flags_at list_flag_at entries_at entry_at type_at end_at
    codes_at code_at guid_at alias_at
on_sddl-1 = tt

unfoldable pub on_sddl : ⊤
unfolding on_sddl-1 sid_at begins flag_codes right_codes alias_codes longest sid_of_text number_of byte_at hex_at digits
on_sddl = tt

unfoldable pub on_writing : ⊤
unfolding written laid_out list_bytes entry_bytes behind_header fixed_bytes sid_bytes le_bytes be_bytes
on_writing = tt
