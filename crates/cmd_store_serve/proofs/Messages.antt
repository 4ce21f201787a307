-- The two messages of the sample are short.
use Rattle.std.proofs.Common.{◌≡◌, ◌∙◌, ℕ, suc, ◌+◌, ◌*◌, ◌≤◌, false, inl, inr, nat_lt, Some, None, Ok, List, [], ◌∷◌}
use Rattle.std.proofs.Common.{◌++◌, length, refl, ap, length-append, arith, codes}
use Rattle.std.specs.Str.{str_to_ascii_lowercase}
use Rattle.std.specs.Fmt.{digits}
use Rattle.std.proofs.lemmas.Bool.{cases_Bool}
use Rattle.ad_bytes.specs.Numbers.{be_bytes, le_bytes, byte_at}
use Rattle.ad_bytes.specs.Reading.{fault_as}
use Rattle.ad_bytes.proofs.Codec.{length-be_bytes}
use Rattle.ad_ids.specs.SidValue.{SidValue}
use Rattle.ad_ids.specs.SidOfText.{number_of, sid_of_text}
use Rattle.ad_ids.specs.SidFront.{longest}
use Rattle.ad_ids.specs.Sid.{sid_bytes}
use Rattle.ad_acl.specs.Entry.{Entry}
use Rattle.ad_acl.specs.declared.kind.AceKind.TheVariants.{Allow}
use Rattle.ad_acl.specs.Writing.{fixed_bytes, behind_header, entry_bytes, list_bytes}
use Rattle.ad_sd.specs.declared.parts.AceList.{AceList}
use Rattle.ad_sd.specs.declared.parts.SdParts.{SdParts}
use Rattle.ad_sd.specs.Writing.{laid_out, written}
use Rattle.ad_sddl.specs.Grammar.{no_parts}
use Rattle.ad_sddl.specs.Reading.{end_at, code_at, codes_at, hex_at, guid_at, alias_at, sid_at, type_at, entry_at}
use Rattle.ad_sddl.specs.Reading.{entries_at, list_flag_at, list_flags_at, list_at, once_at, part_at, rest_at}
use Rattle.ad_sddl.specs.Reading.{located, read_of}
use Rattle.ad_sddl.specs.Words.{begins, alias_codes}
use Rattle.ad_acl.specs.Codes.{flag_codes, right_codes}
use Rattle.ad_ber.specs.Writing.{width, length_bytes, header, element_bytes, number_bytes, number_element}
use Rattle.ad_ber.proofs.Shortest.{width_within}
use Rattle.ad_frames.specs.Limits.{max_body}
use Rattle.ad_gen.specs.Descriptor.{bytes_or_none, written_or_none, descriptor_bytes}
use Rattle.ad_gen.specs.Messages.{attribute_of_change, changes, modify_request, list_flag, critical_flag, list_alone}
use Rattle.ad_gen.specs.Messages.{modify_message, wider_list}
use Rattle.ad_gen.specs.Messages.{filter, bounds, search_request, search_message}

-- ---- the search

search_length : length search_message ≡ 60
unfolding search_message search_request bounds filter element_bytes header length_bytes number_element number_bytes
    width be_bytes
search_length = refl

pub search_few : length search_message ≤ max_body
unfolding max_body
search_few = omega (arith, search_length)

-- ---- the list of the change, entry by entry

an_entry : ℕ → SidValue → Entry
an_entry mask sid = record { kind = Allow; flags = 2; mask = mask; object = None; inherited = None; sid = sid }

administrators : SidValue
administrators = record { authority = 5; sub_authorities = 32 ∷ 544 ∷ [] }

nt : SidValue
nt = record { authority = 5; sub_authorities = 11 ∷ [] }

restricted : SidValue
restricted = record { authority = 5; sub_authorities = 12 ∷ [] }

entries : List Entry
entries = an_entry 0x10000000 administrators ∷ an_entry 0x20094 nt ∷ an_entry 0x30 restricted ∷ []

first_text : List ℕ
first_text = codes "a;ci;ga;;;ba)(a;ci;rplclorc;;;au)(a;ci;rpwp;;;s-1-5-12)"

second_text : List ℕ
second_text = codes "a;ci;rplclorc;;;au)(a;ci;rpwp;;;s-1-5-12)"

third_text : List ℕ
third_text = codes "a;ci;rpwp;;;s-1-5-12)"

first_read : entry_at None first_text ≡ Ok (an_entry 0x10000000 administrators, 40 ∷ second_text)
unfolding first_text second_text an_entry administrators entry_at type_at end_at codes_at code_at guid_at alias_at
    sid_at begins flag_codes right_codes alias_codes longest sid_of_text number_of byte_at hex_at
first_read = refl

second_read : entry_at None second_text ≡ Ok (an_entry 0x20094 nt, 40 ∷ third_text)
unfolding second_text third_text an_entry nt entry_at type_at end_at codes_at code_at guid_at alias_at sid_at begins
    flag_codes right_codes alias_codes longest sid_of_text number_of byte_at hex_at
second_read = refl

third_read : entry_at None third_text ≡ Ok (an_entry 0x30 restricted, [])
unfolding third_text an_entry restricted entry_at type_at end_at codes_at code_at guid_at alias_at sid_at begins
    flag_codes right_codes alias_codes longest sid_of_text number_of byte_at hex_at digits
third_read = refl

entry_more : (t rest : List ℕ) (e : Entry) (es : List Entry) (n : ℕ) → entry_at None t ≡ Ok (e, rest)
    → entries_at None n rest ≡ Ok (es, [])
    → entries_at None (suc n) (40 ∷ t) ≡ Ok (e ∷ es, [])
unfolding entries_at begins
entry_more t rest e es n first others = rw (first, others) refl

entry_none : (n : ℕ) → entries_at None (suc n) [] ≡ Ok ([], [])
unfolding entries_at begins
entry_none n = refl

entries_read : (n : ℕ) → entries_at None (suc (suc (suc (suc n)))) (40 ∷ first_text) ≡ Ok (entries, [])
unfolding entries
entries_read n =
    entry_more first_text (40 ∷ second_text) (an_entry 0x10000000 administrators) _ _ first_read
    (entry_more second_text (40 ∷ third_text) (an_entry 0x20094 nt) _ _ second_read
    (entry_more third_text [] (an_entry 0x30 restricted) _ _ third_read (entry_none n)))

flags_read : list_flags_at (length (40 ∷ first_text)) false (40 ∷ first_text) ≡ (false, 40 ∷ first_text)
unfolding first_text list_flags_at list_flag_at begins
flags_read = refl

long_is : length (40 ∷ first_text) ≡ suc (suc (suc (suc 52)))
unfolding first_text
long_is = refl

the_list : AceList
the_list = record { protected = false; entries = entries }

list_read : list_at None (40 ∷ first_text) ≡ Ok (the_list, [])
unfolding list_at the_list
list_read = rw (flags_read, long_is, entries_read 52) refl

the_parts : SdParts
the_parts = record { owner = None; group = None; dacl = Some the_list; sacl = None }

lowered : str_to_ascii_lowercase wider_list ≡ 100 ∷ 58 ∷ 40 ∷ first_text
unfolding first_text
lowered = refl

part_read : part_at None no_parts (100 ∷ 58 ∷ 40 ∷ first_text) ≡ Ok (the_parts, [])
unfolding part_at once_at begins the_parts
part_read = rw list_read refl

rest_read : (n : ℕ) → rest_at None (suc n) no_parts (100 ∷ 58 ∷ 40 ∷ first_text) ≡ Ok the_parts
unfolding rest_at
rest_read n = rw part_read refl

text_read : read_of None wider_list ≡ Ok the_parts
unfolding read_of rest_at part_at first_text
text_read = rw lowered (ap (fault_as (located (length wider_list))) (rest_read (length (100 ∷ 58 ∷ 40 ∷ first_text))))

parts_length : length (bytes_or_none (written the_parts)) ≡ 92
unfolding written laid_out the_parts the_list entries an_entry administrators nt restricted list_bytes entry_bytes
    behind_header fixed_bytes sid_bytes le_bytes be_bytes
parts_length = refl

descriptor_length : length (descriptor_bytes wider_list) ≡ 92
unfolding descriptor_bytes
descriptor_length = ap (λ r. length (written_or_none r)) text_read ∙ parts_length

-- ---- the change

element_short : (tag : ℕ) (body : List ℕ) → length (element_bytes tag body) ≤ length body + 10
unfolding element_bytes header length_bytes
element_short tag body = elim (cases_Bool (nat_lt (length body) 128)) [
  | inl short ↦ rw short (omega arith)
  | inr long ↦
      let n = length body in
      let few = width_within n in
      rw long (omega (arith, few.1, length-append (be_bytes (width n) n) body, length-be_bytes (width n) n))
]

number_short : (tag n : ℕ) → length (number_element tag n) ≤ 18
unfolding number_element number_bytes
number_short tag n = omega (
  arith,
  element_short tag (be_bytes (width (2 * n)) n),
  length-be_bytes (width (2 * n)) n,
  (width_within (2 * n)).1,
)

attribute_short : length attribute_of_change ≤ 172
unfolding attribute_of_change
attribute_short =
    let name : length (codes "nTSecurityDescriptor") ≡ 20 = refl in
    let value = element_bytes 4 (descriptor_bytes wider_list) in
    omega (
      arith,
      element_short 0x30 (element_bytes 4 (codes "nTSecurityDescriptor") ++ element_bytes 0x31 value),
      length-append (element_bytes 4 (codes "nTSecurityDescriptor")) (element_bytes 0x31 value),
      element_short 4 (codes "nTSecurityDescriptor"),
      element_short 0x31 value,
      element_short 4 (descriptor_bytes wider_list),
      descriptor_length,
      name,
    )

changes_short : length changes ≤ 220
unfolding changes
changes_short =
    let body = number_element 10 2 ++ attribute_of_change in
    omega (
      arith,
      element_short 0x30 (element_bytes 0x30 body),
      element_short 0x30 body,
      length-append (number_element 10 2) attribute_of_change,
      number_short 10 2,
      attribute_short,
    )

request_short : length modify_request ≤ 260
unfolding modify_request
request_short =
    let name : length (codes "DC=sample") ≡ 9 = refl in
    let body = element_bytes 4 (codes "DC=sample") ++ changes in
    omega (
      arith,
      element_short 0x66 body,
      length-append (element_bytes 4 (codes "DC=sample")) changes,
      element_short
          4 (codes "DC=sample"),
      changes_short,
      name,
    )

control_length : length list_alone ≡ 36
unfolding list_alone critical_flag list_flag element_bytes header length_bytes number_element number_bytes width
    be_bytes
control_length = refl

pub modify_few : length modify_message ≤ max_body
unfolding max_body modify_message
modify_few =
    let controls = element_bytes 0xa0 list_alone in
    let body = number_element 2 1 ++ (modify_request ++ controls) in
    omega (
      arith,
      element_short 0x30 body,
      length-append (number_element 2 1) (modify_request ++ controls),
      length-append modify_request controls,
      number_short 2 1,
      request_short,
      element_short 0xa0 list_alone,
      control_length,
    )
