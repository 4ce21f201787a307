-- What the lines of the sample's domain, administrators and users give.
use Rattle.std.proofs.Common.{◌≡◌, ◌∙◌, inl, inr, ℕ, ◌+◌, ◌*◌, ◌<◌, ◌≤◌, false, nat_lt, List, [], ◌∷◌, length, None}
use Rattle.std.proofs.Common.{Some, Ok, refl, sym, ap, arith, codes}
use Rattle.std.specs.Prelude.{⊤}
use Rattle.std.specs.Fmt.{digits}
use Rattle.std.proofs.lemmas.Bool.{cases_Bool, ltb-true}
use Rattle.ad_schema_classes.specs.Names.{same_name, place_of}
use Rattle.ad_schema_classes.specs.Chains.{option_at, chain_within, chain, first_along, naming_by}
use Rattle.ad_schema.specs.Attributes.{lines_of, names_of, attr_named, attrs_of, attr_info}
use Rattle.ad_schema.specs.Fields.{value_of as line_value_of}
use Rattle.ad_schema.specs.Classes.{superclass, superclasses, own_naming, own_namings, cn_of, naming_of}
use Rattle.ad_schema.specs.Meaning.{attr_is_back_link, is_back_link, is_neither}
use Rattle.ad_schema.specs.Numbers.{digits_behind, number, number_below}
use Rattle.ad_value.specs.declared.syntax.Syntax.TheVariants as syntax
use Rattle.ad_value.specs.Value.{as_shown}
use Rattle.ad_value.specs.ValueOf.{normal_of, sid_of}
use Rattle.ad_dn.specs.Reading.{dn_of}
use Rattle.ad_ids.specs.SidValue.{SidValue}
use Rattle.ad_ids.specs.Sid.{sid_bytes}
use Rattle.ad_gen.specs.Frames.{in_domain, builtin_administrators}
use Rattle.ad_ids.specs.SidFront.{longest}
use Rattle.ad_ids.specs.SidOfText.{sid_of_text, number_of}
use Rattle.ad_ids.specs.SidReading.{header_at, sid_at}
use Rattle.ad_bytes.specs.Numbers.{byte_at}
use Rattle.ad_dn.specs.Text.{rdns_text}
use Rattle.ad_dir_model.specs.Attributes.{syntax_at}
use Rattle.ad_load_objects.specs.Drafts.{Draft}
use Rattle.ad_load_objects.specs.Through.{through}
use Rattle.ad_load_objects.specs.Objects.{nothing_kept, with_sd, is_dropped, with_ordinary, with_line, with_lines}
use Rattle.ad_load_objects.specs.Objects.{with_value, value_of, is_one_too_many, is_sid_taken, is_sid_used}
use Rattle.ad_gen_laws.specs.Plain.{fields_from}
use Rattle.ad_gen_laws.specs.Base.{attributes, classes, rights, base_schema}
use Rattle.ad_gen_laws.specs.Sample.{domain, administrators, user, user_sid_text}
use Rattle.ad_gen_laws.specs.Sent.{domain_sd}
use Rattle.ad_gen_laws.specs.Drafts.{given_sid, given_member, domain_sid}
use Rattle.ad_gen_laws.proofs.Sent.{domain_read}
use Rattle.ad_gen_laws.proofs.Names.{user_named}
use Rattle.ad_gen_laws.proofs.Named.{name_read}
use Rattle.ad_gen_laws.proofs.Units.{number_few, user_dn}
use Rattle.ad_gen_laws.proofs.Differ.{user_sid_read}
use Rattle.ad_gen_laws.proofs.Sids.{sid_place, in_domain_again, domain_again, builtin_again}

-- ---- identifiers

sid_syntax : syntax_at base_schema 6 ≡ syntax.Sid
unfolding syntax_at attrs_of attr_info lines_of same_name place_of line_value_of attributes classes rights base_schema
sid_syntax = refl

short_enough : (bytes : List ℕ) → length bytes ≤ 100 → nat_lt 1048576 (length bytes) ≡ false
short_enough bytes few = elim (cases_Bool (nat_lt 1048576 (length bytes))) [
  | inl long ↦ let more = ltb-true 1048576 (length bytes) long in absurd (omega (arith, more, few))
  | inr short ↦ short
]

sid_value_of : (k : ℕ) (text : List ℕ) (sid : SidValue) → length text ≤ 100 → sid_of text ≡ Some sid
    → value_of base_schema 6 (record { line = k; name = codes "objectSid"; value = text })
    ≡ Ok (as_shown (sid_bytes sid))
unfolding value_of normal_of attr_named names_of lines_of place_of same_name line_value_of attributes classes rights
    base_schema
sid_value_of k text sid few is = rw (short_enough text few, sid_syntax, is) refl

pub sid_kept : (drafts : List Draft) (k : ℕ) (text : List ℕ) (sid : SidValue) → length text ≤ 100 → sid_of text
    ≡ Some sid
    → sid_of (sid_bytes sid) ≡ Some sid → is_sid_used base_schema drafts (Some sid) ≡ false
    → with_value base_schema drafts nothing_kept 6 (record { line = k; name = codes "objectSid"; value = text })
    ≡ Ok (record { given = given_sid k sid ∷ []; sd = None })
unfolding with_value is_one_too_many is_sid_taken
sid_kept drafts k text sid few is again unused = rw (sid_value_of k text sid few is)
    (rw (sid_place, again, unused) refl)

-- ---- lines

unfoldable on_values-1 : ⊤
unfolding fields_from through with_sd is_dropped with_ordinary with_line with_lines same_name place_of attr_named
    names_of lines_of line_value_of
on_values-1 = tt

unfoldable on_values-2 : ⊤
unfolding attr_is_back_link is_back_link is_neither attrs_of attr_info number_below number digits_behind
on_values-2 = tt

unfoldable on_values : ⊤
unfolding on_values-1 on_values-2 naming_of naming_by first_along option_at chain chain_within superclasses superclass
    own_namings own_naming cn_of attributes classes rights base_schema
on_values = tt

user_text_few : (i j : ℕ) → i < 1000 → j ≤ 10 → length (user_sid_text i j) ≤ 100
user_text_few i j few least = let d = number_few (1000 + 10 * i + j) (omega (arith, few, least)) in omega (arith, d)

pub user_given : (drafts : List Draft) (i j k : ℕ) → i < 1000 → j ≤ 10 → is_sid_used base_schema drafts
    (Some (in_domain (1000 + 10 * i + j))) ≡ false
    → with_lines base_schema drafts 5 (fields_from k (user i j).lines)
    ≡ Ok (record { given = given_sid (k + 1) (in_domain (1000 + 10 * i + j)) ∷ []; sd = None })
unfolding on_values
user_given drafts i j k few least unused =
    let rid = 1000 + 10 * i + j in
    rw (sid_kept drafts (k + 1) (user_sid_text i j) (in_domain rid) (user_text_few i j few least)
    (user_sid_read i j few least) (in_domain_again rid (omega (arith, few, least))) unused) refl

domain_text_read : sid_of (codes "S-1-5-21-1-2-3") ≡ Some domain_sid
unfolding sid_of sid_at header_at byte_at longest sid_of_text number_of digits
domain_text_read = refl

builtin_text_read : sid_of (codes "S-1-5-32-544") ≡ Some builtin_administrators
unfolding sid_of sid_at header_at byte_at longest sid_of_text number_of digits
builtin_text_read = refl

pub domain_given : with_lines base_schema [] 1 (fields_from 271 domain.lines)
    ≡ Ok (record { given = given_sid 272 domain_sid ∷ []; sd = Some domain_sd })
unfolding on_values is_sid_used
domain_given =
    let kept = sid_kept [] 272 (codes "S-1-5-21-1-2-3") domain_sid (omega arith) domain_text_read domain_again refl in
    rw kept (rw domain_read refl)

-- ---- the member

name_syntax : syntax_at base_schema 7 ≡ syntax.Name
unfolding syntax_at attrs_of attr_info lines_of same_name place_of line_value_of attributes classes rights base_schema
name_syntax = refl

abbrev member_text : List ℕ
member_text = codes "CN=u1-1,OU=o1,DC=sample"

member_spelled : rdns_text (user 0 1).rdns ≡ member_text
unfolding digits
member_spelled = user_dn 0 1 (omega arith) (omega arith)

pub member_read : dn_of member_text ≡ Some (record { rdns = (user 0 1).rdns })
member_read = ap dn_of (sym member_spelled) ∙ name_read (user 0 1).rdns
    (user_named 0 1 (omega arith) (omega arith)).words

member_value_of : value_of base_schema 7 (record { line = 285; name = codes "member"; value = member_text })
    ≡ Ok given_member.value
unfolding value_of normal_of attr_named names_of lines_of place_of same_name line_value_of attributes classes rights
    base_schema
member_value_of = rw (name_syntax, member_read) refl

member_kept : (drafts : List Draft) → with_value base_schema drafts
    (record { given = given_sid 284 builtin_administrators ∷ []; sd = None }) 7
    (record { line = 285; name = codes "member"; value = member_text })
    ≡ Ok (record { given = given_sid 284 builtin_administrators ∷ given_member ∷ []; sd = None })
unfolding with_value is_one_too_many is_sid_taken
member_kept drafts = rw member_value_of (rw sid_place refl)

pub administrators_given : (drafts : List Draft) → is_sid_used base_schema drafts (Some builtin_administrators) ≡ false
    → with_lines base_schema drafts 4 (fields_from 283 administrators.lines)
    ≡ Ok (record { given = given_sid 284 builtin_administrators ∷ given_member ∷ []; sd = None })
unfolding on_values
administrators_given drafts unused =
    let kept = sid_kept drafts 284 (codes "S-1-5-32-544") builtin_administrators (omega arith) builtin_text_read
    builtin_again unused in
    rw kept (rw (member_kept drafts) refl)
