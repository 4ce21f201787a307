-- The attributes of an entry, one after the other.
use Rattle.std.proofs.Common.{◌≡◌, ℕ, ◌+◌, ◌<◌, ◌≤◌, Bool, true, false, ◌&&◌, ◌||◌, List, [], ◌++◌, map}
use Rattle.std.proofs.Common.{length, drop, get_or, Option, Some, None, refl, sym, ap, ◌∙◌, append_assoc}
use Rattle.std.specs.Prelude.{not, if◌then◌else◌, option_to_list, ◌==◌, Result}
use Rattle.std.proofs.lemmas.List.{append-nil, drop_all, drop_more}
use Rattle.std.proofs.lemmas.Bool.{and_parts, both_ways}
use Rattle.ad_ids.specs.SidValue.{SidValue}
use Rattle.ad_sd.specs.declared.parts.AceList.{AceList}
use Rattle.ad_ids.specs.declared.token.Token.{Token}
use Rattle.ad_acl.specs.Entry.{says}
use Rattle.ad_acl.specs.Mask.{read_control, access_system_security}
use Rattle.ad_sd.specs.declared.parts.Sd.{Sd}
use Rattle.ad_sd.specs.declared.parts.SdParts.{SdParts}
use Rattle.ad_acl.specs.declared.write_fault.AclWriteFault.{AclWriteFault}
use Rattle.ad_sd.specs.Shown.{asked, parts_shown}
use Rattle.ad_sd.specs.Writing.{written}
use Rattle.ad_value.specs.Value.{Value}
use Rattle.ad_schema.specs.declared.info.AttrInfo.{AttrInfo}
use Rattle.ad_ldap.specs.MessageValue.{SearchValue}
use Rattle.ad_dir_model.specs.Objects.{sd_at}
use Rattle.ad_dir_model.specs.Shown.{shown}
use Rattle.ad_dir_model.specs.Directory.{Directory}
use Rattle.ad_access_dir.specs.Sight.{is_granted}
use Rattle.ad_entries.specs.Seen.{is_readable, read_of, parts_read}
use Rattle.ad_entries.specs.Entry.{Given, values_if, is_asked, attr_given, is_read_if}
use Rattle.ad_entries.specs.Entry.{is_descriptor_asked, are_read, only_if, parts_asked, descriptor_given}
use Rattle.ad_entries.specs.Given.{given_if}
use Rattle.ad_entries.specs.Places.{shown_at, shown_at_each}
use Rattle.ad_entries.proofs.ReadLaws.{is_read, not_readable}

-- ---- one attribute

-- an attribute with values
abbrev one : SearchValue → AttrInfo → List Value → Given
one search info values = (info.name, values_if search.types_only (map (λ (v : Value). v.shown) values))

not_asked : (search : SearchValue) (info : AttrInfo) (values : Option (List Value)) → is_asked search.attrs info.name
    ≡ false → attr_given search info values ≡ None
not_asked search info None not_so = refl
not_asked search info (Some values) not_so =
    let pair : Given = one search info values in
    ap (λ (b : Bool). if b && not (length values == 0) then Some pair else None) not_so

if_asked : (search : SearchValue) (info : AttrInfo) (values : List Value) → is_asked search.attrs info.name ≡ true
    → attr_given search info (Some values) ≡ given_if search.types_only info.name values
if_asked search info values is =
    let pair : Given = one search info values in
    ap (λ (b : Bool). if b && not (length values == 0) then Some pair else None) is ∙ by pair (length values == 0)
  where
    by : (pair : Given) (none : Bool) → (if not none then Some pair else None) ≡ (if none then None else Some pair)
    by pair true = refl
    by pair false = refl

-- of an attribute that is asked for and may be read, or isn't
pub given_by : (dir : Directory) (token : Token) (number : ℕ) (search : SearchValue) (place : ℕ) (info : AttrInfo)
    (asked_for read : Bool) → is_asked search.attrs info.name ≡ asked_for → is_readable dir token number place info
    ≡ read
    → attr_given search info (read_of dir token number place info)
    ≡ (if asked_for && read then given_if search.types_only info.name (shown dir number place) else None)
given_by dir token number search place info true true asks reads =
    ap (attr_given search info) (is_read dir token number place info reads)
    ∙ if_asked search info (shown dir number place) asks
given_by dir token number search place info true false asks reads = ap (attr_given search info)
    (not_readable dir token number place info reads)
given_by dir token number search place info false read asks reads
    = not_asked search info (read_of dir token number place info) asks

-- ---- the attributes at some places

-- those so far, and those that are left
pub shown_more : (dir : Directory) (number : ℕ) (types_only : Bool) (places : List ℕ) (i : ℕ)
    (before after : List Given) (given : Option Given) (whole : List Given) → i < length places
    → before ++ shown_at_each dir number types_only (drop i places) ≡ whole → given ≡ shown_at dir number types_only
    (get_or places i 0) → after ≡ before ++ option_to_list given
    → after ++ shown_at_each dir number types_only (drop (i + 1) places) ≡ whole
unfolding shown_at_each
shown_more dir number types_only places i before after given whole lt so_far is new =
    ap (λ (attrs : List Given). attrs ++ shown_at_each dir number types_only (drop (i + 1) places))
    (new ∙ ap (λ (g : Option Given). before ++ option_to_list g) is)
    ∙ append_assoc before (option_to_list (shown_at dir number types_only (get_or places i 0)))
    (shown_at_each dir number types_only (drop (i + 1) places))
    ∙ ap (λ (ps : List ℕ). before ++ shown_at_each dir number types_only ps) (sym (drop_more places i 0 lt))
    ∙ so_far

none_shown : (dir : Directory) (number : ℕ) (types_only : Bool) → shown_at_each dir number types_only [] ≡ []
unfolding shown_at_each
none_shown dir number types_only = refl

pub shown_end : (dir : Directory) (number : ℕ) (types_only : Bool) (places : List ℕ) (i : ℕ)
    (attrs whole : List Given) → length places ≤ i
    → attrs ++ shown_at_each dir number types_only (drop i places) ≡ whole → attrs ≡ whole
shown_end dir number types_only places i attrs whole le so_far =
    sym (append-nil attrs)
    ∙ ap (λ (more : List Given). attrs ++ more)
    (sym (ap (shown_at_each dir number types_only) (drop_all i places le) ∙ none_shown dir number types_only))
    ∙ so_far

-- ---- the descriptor

pub reads_flags : (dir : Directory) (token : Token) (number flags : ℕ) (control security : Bool) → control
    ≡ is_granted dir token number [] read_control → security ≡ is_granted dir token number [] access_system_security
    → ((((not (says flags 1) || control) && (not (says flags 2) || control)) && (not (says flags 4) || control))
    && (not (says flags 8) || security)) ≡ are_read (parts_read dir token number) flags
unfolding are_read parts_read
reads_flags dir token number flags control security c s =
    by control security (is_granted dir token number [] read_control)
    (is_granted dir token number [] access_system_security) c s
  where
    sd : Sd
    sd = sd_at dir.objects number

    by : (control' security' control'' security'' : Bool) → control' ≡ control'' → security' ≡ security''
        → ((((not (says flags 1) || control') && (not (says flags 2) || control'))
        && (not (says flags 4) || control')) && (not (says flags 8) || security'))
        ≡ (((is_read_if (says flags 1) (asked control'' sd.owner) && is_read_if (says flags 2)
        (asked control'' sd.group)) && is_read_if (says flags 4) (asked control'' sd.dacl))
        && is_read_if (says flags 8) (asked security'' sd.sacl))
    by true true true true e f = refl
    by true false true false e f = refl
    by false true false true e f = refl
    by false false false false e f = refl
    by true x false y e f = absurd (both_ways true e refl)
    by false x true y e f = absurd (both_ways false refl e)
    by true true true false e f = absurd (both_ways true f refl)
    by true false true true e f = absurd (both_ways false refl f)
    by false true false false e f = absurd (both_ways true f refl)
    by false false false true e f = absurd (both_ways false refl f)

-- a part that is asked for and may be read is the part
part_asked : {A : Type 0} → (wanted read : Bool) (x : A) → is_read_if wanted (asked read x) ≡ true
    → only_if wanted (asked read x) ≡ asked wanted x
part_asked false read x is = refl
part_asked true true x is = refl
part_asked true false x is = absurd cc

abbrev made : Option SidValue → Option SidValue → Option AceList → Option AceList → SdParts
made owner group dacl sacl = record { owner = owner; group = group; dacl = dacl; sacl = sacl }

pub parts_are : (dir : Directory) (token : Token) (number flags : ℕ) → true ≡ are_read (parts_read dir token number)
    flags → parts_asked (parts_read dir token number) flags ≡ parts_shown (sd_at dir.objects number) flags
unfolding are_read parts_read parts_asked
parts_are dir token number flags is =
    let sd : Sd = sd_at dir.objects number in
    let control : Bool = is_granted dir token number [] read_control in
    let security : Bool = is_granted dir token number [] access_system_security in
    let all = and_parts ((is_read_if (says flags 1) (asked control sd.owner) && is_read_if (says flags 2)
    (asked control sd.group)) && is_read_if (says flags 4) (asked control sd.dacl))
    (is_read_if (says flags 8) (asked security sd.sacl)) (sym is) in
    let three = and_parts (is_read_if (says flags 1) (asked control sd.owner) && is_read_if (says flags 2)
    (asked control sd.group)) (is_read_if (says flags 4) (asked control sd.dacl)) all.0 in
    let two = and_parts (is_read_if (says flags 1) (asked control sd.owner))
    (is_read_if (says flags 2) (asked control sd.group)) three.0 in
    of_parts (part_asked (says flags 1) control sd.owner two.0) (part_asked (says flags 2) control sd.group two.1)
    (part_asked (says flags 4) control sd.dacl three.1) (part_asked (says flags 8) security sd.sacl all.1)
  where
    of_parts : {o o' g g' : Option SidValue} {d d' s s' : Option AceList} → o ≡ o' → g ≡ g' → d ≡ d' → s ≡ s'
        → made o g d s ≡ made o' g' d' s'
    of_parts {o} {o'} {g} {g'} {d} {d'} {s} {s'} eo eg ed es =
        ap (λ (x : Option SidValue). made x g d s) eo ∙ ap (λ (x : Option SidValue). made o' x d s) eg
        ∙ ap (λ (x : Option AceList). made o' g' x s) ed ∙ ap (made o' g' d') es

pub written_is : (dir : Directory) (number : ℕ) (sd : Sd) (flags : ℕ) (r : Result (List ℕ) AclWriteFault)
    → sd ≡ sd_at dir.objects number → written (parts_shown sd flags) ≡ r
    → Some r ≡ Some (written (parts_shown (sd_at dir.objects number) flags))
written_is dir number sd flags r is gives =
    ap (λ (x : Result (List ℕ) AclWriteFault). Some x)
    (sym gives ∙ ap (λ (s : Sd). written (parts_shown s flags)) is)

pub descriptor_is : (dir : Directory) (token : Token) (number : ℕ) (search : SearchValue) (flags : ℕ) → true
    ≡ is_descriptor_asked search.attrs → true ≡ are_read (parts_read dir token number) flags
    → Some (written (parts_shown (sd_at dir.objects number) flags)) ≡ descriptor_given search flags
    (parts_read dir token number)
unfolding descriptor_given
descriptor_is dir token number search flags asked_for read =
    ap (λ (parts : SdParts). Some (written parts)) (sym (parts_are dir token number flags read))
    ∙ ap (λ (b : Bool). if b && true then Some (written (parts_asked (parts_read dir token number) flags)) else None)
    asked_for
    ∙ ap (λ (b : Bool). if is_descriptor_asked search.attrs && b
    then Some (written (parts_asked (parts_read dir token number) flags)) else None) read
