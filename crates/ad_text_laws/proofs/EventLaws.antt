-- The lines of audit are read back.
use Rattle.std.proofs.Common.{Bool, nat_lt, ◌≡◌, ◌⊎◌, inl, inr, ℕ, zero, suc, ◌^◌, ◌<◌, true, false, if◌then◌else◌}
use Rattle.std.proofs.Common.{Option, Some, None, All, List, [], ◌∷◌, ◌++◌, length, codes, decimal, refl, sym, ap, subst, ◌∙◌}
use Rattle.std.proofs.Common.{append_assoc, arith}
use Rattle.std.specs.Prelude.{option_map, IfSome}
use Rattle.std.specs.List.{AllByRecursion, flat_map}
use Rattle.std.specs.Str.{bytes_eq}
use Rattle.std.proofs.lemmas.Bool.Decides.{nat_tests}
use Rattle.std.proofs.lemmas.Slice.Eq.{bytes_eq-Decides}
use Rattle.uuid.specs.Text.{lower, hex_digit, by_index, nibble, digit_place, is_hyphen_place}
use Rattle.uuid.specs.Parts.{swap_fields}
use Rattle.uuid.proofs.TextLemmas.{nibble_small}
use Rattle.uuid.proofs.RoundTrips.{parses_hyphenated_text}
use Rattle.ad_bytes.specs.Puts.{spaced}
use Rattle.ad_ids.specs.SidText.{sid_text}
use Rattle.ad_ids.specs.Guid.{IsGuid}
use Rattle.ad_ids.specs.GuidText.{guid_text, guid_of_text, guid_or_hyphen, SpellsGuidText}
use Rattle.ad_ids.specs.declared.guid.Guid.{Guid}
use Rattle.ad_ids.proofs.GuidText.{value_read, length-guid_text}
use Rattle.ad_acl.specs.declared.codes.Code.{Code}
use Rattle.ad_acl.specs.Mask.{access_system_security}
use Rattle.ad_acl.specs.Codes.{right_codes, letters_of}
use Rattle.ad_audit.specs.declared.event.Event.{Event}
use Rattle.ad_audit.specs.Line.{event_line, outcome_word}
use Rattle.ad_text_laws.specs.Lines.{is_line, is_word, facts_of}
use Rattle.ad_text_laws.specs.Events.{outcome_of, right_of, guid_of, event_of, IsBitsOf, IsEvent, event_text}
use Rattle.ad_text_laws.proofs.LineLaws.{IsRead, both, two_lines, two_words, facts_back}
use Rattle.ad_text_laws.proofs.WordLaws.{word_then, decimal_word, number_back, sid_word, sid_back}
use Rattle.ad_text_laws.proofs.FactLaws.{all_read, spaced_line}

-- ---- GUIDs

by_index_word : (n : ℕ) (f : ℕ → ℕ) → ((k : ℕ) → nat_lt 32 (f k) ≡ true) → is_word (by_index n f) ≡ true
unfolding by_index
by_index_word zero f each = refl
by_index_word (suc n) f each = two_words (by_index n f) (f n ∷ []) (by_index_word n f each)
    (both (nat_lt 32 (f n)) true (each n) refl)

digit_word : (is : Bool) (d : ℕ) → d < 16 → nat_lt 32 (if is then 45 else hex_digit lower d) ≡ true
digit_word true d small = refl
digit_word false d small = grind (arith, nat_tests)

pub guid_word : (g : Guid) → is_word (guid_text g) ≡ true
guid_word g =
    let xs = swap_fields g.bytes in
    by_index_word 36 (λ k. if is_hyphen_place k then 45 else hex_digit lower (nibble xs (digit_place k)))
    (λ k. digit_word (is_hyphen_place k) (nibble xs (digit_place k)) (nibble_small xs (digit_place k)))

all_by_place : (xs : List ℕ) → AllByRecursion (λ b. b < 256) xs → All (λ b. b < 256) xs
all_by_place [] each k d lt = absurd (omega (arith, lt))
all_by_place (x ∷ xs) each zero d lt = each.0
all_by_place (x ∷ xs) each (suc k) d lt = all_by_place xs each.1 k d (omega (arith, lt))

guid_spelled : (g : Guid) → IsGuid g → SpellsGuidText g (guid_text g)
guid_spelled g is =
    let f = is.fits in
    let each : AllByRecursion (λ b. b < 256) (swap_fields g.bytes) =
    (f 3, (f 2, (f 1, (f 0, (f 5, (f 4, (f 7, (f 6, (f 8, (f 9, (f 10, (f 11, (f 12, (f 13, (f 14, (f 15, tt)))))))))))))))) in (
      is.sixteen,
      sym (parses_hyphenated_text lower (swap_fields g.bytes) (inl refl) refl
          (all_by_place (swap_fields g.bytes) each)),
    )

guid_or_hyphen_word : (guid : Option Guid) → is_word (guid_or_hyphen guid) ≡ true
guid_or_hyphen_word None = refl
guid_or_hyphen_word (Some g) = guid_word g

no_hyphen : (g : Guid) → bytes_eq (guid_text g) (codes "-") ≡ false
no_hyphen g = by (bytes_eq (guid_text g) (codes "-")) refl
  where
    by : (t : Bool) → bytes_eq (guid_text g) (codes "-") ≡ t → t ≡ false
    by false e = refl
    by true e =
        let same = (bytes_eq-Decides (guid_text g) (codes "-")).0 e in
        let long = length-guid_text g in
        absurd (omega (arith, sym (ap length same) ∙ long))

guid_back : (guid : Option Guid) → IfSome guid IsGuid → guid_of (guid_or_hyphen guid) ≡ Some guid
guid_back None is = refl
guid_back (Some g) is =
    ap (λ (t : Bool). if t then Some None else option_map Some (guid_of_text (guid_text g))) (no_hyphen g)
    ∙ ap (λ (o : Option Guid). option_map Some o) (sym (value_read g (guid_text g) (guid_spelled g is)))

-- ---- outcomes and rights

outcome_is_word : (success : Bool) → is_word (outcome_word success) ≡ true
outcome_is_word true = refl
outcome_is_word false = refl

outcome_back : (success : Bool) → outcome_of (outcome_word success) ≡ Some success
outcome_back true = refl
outcome_back false = refl

-- a right whose letters are a word, and are read as it
record HasLetters (right : ℕ) : Type 0 where
  word : is_word (letters_of right) ≡ true
  back : right_of (letters_of right) ≡ Some right

abbrev AllLetters : List Code → Type 0
AllLetters [] = Unit {0}
AllLetters (code ∷ table) = HasLetters code.bits × AllLetters table

all_letters : AllLetters right_codes
unfolding letters_of right_of right_codes
all_letters = (record { word = refl; back = refl }, (record { word = refl; back = refl }, (record { word = refl; back = refl }, (record { word = refl; back = refl }, (record { word = refl; back = refl }, (record { word = refl; back = refl }, (record { word = refl; back = refl }, (record { word = refl; back = refl }, (record { word = refl; back = refl }, (record { word = refl; back = refl }, (record { word = refl; back = refl }, (record { word = refl; back = refl }, (record { word = refl; back = refl }, (record { word = refl; back = refl }, (record { word = refl; back = refl }, (record { word = refl; back = refl }, (record { word = refl; back = refl }, tt)))))))))))))))))

among : (table : List Code) (right : ℕ) → AllLetters table → IsBitsOf table right → HasLetters right
among [] right all is = absurd is
among (code ∷ table) right all (inl e) = subst HasLetters (sym e) all.0
among (code ∷ table) right all (inr is) = among table right all.1 is

system : HasLetters (2 ^ access_system_security)
unfolding letters_of right_of
system = record { word = refl; back = refl }

letters : (right : ℕ) → (right ≡ 2 ^ access_system_security) ⊎ IsBitsOf right_codes right → HasLetters right
letters right (inl e) = subst HasLetters (sym e) system
letters right (inr is) = among right_codes right all_letters is

-- ---- events

abbrev line_of : Event → List ℕ
line_of event = spaced (decimal event.frame)
    ++ (spaced (decimal event.connection) ++ (spaced (outcome_word event.success)
    ++ (spaced (letters_of event.right) ++ (spaced (guid_or_hyphen event.guid) ++ (spaced (sid_text event.user)
    ++ event.dn)))))

event_one_line : (event : Event) → IsEvent event → is_line (line_of event) ≡ true
event_one_line event is =
    then_line (decimal event.frame) _ (decimal_word event.frame is.frame)
    (then_line (decimal event.connection) _ (decimal_word event.connection is.connection)
    (then_line (outcome_word event.success) _ (outcome_is_word event.success)
    (then_line (letters_of event.right) _ (letters event.right is.right).word
    (then_line (guid_or_hyphen event.guid) _ (guid_or_hyphen_word event.guid)
    (then_line (sid_text event.user) event.dn (sid_word event.user is.user) is.dn)))))
  where
    then_line : (word rest : List ℕ) → is_word word ≡ true → is_line rest ≡ true → is_line (spaced word ++ rest) ≡ true
    then_line word rest e f = two_lines (spaced word) rest (spaced_line word e) f

event_back : (event : Event) → IsEvent event → event_of (line_of event) ≡ Some event
unfolding event_of
event_back event is =
    rw (
      word_then (decimal event.frame) (spaced (decimal event.connection) ++ (spaced (outcome_word event.success)
          ++ (spaced (letters_of event.right) ++ (spaced (guid_or_hyphen event.guid) ++ (spaced (sid_text event.user)
          ++ event.dn))))) (decimal_word event.frame is.frame),
      word_then (decimal event.connection) (spaced (outcome_word event.success) ++ (spaced (letters_of event.right)
          ++ (spaced (guid_or_hyphen event.guid) ++ (spaced (sid_text event.user) ++ event.dn))))
          (decimal_word event.connection is.connection),
      word_then (outcome_word event.success) (spaced (letters_of event.right) ++ (spaced (guid_or_hyphen event.guid)
          ++ (spaced (sid_text event.user) ++ event.dn))) (outcome_is_word event.success),
      word_then (letters_of event.right) (spaced (guid_or_hyphen event.guid) ++ (spaced (sid_text event.user)
          ++ event.dn)) (letters event.right is.right).word,
      word_then (guid_or_hyphen event.guid) (spaced (sid_text event.user) ++ event.dn)
          (guid_or_hyphen_word event.guid),
      word_then (sid_text event.user) event.dn (sid_word event.user is.user),
      number_back event.frame is.frame,
      number_back event.connection is.connection,
      outcome_back event.success,
      (letters event.right is.right).back,
      guid_back event.guid is.guid,
      sid_back event.user is.user,
    ) refl

event_read : (event : Event) → IsEvent event → IsRead event_of line_of event
event_read event is = record { one_line = event_one_line event is; back = event_back event is }

-- each line as it is written
abbrev text_of : List Event → List ℕ
text_of events = flat_map (λ (event : Event). line_of event ++ 10 ∷ []) events

line_ends : (event : Event) → event_line event ≡ line_of event ++ 10 ∷ []
unfolding event_line
line_ends event =
    let end = 10 ∷ [] in
    let user = spaced (sid_text event.user) in
    let guid = spaced (guid_or_hyphen event.guid) in
    let right = spaced (letters_of event.right) in
    let outcome = spaced (outcome_word event.success) in
    let connection = spaced (decimal event.connection) in
    sym (append_assoc (spaced (decimal event.frame)) (connection ++ (outcome ++ (right ++ (guid ++ (user ++ event.dn))))) end
    ∙ ap (λ (t : List ℕ). spaced (decimal event.frame) ++ t)
    (append_assoc connection (outcome ++ (right ++ (guid ++ (user ++ event.dn)))) end
    ∙ ap (λ (t : List ℕ). connection ++ t) (append_assoc outcome (right ++ (guid ++ (user ++ event.dn))) end
    ∙ ap (λ (t : List ℕ). outcome ++ t) (append_assoc right (guid ++ (user ++ event.dn)) end
    ∙ ap (λ (t : List ℕ). right ++ t) (append_assoc guid (user ++ event.dn) end
    ∙ ap (λ (t : List ℕ). guid ++ t) (append_assoc user event.dn end))))))

events_text : (events : List Event) → event_text events ≡ text_of events
events_text [] = refl
events_text (event ∷ events) = ap (λ (t : List ℕ). t ++ event_text events) (line_ends event)
    ∙ ap (λ (t : List ℕ). (line_of event ++ 10 ∷ []) ++ t) (events_text events)

pub events_back : (events : List Event) → AllByRecursion IsEvent events
    → facts_of event_of (event_text events) ≡ Some events
events_back events all = ap (facts_of event_of) (events_text events)
    ∙ facts_back event_of line_of events (all_read event_of line_of event_read events all)
