-- The fields of an entry: what is read is encoded so, and what is encoded so is read.
use Rattle.std.proofs.Common.{Bool, eqb, true, false, ◌≡◌, inl, inr, ℕ, zero, suc, ◌+◌, ◌*◌, ◌≤◌, if◌then◌else◌}
use Rattle.std.proofs.Common.{Option, Some, None, List, [], ◌∷◌, ◌++◌, length, take, drop, Ok, Err, codes, refl, sym}
use Rattle.std.proofs.Common.{ap, subst, ◌∙◌, arith}
use Rattle.std.specs.Prelude.{slice_index, ◌&&◌}
use Rattle.std.specs.List.{flat_map, list_all, AllByRecursion}
use Rattle.std.proofs.lemmas.Bool.{cases_Bool, eqb-true}
use Rattle.std.proofs.lemmas.List.{take_at, drop_at, take-append-drop}
use Rattle.uuid.specs.Text.{is_hex_digit, value_of, parsed_simple, has_hyphens, digits_of, by_index, byte_of_digits}
use Rattle.uuid.specs.Parts.{swap_fields}
use Rattle.ad_bytes.proofs.Steps.{from_bind, from_ok, both_true}
use Rattle.ad_ids.specs.declared.guid.Guid.{Guid}
use Rattle.ad_ids.specs.GuidText.{SpellsGuidText}
use Rattle.ad_ids.specs.GuidText.{guid_of_text}
use Rattle.ad_sddl.specs.declared.fault.SddlKind.TheVariants as kind
use Rattle.ad_sddl.specs.declared.fault.ParseError.{ParseError}
use Rattle.ad_acl.specs.declared.codes.Code.{Code}
use Rattle.ad_sddl.specs.Words.{begins, find}
use Rattle.ad_acl.specs.Codes.{right_codes, flag_codes}
use Rattle.ad_sddl.specs.Grammar.{SpellsCodes, SpellsHex, SpellsRights, digits_value, SpellsGuidIf, IsIn, lower_letters}
use Rattle.ad_sddl.specs.Reading.{stop, or_stop, end_at, digits_at, digit_here, hex_at, rights_at, field_at}
use Rattle.ad_sddl.specs.Reading.{present_guid_at, guid_at}
use Rattle.ad_sddl.proofs.Beginnings.{begins_one, begins_two, TakesField, end_takes, end_again}
use Rattle.ad_sddl.proofs.Codes.{found_all}
use Rattle.ad_sddl.proofs.CodeText.{IsTwo, letters_found, field_takes, field_again}
use Rattle.ad_sddl.proofs.Guids.{guid_spelled, guid_spells}

-- ---- the tables

flags_two : AllByRecursion IsTwo flag_codes
unfolding flag_codes
flags_two = (
  record { one = 79; two = 73; letters = refl },
  (
    record { one = 67; two = 73; letters = refl },
    (
      record { one = 78; two = 80; letters = refl },
      (
        record { one = 73; two = 79; letters = refl },
        (
          record { one = 73; two = 68; letters = refl },
          (record { one = 83; two = 65; letters = refl }, (record { one = 70; two = 65; letters = refl }, tt)),
        ),
      ),
    ),
  ),
)

rights_two : AllByRecursion IsTwo right_codes
unfolding right_codes
rights_two = (
  record { one = 67; two = 67; letters = refl },
  (
    record { one = 68; two = 67; letters = refl },
    (
      record { one = 76; two = 67; letters = refl },
      (
        record { one = 83; two = 87; letters = refl },
        (
          record { one = 82; two = 80; letters = refl },
          (
            record { one = 87; two = 80; letters = refl },
            (
              record { one = 68; two = 84; letters = refl },
              (
                record { one = 76; two = 79; letters = refl },
                (
                  record { one = 67; two = 82; letters = refl },
                  (
                    record { one = 83; two = 68; letters = refl },
                    (
                      record { one = 82; two = 67; letters = refl },
                      (
                        record { one = 87; two = 68; letters = refl },
                        (
                          record { one = 87; two = 79; letters = refl },
                          (
                            record { one = 71; two = 65; letters = refl },
                            (
                              record { one = 71; two = 88; letters = refl },
                              (
                                record { one = 71; two = 87; letters = refl },
                                (record { one = 71; two = 82; letters = refl }, tt),
                              ),
                            ),
                          ),
                        ),
                      ),
                    ),
                  ),
                ),
              ),
            ),
          ),
        ),
      ),
    ),
  ),
)

abbrev first_of : Code → ℕ
first_of c = slice_index (lower_letters c) 0

-- no code of the table begins with this character
starts_otherwise : (w : ℕ) (table : List Code) → AllByRecursion IsTwo table
    → AllByRecursion (λ c. eqb w (first_of c) ≡ false) table → (a b : ℕ) (c : Code) → find table a b ≡ Some c
    → eqb w a ≡ false
starts_otherwise w table two other a b c found =
    let letters : lower_letters c ≡ a ∷ b ∷ [] = letters_found table a b c two found in
    let first : first_of c ≡ a = ap (λ (l : List ℕ). slice_index l 0) letters in
    subst (λ (x : ℕ). eqb w x ≡ false) first (found_all (λ (d : Code). eqb w (first_of d) ≡ false) table a b c other
    found)

flags_start : AllByRecursion (λ c. eqb 59 (first_of c) ≡ false) flag_codes
unfolding flag_codes
flags_start = (refl, (refl, (refl, (refl, (refl, (refl, (refl, tt)))))))

flags_no_semicolon : (a b : ℕ) (c : Code) → find flag_codes a b ≡ Some c → eqb 59 a ≡ false
flags_no_semicolon = starts_otherwise 59 flag_codes flags_two flags_start

rights_start : AllByRecursion (λ c. eqb 59 (first_of c) ≡ false) right_codes
unfolding right_codes
rights_start = (
  refl,
  (
    refl,
    (
      refl,
      (
        refl,
        (refl, (refl, (refl, (refl, (refl, (refl, (refl, (refl, (refl, (refl, (refl, (refl, (refl, tt))))))))))))),
      ),
    ),
  ),
)

rights_no_semicolon : (a b : ℕ) (c : Code) → find right_codes a b ≡ Some c → eqb 59 a ≡ false
rights_no_semicolon = starts_otherwise 59 right_codes rights_two rights_start

rights_no_zero : AllByRecursion (λ c. eqb 48 (first_of c) ≡ false) right_codes
unfolding right_codes
rights_no_zero = (
  refl,
  (
    refl,
    (
      refl,
      (
        refl,
        (refl, (refl, (refl, (refl, (refl, (refl, (refl, (refl, (refl, (refl, (refl, (refl, (refl, tt))))))))))))),
      ),
    ),
  ),
)

-- ---- flags

pub flags_takes : (bytes : List ℕ) (flags : ℕ) (rest : List ℕ) → field_at flag_codes kind.Flag bytes
    ≡ Ok (flags, rest) → TakesField 59 (SpellsCodes flag_codes) bytes flags rest
flags_takes bytes flags rest e = field_takes flag_codes kind.Flag flags_two bytes flags rest e

pub flags_again : (flags : ℕ) (text rest : List ℕ) → SpellsCodes flag_codes flags text → field_at flag_codes kind.Flag
    (text ++ 59 ∷ rest) ≡ Ok (flags, rest)
flags_again flags text rest s = field_again flag_codes kind.Flag flags_no_semicolon flags text rest s

-- ---- hexadecimal digits

-- digits at the beginning, no more than there is room for, and what stands after them
record Digits (room n : ℕ) (bytes : List ℕ) (number : ℕ) (rest : List ℕ) : Type 0 where
  digits : List ℕ
  each : AllByRecursion (λ d. is_hex_digit d ≡ true) digits
  few : length digits ≤ room
  value : number ≡ digits_value n digits
  parts : bytes ≡ digits ++ rest

digits_if : (is : Bool) (room n b : ℕ) (bytes : List ℕ) → is_hex_digit b ≡ is → Digits room (n * 16 + value_of b)
    bytes (digits_at room (n * 16 + value_of b) bytes).0 (digits_at room (n * 16 + value_of b) bytes).1
    → let r = (if is then digits_at room (n * 16 + value_of b) bytes else (n, b ∷ bytes))
    in Digits (suc room) n (b ∷ bytes) r.0 r.1
digits_if true room n b bytes is d = record {
  digits = b ∷ d.digits;
  each = (is, d.each);
  few
      = omega (arith, d.few);
  value = d.value;
  parts = ap (λ (r : List ℕ). b ∷ r) d.parts;
}
digits_if false room n b bytes is d = record { digits = []; each = tt; few = omega arith; value = refl; parts = refl }

digits_take : (room n : ℕ) (bytes : List ℕ) → Digits room n bytes (digits_at room n bytes).0 (digits_at room n bytes).1
unfolding digits_at
digits_take zero n bytes = record { digits = []; each = tt; few = omega arith; value = refl; parts = refl }
digits_take (suc room) n [] = record { digits = []; each = tt; few = omega arith; value = refl; parts = refl }
digits_take (suc room) n (b ∷ bytes) = digits_if (is_hex_digit b) room n b bytes refl
    (digits_take room (n * 16 + value_of b) bytes)

digits_again : (room n : ℕ) (digits rest : List ℕ) → AllByRecursion (λ d. is_hex_digit d ≡ true) digits
    → length digits ≤ room → digits_at room n (digits ++ 59 ∷ rest) ≡ (digits_value n digits, 59 ∷ rest)
unfolding digits_at
digits_again zero n [] rest each few = refl
digits_again zero n (d ∷ digits) rest each few = absurd (omega (arith, few))
digits_again (suc room) n [] rest each few = refl
digits_again (suc room) n (d ∷ digits) rest each few
    = rw each.0 (digits_again room (n * 16 + value_of d) digits rest each.1 (omega (arith, few)))

-- ---- rights

some_digit : (bytes : List ℕ) (v : ℕ) (d : List ℕ) (rest : List ℕ) → digit_here bytes ≡ Some v → bytes ≡ d ++ 59
    ∷ rest → 1 ≤ length d
some_digit bytes v [] rest e parts = absurd (none (ap digit_here (sym parts) ∙ e))
  where
    none : None ≡ Some v → ⊥
    none e = absurd cc
some_digit bytes v (x ∷ d) rest e parts = omega arith

hex_takes : (bytes : List ℕ) (mask : ℕ) (rest : List ℕ) → begins (codes "0x") bytes ≡ true → hex_at bytes
    ≡ Ok (mask, rest) → TakesField 59 SpellsHex bytes mask rest
unfolding hex_at
hex_takes bytes mask rest begun e =
    let behind = drop 2 bytes in
    let d = digits_take 8 0 behind in
    from_bind (or_stop kind.Rights bytes (digit_here behind)) _ (mask, rest) e
    (λ (v : ℕ) (e1 : or_stop kind.Rights bytes (digit_here behind) ≡ Ok v) e2.
    from_bind (end_at 59 (digits_at 8 0 behind).1) _ (mask, rest) e2
    (λ (end : Unit {0} × List ℕ) (e3 : end_at 59 (digits_at 8 0 behind).1 ≡ Ok end)
    (e4 : Ok ((digits_at 8 0 behind).0, end.1) ≡ Ok (mask, rest)).
    let same : ((digits_at 8 0 behind).0, end.1) ≡ (mask, rest) = from_ok {E = ParseError} ((digits_at 8 0 behind).0, end.1)
    (mask, rest) e4 in
    let ended : (digits_at 8 0 behind).1 ≡ 59 ∷ rest = end_takes 59 (digits_at 8 0 behind).1 end.0 end.1 e3
    ∙ ap (λ (p : ℕ × List ℕ). 59 ∷ p.1) same in
    let parts : behind ≡ d.digits ++ 59 ∷ rest = d.parts ∙ ap (λ (r : List ℕ). d.digits ++ r) ended in
    record {
      text = codes "0x" ++ d.digits;
      parts = begins_two 48 120 bytes begun ∙ ap (λ (r : List ℕ). 48 ∷ 120 ∷ r) parts;
      spelled = record {
        digits = d.digits;
        each = d.each;
        at_least_one = some_digit behind v d.digits rest (some_given bytes (digit_here behind) v e1) parts;
        at_most_8 = d.few;
        mask_is = sym (ap (λ (p : ℕ × List ℕ). p.0) same) ∙ d.value;
        parts = refl;
      };
    }))
  where
    some_given : (bytes : List ℕ) (o : Option ℕ) (v : ℕ) → or_stop kind.Rights bytes o ≡ Ok v → o ≡ Some v
    some_given bytes None v e = absurd cc
    some_given bytes (Some x) v e = ap Some (from_ok {E = ParseError} x v e)

rights_if : (is : Bool) (bytes : List ℕ) (mask : ℕ) (rest : List ℕ) → begins (codes "0x") bytes ≡ is
    → (if is then hex_at bytes else field_at right_codes kind.Rights bytes) ≡ Ok (mask, rest)
    → TakesField 59 SpellsRights bytes mask rest
rights_if true bytes mask rest begun e = let t = hex_takes bytes mask rest begun e
    in record { text = t.text; parts = t.parts; spelled = inl t.spelled }
rights_if false bytes mask rest begun e = let t = field_takes right_codes kind.Rights rights_two bytes mask rest e
    in record { text = t.text; parts = t.parts; spelled = inr t.spelled }

pub rights_takes : (bytes : List ℕ) (mask : ℕ) (rest : List ℕ) → rights_at bytes ≡ Ok (mask, rest)
    → TakesField 59 SpellsRights bytes mask rest
rights_takes bytes mask rest e = rights_if (begins (codes "0x") bytes) bytes mask rest refl e

hex_again : (mask : ℕ) (text rest : List ℕ) → SpellsHex mask text → rights_at (text ++ 59 ∷ rest) ≡ Ok (mask, rest)
unfolding hex_at begins
hex_again mask text rest s = ap (λ (t : List ℕ). rights_at (t ++ 59 ∷ rest)) s.parts ∙ from_digits s.digits s.each
    s.at_least_one s.at_most_8 ∙ ap (λ (m : ℕ). Ok (m, rest)) (sym s.mask_is)
  where
    from_digits : (digits : List ℕ) → AllByRecursion (λ d. is_hex_digit d ≡ true) digits → 1 ≤ length digits
        → length digits ≤ 8 → hex_at (48 ∷ 120 ∷ digits ++ 59 ∷ rest) ≡ Ok (digits_value 0 digits, rest)
    from_digits [] each some few = absurd (omega (arith, some))
    from_digits (d ∷ digits) each some few
        = rw (each.0, digits_again 8 0 (d ∷ digits) rest each few, end_again 59 rest) refl

codes_not_hex : (given : List Code) (rest : List ℕ) → AllByRecursion (IsIn right_codes) given
    → begins (codes "0x") (flat_map lower_letters given ++ 59 ∷ rest) ≡ false
unfolding begins
codes_not_hex [] rest each = refl
codes_not_hex (c ∷ given) rest each =
    let is = each.0 in
    let zero : eqb 48 is.0 ≡ false = starts_otherwise 48 right_codes rights_two rights_no_zero is.0 is.1 c is.3 in
    ap (λ (l : List ℕ). begins (codes "0x") ((l ++ flat_map lower_letters given) ++ 59 ∷ rest)) is.2 ∙ rw zero refl

pub rights_again : (mask : ℕ) (text rest : List ℕ) → SpellsRights mask text → rights_at (text ++ 59 ∷ rest)
    ≡ Ok (mask, rest)
rights_again mask text rest (inl s) = hex_again mask text rest s
rights_again mask text rest (inr s) =
    let none : begins (codes "0x") (text ++ 59 ∷ rest) ≡ false
    = ap (λ (t : List ℕ). begins (codes "0x") (t ++ 59 ∷ rest)) s.parts ∙ codes_not_hex s.given rest s.each in
    rw none (field_again right_codes kind.Rights rights_no_semicolon mask text rest s)

-- ---- GUIDs

guid_given : (bytes : List ℕ) (o : Option Guid) (g : Guid) → or_stop kind.Guid bytes o ≡ Ok g → o ≡ Some g
guid_given bytes None g e = absurd cc
guid_given bytes (Some x) g e = ap Some (from_ok {E = ParseError} x g e)

present_takes : (bytes : List ℕ) (v : Option Guid) (rest : List ℕ) → present_guid_at bytes ≡ Ok (v, rest)
    → TakesField 59 (SpellsGuidIf true) bytes v rest
unfolding present_guid_at
present_takes bytes v rest e =
    from_bind (or_stop kind.Guid bytes (guid_of_text (take 36 bytes))) _ (v, rest) e
    (λ (g : Guid) (e1 : or_stop kind.Guid bytes (guid_of_text (take 36 bytes)) ≡ Ok g) e2.
    from_bind (end_at 59 (drop 36 bytes)) _ (v, rest) e2
    (λ (end : Unit {0} × List ℕ)
    (e3 : end_at 59 (drop 36 bytes) ≡ Ok end) (e4 : Ok (Some g, end.1) ≡ Ok (v, rest)).
    let same : (Some g, end.1) ≡ (v, rest) = from_ok {E = ParseError} (Some g, end.1) (v, rest) e4 in
    subst (λ (p : Option Guid × List ℕ). TakesField 59 (SpellsGuidIf true) bytes p.0 p.1) same
    (record {
      text = take 36 bytes;
      parts = sym (take-append-drop 36 bytes) ∙ ap (λ (r : List ℕ). take 36 bytes ++ r)
          (end_takes 59 (drop 36 bytes) end.0 end.1 e3);
      spelled = guid_spells (take 36 bytes) g (guid_given bytes (guid_of_text (take 36 bytes)) g e1);
    })))

absent_guid : (is_object : Bool) (bytes rest : List ℕ) (v : Option Guid) → begins (codes ";") bytes ≡ true → None ≡ v
    → drop 1 bytes ≡ rest → TakesField 59 (SpellsGuidIf is_object) bytes v rest
absent_guid is_object bytes rest v begun none behind
    = subst (λ (o : Option Guid). TakesField 59 (SpellsGuidIf is_object) bytes o rest) none
    (record { text = []; parts = begins_one 59 bytes begun ∙ ap (λ (r : List ℕ). 59 ∷ r) behind; spelled = refl })

guid_if : (end is_object : Bool) (bytes : List ℕ) (v : Option Guid) (rest : List ℕ) → begins (codes ";") bytes ≡ end
    → (if end then Ok (None, drop 1 bytes)
    else (if is_object then present_guid_at bytes else Err (stop kind.Guid bytes))) ≡ Ok (v, rest)
    → TakesField 59 (SpellsGuidIf is_object) bytes v rest
guid_if true is_object bytes v rest begun e =
    let same : (None, drop 1 bytes) ≡ (v, rest) = from_ok {E = ParseError} (None, drop 1 bytes) (v, rest) e in
    absent_guid is_object bytes rest v begun (ap (λ (p : Option Guid × List ℕ). p.0) same)
    (ap (λ (p : Option Guid × List ℕ). p.1) same)
guid_if false true bytes v rest begun e = present_takes bytes v rest e
guid_if false false bytes v rest begun e = absurd cc

pub guid_takes : (is_object : Bool) (bytes : List ℕ) (v : Option Guid) (rest : List ℕ) → guid_at is_object bytes
    ≡ Ok (v, rest) → TakesField 59 (SpellsGuidIf is_object) bytes v rest
unfolding guid_at
guid_takes is_object bytes v rest e = guid_if (begins (codes ";") bytes) is_object bytes v rest refl e

-- a GUID has 36 characters, and begins with no semicolon
tested : {X : Type 0} (a b : Bool) (o : Option X) (x : X) → (if a && b then o else None) ≡ Some x → (a ≡ true)
    × (o ≡ Some x)
tested true true o x e = (refl, e)
tested true false o x e = absurd cc
tested false b o x e = absurd cc

guid_long : (g : Guid) (text : List ℕ) → SpellsGuidText g text → length text ≡ 36
guid_long g text s = eqb-true (length text) 36
    (tested (eqb (length text) 36) (has_hyphens text) (parsed_simple (digits_of text)) (swap_fields g.bytes) s.1).0

digits_tested : (digits xs : List ℕ) → parsed_simple digits ≡ Some xs → list_all is_hex_digit digits ≡ true
digits_tested digits xs e = all_of (eqb (length digits) 32) (list_all is_hex_digit digits)
    (Some (by_index 16 (byte_of_digits digits))) xs e
  where
    all_of : (a b : Bool) (o : Option (List ℕ)) (x : List ℕ) → (if a && b then o else None) ≡ Some x → b ≡ true
    all_of true true o x e = refl
    all_of true false o x e = absurd cc
    all_of false b o x e = absurd cc

first_digit : (text : List ℕ) → list_all is_hex_digit (digits_of text) ≡ true → is_hex_digit (slice_index text 0) ≡ true
unfolding by_index
first_digit text e = (both_true (is_hex_digit (slice_index text 0)) _ e).0

not_semicolon : (c : ℕ) → is_hex_digit c ≡ true → eqb 59 c ≡ false
not_semicolon c e = elim (cases_Bool (eqb 59 c)) [
  | inl is ↦ absurd (wrong (ap is_hex_digit (eqb-true 59 c is) ∙ e))
  | inr other ↦ other
]
  where
    wrong : false ≡ true → ⊥
    wrong e = absurd cc

guid_start : (g : Guid) (text rest : List ℕ) → SpellsGuidText g text → begins (codes ";") (text ++ rest) ≡ false
unfolding begins
guid_start g [] rest s = absurd (omega (arith, guid_long g [] s))
guid_start g (x ∷ text) rest s =
    let simple = (tested (eqb (length (x ∷ text)) 36) (has_hyphens (x ∷ text)) (parsed_simple (digits_of (x ∷ text)))
    (swap_fields g.bytes) s.1).1 in
    let digit : is_hex_digit x ≡ true = first_digit (x ∷ text)
    (digits_tested (digits_of (x ∷ text)) (swap_fields g.bytes) simple) in
    rw (not_semicolon x digit) refl

pub guid_again : (is_object : Bool) (v : Option Guid) (text rest : List ℕ) → SpellsGuidIf is_object v text
    → guid_at is_object (text ++ 59 ∷ rest) ≡ Ok (v, rest)
unfolding guid_at present_guid_at begins
guid_again is_object None text rest s = rw s refl
guid_again false (Some g) text rest s = absurd s
guid_again true (Some g) text rest s =
    let long = guid_long g text s in
    let start = guid_start g text (59 ∷ rest) s in
    let front : guid_of_text (take 36 (text ++ 59 ∷ rest)) ≡ Some g = ap (λ (t : List ℕ). guid_of_text t)
    (take_at text (59 ∷ rest) 36 long) ∙ guid_spelled g text s in
    rw (start, front, drop_at text (59 ∷ rest) 36 long, end_again 59 rest) refl
