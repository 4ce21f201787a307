-- The codes of rights and flags, and how a line names a right, are words.
use Rattle.std.proofs.Common.{Bool, ◌≡◌, ℕ, true, false, if◌then◌else◌, List, [], ◌∷◌, ◌++◌}
use Rattle.std.proofs.Common.{codes, refl}
use Rattle.std.specs.Prelude.{nat_lt, not, ◌==◌}
use Rattle.std.specs.List.{AllByRecursion, flat_map, list_all}
use Rattle.std.proofs.lemmas.Bool.{and_parts}
use Rattle.ad_acl.specs.declared.codes.Code.{Code}
use Rattle.ad_acl.specs.Codes.{right_codes, flag_codes}
use Rattle.ad_acl.specs.Entry.{says}
use Rattle.ad_ids.specs.GuidText.{guid_text}
use Rattle.ad_sddl.specs.Canonical.{code_text, codes_text, hex_text, rights_text, is_covered}
use Rattle.ad_schema.specs.declared.info.RightInfo.{RightInfo}
use Rattle.ad_access_dir.specs.Labels.{is_graphic, is_title, right_title}
use Rattle.ad_dsacls.specs.Words.{or_dash, own_flag, flags_text}
use Rattle.ad_text_laws.specs.Lines.{is_word}
use Rattle.ad_text_laws.proofs.LineLaws.{both, two_words}
use Rattle.ad_text_laws.proofs.WordLaws.{hex_text_word}
use Rattle.ad_text_laws.proofs.EventLaws.{guid_word}

-- ---- codes

abbrev pub AreLetters : List Code → Type 0
AreLetters table = AllByRecursion (λ (code : Code). is_word code.letters ≡ true) table

pub right_letters : AreLetters right_codes
unfolding right_codes
right_letters = (
  refl,
  (
    refl,
    (
      refl,
      (
        refl,
        (
          refl,
          (
            refl,
            (
              refl,
              (
                refl,
                (
                  refl,
                  (
                    refl,
                    (
                      refl,
                      (
                        refl,
                        (
                          refl,
                          (
                            refl,
                            (
                              refl,
                              (refl, (refl, tt)),
                            ),
                          ),
                        ),
                      ),
                    ),
                  ),
                ),
              ),
            ),
          ),
        ),
      ),
    ),
  ),
)

pub flag_letters : AreLetters flag_codes
unfolding flag_codes
flag_letters = (refl, (refl, (refl, (refl, (refl, (refl, (refl, tt)))))))

pub if_word : (t : Bool) (letters : List ℕ) → is_word letters ≡ true → is_word (if t then letters else []) ≡ true
if_word true letters e = e
if_word false letters e = refl

pub codes_word : (table : List Code) (mask : ℕ) → AreLetters table → is_word (codes_text table mask) ≡ true
codes_word [] mask all = refl
codes_word (code ∷ table) mask all = two_words (code_text mask code) (codes_text table mask)
    (if_word (says mask code.bits) code.letters all.0) (codes_word table mask all.1)

or_dash_word : (text : List ℕ) → is_word text ≡ true → is_word (or_dash text) ≡ true
or_dash_word [] e = refl
or_dash_word (b ∷ bytes) e = e

-- ---- the rights and the flags of an entry

pub rights_text_word : (mask : ℕ) → is_word (rights_text mask) ≡ true
rights_text_word mask = by (is_covered mask)
  where
    by : (t : Bool) → is_word (if t then codes_text right_codes mask else codes "0x" ++ hex_text 8 mask) ≡ true
    by true = codes_word right_codes mask right_letters
    by false = two_words (codes "0x") (hex_text 8 mask) refl (hex_text_word 8 mask)

pub rights_word : (mask : ℕ) → is_word (or_dash (rights_text mask)) ≡ true
rights_word mask = or_dash_word (rights_text mask) (rights_text_word mask)

own_word : (flags : ℕ) (code : Code) → is_word code.letters ≡ true → is_word (own_flag flags code) ≡ true
own_word flags code e = by (code.bits == 16)
  where
    by : (t : Bool) → is_word (if t then [] else code_text flags code) ≡ true
    by true = refl
    by false = if_word (says flags code.bits) code.letters e

own_words : (flags : ℕ) (table : List Code) → AreLetters table → is_word (flat_map (own_flag flags) table) ≡ true
own_words flags [] all = refl
own_words flags (code ∷ table) all = two_words (own_flag flags code) (flat_map (own_flag flags) table)
    (own_word flags code all.0) (own_words flags table all.1)

pub flags_word : (flags : ℕ) → is_word (or_dash (flags_text flags)) ≡ true
unfolding flags_text
flags_word flags = or_dash_word (flat_map (own_flag flags) flag_codes) (own_words flags flag_codes flag_letters)

-- ---- how a line names a right

graphic_words : (bytes : List ℕ) → list_all is_graphic bytes ≡ true → is_word bytes ≡ true
graphic_words [] e = refl
graphic_words (b ∷ bytes) e =
    let p = and_parts (is_graphic b) (list_all is_graphic bytes) e in
    both (nat_lt 32 b) (is_word bytes) (and_parts (nat_lt 32 b) (nat_lt b 127) p.0).0 (graphic_words bytes p.1)

pub titled_word : (name : List ℕ) → is_title name ≡ true → is_word name ≡ true
titled_word [] e = refl
titled_word (b ∷ []) e =
    both (nat_lt 32 b) true (and_parts (nat_lt 32 b) (nat_lt b 127) (and_parts (is_graphic b) (not (b == 45)) e).0).0 refl
titled_word (b ∷ c ∷ bytes) e = graphic_words (b ∷ c ∷ bytes) e

pub title_word : (r : RightInfo) → is_word (right_title r) ≡ true
title_word r = by (is_title r.name) refl
  where
    by : (t : Bool) → is_title r.name ≡ t → is_word (if t then r.name else guid_text r.guid) ≡ true
    by true e = titled_word r.name e
    by false e = guid_word r.guid
