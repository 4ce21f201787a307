-- How the texts of questions are read.
use Rattle.std.proofs.Common.{◌≡◌, ◌∙◌, ℕ, Bool, true, false, List, [], ◌∷◌, ◌++◌, Option, Some, None, length, take, drop}
use Rattle.std.proofs.Common.{refl, sym, ap, inl, inr}
use Rattle.std.specs.Prelude.{◌⊎◌, if◌then◌else◌, codes}
use Rattle.std.specs.Option.{option_map, option_and_then}
use Rattle.std.specs.Str.{bytes_eq}
use Rattle.std.proofs.lemmas.Bool.{cases_Bool}
use Rattle.std.proofs.lemmas.List.{take-append-drop}
use Rattle.std.proofs.lemmas.Option.{none-some}
use Rattle.std.proofs.lemmas.Slice.Eq.{bytes_eq-Decides}
use Rattle.ad_acl.specs.Codes.{right_codes}
use Rattle.ad_schema.specs.declared.line.SchemaRecord.{SchemaRecord}
use Rattle.ad_schema.specs.declared.info.AttrId.{AttrId}
use Rattle.ad_schema.specs.declared.info.ClassId.{ClassId}
use Rattle.ad_schema.specs.Attributes.{attr_named}
use Rattle.ad_schema.specs.Classes.{class_named}
use Rattle.ad_needs_rules.specs.Requests.{is_descriptor}
use Rattle.ad_questions.specs.declared.asked.Asked.{Asked}
use Rattle.ad_questions.specs.declared.question.Question.{Question}
use Rattle.ad_questions.specs.declared.question.Question.TheVariants as question
use Rattle.ad_questions.specs.Asked.{bit_in, bit_of, asked_behind, asked_of}
use Rattle.ad_questions.specs.Question.{by_word, behind, reads, writes, adds, rights, of_name, by_name, or_else}
use Rattle.ad_questions.specs.Question.{question_of}

-- ---- words

pub words_are : (schema : List SchemaRecord)
    → (question_of schema (codes "see") ≡ Some question.See)
    × (question_of schema (codes "reset") ≡ Some question.Reset)
    × (question_of schema (codes "join") ≡ Some question.Join)
    × (question_of schema (codes "delete") ≡ Some question.Delete)
    × (question_of schema (codes "dacl") ≡ Some question.Dacl)
    × (question_of schema (codes "owner") ≡ Some question.Owner)
unfolding question_of by_word
words_are schema = (refl, refl, refl, refl, refl, refl)

-- ---- words with a name

pub descriptor_read_is : (schema : List SchemaRecord) (name : List ℕ) → is_descriptor name ≡ true
    → question_of schema (codes "read:" ++ name) ≡ Some question.ReadDescriptor
unfolding question_of by_word by_name behind reads
descriptor_read_is schema name is = ap (λ (b : Bool). if b then Some question.ReadDescriptor
    else option_map (λ (attr : AttrId). question.Read attr) (attr_named schema name)) is

pub read_is : (schema : List SchemaRecord) (name : List ℕ) (id : AttrId) → is_descriptor name ≡ false
    → attr_named schema name ≡ Some id → question_of schema (codes "read:" ++ name) ≡ Some (question.Read id)
unfolding question_of by_word by_name behind reads
read_is schema name id no_descriptor named =
    ap (λ (b : Bool). if b then Some question.ReadDescriptor
    else option_map (λ (attr : AttrId). question.Read attr) (attr_named schema name)) no_descriptor
    ∙ ap (option_map (λ (attr : AttrId). question.Read attr)) named

pub write_is : (schema : List SchemaRecord) (name : List ℕ) (id : AttrId)
    → attr_named schema name ≡ Some id → question_of schema (codes "write:" ++ name) ≡ Some (question.Write id)
unfolding question_of by_word by_name behind
write_is schema name id named = ap (option_map (λ (attr : AttrId). question.Write attr)) named

pub add_is : (schema : List SchemaRecord) (name : List ℕ) (id : ClassId)
    → class_named schema name ≡ Some id → question_of schema (codes "add:" ++ name) ≡ Some (question.Add id)
unfolding question_of by_word by_name behind
add_is schema name id named = ap (option_map (λ (class : ClassId). question.Add class)) named

-- ---- rights

-- no right has these letters
no_letters : (schema : List SchemaRecord) (a b : ℕ) (rest : List ℕ) → bit_of (a ∷ b ∷ []) ≡ None
    → asked_of schema (a ∷ b ∷ rest) ≡ None
unfolding asked_of
no_letters schema a b rest none = ap (option_and_then (λ bit. asked_behind schema bit rest)) none

-- a text that asks for a right is another than one that asks for none
not_word : (schema : List SchemaRecord) (text word : List ℕ) (asked : Asked) → asked_of schema text ≡ Some asked
    → asked_of schema word ≡ None → bytes_eq text word ≡ false
not_word schema text word asked is none = by (cases_Bool (bytes_eq text word))
  where
    by : (bytes_eq text word ≡ true) ⊎ (bytes_eq text word ≡ false) → bytes_eq text word ≡ false
    by (inl same) = absurd (none-some asked (sym none
        ∙ ap (asked_of schema) (sym ((bytes_eq-Decides text word).0 same)) ∙ is))
    by (inr other) = other

-- and begins with no word after which there is none
not_behind : (schema : List SchemaRecord) (text word : List ℕ) (asked : Asked) → asked_of schema text ≡ Some asked
    → ((rest : List ℕ) → asked_of schema (word ++ rest) ≡ None) → behind word text ≡ None
unfolding behind
not_behind schema text word asked is none = by (cases_Bool (bytes_eq (take (length word) text) word))
  where
    by : (bytes_eq (take (length word) text) word ≡ true) ⊎ (bytes_eq (take (length word) text) word ≡ false)
        → (if bytes_eq (take (length word) text) word then Some (drop (length word) text) else None) ≡ None
    by (inl same) =
        let text_is : text ≡ word ++ drop (length word) text
        = sym (take-append-drop (length word) text)
        ∙ ap (λ (front : List ℕ). front ++ drop (length word) text)
        ((bytes_eq-Decides (take (length word) text) word).0 same) in
        absurd (none-some asked (sym (none (drop (length word) text)) ∙ ap (asked_of schema) (sym text_is) ∙ is))
    by (inr other) = ap (λ (b : Bool). if b then Some (drop (length word) text) else None) other

-- the letters that words begin with are those of no right
se : bit_of (115 ∷ 101 ∷ []) ≡ None
unfolding bit_of bit_in right_codes
se = refl

re : bit_of (114 ∷ 101 ∷ []) ≡ None
unfolding bit_of bit_in right_codes
re = refl

jo : bit_of (106 ∷ 111 ∷ []) ≡ None
unfolding bit_of bit_in right_codes
jo = refl

de : bit_of (100 ∷ 101 ∷ []) ≡ None
unfolding bit_of bit_in right_codes
de = refl

da : bit_of (100 ∷ 97 ∷ []) ≡ None
unfolding bit_of bit_in right_codes
da = refl

ow : bit_of (111 ∷ 119 ∷ []) ≡ None
unfolding bit_of bit_in right_codes
ow = refl

wr : bit_of (119 ∷ 114 ∷ []) ≡ None
unfolding bit_of bit_in right_codes
wr = refl

ad : bit_of (97 ∷ 100 ∷ []) ≡ None
unfolding bit_of bit_in right_codes
ad = refl

-- the words of a text by what it is compared with
word_by : Bool → Bool → Bool → Bool → Bool → Bool → Option Question
word_by see reset join delete dacl owner =
    if see then Some question.See
    else (if reset then Some question.Reset
    else (if join then Some question.Join
    else (if delete then Some question.Delete
    else (if dacl then Some question.Dacl
    else (if owner then Some question.Owner
    else None)))))

module _ (schema : List SchemaRecord) (text : List ℕ) (asked : Asked) (is : asked_of schema text ≡ Some asked) where
  other : (a b : ℕ) (rest : List ℕ) → bit_of (a ∷ b ∷ []) ≡ None → bytes_eq text (a ∷ b ∷ rest) ≡ false
  other a b rest none = not_word schema text (a ∷ b ∷ rest) asked is (no_letters schema a b rest none)

  no_word : by_word text ≡ None
  unfolding by_word word_by
  no_word =
      ap (λ (b : Bool). word_by b (bytes_eq text (codes "reset")) (bytes_eq text (codes "join"))
      (bytes_eq text (codes "delete")) (bytes_eq text (codes "dacl")) (bytes_eq text (codes "owner")))
      (other 115 101 (101 ∷ []) se)
      ∙ ap (λ (b : Bool). word_by false b (bytes_eq text (codes "join"))
      (bytes_eq text (codes "delete")) (bytes_eq text (codes "dacl")) (bytes_eq text (codes "owner")))
      (other 114 101 (115 ∷ 101 ∷ 116 ∷ []) re)
      ∙ ap (λ (b : Bool). word_by false false b
      (bytes_eq text (codes "delete")) (bytes_eq text (codes "dacl")) (bytes_eq text (codes "owner")))
      (other 106 111 (105 ∷ 110 ∷ []) jo)
      ∙ ap (λ (b : Bool). word_by false false false b (bytes_eq text (codes "dacl")) (bytes_eq text (codes "owner")))
      (other 100 101 (108 ∷ 101 ∷ 116 ∷ 101 ∷ []) de)
      ∙ ap (λ (b : Bool). word_by false false false false b (bytes_eq text (codes "owner")))
      (other 100 97 (99 ∷ 108 ∷ []) da)
      ∙ ap (λ (b : Bool). word_by false false false false false b) (other 111 119 (110 ∷ 101 ∷ 114 ∷ []) ow)

  no_name : (a b : ℕ) (word : List ℕ) → bit_of (a ∷ b ∷ []) ≡ None → behind (a ∷ b ∷ word) text ≡ None
  no_name a b word none = not_behind schema text (a ∷ b ∷ word) asked is
      (λ rest. no_letters schema a b (word ++ rest) none)

  pub right_is : question_of schema text ≡ Some (question.Right asked)
  unfolding question_of by_name
  right_is =
      ap (λ (found : Option Question). or_else found (by_name schema text)) no_word
      ∙ ap (λ (found : Option (List ℕ)). of_name found (reads schema)
      (of_name (behind (codes "write:") text) (writes schema)
      (of_name (behind (codes "add:") text) (adds schema) (rights schema text))))
      (no_name 114 101 (97 ∷ 100 ∷ 58 ∷ []) re)
      ∙ ap (λ (found : Option (List ℕ)). of_name found (writes schema)
      (of_name (behind (codes "add:") text) (adds schema) (rights schema text)))
      (no_name 119 114 (105 ∷ 116 ∷ 101 ∷ 58 ∷ []) wr)
      ∙ ap (λ (found : Option (List ℕ)). of_name found (adds schema) (rights schema text))
      (no_name 97 100 (100 ∷ 58 ∷ []) ad)
      ∙ ap (option_map (λ (a : Asked). question.Right a)) is
