-- The text of effective is of lines of words.
use Rattle.std.proofs.Common.{Bool, ◌≡◌, ℕ, zero, suc, ◌^◌, true, false, if◌then◌else◌, Option, Some, None, List, []}
use Rattle.std.proofs.Common.{◌∷◌, ◌++◌, length, codes, refl, sym, ap, subst, ◌∙◌, append_assoc}
use Rattle.std.specs.Prelude.{IfSome, slice_get, ◌==◌}
use Rattle.std.specs.List.{flat_map}
use Rattle.std.specs.Option.{option_map_or}
use Rattle.ad_bytes.specs.Puts.{spaced, ended}
use Rattle.ad_ids.specs.declared.token.Token.{Token}
use Rattle.ad_acl.specs.Codes.{right_codes}
use Rattle.ad_sddl.specs.Canonical.{codes_text}
use Rattle.ad_schema.specs.declared.info.AttrId.{AttrId}
use Rattle.ad_schema.specs.declared.info.AttrInfo.{AttrInfo}
use Rattle.ad_schema.specs.declared.info.ClassId.{ClassId}
use Rattle.ad_schema.specs.declared.info.ClassInfo.{ClassInfo}
use Rattle.ad_schema.specs.declared.info.RightInfo.{RightInfo}
use Rattle.ad_schema.specs.Attributes.{attrs_of, rights_of}
use Rattle.ad_schema.specs.Classes.{classes_of}
use Rattle.ad_schema.specs.Sound.{MakeSchema}
use Rattle.ad_types.specs.TypesOf.{path_of}
use Rattle.ad_dir_model.specs.Directory.{Directory}
use Rattle.ad_dir_model.specs.Objects.{object_at}
use Rattle.ad_access_dir.specs.Sight.{is_granted}
use Rattle.ad_access_dir.specs.Labels.{label_of, right_title}
use Rattle.ad_access_dir.specs.Allowed.{allowed_attrs, applies, is_child_class}
use Rattle.ad_dsacls.specs.Effective.{code_of, granted_codes, object_rights, attribute_rights, set_rights, child_rights}
use Rattle.ad_dsacls.specs.Effective.{line_of, object_line, attribute_line, set_grants}
use Rattle.ad_dsacls.specs.Effective.{kind_line, right_line, child_line, child_lines, effective_of}
use Rattle.ad_dsacls.specs.Effective.{effective_text, set_attrs}
use Rattle.ad_text_laws.specs.Lines.{is_word}
use Rattle.ad_text_laws.specs.Words.{joined, IsOfWords}
use Rattle.ad_text_laws.proofs.LineLaws.{two_words}
use Rattle.ad_text_laws.proofs.CodeWords.{if_word, codes_word, right_letters, title_word}
use Rattle.ad_text_laws.proofs.SchemaWords.{HasWordNames, names_are_words}
use Rattle.ad_text_laws.proofs.WordLines.{no_lines, one_line, two_texts}

-- ---- codes

granted_word : (grants : ℕ → Bool) (rights : List ℕ) → is_word (granted_codes grants rights) ≡ true
unfolding granted_codes code_of
granted_word grants [] = refl
granted_word grants (bit ∷ rights) = two_words (if grants bit then codes_text right_codes (2 ^ bit) else [])
    (granted_codes grants rights)
    (if_word (grants bit) (codes_text right_codes (2 ^ bit)) (codes_word right_codes (2 ^ bit) right_letters))
    (granted_word grants rights)

-- ---- lines

object_words : (text : List ℕ) → is_word text ≡ true → IsOfWords (line_of (codes "object ") text)
object_words [] e = no_lines
object_words (b ∷ bytes) e = one_line (codes "object" ∷ (b ∷ bytes) ∷ []) (refl, (e, tt))

named_text : (kind name text : List ℕ) → (spaced kind ++ spaced name) ++ (text ++ 10 ∷ [])
    ≡ ended (joined (kind ∷ name ∷ text ∷ []))
named_text kind name text =
    sym (append_assoc (spaced kind ++ spaced name) text (10 ∷ []))
    ∙ ap (λ (t : List ℕ). t ++ 10 ∷ []) (append_assoc (spaced kind) (spaced name) text)

named_words : (kind name text : List ℕ) → is_word kind ≡ true → is_word name ≡ true → is_word text ≡ true
    → IsOfWords (line_of (label_of (spaced kind) name) text)
named_words kind name [] k n e = no_lines
named_words kind name (b ∷ bytes) k n e = subst IsOfWords (sym (named_text kind name (b ∷ bytes)))
    (one_line (kind ∷ name ∷ (b ∷ bytes) ∷ []) (k, (n, (e, tt))))

or_none : {A : Type 0} (text : A → List ℕ) (o : Option A) → IfSome o (λ a. IsOfWords (text a))
    → IsOfWords (option_map_or text o [])
or_none text None is = no_lines
or_none text (Some a) is = is

if_lines : (t : Bool) (text : List ℕ) → IsOfWords text → IsOfWords (if t then text else [])
if_lines true text is = is
if_lines false text is = no_lines

if_both : (t : Bool) (a b : List ℕ) → IsOfWords a → IsOfWords b → IsOfWords (if t then a else b)
if_both true a b p q = p
if_both false a b p q = q

if_some : {A : Type 0} (P Q : A → Type 0) (o : Option A) → ((a : A) → P a → Q a) → IfSome o P → IfSome o Q
if_some P Q None f is = tt
if_some P Q (Some a) f is = f a is

module _ (dir : Directory) (token : Token) (number : ℕ) (class : ClassId) (names : HasWordNames dir.schema) where
  attribute_words : (id : AttrId) → IsOfWords (attribute_line dir token number class id)
  unfolding attribute_line
  attribute_words id = or_none _ (slice_get (attrs_of dir.schema) id.0) (if_some
      (λ (info : AttrInfo). is_word info.name ≡ true) _ (slice_get (attrs_of dir.schema) id.0)
      (λ info e. named_words (codes "attribute") info.name _ refl e
      (granted_word (is_granted dir token number (path_of dir.schema class id)) attribute_rights))
      (names.attrs id.0))

  kind_words : (r : RightInfo) → IsOfWords (kind_line dir token number class r)
  unfolding kind_line
  kind_words r =
      if_both (r.accesses == 48) _ _
      (named_words (codes "set") (right_title r) _ refl (title_word r)
      (granted_word (set_grants dir token number class r.guid (set_attrs dir.schema class.0 r.guid)) set_rights))
      (if_both (r.accesses == 256) _ _
      (named_words (codes "right") (right_title r) _ refl (title_word r)
      (granted_word (is_granted dir token number (r.guid ∷ [])) (8 ∷ [])))
      (if_lines (r.accesses == 8) _
      (named_words (codes "validated") (right_title r) _ refl (title_word r)
      (granted_word (is_granted dir token number (r.guid ∷ [])) (3 ∷ [])))))

  right_words : (rights : List RightInfo) → IsOfWords (flat_map (right_line dir token number class) rights)
  unfolding right_line
  right_words [] = no_lines
  right_words (r ∷ rights) = two_texts (right_line dir token number class r)
      (flat_map (right_line dir token number class) rights)
      (if_lines (applies dir.schema class.0 r.applies) (kind_line dir token number class r) (kind_words r))
      (right_words rights)

  attributes_words : (ids : List AttrId) → IsOfWords (flat_map (attribute_line dir token number class) ids)
  attributes_words [] = no_lines
  attributes_words (id ∷ ids) = two_texts (attribute_line dir token number class id)
      (flat_map (attribute_line dir token number class) ids) (attribute_words id) (attributes_words ids)

  child_words : (place : ℕ) → IsOfWords (child_line dir token number class place)
  unfolding child_line
  child_words place = or_none _ (slice_get (classes_of dir.schema) place) (if_some
      (λ (info : ClassInfo). is_word info.name ≡ true) _ (slice_get (classes_of dir.schema) place)
      (λ info e. if_lines (is_child_class dir.schema class.0 place info) _
      (named_words (codes "child") info.name _ refl e
      (granted_word (is_granted dir token number (info.guid ∷ [])) child_rights)))
      (names.classes place))

  children_words : (n : ℕ) → IsOfWords (child_lines dir token number class n)
  unfolding child_lines
  children_words zero = no_lines
  children_words (suc n) = two_texts (child_lines dir token number class n) (child_line dir token number class n)
      (children_words n) (child_words n)

  pub all_words : IsOfWords (effective_of dir token number class)
  unfolding effective_of object_line
  all_words =
      two_texts (object_line dir token number) _ (object_words _ (granted_word (is_granted dir token number []) object_rights))
      (two_texts (flat_map (attribute_line dir token number class) (allowed_attrs dir.schema class.0)) _
      (attributes_words (allowed_attrs dir.schema class.0))
      (two_texts (flat_map (right_line dir token number class) (rights_of dir.schema)) _
      (right_words (rights_of dir.schema)) (children_words (length (classes_of dir.schema)))))

pub effective_words : (dir : Directory) (token : Token) (number : ℕ) → MakeSchema dir.schema
    → IsOfWords (effective_text dir token number)
effective_words dir token number makes = all_words dir token number
    (record { 0 = (object_at dir.objects number).class }) (names_are_words dir.schema makes)
