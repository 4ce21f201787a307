-- What facts say of each identity that has a token is what the rule says of its token.
use Rattle.std.proofs.Common.{◌≡◌, ◌∙◌, ℕ, suc, ◌⊎◌, inl, inr, Bool, true, false, not, ◌&&◌, Option, Some, List, [], ◌∷◌, map}
use Rattle.std.proofs.Common.{refl, sym, ap, subst, arith}
use Rattle.std.specs.Prelude.{filter, slice_get}
use Rattle.std.specs.List.{AllByRecursion}
use Rattle.std.proofs.lemmas.Bool.{cases_Bool, and_parts, false≢true}
use Rattle.ad_ids.specs.declared.token.Token.{Token}
use Rattle.ad_dir_model.specs.Objects.{is_live, numbers, Rise}
use Rattle.ad_dir_model.specs.Changes.{goes_with}
use Rattle.ad_dir_model.specs.Directory.{Directory}
use Rattle.ad_identities.specs.declared.identity.Identity.{Identity}
use Rattle.ad_identities.specs.Identities.{IsIdentityToken}
use Rattle.ad_questions.specs.declared.question.Question.{Question}
use Rattle.ad_questions.specs.Requirements.{is_allowed}
use Rattle.ad_sets.specs.Told.{RowValue, stands_in, row_facts, reads, AreApart}
use Rattle.ad_sets.specs.Sets.{is_nobody}
use Rattle.ad_sets.proofs.Reading.{read_back, nobody_read}
use Rattle.ad_sets.proofs.Changing.{row_tells}
use Rattle.ad_rights_rows.specs.Rows.{AreParties, base_at, whole_at, own_at, row_at, is_told, rows_below}
use Rattle.ad_rights_rows.proofs.Telling.{one_there, whole_there}
use Rattle.ad_rights_dir.specs.Granted.{is_below, IsGranted, IsWithout}
use Rattle.ad_rights_dir.proofs.Apart.{GrowsAbove, has_number, grow, grows_filtered, has_live, has_filtered, none_filtered, fails_filtered, rows_apart, row_there, rows_of_others}

-- ---- the facts of rows

module _ (dir : Directory) (members : List Identity) (tokens : List Token) (question : Question) (base : ℕ) where
  abbrev row : ℕ → RowValue
  row number = row_at dir members tokens question number

  abbrev looked : List ℕ
  looked = filter (goes_with dir base) (numbers dir.objects)

  abbrev told : List ℕ
  told = filter (is_told dir tokens question) looked

  apart : Rise dir.objects → AreApart (map row told)
  apart rise =
      rows_apart row (λ n. refl) 0 told (grows_filtered (is_told dir tokens question) 0 looked
      (grows_filtered (goes_with dir base) 0 (numbers dir.objects) (grow 0 dir.objects rise)))

  nobody_there : (number member : ℕ) → is_told dir tokens question number ≡ false
      → stands_in (whole_at dir tokens question number) member ≡ false
  nobody_there number member none = elim (cases_Bool (stands_in (whole_at dir tokens question number) member)) [
    | inl there ↦
        absurd (false≢true (sym none
        ∙ ap not (one_there (whole_at dir tokens question number) member there)))
    | inr absent ↦ absent
  ]

  others : (number member : ℕ) (own : Option ℕ) → has_number told number ≡ false
      → reads (row_facts (map row told)) number own member ≡ false
  others number member own none =
      nobody_read (map row told) number member own (rows_of_others row (λ n. refl) told number none)

  pub read_there : (number member : ℕ) (token : Token) → Rise dir.objects → is_below dir base number ≡ true
      → slice_get tokens member ≡ Some token
      → reads (row_facts (rows_below dir members tokens question base)) number (own_at members number) member
      ≡ is_allowed dir token question number
  read_there number member token rise below there =
      let parts = and_parts (is_live dir.objects number) (goes_with dir base number) below in
      let at = has_filtered (goes_with dir base) (numbers dir.objects) number
      (has_live dir.objects number ∙ parts.0) parts.1 in
      elim (cases_Bool (is_told dir tokens question number)) [
        | inl is ↦
            let one = row_there row (λ n. refl) told number
            (has_filtered (is_told dir tokens question) looked number at is) in
            read_back (map row told) one.0 member (row number) (apart rise) one.1
            ∙ row_tells number member (own_at members number) (base_at dir tokens question number)
            (whole_at dir tokens question number)
            ∙ whole_there dir tokens question number member token there
        | inr none ↦
            others number member (own_at members number) (fails_filtered (is_told dir tokens question) looked number none)
            ∙ sym (nobody_there number member none)
            ∙ whole_there dir tokens question number member token there
      ]

  not_all : (number : ℕ) (live goes : Bool) → is_live dir.objects number ≡ live → goes_with dir base number ≡ goes
      → live && goes ≡ false → has_number looked number ≡ false
  not_all number false goes live_is goes_is none =
      none_filtered (goes_with dir base) (numbers dir.objects) number (has_live dir.objects number ∙ live_is)
  not_all number true goes live_is goes_is none =
      fails_filtered (goes_with dir base) (numbers dir.objects) number (goes_is ∙ none)

  pub read_elsewhere : (number member : ℕ) (own : Option ℕ) → is_below dir base number ≡ false
      → reads (row_facts (rows_below dir members tokens question base)) number own member ≡ false
  read_elsewhere number member own none =
      others number member own (none_filtered (is_told dir tokens question) looked number
      (not_all number (is_live dir.objects number) (goes_with dir base number) refl refl none))

-- ---- who has a token, and who has none

pub record HasPlace (dir : Directory) (parties : List Identity) (tokens : List Token) (identity : Identity) : Type 0 where
  pub member : ℕ
  pub stands : slice_get parties member ≡ Some identity
  pub token : Token
  pub token_at : slice_get tokens member ≡ Some token
  pub is_token : IsIdentityToken dir identity token

abbrev Stands : Directory → List Identity → List Token → List Identity → Identity → Type 0
Stands dir parties tokens without identity = HasPlace dir parties tokens identity ⊎ IsWithout dir without identity

after_with : (dir : Directory) (first : Identity) (token : Token) (parties : List Identity) (tokens : List Token)
    (without : List Identity) (identity : Identity) → Stands dir parties tokens without identity
    → Stands dir (first ∷ parties) (token ∷ tokens) without identity
after_with dir first token parties tokens without identity (inl has) =
    inl (record {
      member = suc has.member;
      stands = has.stands;
      token = has.token;
      token_at = has.token_at;
      is_token = has.is_token;
    })
after_with dir first token parties tokens without identity (inr is) = inr is

after_without : (dir : Directory) (first : Identity) (parties : List Identity) (tokens : List Token)
    (without : List Identity) (identity : Identity) → Stands dir parties tokens without identity
    → Stands dir parties tokens (first ∷ without) identity
after_without dir first parties tokens without identity (inl has) = inl has
after_without dir first parties tokens without identity (inr is) =
    inr (record { place = suc is.place; stands = is.stands; too_many = is.too_many })

all_weaker : {X : Type 0} (P Q : X → Type 0) → ((x : X) → P x → Q x) → (xs : List X) → AllByRecursion P xs
    → AllByRecursion Q xs
all_weaker P Q weaker [] all = tt
all_weaker P Q weaker (x ∷ xs) all = (weaker x all.0, all_weaker P Q weaker xs all.1)

all_stand : (dir : Directory) (all parties : List Identity) (tokens : List Token) (without : List Identity)
    → AreParties dir all parties tokens without → AllByRecursion (Stands dir parties tokens without) all
all_stand dir [] parties tokens without are = tt
all_stand dir (identity ∷ others) parties tokens without (inl is) =
    subst (λ (l : List Identity). AllByRecursion (Stands dir l tokens without) (identity ∷ others)) (sym is.4)
    (subst (λ (l : List Token). AllByRecursion (Stands dir (identity ∷ is.1) l without) (identity ∷ others)) (sym is.5) (
      inl (record { member = 0; stands = refl; token = is.0; token_at = refl; is_token = is.3 }),
      all_weaker (Stands dir is.1 is.2 without) (Stands dir (identity ∷ is.1) (is.0 ∷ is.2) without)
          (after_with dir identity is.0 is.1 is.2 without) others (all_stand dir others is.1 is.2 without is.6),
    ))
all_stand dir (identity ∷ others) parties tokens without (inr is) =
    subst (λ (l : List Identity). AllByRecursion (Stands dir parties tokens l) (identity ∷ others)) (sym is.2) (
      inr (record { place = 0; stands = refl; too_many = is.1 }),
      all_weaker (Stands dir parties tokens is.0) (Stands dir parties tokens (identity ∷ is.0))
          (after_without dir identity parties tokens is.0) others (all_stand dir others parties tokens is.0 is.3),
    )

-- ---- all

granted_by : (dir : Directory) (question : Question) (base : ℕ) (parties : List Identity) (tokens : List Token)
    (without : List Identity) → Rise dir.objects → (identity : Identity) → Stands dir parties tokens without identity
    → IsGranted dir question base parties (row_facts (rows_below dir parties tokens question base)) identity
    ⊎ IsWithout dir without identity
granted_by dir question base parties tokens without rise identity (inl has) =
    inl (record {
      member = has.member;
      stands = has.stands;
      token = has.token;
      is_token = has.is_token;
      there = λ number below.
          read_there dir parties tokens question base number has.member has.token rise below has.token_at;
      elsewhere = λ number own none.
          read_elsewhere dir parties tokens question base number has.member own none;
    })
granted_by dir question base parties tokens without rise identity (inr is) = inr is

pub answered : (dir : Directory) (question : Question) (base : ℕ) (all parties : List Identity) (tokens : List Token)
    (without : List Identity) → Rise dir.objects → AreParties dir all parties tokens without
    → AllByRecursion (λ (identity : Identity). IsGranted dir question base parties
    (row_facts (rows_below dir parties tokens question base)) identity ⊎ IsWithout dir without identity) all
answered dir question base all parties tokens without rise are =
    all_weaker (Stands dir parties tokens without) (λ (identity : Identity). IsGranted dir question base parties
    (row_facts (rows_below dir parties tokens question base)) identity ⊎ IsWithout dir without identity)
    (granted_by dir question base parties tokens without rise) all (all_stand dir all parties tokens without are)
