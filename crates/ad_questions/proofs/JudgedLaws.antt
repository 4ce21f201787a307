-- Requirements are of live objects, and of rights that are no generic ones.
use Rattle.std.proofs.Common.{◌≡◌, ◌∙◌, ℕ, ◌<◌, Bool, true, false, not, List, [], ◌∷◌, ◌++◌, Option, Some, None}
use Rattle.std.proofs.Common.{refl, sym, ap, zero, suc, length, map, arith}
use Rattle.std.specs.Prelude.{if◌then◌else◌, ◌==◌, slice_index_or}
use Rattle.std.specs.List.{AllByRecursion}
use Rattle.std.proofs.lemmas.Bool.{eq-eqb, eqb-false, false≢true}
use Rattle.ad_ids.specs.declared.guid.Guid.{Guid}
use Rattle.ad_dir.specs.Standing.{AreStanding}
use Rattle.ad_dir_model.specs.Objects.{is_live, object_at, parent_at}
use Rattle.ad_dir_model.specs.Tree.{root}
use Rattle.ad_dir_model.specs.Attributes.{member}
use Rattle.ad_dir_model.specs.Settings.{list_object_mode}
use Rattle.ad_dir_model.specs.Directory.{Directory}
use Rattle.ad_dir_model.proofs.Finding.{of-live}
use Rattle.ad_access_dir.specs.Passwords.{force_change}
use Rattle.ad_needs_rules.specs.Needs.{Alternative, needs}
use Rattle.ad_needs_rules.specs.Requests.{class_at, class_path, attr_path}
use Rattle.ad_needs_rules.specs.Validated.{self_membership}
use Rattle.ad_questions.specs.declared.question.Question.{Question}
use Rattle.ad_questions.specs.declared.question.Question.TheVariants as question
use Rattle.ad_questions.specs.Asked.{path_at}
use Rattle.ad_questions.specs.Question.{IsQuestion}
use Rattle.ad_questions.specs.Requests.{passes, is_confidential, is_secret, listed_needs, see_needs, is_right}
use Rattle.ad_questions.specs.Requests.{sight_needs, if_confidential, read_needs, write_needs, join_needs, request_needs}
use Rattle.ad_questions.specs.Requests.{is_for}
use Rattle.ad_questions.specs.Requirements.{if_for, requirements, IsJudged, AreJudged}

both : (dir : Directory) (xs ys : List (List Alternative)) → AreJudged dir xs → AreJudged dir ys
    → AreJudged dir (xs ++ ys)
both dir [] ys first second = second
both dir (x ∷ xs) ys first second = (first.0, both dir xs ys first.1 second)

-- at a place of a list
pub all_at : {A B : Type 0} (f : A → B) (P : B → Type 0) (xs : List A) (i : ℕ) (d : A) → AllByRecursion P (map f xs)
    → i < length xs → P (f (slice_index_or xs i d))
all_at f P [] i d all lt = absurd (omega (arith, lt))
all_at f P (x ∷ xs) zero d all lt = all.0
all_at f P (x ∷ xs) (suc i) d all lt = all_at f P xs i d all.1 (omega (arith, lt))

-- an object that can be deleted isn't the root
pub delete_below : (dir : Directory) (number : ℕ) (q : Question) → q ≡ question.Delete → is_for dir q number ≡ true
    → number ≡ root → ⊥
unfolding is_for
delete_below dir number q is possible top =
    false≢true (ap not (sym (eq-eqb number root top)) ∙ ap (λ (k : Question). is_for dir k number) (sym is) ∙ possible)

module _ (dir : Directory) (number : ℕ) (live : is_live dir.objects number ≡ true) where
  here : (bit : ℕ) (path : List Guid) → bit < 28 → IsJudged dir (needs number bit path)
  here bit path low = record { live = live; bit = low }

  module _ (above : (number ≡ root → ⊥) → is_live dir.objects (parent_at dir.objects number) ≡ true) where
    there : (bit : ℕ) (path : List Guid) → (number ≡ root → ⊥) → bit < 28
        → IsJudged dir (needs (parent_at dir.objects number) bit path)
    there bit path below low = record { live = above below; bit = low }

    -- to see
    listed : (mode : Bool) → (number ≡ root → ⊥)
        → AreJudged dir (listed_needs mode (parent_at dir.objects number) number)
    listed false below = ((there 2 [] below (omega arith), tt), tt)
    listed true below = (
      (there 2 [] below (omega arith), (there 7 [] below (omega arith), tt)),
      ((there 2 [] below (omega arith), (here 7 [] (omega arith), tt)), tt),
    )

    sight : AreJudged dir (see_needs dir number)
    unfolding see_needs
    sight = by (number == root) (eqb-false number root)
      where
        by : (top : Bool) → (top ≡ false → (number ≡ root → ⊥))
            → AreJudged dir (if top then [] else listed_needs (list_object_mode dir)
            (parent_at dir.objects number) number)
        by true below = tt
        by false below = listed (list_object_mode dir) (below refl)

    sight_for : (question : Question) → AreJudged dir (sight_needs dir question number)
    unfolding sight_needs
    sight_for question = by (is_right question)
      where
        by : (right : Bool) → AreJudged dir (if right then [] else see_needs dir number)
        by true = tt
        by false = sight

    -- the request
    confidential : (secret : Bool) (path : List Guid)
        → AreJudged dir (if_confidential secret (needs number 8 path ∷ []))
    confidential false path = tt
    confidential true path = ((here 8 path (omega arith), tt), tt)

    write : (attr : ℕ) (secret : Bool) → AllByRecursion (IsJudged dir) (write_needs dir number attr secret)
    write attr false = (here 5 (attr_path dir.schema (class_at dir number) attr) (omega arith), tt)
    write attr true = (here 8 (force_change ∷ []) (omega arith), tt)

    join : (attr : Option ℕ) → AllByRecursion (IsJudged dir) (join_needs dir number attr)
    join None = tt
    join (Some attr) = (
      here 5 (attr_path dir.schema (class_at dir number) attr) (omega arith),
      (here 3 (self_membership ∷ []) (omega arith), tt),
    )

    request : (question : Question) → IsQuestion dir.schema question → is_for dir question number ≡ true
        → AreJudged dir (request_needs dir question number)
    unfolding request_needs read_needs is_for
    request (question.Right asked) known possible =
        ((here asked.bit (path_at dir number asked.on) (omega (arith, known.bit)), tt), tt)
    request question.See known possible = tt
    request (question.Read attr) known possible = (
      (here 4 (attr_path dir.schema (class_at dir number) attr.0) (omega arith), tt),
      confidential (passes dir.schema is_confidential attr.0) (attr_path dir.schema (class_at dir number) attr.0),
    )
    request question.ReadDescriptor known possible = ((here 17 [] (omega arith), (here 24 [] (omega arith), tt)), tt)
    request (question.Write attr) known possible = (write attr.0 (passes dir.schema is_secret attr.0), tt)
    request question.Reset known possible = ((here 8 (force_change ∷ []) (omega arith), tt), tt)
    request question.Join known possible = (join (member dir.schema), tt)
    request (question.Add of) known possible =
        ((here 0 (class_path dir.schema of.0) (omega arith), tt), tt)
    request question.Delete known possible = (
      (
        here 16 [] (omega arith),
        (there 1 (class_path dir.schema (class_at dir number)) (delete_below dir number question.Delete refl possible) (omega arith), tt),
      ),
      tt,
    )
    request question.Dacl known possible = ((here 18 [] (omega arith), tt), tt)
    request question.Owner known possible = ((here 19 [] (omega arith), tt), tt)

    pub all_judged : (question : Question) → IsQuestion dir.schema question
        → AreJudged dir (requirements dir question number)
    unfolding requirements
    all_judged question known = by (is_for dir question number) refl
      where
        by : (possible : Bool) → is_for dir question number ≡ possible
            → AreJudged dir (if_for possible (sight_needs dir question number ++ request_needs dir question number))
        by false is = (tt, tt)
        by true is = both dir (sight_needs dir question number) (request_needs dir question number)
            (sight_for question) (request question known is)

pub judged : (dir : Directory) (question : Question) (number : ℕ) → AreStanding dir.schema dir.objects
    → is_live dir.objects number ≡ true → IsQuestion dir.schema question
    → AreJudged dir (requirements dir question number)
judged dir question number stand live known =
    all_judged dir number live
    (λ below. stand.parents number (object_at dir.objects number) (of-live dir.objects number live) below)
    question known
