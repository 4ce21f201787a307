-- What a whole input gives.
use Rattle.std.proofs.Common.{◌≡◌, ℕ, ◌<◌, ◌≤◌, List, [], length, Option, Some, None, Ok, Err, refl, sym, ap, ◌∙◌, subst}
use Rattle.std.proofs.lemmas.Bool.{lt-ltb, le-ltb}
use Rattle.site_io.specs.Told.{BothTold}
use Rattle.ad_ldap.specs.declared.requests.Message.{Message}
use Rattle.ad_dir_model.specs.Directory.{Directory}
use Rattle.ad_ldifmod.specs.declared.fault.GrantFault.TheVariants.{Bad}
use Rattle.ad_ldifmod.specs.declared.fault.GrantKind.{GrantKind}
use Rattle.ad_ldifmod.specs.declared.fault.GrantKind.TheVariants.{TooLong}
use Rattle.ad_ldifmod.specs.Grants.{messages_of}
use Rattle.cmd_call.specs.declared.outcome.Outcome.TheVariants.{Done, NotOfForm}
use Rattle.cmd_grants.specs.declared.judging.Judged.{Judged}
use Rattle.cmd_grants.specs.declared.judging.Judged.TheVariants.{Good, Wrong}
use Rattle.cmd_grants.specs.Frames.{frames_of}
use Rattle.cmd_grants.specs.Lines.{max_text, given_by, grant_line}
use Rattle.cmd_grants.specs.Given.{GivesMessages, GoesWrong, IsTextOf}
use Rattle.cmd_grants.specs.Judged.{IsTooLong, IsJudgedText, IsJudged}

-- a text within its limit gives what its lines give
short : (dir : Directory) (text : List ℕ) → length text ≤ 1048576 → given_by dir text ≡ messages_of dir text
unfolding given_by max_text
short dir text few = rw (le-ltb 1048576 (length text) few) refl

long : (dir : Directory) (text : List ℕ) → 1048576 < length text → given_by dir text ≡ Err (Bad 0 TooLong)
unfolding given_by max_text
long dir text many = rw (lt-ltb 1048576 (length text) many) refl

-- ---- an input that goes wrong

wrong_at : (dir : Directory) (rest left : Option (List ℕ)) (bytes : List ℕ) (line : ℕ) (kind : GrantKind)
    → length bytes ≤ 1048576 → messages_of dir bytes ≡ Err (Bad line kind)
    → BothTold rest left (λ before after. (before ≡ bytes) × (after ≡ [])) → GoesWrong dir rest left line kind
wrong_at dir None None bytes line kind few is told = tt
wrong_at dir (Some input) (Some behind) bytes line kind few is told = ap (given_by dir) told.0 ∙ short dir bytes few
    ∙ is
wrong_at dir None (Some behind) bytes line kind few is told = absurd told
wrong_at dir (Some input) None bytes line kind few is told = absurd told

wrong_long : (dir : Directory) (rest left : Option (List ℕ))
    → BothTold rest left (λ before after. 1048576 < length before) → GoesWrong dir rest left 0 TooLong
wrong_long dir None None told = tt
wrong_long dir (Some input) (Some behind) told = long dir input told
wrong_long dir None (Some behind) told = absurd told
wrong_long dir (Some input) None told = absurd told

-- ---- what an input was judged to be

pub judged_whole : (dir : Directory) (rest left : Option (List ℕ)) (bytes : List ℕ) (judged : Judged)
    → length bytes ≤ 1048576 → BothTold rest left (λ before after. (before ≡ bytes) × (after ≡ []))
    → IsJudgedText dir bytes judged → IsJudged dir rest left judged
judged_whole dir rest left bytes (Good text) few all is = (
  subst (λ (b : List ℕ). length b ≤ 1048576) (sym is.0) few,
  subst (λ (b : List ℕ). (messages : List Message) × (messages_of dir b ≡ Ok messages)) (sym is.0) is.1,
  subst (λ (b : List ℕ). BothTold rest left (λ input behind. (input ≡ b) × (behind ≡ []))) (sym is.0) all,
)
judged_whole dir rest left bytes (Wrong line) few all is =
    (is.0, is.1, wrong_at dir rest left bytes is.0 is.1 few is.2 all, is.3)

pub judged_long : (dir : Directory) (rest left : Option (List ℕ)) (judged : Judged)
    → BothTold rest left (λ before after. 1048576 < length before) → IsTooLong judged → IsJudged dir rest left judged
judged_long dir rest left (Good text) all is = absurd is
judged_long dir rest left (Wrong line) all is = (0, TooLong, wrong_long dir rest left all, is)

-- ---- the text for it

gives : (dir : Directory) (rest left : Option (List ℕ)) (bytes : List ℕ) (messages : List Message)
    → length bytes ≤ 1048576 → messages_of dir bytes ≡ Ok messages
    → BothTold rest left (λ input behind. (input ≡ bytes) × (behind ≡ [])) → GivesMessages dir rest left messages
gives dir None None bytes messages few is told = tt
gives dir (Some input) (Some behind) bytes messages few is told
    = (told.1, ap (given_by dir) told.0 ∙ short dir bytes few ∙ is)
gives dir None (Some behind) bytes messages few is told = absurd told
gives dir (Some input) None bytes messages few is told = absurd told

pub text_of_good : (dir : Directory) (rest left : Option (List ℕ)) (bytes : List ℕ) (messages : List Message)
    → length bytes ≤ 1048576 → messages_of dir bytes ≡ Ok messages
    → BothTold rest left (λ input behind. (input ≡ bytes) × (behind ≡ []))
    → IsTextOf dir rest left (frames_of messages) Done
text_of_good dir rest left bytes messages few is told = record {
  given = Ok messages;
  gave = gives dir rest left bytes messages few is told;
  text_is = refl;
  next_is = refl;
}

pub text_of_wrong : (dir : Directory) (rest left : Option (List ℕ)) (line : ℕ) (kind : GrantKind) (text : List ℕ)
    → GoesWrong dir rest left line kind → text ≡ grant_line (Bad line kind)
    → IsTextOf dir rest left text NotOfForm
text_of_wrong dir rest left line kind text wrong is = record
    { given = Err (Bad line kind); gave = wrong; text_is = is; next_is = refl }
