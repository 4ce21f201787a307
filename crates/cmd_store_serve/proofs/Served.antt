-- Frames that were served one after the other.
use Rattle.std.proofs.Common.{◌≡◌, ◌∙◌, ℕ, suc, ◌+◌, ◌<◌, false, List, [], ◌∷◌, ◌++◌, length, take, get_or, Option}
use Rattle.std.proofs.Common.{Some, None, refl, sym, ap, arith}
use Rattle.std.proofs.Math.Seq.{take-suc}
use Rattle.std.specs.Option.{IfSome}
use Rattle.site_io.specs.Disk.{Images}
use Rattle.site_io.specs.Outside.{StaysKnown, TouchesSlots}
use Rattle.site_io.specs.declared.site.Site.{Ghosts as SiteGhosts}
use Rattle.gate_log.proofs.Outside.{touches_on, touches_not}
use Rattle.ad_ids.specs.declared.token.Token.{Token}
use Rattle.ad_frames.specs.declared.frame.Frame.{Frame}
use Rattle.ad_dir_model.specs.Directory.{Directory}
use Rattle.ad_engine.specs.Answer.{Answered, answer}
use Rattle.ad_engine.specs.Runs.{no_tokens, after_from, after}
use Rattle.ad_engine_store.specs.Serving.{LastsOn}
use Rattle.ad_engine_store.specs.Standing.{StandsIn}
use Rattle.ad_engine_store.specs.declared.dir_store.DirStore.{DirStore}
use Rattle.cmd_call.proofs.Moments.{IsLawful}
use Rattle.cmd_store_serve.proofs.serving.Runs.{after_none}
use Rattle.cmd_store_serve.specs.Answers.{outputs_from, outputs}
use Rattle.cmd_store_serve.specs.SampleServing.{EachLeaves, IsServed, AreServed}

-- ---- the tokens after frames

pub tokens_from : Directory → List (Option Token) → List Frame → List (Option Token)
tokens_from dir tokens [] = tokens
tokens_from dir tokens (frame ∷ frames) = tokens_from (answer dir tokens frame).directory
    (answer dir tokens frame).tokens frames

abbrev pub tokens_behind : Directory → List Frame → List (Option Token)
tokens_behind dir frames = tokens_from dir no_tokens frames

tokens_none : (dir : Directory) → tokens_behind dir [] ≡ []
unfolding tokens_from
tokens_none dir = refl

tokens_push_from : (dir : Directory) (tokens : List (Option Token)) (xs : List Frame) (x : Frame)
    → tokens_from dir tokens (xs ++ x ∷ []) ≡ (answer (after_from dir tokens xs) (tokens_from dir tokens xs) x).tokens
unfolding after_from tokens_from
tokens_push_from dir tokens [] x = refl
tokens_push_from dir tokens (y ∷ xs) x = tokens_push_from (answer dir tokens y).directory (answer dir tokens y).tokens
    xs x

tokens_push : (dir : Directory) (xs : List Frame) (x : Frame) → tokens_behind dir (xs ++ x ∷ [])
    ≡ (answer (after dir xs) (tokens_behind dir xs) x).tokens
tokens_push dir xs x = tokens_push_from dir no_tokens xs x

after_push_from : (dir : Directory) (tokens : List (Option Token)) (xs : List Frame) (x : Frame)
    → after_from dir tokens (xs ++ x ∷ []) ≡ (answer (after_from dir tokens xs) (tokens_from dir tokens xs) x).directory
unfolding after_from tokens_from
after_push_from dir tokens [] x = refl
after_push_from dir tokens (y ∷ xs) x = after_push_from (answer dir tokens y).directory (answer dir tokens y).tokens
    xs x

after_push : (dir : Directory) (xs : List Frame) (x : Frame) → after dir (xs ++ x ∷ [])
    ≡ (answer (after dir xs) (tokens_behind dir xs) x).directory
after_push dir xs x = after_push_from dir no_tokens xs x

-- ---- one answer more

outputs_push_from : (dir : Directory) (tokens : List (Option Token)) (xs : List Frame) (x : Frame)
    → outputs_from dir tokens (xs ++ x ∷ []) ≡ outputs_from dir tokens xs
    ++ (answer (after_from dir tokens xs) (tokens_from dir tokens xs) x).output ∷ []
unfolding outputs_from after_from tokens_from
outputs_push_from dir tokens [] x = refl
outputs_push_from dir tokens (y ∷ xs) x =
    ap (λ (l : List (List ℕ)). (answer dir tokens y).output ∷ l)
    (outputs_push_from (answer dir tokens y).directory (answer dir tokens y).tokens xs x)

outputs_push : (dir : Directory) (xs : List Frame) (x : Frame)
    → outputs dir (xs ++ x ∷ []) ≡ outputs dir xs ++ (answer (after dir xs) (tokens_behind dir xs) x).output ∷ []
outputs_push dir xs x = outputs_push_from dir no_tokens xs x

outputs_none : (dir : Directory) → outputs dir [] ≡ []
unfolding outputs_from
outputs_none dir = refl

-- one frame more of those to serve
pub take_more : (frames : List Frame) (i : ℕ) (x : Frame) → i < length frames → get_or frames i x ≡ x
    → take (i + 1) frames ≡ take i frames ++ x ∷ []
take_more frames i x lt is =
    let e : i + 1 ≡ suc i = omega arith in
    ap (λ (k : ℕ). take k frames) e ∙ take-suc frames i x lt ∙ ap (λ (y : Frame). take i frames ++ y ∷ []) is

module _ {S : Type 0} (site : SiteGhosts S) where
  -- these frames were served, with these answers
  pub record SoFar (first engine : DirStore) (served : List Frame) (answers : List (List ℕ)) (old now : S) : Type 0 where
    pub dir_is : engine.dir ≡ after first.dir served
    pub tokens_are : engine.tokens ≡ tokens_behind first.dir served
    pub answers_are : answers ≡ outputs first.dir served
    pub stands : StandsIn engine (site.reads now) (site.now now) (site.left now)
    pub unspent : engine.spent ≡ false
    pub lasts : LastsOn site first.dir engine.dir old now
    pub outside : TouchesSlots site old now

  none_last : (dir : Directory) (x : S) → LastsOn site dir dir x x
  none_last dir x = by (site.reads x)
    where
      by : (r : Option Images) → IfSome r (λ held. EachLeaves site dir x → EachLeaves site dir x)
      by None = tt
      by (Some held) = λ each. each

  last_on : (a b c : Directory) (x y z : S) → StaysKnown (site.reads x) (site.reads y) → LastsOn site a b x y
      → LastsOn site b c y z → LastsOn site a c x z
  last_on a b c x y z known first second = by (site.reads x) (site.reads y) known first second
    where
      by : (r0 r1 : Option Images) → StaysKnown r0 r1 → IfSome r0 (λ held. EachLeaves site a x → EachLeaves site b y)
          → IfSome r1 (λ held. EachLeaves site b y → EachLeaves site c z)
          → IfSome r0 (λ held. EachLeaves site a x → EachLeaves site c z)
      by None None known f g = tt
      by (Some held) (Some now) known f g = λ each. g (f each)
      by None (Some now) known f g = absurd known
      by (Some held) None known f g = absurd known

  pub none_yet : IsLawful site → (engine : DirStore) (x : S) → StandsIn engine (site.reads x) (site.now x) (site.left x)
      → engine.spent ≡ false → engine.tokens ≡ []
      → SoFar engine engine [] [] x x
  none_yet law engine x stands unspent tokens = record {
    dir_is = sym (after_none engine.dir);
    tokens_are = tokens ∙ sym (tokens_none engine.dir);
    answers_are = sym (outputs_none engine.dir);
    stands = stands;
    unspent = unspent;
    lasts = none_last engine.dir x;
    outside = touches_not site x (law.until x);
  }

  -- a frame more
  pub one_more : (first engine behind : DirStore) (served : List Frame) (answers : List (List ℕ)) (frame : Frame)
      (output : List ℕ) (old x z : S)
      → SoFar first engine served answers old x → IsServed site engine behind frame output x z → TouchesSlots site x z
      → SoFar first behind (served ++ frame ∷ []) (answers ++ output ∷ []) old z
  one_more first engine behind served answers frame output old x z so_far next touches =
      let same : answer engine.dir engine.tokens frame ≡ answer (after first.dir served)
      (tokens_behind first.dir served) frame =
      ap (λ (d : Directory). answer d engine.tokens frame) so_far.dir_is
      ∙ ap (λ (ts : List (Option Token)). answer (after first.dir served) ts frame) so_far.tokens_are in
      record {
        dir_is = next.directory ∙ ap (λ (a : Answered). a.directory) same ∙ sym (after_push first.dir served frame);
        tokens_are = next.tokens ∙ ap (λ (a : Answered). a.tokens) same ∙ sym (tokens_push first.dir served frame);
        answers_are = ap (λ (l : List (List ℕ)). l ++ output ∷ []) so_far.answers_are
            ∙ ap (λ (o : List ℕ). outputs first.dir served ++ o ∷ [])
            (next.output_is ∙ ap (λ (a : Answered). a.output) same)
            ∙ sym (outputs_push first.dir served frame);
        stands = next.stands;
        unspent = next.unspent;
        lasts = last_on first.dir engine.dir behind.dir old x z so_far.outside.known so_far.lasts next.lasts;
        outside = touches_on site old x z so_far.outside touches;
      }

  pub all_served : (first engine : DirStore) (frames : List Frame) (answers : List (List ℕ)) (old now : S)
      → SoFar first engine frames answers old now
      → AreServed site first engine frames answers old now
  all_served first engine frames answers old now so_far = record {
    answers_are = so_far.answers_are;
    directory = so_far.dir_is;
    stands = so_far.stands;
    unspent = so_far.unspent;
    lasts = so_far.lasts;
  }
