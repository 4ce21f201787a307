-- `adsd effective`, from what the slots are opened as, from what the input gave and from what was emitted.
use Rattle.std.proofs.Common.{◌≡◌, inl, inr, ⊎_elim, ℕ, List, Option, Some, None, Err, refl, sym, subst}
use Rattle.std.specs.Option.{IfSome}
use Rattle.site_io.specs.Counts.{HasRisen}
use Rattle.site_io.specs.Told.{StaysTold}
use Rattle.site_io.specs.Outside.{OnlyLooks}
use Rattle.site_io.specs.declared.source.Source.{Ghosts as SourceGhosts}
use Rattle.site_io.specs.declared.site.Site.{Ghosts as SiteGhosts}
use Rattle.ad_ids.specs.declared.token.Token.{Token}
use Rattle.ad_dn.specs.Value.{AreRdns}
use Rattle.ad_dir_model.specs.Directory.{Directory}
use Rattle.ad_rows_write.specs.Rows.{IsStoreOf}
use Rattle.ad_dsacls.specs.Effective.{effective_text}
use Rattle.ad_engine_store.specs.Opening.{IsOpenedAs}
use Rattle.ad_engine_store.specs.declared.fault.OpenFault.{OpenFault}
use Rattle.ad_engine_store.specs.declared.fault.OpenFault.TheVariants as fault
use Rattle.cmd_call.specs.Store.{HasFailed, KeepsSlots, SaysUnless}
use Rattle.cmd_call.specs.declared.outcome.Outcome.{Outcome}
use Rattle.cmd_call.specs.declared.outcome.Outcome.TheVariants.{Done, NotOfForm, NoCommand, NoStore, NoObject}
use Rattle.cmd_call.specs.declared.outcome.Outcome.TheVariants.{TooMany, SourceFailed, SiteFailed, NoMemory}
use Rattle.cmd_call.proofs.Moments.{told_map, looks_keep}
use Rattle.cmd_call.proofs.Telling.{Tells, whole, part, nothing, telling_by, unhealthy}
use Rattle.cmd_store_open.specs.Refused.{Refused}
use Rattle.cmd_store_open.proofs.Refusing.{never_with, Ends, refused, failed, stopped, refusal_by, partly_said}
use Rattle.cmd_store.specs.Answering.{IsUnanswered, AnswersAt, AnswersFor}
use Rattle.cmd_store.specs.Effective.{EffectiveDoes, IsTokenFor, IsTextFor, IsLineFor, IsPartlyAnswered}
use Rattle.cmd_store.specs.List.{HasObject, IsStoreNamed, number_named, no_object_line}
use Rattle.cmd_store.proofs.ListSteps.{has_dir, clash_missing, clash_there, named_on, stands_clash}
use Rattle.cmd_store.proofs.TokenLength.{token_clash, none_clash}

module _ {I S : Type 0} (source : SourceGhosts I) (site : SiteGhosts S) (name : List ℕ) where
  -- what the command did, and that a failure has its cause
  abbrev pub Answers : I → I → S → S → Outcome → Type 0
  Answers from to old new outcome = EffectiveDoes source site name from to old new outcome
      × (outcome ≡ SourceFailed → HasRisen (source.faults from) (source.faults to))
      × (outcome ≡ SiteFailed → HasFailed site old new)

  -- nothing was emitted, for want of memory
  answered_memory : (from to : I) (x z : S) → KeepsSlots site x z → StaysTold (site.emitted x) (site.emitted z)
      → Answers from to x z NoMemory
  answered_memory from to x z keeps quiet = (
    record {
      done = λ no. absurd cc;
      refused = λ no. absurd cc;
      no_store = λ no. absurd cc;
      no_object = λ no. absurd cc;
      complete = λ _ no. absurd cc;
      misses = λ _. (λ no. absurd cc, λ no. absurd cc);
      takes = λ _ no. absurd cc;
      refuses = λ _ no. absurd cc;
      answers = λ _ _ _. inr refl;
      stands = λ _ _. inr refl;
      partly = λ no. absurd cc;
      quiet = λ _. quiet;
      slots = keeps;
      only = tt;
    },
    λ no. absurd cc,
    λ no. absurd cc,
  )

  -- the site failed
  answered_failed : (from to : I) (x z : S) → KeepsSlots site x z → HasFailed site x z → IsPartlyAnswered source site
      name from to x z
      → Answers from to x z SiteFailed
  answered_failed from to x z keeps cause partly = (
    record {
      done = λ no. absurd cc;
      refused = λ no. absurd cc;
      no_store = λ no. absurd cc;
      no_object = λ no. absurd cc;
      complete = λ _ no. absurd cc;
      misses = λ _. (λ no. absurd cc, λ no. absurd cc);
      takes = λ _ no. absurd cc;
      refuses = λ _ no. absurd cc;
      answers = λ _ _ healthy. absurd (unhealthy site x z cause healthy.keeps_well);
      stands = λ _ healthy. absurd (unhealthy site x z cause healthy);
      partly = λ _. partly;
      quiet = λ no. absurd no;
      slots = keeps;
      only = tt;
    },
    λ no. absurd cc,
    λ _. cause,
  )

  -- ---- an object has the name

  -- what the token may do was emitted
  answered_so : (from to : I) (x z : S) (dir : Directory) (number : ℕ) (token : Token) (outcome : Outcome)
      → number_named dir name ≡ Some number
      → IfSome (site.reads x) (λ held. IsStoreNamed held dir) → IsTokenFor (source.rest from) (source.rest to) token
      → KeepsSlots site x z
      → Tells site x z (effective_text dir token number) Done outcome → Answers from to x z outcome
  answered_so from to x z dir number token outcome is stands input keeps (whole done text)
      = subst (Answers from to x z) (sym done) (
        record {
          done = λ _. record {
            dir = dir;
            store = stands;
            number = number;
            named = is;
            token = token;
            input = input;
            text
                = text;
          };
          refused = λ no. absurd cc;
          no_store = λ no. absurd cc;
          no_object = λ no. absurd cc;
          complete = λ _ no. absurd cc;
          misses = λ told. (λ _. clash_there name dir number (site.reads x) stands is told, λ no. absurd cc);
          takes = λ _ no. absurd cc;
          refuses = λ told _. none_clash (source.rest from) (source.rest to) token told input;
          answers = λ _ _ _. inl refl;
          stands = λ none _. absurd (stands_clash dir (site.reads x) stands none);
          partly = λ no. absurd cc;
          quiet = λ no. absurd no;
          slots = keeps;
          only = tt;
        },
        λ no. absurd cc,
        λ no. absurd cc,
      )
  answered_so from to x z dir number token outcome is stands input keeps (part cut risen text)
      = subst (Answers from to x z) (sym cut)
      (answered_failed from to x z keeps (inr risen) (inr (inl (
        effective_text dir token number,
        token,
        input,
        told_map (λ held. IsStoreNamed held dir) (λ held. IsTextFor name token held (effective_text dir token number))
            (site.reads x)
            (λ held named. (dir, number, named, is, refl)) stands,
        text,
      ))))
  answered_so from to x z dir number token outcome is stands input keeps (nothing none quiet) =
      subst (Answers from to x z) (sym none) (answered_memory from to x z keeps quiet)

  -- the input gave no token
  unanswered : (from to : I) (x y : S) (dir : Directory) (number : ℕ) (outcome : Outcome) → number_named dir name
      ≡ Some number → OnlyLooks site x y
      → IfSome (site.reads x) (λ held. IsStoreNamed held dir) → IsUnanswered source site from to outcome
      → Answers from to x y outcome
  unanswered from to x y dir number NotOfForm is looks stands gave = (
    record {
      done = λ no. absurd cc;
      refused = λ _. record {
        dir = dir;
        store = stands;
        number = number;
        named = is;
        input = gave.refused refl;
        quiet
            = looks.output;
      };
      no_store = λ no. absurd cc;
      no_object = λ no. absurd cc;
      complete = λ _ no. absurd cc;
      misses = λ told. (λ no. absurd cc, λ _. clash_there name dir number (site.reads x) stands is told);
      takes = λ told _. token_clash (source.rest from) (source.rest to) told (gave.refused refl);
      refuses = λ _ no. absurd cc;
      answers = λ _ told _. absurd (token_clash (source.rest from) (source.rest to) told (gave.refused refl));
      stands = λ none _. absurd (stands_clash dir (site.reads x) stands none);
      partly = λ no. absurd cc;
      quiet = λ no. absurd no;
      slots = looks_keep site x y looks;
      only = tt;
    },
    λ no. absurd cc,
    λ no. absurd cc,
  )
  unanswered from to x y dir number SourceFailed is looks stands gave = (
    record {
      done = λ no. absurd cc;
      refused = λ no. absurd cc;
      no_store = λ no. absurd cc;
      no_object = λ no. absurd cc;
      complete = λ _ no. absurd cc;
      misses = λ _. (λ no. absurd cc, λ no. absurd cc);
      takes = λ _ no. absurd cc;
      refuses = λ _ no. absurd cc;
      answers = λ _ _ healthy. absurd (healthy.reads_well (gave.source_failed refl));
      stands = λ none _. absurd (stands_clash dir (site.reads x) stands none);
      partly = λ no. absurd cc;
      quiet = λ _. looks.output;
      slots = looks_keep site x y looks;
      only = tt;
    },
    λ _. gave.source_failed refl,
    λ no. absurd cc,
  )
  unanswered from to x y dir number NoMemory is looks stands gave = answered_memory from to x y
      (looks_keep site x y looks) looks.output
  unanswered from to x y dir number Done is looks stands gave = absurd gave.only
  unanswered from to x y dir number NoCommand is looks stands gave = absurd gave.only
  unanswered from to x y dir number NoStore is looks stands gave = absurd gave.only
  unanswered from to x y dir number NoObject is looks stands gave = absurd gave.only
  unanswered from to x y dir number TooMany is looks stands gave = absurd gave.only
  unanswered from to x y dir number SiteFailed is looks stands gave = absurd gave.only

  answered_at : (from to : I) (x y z : S) (dir : Directory) (number : ℕ) (outcome : Outcome) → number_named dir name
      ≡ Some number → OnlyLooks site x y
      → IfSome (site.reads x) (λ held. IsStoreNamed held dir) → AnswersAt source site dir number from to y z outcome
      → Answers from to x z outcome
  answered_at from to x y z dir number outcome is looks stands (inl (token, input, said)) =
      let telling = telling_by site x y z (effective_text dir token number) Done outcome looks said in
      answered_so from to x z dir number token outcome is stands input telling.slots telling.ends
  answered_at from to x y z dir number outcome is looks stands (inr gave) =
      subst (λ (s : S). Answers from to x s outcome) (sym gave.1)
      (unanswered from to x y dir number outcome is looks stands gave.0)

  -- ---- none has it

  none_so : (from : I) (x z : S) (dir : Directory) (outcome : Outcome) → number_named dir name ≡ None
      → IfSome (site.reads x) (λ held. IsStoreNamed held dir) → KeepsSlots site x z → Tells site x z no_object_line
      NoObject outcome → Answers from from x z outcome
  none_so from x z dir outcome is stands keeps (whole said line) = subst (Answers from from x z) (sym said) (
    record {
      done = λ no. absurd cc;
      refused = λ no. absurd cc;
      no_store = λ no. absurd cc;
      no_object = λ _. (record { dir = dir; store = stands; none = is; line = line }, refl);
      complete = λ told _. clash_missing name dir (site.reads x) stands is told;
      misses = λ _. (λ no. absurd cc, λ no. absurd cc);
      takes = λ _ no. absurd cc;
      refuses = λ _ no. absurd cc;
      answers = λ told _ _. absurd (clash_missing name dir (site.reads x) stands is told);
      stands = λ none _. absurd (stands_clash dir (site.reads x) stands none);
      partly = λ no. absurd cc;
      quiet = λ no. absurd no;
      slots = keeps;
      only = tt;
    },
    λ no. absurd cc,
    λ no. absurd cc,
  )
  none_so from x z dir outcome is stands keeps (part cut risen line) = subst (Answers from from x z) (sym cut)
      (answered_failed from from x z keeps (inr risen) (inr (inr (
        no_object_line,
        told_map (λ held. IsStoreNamed held dir) (λ held. IsLineFor name held no_object_line) (site.reads x)
            (λ held named. inl ((dir, named, is), refl)) stands,
        line,
      ))))
  none_so from x z dir outcome is stands keeps (nothing none quiet) = subst (Answers from from x z) (sym none)
      (answered_memory from from x z keeps quiet)

  answered_none : (from : I) (x y z : S) (dir : Directory) (outcome : Outcome) → number_named dir name ≡ None
      → OnlyLooks site x y
      → IfSome (site.reads x) (λ held. IsStoreNamed held dir) → SaysUnless site y z no_object_line NoObject outcome
      → Answers from from x z outcome
  answered_none from x y z dir outcome is looks stands said =
      let telling = telling_by site x y z no_object_line NoObject outcome looks said in
      none_so from x z dir outcome is stands telling.slots telling.ends

  answered_for : (from to : I) (x y z : S) (dir : Directory) (number : Option ℕ) (outcome : Outcome)
      → number_named dir name ≡ number → OnlyLooks site x y
      → IfSome (site.reads x) (λ held. IsStoreNamed held dir) → AnswersFor source site dir number from to y z outcome
      → Answers from to x z outcome
  answered_for from to x y z dir (Some number) outcome is looks stands answers = answered_at from to x y z dir number
      outcome is looks stands answers
  answered_for from to x y z dir None outcome is looks stands answers =
      subst (λ (i : I). Answers from i x z outcome) (sym answers.1)
      (answered_none from x y z dir outcome is looks stands answers.0)

  pub answered_told : (from to : I) (x y z : S) (dir : Directory) (outcome : Outcome) → OnlyLooks site x y
      → IfSome (site.reads x) (λ held. IsStoreOf held dir)
      → AreRdns dir.meta.suffix → AnswersFor source site dir (number_named dir name) from to y z outcome
      → Answers from to x z outcome
  answered_told from to x y z dir outcome looks stands suffix answers =
      answered_for from to x y z dir (number_named dir name) outcome refl looks
      (named_on dir (site.reads x) stands suffix) answers

  -- ---- the slots represent no directory

  answered_not : (from : I) (x z : S) (outcome : Outcome) → KeepsSlots site x z → Ends site x z outcome
      → Answers from from x z outcome
  answered_not from x z outcome keeps (refused is none) = subst (Answers from from x z) (sym is) (
    record {
      done = λ no. absurd cc;
      refused = λ no. absurd cc;
      no_store = λ _. (none, refl);
      no_object = λ no. absurd cc;
      complete = λ _ no. absurd cc;
      misses = λ _. (λ no. absurd cc, λ no. absurd cc);
      takes = λ _ no. absurd cc;
      refuses = λ _ no. absurd cc;
      answers = λ told _ _. absurd (never_with (HasObject name) (has_dir name) none.fault (site.reads x) told
          none.store);
      stands = λ _ _. inl refl;
      partly = λ no. absurd cc;
      quiet = λ no. absurd no;
      slots = keeps;
      only = tt;
    },
    λ no. absurd cc,
    λ no. absurd cc,
  )
  answered_not from x z outcome keeps (failed is risen said) = subst (Answers from from x z) (sym is)
      (answered_failed from from x z keeps risen
      (⊎_elim inl (λ cut. inr (inr cut)) (partly_said site (IsLineFor name) x z
      (λ held why none. inr (why, none, refl)) said)))
  answered_not from x z outcome keeps (stopped is quiet) = subst (Answers from from x z) (sym is)
      (answered_memory from from x z keeps quiet)

  -- no store was opened, for whatever reason
  pub answered_by : (from : I) (x y z : S) (why : OpenFault) (outcome : Outcome) → OnlyLooks site x y
      → IfSome (site.reads x) (λ held. IsOpenedAs held (Err why))
      → (why ≡ fault.Site → HasRisen (site.slot_faults x) (site.slot_faults y)) → Refused site y z why outcome
      → Answers from from x z outcome
  answered_by from x y z why outcome looks opened risen said =
      let refusal = refusal_by site x y z why outcome looks opened risen said in
      answered_not from x z outcome refusal.slots refusal.ends
