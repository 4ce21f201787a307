-- Line after line: each message gives its object the list that the object has after the line, from those that the
-- lines before it gave.
use Rattle.std.proofs.Common.{◌≡◌, ℕ, suc, Bool, true, false, List, [], ◌∷◌, map, Option, Ok, refl, sym, ap, subst}
use Rattle.std.proofs.Common.{◌∙◌, inl, inr}
use Rattle.std.specs.Prelude.{nat_eq, not, ◌&&◌, ◌||◌, IfSome}
use Rattle.std.proofs.lemmas.Bool.{cases_Bool, eqb-true, eqb-false, eq-eqb, ne_eqb, true≢false}
use Rattle.std.proofs.lemmas.Option.{same_Some}
use Rattle.ad_bytes.proofs.Steps.{from_bind, from_fault_as, from_or_fault, from_ok}
use Rattle.ad_bytes.specs.Reading.{or_fault, fault_as}
use Rattle.ad_ids.specs.Sid.{IsSid}
use Rattle.ad_ids.specs.declared.token.Token.{Token}
use Rattle.ad_frames.specs.declared.frame.Frame.{Frame}
use Rattle.ad_acl.specs.Entry.{Entry}
use Rattle.ad_sd.specs.declared.parts.AceList.{AceList}
use Rattle.ad_sd.specs.Writing.{written as sd_written}
use Rattle.ad_ldap.specs.declared.requests.Message.{Message}
use Rattle.ad_inherit.specs.Whole.{explicit_list, explicit_part}
use Rattle.ad_dir_model.specs.Object.{Object}
use Rattle.ad_dir_model.specs.Objects.{Rise, is_live, object_at, sd_at}
use Rattle.ad_dir_model.specs.Directory.{Directory}
use Rattle.ad_dir_model.specs.Identity.{domain_sid}
use Rattle.ad_dir_model.specs.Inheritance.{written}
use Rattle.ad_needs_rules.specs.Requests.{parts_in}
use Rattle.ad_dir_model.proofs.Named.{found_live}
use Rattle.ad_engine.specs.Answer.{answer}
use Rattle.ad_engine.specs.Runs.{after_from}
use Rattle.ad_ldifmod.specs.Lines.{says_nothing}
use Rattle.ad_ldifmod.specs.Lists.{Lists, Step, changed_list, step_of, after_step, after_if, after_lines}
use Rattle.ad_ldifmod.specs.Messages.{list_alone, modify, fits, message_of}
use Rattle.ad_ldifmod.specs.Grants.{message_by, messages_from, at_line, IsOfFrame, AreFrames}
use Rattle.ad_ldifmod_laws.specs.Keeping.{with_dacl, with_list}
use Rattle.ad_ldifmod_laws.specs.Serving.{message_frame, success_of, SucceedFrom}
use Rattle.ad_ldifmod_laws.specs.Given.{is_step_of, is_named}
use Rattle.ad_ldifmod_laws.proofs.Names.{IsLike, like_then, same_found}
use Rattle.ad_ldifmod_laws.proofs.Writes.{IsGiven, is_given}
use Rattle.ad_ldifmod_laws.proofs.ReadBack.{list_back}
use Rattle.ad_ldifmod_laws.proofs.Effects.{IsMadeOf}
use Rattle.ad_ldifmod_laws.proofs.Serving.{served_is}
use Rattle.ad_ldifmod_laws.proofs.Lines.{AreOwn, own_explicit, own_ranges, IsStep, step_is}

-- The directory now, from the one that the lines are read with: each object has these lists, of own entries.
pub record Stands (dir now : Directory) (lists : Lists) : Type 0 where
  pub like : IsLike dir now
  pub rise : Rise now.objects
  pub explicit : (n : ℕ) → explicit_part (sd_at now.objects n)
      ≡ with_dacl (lists n) (explicit_part (sd_at dir.objects n))
  pub own : (n : ℕ) → AreOwn (lists n).entries

-- ---- one line

-- the list that the object of a step has after it
here_after : (step : Step) (lists : Lists) → after_step step lists step.number ≡ changed_list step.change
    (lists step.number)
here_after step lists = let same : nat_eq step.number step.number ≡ true = eq-eqb step.number step.number refl
    in rw same refl

own_after : (dir now : Directory) (lists : Lists) (step : Step) → Stands dir now lists → IsStep dir step → (n : ℕ)
    → AreOwn (after_step step lists n).entries
own_after dir now lists step stands is n = elim (cases_Bool (nat_eq n step.number)) [
  | inl here ↦ rw here (is.keeps (lists n).entries (stands.own n))
  | inr other ↦ rw other (stands.own n)
]

list_own : (list : AceList) → AreOwn list.entries → explicit_list list ≡ list
list_own list own = ap (λ (es : List Entry). with_entries list.protected es) (own_explicit list.entries own)
  where
    with_entries : Bool → List Entry → AceList
    with_entries protected entries = record { protected = protected; entries = entries }

-- what stands after a line, and that only its object is another one
record Steps (dir now next : Directory) (lists : Lists) (step : Step) : Type 0 where
  stands : Stands dir next (after_step step lists)
  others : (n : ℕ) → (step.number ≡ n → ⊥) → object_at next.objects n ≡ object_at now.objects n

given_steps : (dir now next : Directory) (lists : Lists) (step : Step) → Stands dir now lists → IsStep dir step
    → IsGiven now next step.number (after_step step lists step.number) → Steps dir now next lists step
given_steps dir now next lists step stands is given =
    let list : AceList = after_step step lists step.number in
    let own = own_after dir now lists step stands is in
    let here : explicit_part (sd_at next.objects step.number)
    ≡ with_dacl list (explicit_part (sd_at dir.objects step.number)) =
    given.here ∙ ap (λ (l : AceList). with_dacl l (explicit_part (sd_at now.objects step.number)))
    (list_own list (own step.number))
    ∙ ap (with_dacl list) (stands.explicit step.number) in
    record {
      stands = record {
        like = like_then dir now next stands.like given.like;
        rise = given.rise;
        explicit = λ n. elim (cases_Bool (nat_eq step.number n)) [
          | inl same ↦ subst (λ (k : ℕ). explicit_part (sd_at next.objects k) ≡ with_dacl (after_step step lists k)
              (explicit_part (sd_at dir.objects k))) (eqb-true step.number n same) here
          | inr differ ↦
              (let apart : step.number ≡ n → ⊥ = eqb-false step.number n differ in
              ap (λ (o : Object). explicit_part o.sd) (given.others n apart) ∙ stands.explicit n
              ∙ ap (λ (l : AceList). with_dacl l (explicit_part (sd_at dir.objects n))) (sym (list_after n apart)))
        ];
        own = own;
      };
      others = given.others;
    }
  where
    list_after : (n : ℕ) → (step.number ≡ n → ⊥) → after_step step lists n ≡ lists n
    list_after n apart = let differ : nat_eq n step.number ≡ false = ne_eqb n step.number (λ e. apart (sym e))
        in rw differ refl

made_steps : (dir now next : Directory) (lists : Lists) (step : Step) → Stands dir now lists → IsStep dir step
    → IsMadeOf now step.name (after_step step lists step.number) next → Steps dir now next lists step
made_steps dir now next lists step stands is made =
    let same : made.number ≡ step.number = same_Some made.number step.number
    (sym made.named ∙ same_found dir now (parts_in step.name) stands.like ∙ is.named) in
    let live : is_live now.objects step.number ≡ true =
    found_live now (parts_in step.name) step.number stands.rise (made.named ∙ ap (λ (k : ℕ). Option.Some k) same) in
    let list : AceList = after_step step lists step.number in
    let there : next ≡ written now (with_list list (object_at now.objects step.number)) = made.is
    ∙ ap (λ (k : ℕ). written now (with_list list (object_at now.objects k))) same in
    given_steps dir now next lists step stands is
    (subst (λ (d : Directory). IsGiven now d step.number list) (sym there)
    (is_given now step.number list stands.rise live))

-- a line's message, and that it is answered 0
message_steps : (dir now : Directory) (tokens : List (Option Token)) (lists : Lists) (step : Step) (id : ℕ)
    (message : Message) → Stands dir now lists → IsStep dir step
    → message_of id step.name (after_step step lists step.number) ≡ Ok message → IsOfFrame message
    → (answer now tokens (message_frame message)).output ≡ success_of message
    → Steps dir now (answer now tokens (message_frame message)).directory lists step
unfolding message_of
message_steps dir now tokens lists step id message stands is given framed out =
    let list : AceList = after_step step lists step.number in
    from_bind (or_fault _ (sd_written (list_alone list))) _ message given (λ (sd : List ℕ) e1 e2.
    from_bind (fits (modify id step.name sd)) _ message e2 (λ unit e3 e4.
    let same : modify id step.name sd ≡ message = from_ok (modify id step.name sd) message e4 in
    let back = list_back list sd (own_ranges list.entries (own_after dir now lists step stands is step.number))
    (from_or_fault _ (sd_written (list_alone list)) sd e1) in
    subst (λ (m : Message). IsOfFrame m → (answer now tokens (message_frame m)).output ≡ success_of m
    → Steps dir now (answer now tokens (message_frame m)).directory lists step) same
    (λ f o. made_steps dir now _ lists step stands is (served_is now tokens id step.name sd list f back o)) framed out))

-- ---- all lines

pub record Follows (dir now next : Directory) (lines : List (List ℕ)) (lists : Lists) : Type 0 where
  pub stands : Stands dir next (after_lines dir lines lists)
  pub unnamed : (n : ℕ) → is_named dir lines n ≡ false → object_at next.objects n ≡ object_at now.objects n

-- what a line says of the objects that it doesn't name
not_named : (step : Step) (n : ℕ) (others : Bool) → (not false && is_step_of {E = Unit {0}} n (Ok step)) || others
    ≡ false → (step.number ≡ n → ⊥) × (others ≡ false)
not_named step n others e = elim (cases_Bool (nat_eq step.number n)) [
  | inl named ↦ absurd (true≢false (rw named at e))
  | inr other ↦ (eqb-false step.number n other, rw other at e)
]

pub follow : (dir now : Directory) (tokens : List (Option Token)) (lists : Lists) (n id : ℕ) (lines : List (List ℕ))
    (messages : List Message)
    → IfSome (domain_sid dir) IsSid → Stands dir now lists → messages_from dir lists n id lines ≡ Ok messages
    → AreFrames messages → SucceedFrom now tokens messages
    → Follows dir now (after_from now tokens (map message_frame messages)) lines lists
unfolding messages_from message_by after_lines after_from
follow dir now tokens lists n id [] messages known stands given framed out =
    subst (λ (ms : List Message). Follows dir now (after_from now tokens (map message_frame ms)) [] lists)
    (from_ok [] messages given)
    (record { stands = stands; unnamed = λ k none. refl })
follow dir now tokens lists n id (line ∷ lines) messages known stands given framed out
    = elim (cases_Bool (says_nothing line)) [
      | inl nothing ↦
          (let rest = follow dir now tokens lists (suc n) id lines messages known stands (rw nothing at given) framed
          out in
          record { stands = rw nothing rest.stands; unnamed = λ k none. rest.unnamed k (rw nothing at none) })
      | inr something ↦
          from_bind (fault_as (at_line n) (message_by dir lists id line)) _ messages (rw something at given)
          (λ (message : Message) e1 e2.
          from_bind (messages_from dir (after_if (step_of dir line) lists) (suc n) (suc id) lines) _ messages e2
          (λ (others : List Message) e3 e4.
          from_bind (step_of dir line) _ message (from_fault_as (at_line n) (message_by dir lists id line) message e1)
          (λ (step : Step) e5 e6.
          let same : (message ∷ others) ≡ messages = from_ok (message ∷ others) messages e4 in
          let is : IsStep dir step = step_is dir line step known e5 in
          let frames : AreFrames (message ∷ others) = subst AreFrames (sym same) framed in
          let answers : SucceedFrom now tokens (message ∷ others) = subst (SucceedFrom now tokens) (sym same) out in
          let frame : Frame = message_frame message in
          let steps = message_steps dir now tokens lists step id message stands is e6 frames.0 answers.0 in
          let rest = follow dir (answer now tokens frame).directory (answer now tokens frame).tokens
          (after_step step lists) (suc n) (suc id) lines others known steps.stands
          (rw e5 at e3) frames.1 answers.1 in
          subst (λ (ms : List Message). Follows dir now (after_from now tokens (map message_frame ms)) (line ∷ lines)
          lists) same
          (record {
            stands = rw (something, e5) rest.stands;
            unnamed = λ k none. (let apart = not_named step k (is_named dir lines k) (rw (something, e5) at none) in
                rest.unnamed k apart.1 ∙ steps.others k apart.0);
          }))))
    ]
