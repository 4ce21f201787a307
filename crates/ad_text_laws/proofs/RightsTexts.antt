-- The text of rights is of such lines.
use Rattle.std.proofs.Common.{◌≡◌, ◌∙◌, ℕ, zero, suc, ◌^◌, ◌<◌, true, Option, Some, None, List, [], ◌∷◌, ◌++◌, length, map}
use Rattle.std.proofs.Common.{codes, decimal, refl, sym, ap, subst, append_assoc, arith}
use Rattle.std.specs.Prelude.{slice_get}
use Rattle.std.specs.List.{AllByRecursion, flat_map}
use Rattle.std.proofs.lemmas.List.{append-nil}
use Rattle.std.proofs.lemmas.Grind.{flat_map-append}
use Rattle.ad_bytes.specs.Puts.{spaced, ended}
use Rattle.ad_ids.specs.SidText.{sid_text}
use Rattle.ad_dir_model.specs.Directory.{Directory}
use Rattle.ad_dir_model.specs.Objects.{is_live}
use Rattle.ad_dir_model.specs.Names.{name_text}
use Rattle.ad_identities.specs.declared.identity.Identity.{Identity}
use Rattle.ad_identities.specs.Identities.{IsIdentity}
use Rattle.ad_sets.specs.declared.told.Fact.{Fact}
use Rattle.ad_sets.specs.declared.told.Fact.TheVariants.{In, On}
use Rattle.ad_rights_dir.specs.Rights.{number_name, identity_end, none_line, member_end, sign_text, fact_line, IsRightsText}
use Rattle.ad_rights_dir.specs.Granted.{facts_told}
use Rattle.ad_text_laws.specs.Lines.{facts_of}
use Rattle.ad_text_laws.specs.Facts.{title_text}
use Rattle.ad_text_laws.specs.Printed.{HasForms, name_at, title_at}
use Rattle.ad_text_laws.specs.Rights.{RightsLine, without, member, object, rights_line, rights_line_of, IsRightsLine, rights_text}
use Rattle.ad_text_laws.specs.RightsTold.{without_at, member_if, fact_told, rights_told, IsRightsRead}
use Rattle.ad_text_laws.proofs.PrintedLaws.{identity_sid, title_has}
use Rattle.ad_text_laws.proofs.RightsLaws.{rights_lines_back}
use Rattle.ad_text_laws.proofs.RightsFacts.{IsTellable, parties_are, facts_tell}

-- ---- lines

name_is : (dir : Directory) (number : Option ℕ) → number_name dir number ≡ title_text (title_at dir number)
unfolding name_text
name_is dir None = refl
name_is dir (Some number) = refl

-- a line of one part after a word, and of two
one_ended : (word part : List ℕ) → word ++ ended part ≡ ended (word ++ part)
one_ended word part = sym (append_assoc word part (10 ∷ []))

end_is : (dir : Directory) (identity : Identity) → identity_end dir identity
    ≡ ended (spaced (sid_text identity.sid) ++ title_text (title_at dir identity.number))
end_is dir identity =
    ap (λ (name : List ℕ). spaced (sid_text identity.sid) ++ ended name) (name_is dir identity.number)
    ∙ one_ended (spaced (sid_text identity.sid)) (title_text (title_at dir identity.number))

none_is : (dir : Directory) (identity : Identity)
    → none_line dir identity ≡ ended (rights_line (without_at dir identity))
none_is dir identity =
    ap (λ (t : List ℕ). codes "none " ++ t) (end_is dir identity)
    ∙ one_ended (codes "none ") (spaced (sid_text identity.sid) ++ title_text (title_at dir identity.number))

lacking_text : (dir : Directory) (lacking : List Identity)
    → flat_map (none_line dir) lacking ≡ rights_text (map (without_at dir) lacking)
lacking_text dir [] = refl
lacking_text dir (identity ∷ lacking) =
    ap (λ (t : List ℕ). t ++ flat_map (none_line dir) lacking) (none_is dir identity)
    ∙ ap (λ (t : List ℕ). ended (rights_line (without_at dir identity)) ++ t) (lacking_text dir lacking)

member_is : (dir : Directory) (number : ℕ) (identity : Identity)
    → codes "in " ++ (spaced (decimal number) ++ identity_end dir identity)
    ≡ ended (rights_line (member number identity.sid (title_at dir identity.number)))
member_is dir number identity =
    let part = spaced (sid_text identity.sid) ++ title_text (title_at dir identity.number) in
    ap (λ (t : List ℕ). codes "in " ++ (spaced (decimal number) ++ t)) (end_is dir identity)
    ∙ ap (λ (t : List ℕ). codes "in " ++ t) (one_ended (spaced (decimal number)) part)
    ∙ one_ended (codes "in ") (spaced (decimal number) ++ part)

-- there is somebody at a place
there : (parties : List Identity) (place : ℕ) → place < length parties → slice_get parties place ≡ None → ⊥
there [] place lt is = omega (arith, lt)
there (identity ∷ parties) zero lt is = absurd cc
there (identity ∷ parties) (suc place) lt is = there parties place (omega (arith, lt)) is

member_text : (dir : Directory) (number : ℕ) (found : Option Identity) → (found ≡ None → ⊥)
    → codes "in " ++ (spaced (decimal number) ++ member_end dir found) ≡ rights_text (member_if dir number found)
member_text dir number None is = absurd (is refl)
member_text dir number (Some identity) is = member_is dir number identity
    ∙ sym (append-nil (ended (rights_line (member number identity.sid (title_at dir identity.number)))))

fact_text : (dir : Directory) (parties : List Identity) (fact : Fact) → IsTellable dir parties fact
    → fact_line dir parties fact ≡ rights_text (fact_told dir parties fact)
unfolding name_text
fact_text dir parties (In number place) is =
    member_text dir number (slice_get parties place) (there parties place is.1)
fact_text dir parties (On number sign place) is =
    ap (λ (t : List ℕ). codes "on " ++ (spaced (decimal number) ++ t)) (one_ended (sign_text sign) (name_text dir place))
    ∙ ap (λ (t : List ℕ). codes "on " ++ t) (one_ended (spaced (decimal number)) (sign_text sign ++ name_text dir place))
    ∙ one_ended (codes "on ") (spaced (decimal number) ++ (sign_text sign ++ name_text dir place))
    ∙ sym (append-nil (ended (rights_line (object number sign (name_at dir place)))))

facts_text : (dir : Directory) (parties : List Identity) (facts : List Fact)
    → AllByRecursion (IsTellable dir parties) facts
    → flat_map (fact_line dir parties) facts ≡ rights_text (flat_map (fact_told dir parties) facts)
facts_text dir parties [] tell = refl
facts_text dir parties (fact ∷ facts) tell =
    ap (λ (t : List ℕ). t ++ flat_map (fact_line dir parties) facts) (fact_text dir parties fact tell.0)
    ∙ ap (λ (t : List ℕ). rights_text (fact_told dir parties fact) ++ t) (facts_text dir parties facts tell.1)
    ∙ sym (flat_map-append (λ (line : RightsLine). ended (rights_line line)) (fact_told dir parties fact)
    (flat_map (fact_told dir parties) facts))

-- ---- their form

all_both : (a b : List RightsLine) → AllByRecursion IsRightsLine a → AllByRecursion IsRightsLine b
    → AllByRecursion IsRightsLine (a ++ b)
all_both [] b p q = q
all_both (x ∷ a) b p q = (p.0, all_both a b p.1 q)

lacking_form : (dir : Directory) (lacking : List Identity) → HasForms dir → AllByRecursion (IsIdentity dir) lacking
    → AllByRecursion IsRightsLine (map (without_at dir) lacking)
lacking_form dir [] forms each = tt
lacking_form dir (identity ∷ lacking) forms each = (
  (identity_sid dir identity.sid identity.number forms each.0, title_has dir identity.sid identity.number forms each.0),
  lacking_form dir lacking forms each.1,
)

member_form : (dir : Directory) (number : ℕ) (parties : List Identity) (place : ℕ) → HasForms dir
    → AllByRecursion (IsIdentity dir) parties → number < 2 ^ 64
    → AllByRecursion IsRightsLine (member_if dir number (slice_get parties place))
member_form dir number [] place forms each small = tt
member_form dir number (identity ∷ parties) zero forms each small = (
  (
    small,
    (
      identity_sid dir identity.sid identity.number forms each.0,
      title_has dir identity.sid identity.number forms each.0,
    ),
  ),
  tt,
)
member_form dir number (identity ∷ parties) (suc place) forms each small =
    member_form dir number parties place forms each.1 small

fact_form : (dir : Directory) (parties : List Identity) (fact : Fact) → HasForms dir
    → AllByRecursion (IsIdentity dir) parties → IsTellable dir parties fact
    → AllByRecursion IsRightsLine (fact_told dir parties fact)
fact_form dir parties (In number place) forms each is = member_form dir number parties place forms each is.0
fact_form dir parties (On number sign place) forms each is = ((is.0, forms.names place is.1), tt)

facts_form : (dir : Directory) (parties : List Identity) (facts : List Fact) → HasForms dir
    → AllByRecursion (IsIdentity dir) parties → AllByRecursion (IsTellable dir parties) facts
    → AllByRecursion IsRightsLine (flat_map (fact_told dir parties) facts)
facts_form dir parties [] forms each tell = tt
facts_form dir parties (fact ∷ facts) forms each tell =
    all_both (fact_told dir parties fact) (flat_map (fact_told dir parties) facts)
    (fact_form dir parties fact forms each tell.0) (facts_form dir parties facts forms each tell.1)

-- ---- the text

pub rights_read : (dir : Directory) (right : List ℕ) (base : Option (List ℕ)) (text : List ℕ)
    (told : IsRightsText dir right base text) → HasForms dir → AllByRecursion (IsIdentity dir) told.all
    → length dir.objects < 2 ^ 63 → IsRightsRead dir right base text told
rights_read dir right base text told forms each few =
    let facts = facts_told dir right base text told in
    let both = parties_are (IsIdentity dir) dir told.all told.parties told.tokens told.without told.are_parties each in
    let tell = facts_tell dir told.all told.parties told.tokens told.without told.question told.from told.are_parties few
    in
    let lines = rights_told dir told.without told.parties facts in
    let form = all_both (map (without_at dir) told.without) (flat_map (fact_told dir told.parties) facts)
    (lacking_form dir told.without forms both.1) (facts_form dir told.parties facts forms both.0 tell) in
    let text_is : text ≡ rights_text lines = told.lines
    ∙ ap (λ (t : List ℕ). t ++ flat_map (fact_line dir told.parties) facts) (lacking_text dir told.without)
    ∙ ap (λ (t : List ℕ). rights_text (map (without_at dir) told.without) ++ t) (facts_text dir told.parties facts tell)
    ∙ sym (flat_map-append (λ (line : RightsLine). ended (rights_line line)) (map (without_at dir) told.without)
    (flat_map (fact_told dir told.parties) facts)) in
    record {
      form = form;
      lines = text_is;
      read = ap (facts_of rights_line_of) text_is ∙ rights_lines_back lines form;
    }
