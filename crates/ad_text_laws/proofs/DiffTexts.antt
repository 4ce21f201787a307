-- The text of diff is of the lines that its answer tells.
use Rattle.std.proofs.Common.{Bool, ◌≡◌, ◌∙◌, ℕ, suc, ◌+◌, ◌^◌, ◌<◌, true, false, if◌then◌else◌, Option, Some, None}
use Rattle.std.proofs.Common.{List, [], ◌∷◌, ◌++◌, get_or, codes, decimal, refl, sym, ap, subst, append_assoc, arith}
use Rattle.std.proofs.Common.{inl, inr, map}
use Rattle.std.specs.Prelude.{All, ◌==◌, is_some, unwrap_or}
use Rattle.std.specs.List.{AllByRecursion, flat_map}
use Rattle.std.specs.Option.{option_map_or}
use Rattle.std.proofs.lemmas.Bool.{and_parts, false≢true}
use Rattle.std.proofs.lemmas.List.{append-nil}
use Rattle.std.proofs.lemmas.List.Elements.{filter_passes}
use Rattle.std.proofs.lemmas.Grind.{flat_map-append}
use Rattle.ad_bytes.specs.Puts.{spaced, ended, labelled}
use Rattle.ad_ids.specs.SidValue.{SidValue}
use Rattle.ad_ids.specs.SidText.{sid_text}
use Rattle.ad_dn.specs.declared.rdn.Dn.{Dn}
use Rattle.ad_dn.specs.Text.{dn_text}
use Rattle.ad_dir_model.specs.Directory.{Directory}
use Rattle.ad_dir_model.specs.Objects.{is_live}
use Rattle.ad_dir_model.specs.Identity.{self_sid}
use Rattle.ad_dir_model.specs.Names.{name_text}
use Rattle.ad_both.specs.declared.both.Both.{Both}
use Rattle.ad_both.specs.Both.{objects_of_both, IsLiveBoth}
use Rattle.ad_diff_rights.specs.Both.{are_principals}
use Rattle.ad_causes.specs.Cause.{Cause, cause_line, causes_text}
use Rattle.ad_causes.specs.Causes.{causes}
use Rattle.ad_diff_rights.specs.Rights.{rights}
use Rattle.ad_diff_rights.specs.Changes.{has_label, line_unless, lines_without, change_lines, changes, Differs}
use Rattle.ad_both.proofs.Live.{all_live}
use Rattle.ad_diff_rights.proofs.Live.{principals_live}
use Rattle.ad_diff.specs.declared.numbering.Grouped.{Grouped}
use Rattle.ad_diff.specs.Text.{HasNumber, cell, principal_line, object_line, cell_text, row_text, table_text}
use Rattle.ad_diff.specs.Text.{blocks_text, IsDiffText}
use Rattle.ad_diff.proofs.Whole.{all_members}
use Rattle.ad_diff.proofs.NoLine.{no_group, member_at}
use Rattle.ad_text_laws.specs.Lines.{is_line, facts_of}
use Rattle.ad_principals.specs.Groups.{is_principal}
use Rattle.ad_principals.proofs.Identified.{principal_has}
use Rattle.ad_text_laws.specs.Printed.{HasForms, name_at}
use Rattle.ad_text_laws.specs.Diff.{DiffLine, cause, principal, object, block, gained, lost, diff_line}
use Rattle.ad_text_laws.specs.Diff.{diff_line_of, IsDiffLine, diff_text}
use Rattle.ad_text_laws.specs.DiffTold.{IsTellable, principal_told, object_told, cell_told, row_told, table_told}
use Rattle.ad_text_laws.specs.DiffTold.{blocks_told, lines_told, IsRead}
use Rattle.ad_text_laws.specs.CauseLines.{IsCauseLine}
use Rattle.ad_text_laws.proofs.CauseLaws.{cause_line_ended}
use Rattle.ad_text_laws.proofs.CauseForms.{causes_form}
use Rattle.ad_text_laws.proofs.DiffLaws.{diff_lines_back}
use Rattle.ad_text_laws.proofs.DiffLabels.{AreLines, granted_are}

-- ---- a text and its lines

record IsText (text : List ℕ) (lines : List DiffLine) : Type 0 where
  is : text ≡ diff_text lines
  form : AllByRecursion IsDiffLine lines

none_text : IsText [] []
none_text = record { is = refl; form = tt }

all_both : (a b : List DiffLine) → AllByRecursion IsDiffLine a → AllByRecursion IsDiffLine b
    → AllByRecursion IsDiffLine (a ++ b)
all_both [] b p q = q
all_both (x ∷ a) b p q = (p.0, all_both a b p.1 q)

both_texts : (a b : List ℕ) (x y : List DiffLine) → IsText a x → IsText b y → IsText (a ++ b) (x ++ y)
both_texts a b x y p q = record {
  is = ap (λ (t : List ℕ). t ++ b) p.is ∙ ap (λ (t : List ℕ). diff_text x ++ t) q.is
      ∙ sym (flat_map-append (λ (line : DiffLine). ended (diff_line line)) x y);
  form = all_both x y p.form q.form;
}

each_text : {A : Type 0} (text : A → List ℕ) (told : A → List DiffLine) (all : List A)
    → All (λ a. IsText (text a) (told a)) all → IsText (flat_map text all) (flat_map told all)
each_text text told [] is = none_text
each_text text told (a ∷ all) is = both_texts (text a) (flat_map text all) (told a) (flat_map told all)
    (is 0 a (omega arith)) (each_text text told all (λ i d lt. is (suc i) d (omega (arith, lt))))

one_text : (line : DiffLine) → IsDiffLine line → IsText (ended (diff_line line)) (line ∷ [])
one_text line is = record { is = sym (append-nil (ended (diff_line line))); form = (is, tt) }

-- ---- groups

principal_text : (group : ℕ) (sid : SidValue) (name : Dn)
    → codes "principal " ++ (spaced (decimal group) ++ (spaced (sid_text sid) ++ ended (dn_text name)))
    ≡ ended (diff_line (principal group sid name))
principal_text group sid name =
    let end = 10 ∷ [] in
    sym (append_assoc (codes "principal ") (spaced (decimal group) ++ (spaced (sid_text sid) ++ dn_text name)) end
    ∙ ap (λ (t : List ℕ). codes "principal " ++ t)
    (append_assoc (spaced (decimal group)) (spaced (sid_text sid) ++ dn_text name) end
    ∙ ap (λ (t : List ℕ). spaced (decimal group) ++ t) (append_assoc (spaced (sid_text sid)) (dn_text name) end)))

object_text : (group : ℕ) (name : Dn)
    → codes "object " ++ (spaced (decimal group) ++ ended (dn_text name)) ≡ ended (diff_line (object group name))
object_text group name =
    let end = 10 ∷ [] in
    sym (append_assoc (codes "object ") (spaced (decimal group) ++ dn_text name) end
    ∙ ap (λ (t : List ℕ). codes "object " ++ t) (append_assoc (spaced (decimal group)) (dn_text name) end))

principal_is : (after : Directory) (g : Grouped) → HasForms after → HasNumber g
    → is_live after.objects g.both.after ≡ true → is_some (self_sid after g.both.after) ≡ true
    → IsText (principal_line after g) (principal_told after g)
unfolding principal_line name_text
principal_is after g forms small live some = by (g.group == 0) (self_sid after g.both.after) refl some
  where
    by : (t : Bool) (sid : Option SidValue) → self_sid after g.both.after ≡ sid → is_some sid ≡ true
        → IsText (if t then [] else codes "principal " ++ (spaced (decimal g.group)
        ++ (option_map_or (λ (s : SidValue). spaced (sid_text s)) sid [] ++ ended (dn_text (name_at after g.both.after)))))
        (if t then [] else option_map_or (λ (s : SidValue). principal g.group s (name_at after g.both.after) ∷ []) sid [])
    by true sid e there = none_text
    by false None e there = absurd (false≢true there)
    by false (Some sid) e there =
        subst (λ (t : List ℕ). IsText t (principal g.group sid (name_at after g.both.after) ∷ []))
        (sym (principal_text g.group sid (name_at after g.both.after)))
        (one_text (principal g.group sid (name_at after g.both.after))
        (omega (arith, small), forms.sids g.both.after sid e, forms.names g.both.after live))

object_is : (after : Directory) (g : Grouped) → HasForms after → HasNumber g
    → is_live after.objects g.both.after ≡ true → IsText (object_line after g) (object_told after g)
unfolding object_line name_text
object_is after g forms small live = by (g.group == 0)
  where
    by : (t : Bool) → IsText (if t then [] else codes "object " ++ (spaced (decimal g.group) ++ ended (dn_text (name_at after g.both.after))))
        (if t then [] else object g.group (name_at after g.both.after) ∷ [])
    by true = none_text
    by false = subst (λ (t : List ℕ). IsText t (object g.group (name_at after g.both.after) ∷ []))
        (sym (object_text g.group (name_at after g.both.after)))
        (one_text (object g.group (name_at after g.both.after)) (omega (arith, small), forms.names g.both.after live))

-- ---- what is gained and lost

abbrev changed : (List ℕ → DiffLine) → List (List ℕ) → List (List ℕ) → List DiffLine
changed make others granted = flat_map (λ (label : List ℕ). if has_label others label then [] else make label ∷ [])
    granted

one_changed : (sign : List ℕ) (make : List ℕ → DiffLine) (others : List (List ℕ)) (label : List ℕ)
    → ended (diff_line (make label)) ≡ labelled sign label → IsDiffLine (make label)
    → (t : Bool) → IsText (if t then [] else labelled sign label) (if t then [] else make label ∷ [])
one_changed sign make others label same is true = none_text
one_changed sign make others label same is false = subst (λ (t : List ℕ). IsText t (make label ∷ [])) same
    (one_text (make label) is)

all_changed : (sign : List ℕ) (make : List ℕ → DiffLine) (others granted : List (List ℕ))
    → ((label : List ℕ) → ended (diff_line (make label)) ≡ labelled sign label)
    → ((label : List ℕ) → is_line label ≡ true → IsDiffLine (make label)) → AreLines granted
    → IsText (lines_without sign granted others) (changed make others granted)
unfolding lines_without
all_changed sign make others [] same form are = none_text
all_changed sign make others (label ∷ granted) same form are =
    both_texts (line_unless sign others label) (lines_without sign granted others)
    (if has_label others label then [] else make label ∷ []) (changed make others granted)
    (one_changed sign make others label (same label) (form label are.0) (has_label others label))
    (all_changed sign make others granted same form are.1)

change_is : (was is : List (List ℕ)) → AreLines was → AreLines is
    → IsText (change_lines was is) (changed gained was is ++ changed lost is was)
unfolding change_lines
change_is was is were are =
    both_texts (lines_without (codes "+ ") is was) (lines_without (codes "- ") was is) (changed gained was is)
    (changed lost is was)
    (all_changed (codes "+ ") gained was is (λ label. append_assoc (codes "+ ") label (10 ∷ [])) (λ label e. e) are)
    (all_changed (codes "- ") lost is was (λ label. append_assoc (codes "- ") label (10 ∷ [])) (λ label e. e) were)

-- ---- cells

block_text : (objects principals : ℕ) (lines : List ℕ)
    → codes "principals " ++ (spaced (decimal principals) ++ (labelled (codes "objects ") (decimal objects) ++ lines))
    ≡ ended (diff_line (block principals objects)) ++ lines
block_text objects principals lines =
    let end = 10 ∷ [] in
    let number = spaced (decimal principals) in
    let other = spaced (codes "objects") ++ decimal objects in
    sym (ap (λ (t : List ℕ). t ++ lines)
    (append_assoc (codes "principals ") (number ++ other) end
    ∙ ap (λ (t : List ℕ). codes "principals " ++ t) (append_assoc number other end
    ∙ ap (λ (t : List ℕ). number ++ t) (append_assoc (spaced (codes "objects")) (decimal objects) end)))
    ∙ append_assoc (codes "principals ") (number ++ labelled (codes "objects ") (decimal objects)) lines
    ∙ ap (λ (t : List ℕ). codes "principals " ++ t) (append_assoc number (labelled (codes "objects ") (decimal objects)) lines))

cell_is : (objects principals : ℕ) (bytes : List ℕ) (lines : List DiffLine) → objects < 2 ^ 32 → principals < 2 ^ 32
    → IsText bytes lines → IsText (cell_text objects principals bytes) (cell_told objects principals bytes)
cell_is objects principals [] lines few small is = none_text
cell_is objects principals (b ∷ bytes) lines few small is =
    let back : unwrap_or (facts_of diff_line_of (b ∷ bytes)) [] ≡ lines =
    ap (λ (t : List ℕ). unwrap_or (facts_of diff_line_of t) []) is.is
    ∙ ap (λ (o : Option (List DiffLine)). unwrap_or o []) (diff_lines_back lines is.form) in
    record {
      is = block_text objects principals (b ∷ bytes)
          ∙ ap (λ (t : List ℕ). ended (diff_line (block principals objects)) ++ t)
          (is.is ∙ ap diff_text (sym back));
      form = ((omega (arith, small), omega (arith, few)), subst (AllByRecursion IsDiffLine) (sym back) is.form);
    }

module _ (before after : Directory) (text : List ℕ) (told : IsDiffText before after text)
    (first : IsTellable before) (second : IsTellable after) where
  differs_is : (p o : Both) (lines : List ℕ) → Differs before after p o lines
      → (changed_lines : List DiffLine) × IsText lines changed_lines
  unfolding changes
  differs_is p o lines d =
      let was = rights before d.was o.before in
      let is = rights after d.is o.after in (
        changed gained was is ++ changed lost is was,
        subst (λ (t : List ℕ). IsText t (changed gained was is ++ changed lost is was)) (sym d.lines_are)
            (change_is was is (granted_are before d.was o.before first.makes) (granted_are after d.is o.after second.makes)),
      )

  cell_at : (o p : ℕ) → IsText (cell_text o p (cell told.table o p)) (cell_told o p (cell told.table o p))
  cell_at o p = elim (told.of_members o p) [
    | inl none ↦ subst (λ (lines : List ℕ). IsText (cell_text o p lines) (cell_told o p lines)) (sym none) none_text
    | inr some ↦
        let thing = member_at told.objects o some.0 in
        let who = member_at told.principals p some.1 in
        let a = get_or told.principals who.0 no_group in
        let b = get_or told.objects thing.0 no_group in
        let differs : Differs before after a.both b.both (cell told.table o p) =
        subst (λ (n : ℕ). Differs before after a.both b.both (cell told.table n p)) thing.2
        (subst (λ (n : ℕ). Differs before after a.both b.both (cell told.table b.group n)) who.2
        (told.exact who.0 no_group who.1 thing.0 no_group thing.1)) in
        let its = differs_is a.both b.both (cell told.table o p) differs in
        cell_is o p (cell told.table o p) its.0
        (subst (λ (n : ℕ). n < 2 ^ 32) thing.2 (told.numbered_objects thing.0 no_group thing.1))
        (subst (λ (n : ℕ). n < 2 ^ 32) who.2 (told.numbered_principals who.0 no_group who.1)) its.1
  ]

-- ---- the table

abbrev IsCellText : ℕ → ℕ → List ℕ → Type 0
IsCellText o p lines = IsText (cell_text o p lines) (cell_told o p lines)

row_is : (o n : ℕ) (row : List (List ℕ)) → ((p : ℕ) → IsCellText o (n + p) (get_or row p []))
    → IsText (row_text o n row) (row_told o n row)
unfolding row_text row_told
row_is o n [] each = none_text
row_is o n (lines ∷ others) each =
    let here : n + 0 ≡ n = omega arith in
    let later : (p : ℕ) → IsCellText o ((n + 1) + p) (get_or others p []) = λ p.
    let same : n + suc p ≡ (n + 1) + p = omega arith in
    subst (λ (m : ℕ). IsCellText o m (get_or others p [])) same (each (suc p)) in
    both_texts (cell_text o n lines) (row_text o (n + 1) others) (cell_told o n lines) (row_told o (n + 1) others)
    (subst (λ (m : ℕ). IsCellText o m lines) here (each 0)) (row_is o (n + 1) others later)

table_is : (n : ℕ) (rows : List (List (List ℕ))) → ((o p : ℕ) → IsCellText (n + o) p (get_or (get_or rows o []) p []))
    → IsText (table_text n rows) (table_told n rows)
unfolding table_text table_told
table_is n [] each = none_text
table_is n (row ∷ rows) each =
    let here : n + 0 ≡ n = omega arith in
    let own : (p : ℕ) → IsCellText n p (get_or row p []) = λ p.
    subst (λ (m : ℕ). IsCellText m p (get_or row p [])) here (each 0 p) in
    let later : (o p : ℕ) → IsCellText ((n + 1) + o) p (get_or (get_or rows o []) p []) = λ o p.
    let same : n + suc o ≡ (n + 1) + o = omega arith in
    subst (λ (m : ℕ). IsCellText m p (get_or (get_or rows o []) p [])) same (each (suc o) p) in
    both_texts (row_text n 0 row) (table_text (n + 1) rows) (row_told n 0 row) (table_told (n + 1) rows)
    (row_is n 0 row (λ p.
    let same : p ≡ 0 + p = omega arith in
    subst (λ (m : ℕ). IsCellText n m (get_or row p [])) same (own p)))
    (table_is (n + 1) rows later)

-- ---- what stands before the table

no_end : (x y : List ℕ) → [] ≡ (x ++ (10 ∷ [])) ++ y → ⊥
no_end [] y e = absurd cc
no_end (b ∷ x) y e = absurd cc

not_nil : (b : ℕ) (bytes : List ℕ) → b ∷ bytes ≡ [] → ⊥
not_nil b bytes e = absurd cc

blocks_is : (after : Directory) (principals objects : List Grouped) (bytes : List ℕ) (lines : List DiffLine)
    → IsText (flat_map (principal_line after) principals) (flat_map (principal_told after) principals)
    → IsText (flat_map (object_line after) objects) (flat_map (object_told after) objects)
    → IsText bytes lines
    → IsText (blocks_text after principals objects bytes) (blocks_told after principals objects lines)
blocks_is after principals objects [] [] p o t = none_text
blocks_is after principals objects [] (line ∷ lines) p o t =
    absurd (no_end (diff_line line) (diff_text lines) t.is)
blocks_is after principals objects (b ∷ bytes) [] p o t = absurd (not_nil b bytes t.is)
blocks_is after principals objects (b ∷ bytes) (line ∷ lines) p o t =
    both_texts (flat_map (principal_line after) principals) _ (flat_map (principal_told after) principals) _ p
    (both_texts (flat_map (object_line after) objects) (b ∷ bytes) (flat_map (object_told after) objects) (line ∷ lines)
    o t)

-- ---- causes

causes_are : (cs : List Cause) → AllByRecursion IsCauseLine cs → IsText (causes_text cs) (map cause cs)
causes_are [] is = none_text
causes_are (c ∷ cs) is =
    both_texts (cause_line c) (causes_text cs) (cause c ∷ []) (map cause cs)
    (subst (λ (t : List ℕ). IsText t (cause c ∷ [])) (sym (cause_line_ended c)) (one_text (cause c) is.0))
    (causes_are cs is.1)

-- ---- all

module _ (before after : Directory) (text : List ℕ) (told : IsDiffText before after text)
    (first : IsTellable before) (second : IsTellable after) where
  principals_are : All (λ (g : Grouped). are_principals before after g.both ≡ true) told.principals
  principals_are = all_members (λ (b : Both). are_principals before after b ≡ true) told.principals
      (subst (All (λ (b : Both). are_principals before after b ≡ true)) (sym told.are_principals)
      (filter_passes (are_principals before after) (objects_of_both before after)))

  principals_stand : All (λ (g : Grouped). IsLiveBoth before after g.both) told.principals
  principals_stand = all_members (IsLiveBoth before after) told.principals
      (subst (All (IsLiveBoth before after)) (sym told.are_principals) (principals_live before after second.rise))

  objects_stand : All (λ (g : Grouped). IsLiveBoth before after g.both) told.objects
  objects_stand = all_members (IsLiveBoth before after) told.objects
      (subst (All (IsLiveBoth before after)) (sym told.are_objects) (all_live before after second.rise))

  cells : (o p : ℕ) → IsCellText (0 + o) p (get_or (get_or told.table o []) p [])
  unfolding cell
  cells o p =
      let same : o ≡ 0 + o = omega arith in
      subst (λ (m : ℕ). IsCellText m p (get_or (get_or told.table o []) p [])) same
      (cell_at before after text told first second o p)

  whole : IsText text (lines_told before after told.principals told.objects told.table)
  whole = subst (λ (t : List ℕ). IsText t (lines_told before after told.principals told.objects told.table))
      (sym told.lines)
      (both_texts (causes_text (causes before after)) _ (map cause (causes before after)) _
      (causes_are (causes before after) (causes_form before after first second))
      (blocks_is after told.principals told.objects (table_text 0 told.table) (table_told 0 told.table)
      (each_text (principal_line after) (principal_told after) told.principals
      (λ i d lt. principal_is after (get_or told.principals i d) second.forms (told.numbered_principals i d lt)
      (principals_stand i d lt).second (principal_has after (get_or told.principals i d).both.after
      (and_parts (is_principal before (get_or told.principals i d).both.before)
      (is_principal after (get_or told.principals i d).both.after) (principals_are i d lt)).1)))
      (each_text (object_line after) (object_told after) told.objects
      (λ i d lt. object_is after (get_or told.objects i d) second.forms (told.numbered_objects i d lt)
      (objects_stand i d lt).second))
      (table_is 0 told.table cells)))

  pub diff_read : IsRead before after text told
  diff_read = record {
    form = whole.form;
    lines = whole.is;
    read = ap (facts_of diff_line_of) whole.is
        ∙ diff_lines_back (lines_told before after told.principals told.objects told.table) whole.form;
  }

-- two answers of one text tell the same
pub same_text : (before after other_before other_after : Directory) (text : List ℕ)
    (told : IsDiffText before after text) (other : IsDiffText other_before other_after text)
    → IsTellable before → IsTellable after → IsTellable other_before → IsTellable other_after
    → lines_told before after told.principals told.objects told.table
    ≡ lines_told other_before other_after other.principals other.objects other.table
same_text before after other_before other_after text told other a b c d =
    let one = diff_read before after text told a b in
    let two = diff_read other_before other_after text other c d in
    ap (λ (o : Option (List DiffLine)). unwrap_or o []) (sym one.read ∙ two.read)
