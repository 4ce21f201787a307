-- The identifiers of the objects so far.
use Rattle.std.proofs.Common.{◌≡◌, ◌∙◌, inl, inr, Bool, true, false, cond, Option, Some, None, List, [], ◌∷◌, ◌++◌}
use Rattle.std.proofs.Common.{map, refl, sym, ap, subst}
use Rattle.std.specs.Prelude.{◌||◌}
use Rattle.std.specs.List.{list_any}
use Rattle.std.proofs.lemmas.Bool.{cases_Bool}
use Rattle.std.proofs.lemmas.List.Folds.{list_any-append}
use Rattle.indexmap.specs.IndexSet.{insert_key}
use Rattle.ad_ids.specs.SidValue.{SidValue, same_sid, same_sid_laws}
use Rattle.ad_schema.specs.declared.line.SchemaRecord.{SchemaRecord}
use Rattle.ad_dir_model.specs.Identity.{is_sid}
use Rattle.ad_load_objects.specs.declared.drafts.Draft.{Draft as DraftIn}
use Rattle.ad_load_objects.specs.Drafts.{Draft, draft_sid}
use Rattle.ad_load_objects.specs.Seen.{draft_seen}
use Rattle.ad_load_objects.specs.Objects.{has_sid}
use Rattle.ad_load_objects.specs.Index.{with_sid, AreSids}

or_false : (a : Bool) → (a || false) ≡ a
or_false true = refl
or_false false = refl

pub no_sids : (schema : List SchemaRecord) → AreSids schema [] []
no_sids schema = record { same = λ sid. refl }

-- the test of one more object
more_drafts : (schema : List SchemaRecord) (sid : SidValue) (drafts : List Draft) (d : Draft) (own : Option SidValue)
    → draft_sid schema d ≡ own
    → list_any (has_sid schema sid) (drafts ++ d ∷ []) ≡ (list_any (has_sid schema sid) drafts || is_sid sid own)
more_drafts schema sid drafts d own is =
    list_any-append (has_sid schema sid) drafts (d ∷ [])
    ∙ ap (λ (b : Bool). list_any (has_sid schema sid) drafts || b)
    (or_false (is_sid sid (draft_sid schema d)) ∙ ap (is_sid sid) is)

-- where an identifier is among them so is each that is the same
among : (sid own : SidValue) (sids : List SidValue) → list_any (same_sid own) sids ≡ true → same_sid own sid ≡ true
    → list_any (same_sid sid) sids ≡ true
among sid own [] is same = absurd cc
among sid own (x ∷ xs) is same = elim (cases_Bool (same_sid own x)) [
  | inl here ↦ ap (λ (b : Bool). b || list_any (same_sid sid) xs) (sym (same_sid_laws.congr own sid x same) ∙ here)
  | inr away ↦
      let rest : list_any (same_sid own) xs ≡ true = sym (ap (λ (b : Bool). b || list_any (same_sid own) xs) away)
      ∙ is in
      ap (λ (b : Bool). same_sid sid x || b) (among sid own xs rest same) ∙ or_end (same_sid sid x)
]
  where
    or_end : (a : Bool) → (a || true) ≡ true
    or_end true = refl
    or_end false = refl

inserted : (sid own : SidValue) (sids : List SidValue) → list_any (same_sid sid) (insert_key same_sid sids own)
    ≡ (list_any (same_sid sid) sids || same_sid own sid)
inserted sid own sids = elim (cases_Bool (list_any (same_sid own) sids)) [
  | inl there ↦ ap (λ (b : Bool). list_any (same_sid sid) (cond b sids (sids ++ own ∷ []))) there
      ∙ elim (cases_Bool (same_sid own sid)) [
        | inl same ↦ among sid own sids there same
            ∙ sym (ap (λ (b : Bool). b || same_sid own sid) (among sid own sids there same))
        | inr other ↦ sym (ap (λ (b : Bool). list_any (same_sid sid) sids || b) other
            ∙ or_false (list_any (same_sid sid) sids))
      ]
  | inr not ↦
      ap (λ (b : Bool). list_any (same_sid sid) (cond b sids (sids ++ own ∷ []))) not
      ∙ list_any-append (same_sid sid) sids (own ∷ [])
      ∙ ap (λ (b : Bool). list_any (same_sid sid) sids || b) (or_false (same_sid sid own) ∙ same_sid_laws.symm sid own)
]

-- one object more, with its identifier
pub sids_more : (schema : List SchemaRecord) (drafts : List Draft) (sids : List SidValue) (d : Draft)
    (own : Option SidValue) → draft_sid schema d ≡ own
    → AreSids schema drafts sids → AreSids schema (drafts ++ d ∷ []) (with_sid sids own)
sids_more schema drafts sids d None is are = record {
  same = λ sid. are.same sid ∙ sym (or_false (list_any (has_sid schema sid) drafts))
      ∙ sym (more_drafts schema sid drafts d None is);
}
sids_more schema drafts sids d (Some own) is are = record {
  same = λ sid. inserted sid own sids ∙ ap (λ (b : Bool). b || same_sid own sid) (are.same sid)
      ∙ sym (more_drafts schema sid drafts d (Some own) is);
}

map_last : {A B : Type 0} (f : A → B) (xs : List A) (x : A) → map f (xs ++ x ∷ []) ≡ map f xs ++ f x ∷ []
map_last f [] x = refl
map_last f (y ∷ ys) x = ap (λ (l : List _). f y ∷ l) (map_last f ys x)

-- the same of the fields
pub sids_pushed : (schema : List SchemaRecord) (old new : List DraftIn) (d : DraftIn) (sids keys : List SidValue)
    (own : Option SidValue) → new ≡ old ++ d ∷ [] → keys ≡ with_sid sids own → own ≡ draft_sid schema (draft_seen d)
    → AreSids schema (map draft_seen old) sids → AreSids schema (map draft_seen new) keys
sids_pushed schema old new d sids keys own items noted is are =
    let behind : map draft_seen new ≡ map draft_seen old ++ draft_seen d ∷ []
    = ap (λ (ds : List DraftIn). map draft_seen ds) items ∙ map_last draft_seen old d in
    subst (λ (ds : List Draft). AreSids schema ds keys) (sym behind)
    (subst (AreSids schema (map draft_seen old ++ draft_seen d ∷ [])) (sym noted)
    (sids_more schema (map draft_seen old) sids (draft_seen d) own (sym is) are))
