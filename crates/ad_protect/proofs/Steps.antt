-- One more of each loop.
use Rattle.std.proofs.Common.{◌≡◌, ℕ, zero, suc, ◌+◌, ◌<◌, ◌≤◌, Bool, true, false, not, List, [], ◌∷◌, ◌++◌, length}
use Rattle.std.proofs.Common.{map, take, drop, get_or, refl, sym, subst, ap, ◌∙◌, arith}
use Rattle.std.specs.Prelude.{nat_eq, filter, ◌&&◌, ◌||◌, if◌then◌else◌}
use Rattle.std.specs.List.{AllByRecursion}
use Rattle.std.proofs.lemmas.Bool.{eqb-true}
use Rattle.std.proofs.lemmas.List.{take_more, take_all, at_drop_more, drop_all, map-append, append-nil}
use Rattle.std.proofs.lemmas.List.Folds.{list_any-append}
use Rattle.std.proofs.lemmas.List.Elements.{filter-append}
use Rattle.ad_sd.specs.declared.parts.Sd.{Sd}
use Rattle.prop_queue.specs.declared.pending.Pending.{Pending}
use Rattle.prop_queue.specs.Pending.{marked}
use Rattle.ad_dir_objects.specs.declared.object.Stored.{Stored as StoredIn}
use Rattle.ad_dir_objects.specs.declared.edit.Edit.{Edit as EditIn}
use Rattle.ad_dir.specs.Conditions.{HasNormal, AreEdits}
use Rattle.ad_dir_objects.specs.Seen.{stored_seen, edit_seen}
use Rattle.ad_dir_model.specs.Object.{is_link_to, names}
use Rattle.ad_dir_model.specs.Objects.{is_live, sd_at}
use Rattle.ad_dir_model.specs.Identity.{self_sid}
use Rattle.ad_dir_model.specs.Directory.{Directory, Edit, put_object}
use Rattle.ad_dir_model.specs.SameSd.{same_sd}
use Rattle.ad_dir_model.specs.Protection.{has, begins_protection, changes}
use Rattle.ad_dir_model.specs.Edits.{protecting, all_marked}
use Rattle.ad_protect.specs.Spreading.{Takes, IsTableOf, Notes, primary_at}
use Rattle.ad_protect.specs.Putting.{puts_of}
use Rattle.ad_protect.proofs.Sets.{or_false, has_append, takes_more, takes_same}
use Rattle.ad_protect.proofs.Tables.{table_more}
use Rattle.ad_protect.proofs.Applying.{marks_more, marks_done}

-- ---- live objects of a list

pub live_here : (P : ℕ → Type 0) (ns : List ℕ) (i : ℕ) → AllByRecursion P ns → i < length ns → P (get_or ns i 0)
live_here P [] i all less = absurd (omega (arith, less))
live_here P (n ∷ ns) zero all less = all.0
live_here P (n ∷ ns) (suc i) all less = let rest : i < length ns = omega (arith, less) in live_here P ns i all.1 rest

-- ---- the table

pub table_step : (dir : Directory) (ns : List ℕ) (i : ℕ) (old new : ℕ → List ℕ) → i < length ns
    → IsTableOf dir (take i ns) old
    → Notes (primary_at dir (get_or ns i 0)) (get_or ns i 0) old new → IsTableOf dir (take (i + 1) ns) new
table_step dir ns i old new less t notes =
    subst (λ (done : List ℕ). IsTableOf dir done new) (sym (take_more ns i 0 less))
    (table_more dir (take i ns) (get_or ns i 0) old new t notes)

pub table_end : (dir : Directory) (ns : List ℕ) (i : ℕ) (table : ℕ → List ℕ) → length ns ≤ i
    → IsTableOf dir (take i ns) table → IsTableOf dir ns table
table_end dir ns i table all t = subst (λ (done : List ℕ). IsTableOf dir done table) (take_all i ns all) t

-- ---- taking

pub take_numbers : (ns : List ℕ) (i : ℕ) (first old new : List ℕ) → i < length ns → Takes (has (take i ns)) first old
    → Takes (nat_eq (get_or ns i 0)) old new
    → Takes (has (take (i + 1) ns)) first new
take_numbers ns i first old new less t one =
    takes_same (λ n. has (take i ns) n || nat_eq (get_or ns i 0) n) (has (take (i + 1) ns)) first new
    (λ n. ap (λ (b : Bool). has (take i ns) n || b) (or_false (nat_eq (get_or ns i 0) n))
    ∙ sym (has_append (take i ns) (get_or ns i 0 ∷ []) n)
    ∙ ap (λ (xs : List ℕ). has xs n) (sym (take_more ns i 0 less)))
    (takes_more (has (take i ns)) (nat_eq (get_or ns i 0)) first old new t one)

pub take_numbers_end : (ns : List ℕ) (i : ℕ) (first new : List ℕ) → length ns ≤ i → Takes (has (take i ns)) first new
    → Takes (has ns) first new
take_numbers_end ns i first new all t = subst (λ (xs : List ℕ). Takes (has xs) first new) (take_all i ns all) t

pub take_named : (vs : List StoredIn) (i : ℕ) (v : StoredIn) (first old new : List ℕ) → i < length vs → v
    ≡ get_or vs i v
    → Takes (λ n. names n (map stored_seen (take i vs))) first old → Takes (λ n. is_link_to n (stored_seen v)) old new
    → Takes (λ n. names n (map stored_seen (take (i + 1) vs))) first new
take_named vs i v first old new less is t one =
    takes_same (λ n. names n (map stored_seen (take i vs)) || is_link_to n (stored_seen v))
    (λ n. names n (map stored_seen (take (i + 1) vs))) first new
    (λ n. ap (λ (b : Bool). names n (map stored_seen (take i vs)) || b) (or_false (is_link_to n (stored_seen v)))
    ∙ sym (list_any-append (is_link_to n) (map stored_seen (take i vs)) (stored_seen v ∷ []))
    ∙ ap (names n) (sym whole))
    (takes_more (λ n. names n (map stored_seen (take i vs))) (λ n. is_link_to n (stored_seen v)) first old new t one)
  where
    whole : map stored_seen (take (i + 1) vs) ≡ map stored_seen (take i vs) ++ stored_seen v ∷ []
    whole = ap (map stored_seen) (take_more vs i v less ∙ ap (λ (x : StoredIn). take i vs ++ x ∷ []) (sym is))
        ∙ map-append stored_seen (take i vs) (v ∷ [])

pub take_named_end : (vs : List StoredIn) (i : ℕ) (first new : List ℕ) → length vs ≤ i
    → Takes (λ n. names n (map stored_seen (take i vs))) first new
    → Takes (λ n. names n (map stored_seen vs)) first new
take_named_end vs i first new all t = subst (λ (xs : List StoredIn). Takes (λ n. names n (map stored_seen xs)) first
    new) (take_all i vs all) t

one_of_those : (h g b e : Bool) → (e ≡ true → b ≡ g) → ((h && g) || (b && e)) ≡ ((h || (e || false)) && g)
one_of_those true true b e same = refl
one_of_those true false true true same = same refl
one_of_those true false true false same = refl
one_of_those true false false e same = refl
one_of_those false g true true same = same refl
one_of_those false g false true same = same refl
one_of_those false g true false same = refl
one_of_those false g false false same = refl

pub take_begun : (dir : Directory) (ns : List ℕ) (i : ℕ) (b : Bool) (old new : List ℕ) → i < length ns
    → b ≡ begins_protection dir (self_sid dir (get_or ns i 0))
    → Takes (λ n. has (take i ns) n && begins_protection dir (self_sid dir n)) [] old
    → Takes (λ n. b && nat_eq (get_or ns i 0) n) old new
    → Takes (λ n. has (take (i + 1) ns) n && begins_protection dir (self_sid dir n)) [] new
take_begun dir ns i b old new less is t one =
    takes_same (λ n. (has (take i ns) n && begins_protection dir (self_sid dir n)) || (b && nat_eq (get_or ns i 0) n))
    (λ n. has (take (i + 1) ns) n && begins_protection dir (self_sid dir n)) [] new
    (λ n. one_of_those (has (take i ns) n) (begins_protection dir (self_sid dir n)) b (nat_eq (get_or ns i 0) n)
    (λ e. is ∙ ap (λ (k : ℕ). begins_protection dir (self_sid dir k)) (eqb-true (get_or ns i 0) n e))
    ∙ ap (λ (h : Bool). h && begins_protection dir (self_sid dir n))
    (sym (has_append (take i ns) (get_or ns i 0 ∷ []) n)
    ∙ ap (λ (xs : List ℕ). has xs n) (sym (take_more ns i 0 less))))
    (takes_more (λ n. has (take i ns) n && begins_protection dir (self_sid dir n))
    (λ n. b && nat_eq (get_or ns i 0) n) [] old new t one)

pub take_begun_end : (dir : Directory) (ns : List ℕ) (i : ℕ) (new : List ℕ) → length ns ≤ i
    → Takes (λ n. has (take i ns) n && begins_protection dir (self_sid dir n)) [] new
    → Takes (λ n. has ns n && begins_protection dir (self_sid dir n)) [] new
take_begun_end dir ns i new all t = subst
    (λ (xs : List ℕ). Takes (λ n. has xs n && begins_protection dir (self_sid dir n)) [] new) (take_all i ns all) t

-- ---- those that pass

filtered_more : (test : ℕ → Bool) (ns : List ℕ) (i : ℕ) → i < length ns
    → filter test (take (i + 1) ns) ≡ filter test (take i ns)
    ++ (if test (get_or ns i 0) then get_or ns i 0 ∷ [] else [])
filtered_more test ns i less = ap (filter test) (take_more ns i 0 less) ∙ filter-append test (take i ns)
    (get_or ns i 0 ∷ [])

pub filter_with : (test : ℕ → Bool) (ns : List ℕ) (i : ℕ) → i < length ns → test (get_or ns i 0) ≡ true
    → filter test (take (i + 1) ns) ≡ filter test (take i ns) ++ get_or ns i 0 ∷ []
filter_with test ns i less passes = filtered_more test ns i less
    ∙ ap (λ (b : Bool). filter test (take i ns) ++ (if b then get_or ns i 0 ∷ [] else [])) passes

pub filter_without : (test : ℕ → Bool) (ns : List ℕ) (i : ℕ) → i < length ns → test (get_or ns i 0) ≡ false
    → filter test (take (i + 1) ns) ≡ filter test (take i ns)
filter_without test ns i less fails =
    filtered_more test ns i less ∙ ap (λ (b : Bool). filter test (take i ns)
    ++ (if b then get_or ns i 0 ∷ [] else [])) fails ∙ append-nil (filter test (take i ns))

-- ---- the edits

all_push : (es : List EditIn) (e : EditIn) → AllByRecursion HasNormal es → HasNormal e → AllByRecursion HasNormal
    (es ++ e ∷ [])
all_push [] e all own = (own, tt)
all_push (x ∷ xs) e all own = (all.0, all_push xs e all.1 own)

pub puts_none : (dir : Directory) (sd : Sd) (edits : List EditIn) → edits ≡ [] → AreEdits (puts_of dir sd []) edits
puts_none dir sd edits none = subst (AreEdits (puts_of dir sd [])) (sym none) (record { are = refl; normal = tt })

pub edits_push : (seen : List Edit) (put : Edit) (old new : List EditIn) (e : EditIn) → AreEdits seen old
    → edit_seen e ≡ put → HasNormal e → new ≡ old ++ e ∷ []
    → AreEdits (seen ++ put ∷ []) new
edits_push seen put old new e are is own push = record {
  are = ap (map edit_seen) push ∙ map-append edit_seen old (e ∷ []) ∙ ap (λ (s : List Edit). s ++ edit_seen e ∷ [])
      are.are ∙ ap (λ (x : Edit). seen ++ x ∷ []) is;
  normal = subst (AllByRecursion HasNormal) (sym push) (all_push old e are.normal own);
}

pub puts_with : (dir : Directory) (sd : Sd) (ns : List ℕ) (i : ℕ) (old new : List EditIn) (e : EditIn) → i < length ns
    → changes dir sd (get_or ns i 0) ≡ true
    → AreEdits (puts_of dir sd (take i ns)) old → edit_seen e ≡ put_object (protecting dir sd (get_or ns i 0))
    → HasNormal e → new ≡ old ++ e ∷ []
    → AreEdits (puts_of dir sd (take (i + 1) ns)) new
puts_with dir sd ns i old new e less change are is own push =
    subst (λ (seen : List Edit). AreEdits seen new) (sym whole)
    (edits_push (puts_of dir sd (take i ns)) (put_object (protecting dir sd (get_or ns i 0))) old new e are is own push)
  where
    whole : puts_of dir sd (take (i + 1) ns) ≡ puts_of dir sd (take i ns)
        ++ put_object (protecting dir sd (get_or ns i 0)) ∷ []
    whole = ap (map (λ (n : ℕ). put_object (protecting dir sd n))) (filter_with (changes dir sd) ns i less change)
        ∙ map-append (λ (n : ℕ). put_object (protecting dir sd n)) (filter (changes dir sd) (take i ns))
        (get_or ns i 0 ∷ [])

pub puts_without : (dir : Directory) (sd : Sd) (ns : List ℕ) (i : ℕ) (old : List EditIn) → i < length ns
    → changes dir sd (get_or ns i 0) ≡ false
    → AreEdits (puts_of dir sd (take i ns)) old → AreEdits (puts_of dir sd (take (i + 1) ns)) old
puts_without dir sd ns i old less same are =
    subst (λ (some : List ℕ). AreEdits (map (λ (n : ℕ). put_object (protecting dir sd n)) some) old)
    (sym (filter_without (changes dir sd) ns i less same)) are

pub puts_end : (dir : Directory) (sd : Sd) (ns : List ℕ) (i : ℕ) (edits : List EditIn) → length ns ≤ i
    → AreEdits (puts_of dir sd (take i ns)) edits
    → AreEdits (puts_of dir sd ns) edits
puts_end dir sd ns i edits all are = subst (λ (xs : List ℕ). AreEdits (puts_of dir sd xs) edits) (take_all i ns all) are

-- ---- the pending list

mark_either : (same : Bool) (n : ℕ) (ps : List Pending) → (if not same then marked n ps else ps)
    ≡ (if same then ps else marked n ps)
mark_either true n ps = refl
mark_either false n ps = refl

pub marks_step : (dir : Directory) (sd : Sd) (ns : List ℕ) (i : ℕ) (ps new whole : List Pending) (changed : Bool) → i
    < length ns → is_live dir.objects (get_or ns i 0) ≡ true
    → changed ≡ not (same_sd (sd_at dir.objects (get_or ns i 0)) sd) → new
    ≡ (if changed then marked (get_or ns i 0) ps else ps)
    → all_marked dir sd (drop i ns) ps ≡ whole → all_marked dir sd (drop (i + 1) ns) new ≡ whole
marks_step dir sd ns i ps new whole changed less live is mark before =
    marks_more dir sd (get_or ns i 0) (drop (i + 1) ns) ps new live
    (mark ∙ ap (λ (b : Bool). if b then marked (get_or ns i 0) ps else ps) is
    ∙ mark_either (same_sd (sd_at dir.objects (get_or ns i 0)) sd) (get_or ns i 0) ps)
    ∙ sym (at_drop_more (λ (left : List ℕ). all_marked dir sd left ps) ns i 0 less) ∙ before

pub marks_end : (dir : Directory) (sd : Sd) (ns : List ℕ) (i : ℕ) (ps whole : List Pending) → length ns ≤ i
    → all_marked dir sd (drop i ns) ps ≡ whole → ps ≡ whole
marks_end dir sd ns i ps whole all before = sym (ap (λ (left : List ℕ). all_marked dir sd left ps) (drop_all i ns all)
    ∙ marks_done dir sd ps) ∙ before
