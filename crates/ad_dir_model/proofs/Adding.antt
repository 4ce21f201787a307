-- An addition keeps a directory sound.
use Rattle.std.proofs.Common.{◌≡◌, ℕ, zero, suc, ◌+◌, ◌<◌, ◌≤◌, Bool, true, false, List, [], ◌∷◌, ◌++◌, length}
use Rattle.std.proofs.Common.{Option, Some, None, inl, inr, refl, sym, subst, ap, arith, ◌∙◌}
use Rattle.std.specs.Prelude.{nat_eq, nat_lt, if◌then◌else◌, IfSome}
use Rattle.std.specs.Option.{option_and_then}
use Rattle.std.proofs.lemmas.Bool.{eqb-true, eqb-false, cases_Bool, false≢true, false_from_ne_true}
use Rattle.std.proofs.lemmas.Option.{none-some, same_Some}
use Rattle.std.proofs.lemmas.List.{same_from_push}
use Rattle.ad_ids.specs.SidValue.{SidValue}
use Rattle.ad_ids.specs.SidChild.{child_of}
use Rattle.ad_sd.specs.declared.parts.Sd.{Sd}
use Rattle.ad_schema.specs.Classes.{is_must}
use Rattle.ad_dir_model.specs.Limits.{max_depth, max_objects, max_weight, max_counter}
use Rattle.ad_dir_model.specs.Object.{Object, links_in}
use Rattle.ad_dir_model.specs.Objects.{object_of, is_live, put, parent_at}
use Rattle.ad_dir_model.specs.Tree.{root, IsAtDepth}
use Rattle.ad_dir_model.specs.Identity.{sid_in, domain_sid, domain_child}
use Rattle.ad_dir_model.specs.Attributes.{object_sid}
use Rattle.ad_dir_model.specs.Directory.{Meta, Directory, parents, with_objects, with_meta}
use Rattle.ad_dir_model.specs.Inheritance.{whole_at, settled}
use Rattle.ad_dir_model.specs.Changes.{new_sid, numbered, counted_on, added}
use Rattle.ad_dir_model.specs.Weight.{weight}
use Rattle.ad_dir_model.specs.Soundness.{IsBelowRoot, Stands, IsSoundObject, EachIsSound, AreCounters, IsSoundFrame}
use Rattle.ad_dir_model.specs.Soundness.{IsSound}
use Rattle.ad_dir_model.specs.Conditions.{Fits, MayBeAdded}
use Rattle.ad_dir_model.proofs.Finding.{live-of, live-put, live-put_same, rise_put, of-put_same, at-put_same}
use Rattle.ad_dir_model.proofs.Finding.{at-put_other, live-put_other}
use Rattle.ad_dir_model.proofs.PendingLaws.{live_in_more}
use Rattle.ad_dir_model.proofs.Inheriting.{placed, Inherits, inherits_but, keep, settled_is}
use Rattle.ad_dir_model.proofs.ScratchLaws.{stands_root, stands_below, below_at}
use Rattle.ad_dir_model.proofs.Placing.{all_live_more, put_or_before, each_placed}
use Rattle.ad_dir_model.proofs.Standing.{stands_from_root, stands_from_below}
use Rattle.ad_dir_model.proofs.Frames.{weight_settled}
use Rattle.ad_dir_model.proofs.StepSound.{inherits_of, with_sd, sid_with_sd}

-- ---- a new number

pub length-put_new : (o : Object) (os : List Object) → is_live os o.number ≡ false → length (put o os) ≡ suc (length os)
unfolding put object_of
length-put_new o [] new = refl
length-put_new o (x ∷ xs) new =
    elim (cases_Bool (nat_eq x.number o.number)) [
      | inl same ↦ absurd (false≢true (sym (rw same at new)))
      | inr apart ↦ elim (cases_Bool (nat_lt o.number x.number)) [
        | inl less ↦ rw (apart, less) refl
        | inr least ↦ rw (apart, least) (ap suc (length-put_new o xs (rw apart at new)))
      ]
    ]

-- no live object has the next number, nor is below it
pub record IsNew (dir : Directory) (n : ℕ) : Type 0 where
  pub not_live : is_live dir.objects n ≡ false
  pub below : n ≡ root → ⊥
  pub no_child : (m : ℕ) (x : Object) → object_of dir.objects m ≡ Some x → x.parent ≡ n → ⊥
  pub apart : (m : ℕ) → is_live dir.objects m ≡ true → n ≡ m → ⊥

pub next_is_new : (dir : Directory) → IsSound dir → IsNew dir dir.meta.next_number
next_is_new dir sound = record { not_live = not_live; below = below; no_child = no_child; apart = apart }
  where
    next : ℕ
    next = dir.meta.next_number

    apart : (m : ℕ) → is_live dir.objects m ≡ true → dir.meta.next_number ≡ m → ⊥
    apart m live same = let less : m < dir.meta.next_number = sound.frame.counters.number_above m live
        in absurd (omega arith)

    not_live : is_live dir.objects dir.meta.next_number ≡ false
    not_live = false_from_ne_true (is_live dir.objects dir.meta.next_number)
        (λ live. apart dir.meta.next_number live refl)

    below : dir.meta.next_number ≡ root → ⊥
    below same = apart root sound.frame.root_live same

    no_child : (m : ℕ) (x : Object) → object_of dir.objects m ≡ Some x → x.parent ≡ dir.meta.next_number → ⊥
    no_child m x is parent =
        elim (cases_Bool (nat_eq x.number root)) [
          | inl same ↦
              let none : x.parent ≡ 0 = (stands_root dir x (eqb-true x.number root same)
              (sound.each m x is).stands).no_parent in
              let less : root < dir.meta.next_number = sound.frame.counters.number_above root sound.frame.root_live in
              absurd (omega arith)
          | inr differ ↦
              let live : is_live dir.objects x.parent ≡ true
              = (stands_below dir x (eqb-false x.number root differ) (sound.each m x is).stands).parent_live in
              apart x.parent live (sym parent)
        ]

-- ---- depths

depth_again : (dir : Directory) (o : Object) → EachIsSound dir → IsNew dir o.number → (d n : ℕ)
    → is_live dir.objects n ≡ true → IsAtDepth (parents dir) d n → IsAtDepth (parent_at (put o dir.objects)) d n
depth_again dir o each new zero n live at = at
depth_again dir o each new (suc d) n live at =
    let parent : parent_at (put o dir.objects) n ≡ parents dir n = ap (λ (x : Object). x.parent)
    (at-put_other o dir.objects n (new.apart n live)) in
    let parent_live : is_live dir.objects (parents dir n) ≡ true = (below_at dir each n live at.0).parent_live in
    (at.0, rw parent (depth_again dir o each new d (parents dir n) parent_live at.1))

added_stands : (dir : Directory) (o x : Object) (m : ℕ) → IsSound dir → IsNew dir o.number
    → is_live dir.objects o.parent ≡ true
    → (depth : ℕ) → IsAtDepth (parents dir) depth o.parent → depth < max_depth → Inherits (placed dir o dir.pending)
    → object_of (put o dir.objects) m ≡ Some x → Stands (placed dir o dir.pending) x
added_stands dir o x m sound new parent_live depth at within inherits is =
    elim (put_or_before o dir.objects m x is) [
      | inl itself ↦ subst (Stands (placed dir o dir.pending)) itself
          (stands_from_below (placed dir o dir.pending) o new.below (record {
            parent_live = live-put o dir.objects o.parent parent_live;
            placed = record {
              depth = suc depth;
              within = omega arith;
              chain = (
                new.below,
                subst (IsAtDepth (parent_at (put o dir.objects)) depth)
                    (ap (λ (y : Object). y.parent) (sym (at-put_same o dir.objects)))
                    (depth_again dir o sound.each new depth o.parent parent_live at),
              );
            };
            inherits = inherits.each o.number o (of-put_same o dir.objects) new.below;
          }))
      | inr before ↦
          let old : Stands dir x = (sound.each m x before.live).stands in
          elim (cases_Bool (nat_eq x.number root)) [
            | inl same ↦
                let is_root : x.number ≡ root = eqb-true x.number root same in
                stands_from_root (placed dir o dir.pending) x is_root (stands_root dir x is_root old)
            | inr differ ↦
                let not_root : x.number ≡ root → ⊥ = eqb-false x.number root differ in
                let below : IsBelowRoot dir x = stands_below dir x not_root old in
                let live : is_live dir.objects x.number ≡ true
                = rw before.number (live-of dir.objects m x before.live) in
                stands_from_below (placed dir o dir.pending) x not_root (record {
                  parent_live = live-put o dir.objects x.parent below.parent_live;
                  placed = record {
                    depth = below.placed.depth;
                    within = below.placed.within;
                    chain
                        = depth_again dir o sound.each new below.placed.depth x.number live below.placed.chain;
                  };
                  inherits = inherits.each m x is (λ (e : m ≡ root). not_root (before.number ∙ e));
                })
          ]
    ]

added_inherits : (dir : Directory) (o : Object) → IsSound dir → IsNew dir o.number → is_live dir.objects o.parent
    ≡ true → Inherits (placed dir (settled dir o) dir.pending)
added_inherits dir o sound new parent_live = keep dir (settled dir o) dir.pending
    (inherits_but o.number dir (inherits_of dir sound.each)) (record {
      self = λ not_root. inl (settled_is dir o dir.pending not_root (new.apart o.parent parent_live));
      others = λ m x is covered. covered;
      children = inr (λ m x is parent. absurd (new.no_child m x is parent));
    })

-- ---- the counters

child_once : (s t : SidValue) (r q : ℕ) → child_of s r ≡ Some t → child_of s q ≡ Some t → r ≡ q
child_once s t r q first second =
    elim (cases_Bool (nat_lt (length s.sub_authorities) 15)) [
      | inl few ↦
          let one : child_with s r ≡ t = same_Some (child_with s r) t (rw few at first) in
          let two : child_with s q ≡ t = same_Some (child_with s q) t (rw few at second) in
          (same_from_push s.sub_authorities s.sub_authorities r q
          (ap (λ (v : SidValue). v.sub_authorities) (one ∙ sym two))).1
      | inr many ↦ absurd (none-some t (rw many at first))
    ]
  where
    child_with : SidValue → ℕ → SidValue
    child_with s r = record { authority = s.authority; sub_authorities = s.sub_authorities ++ r ∷ [] }

child_of_domain : (domain : Option SidValue) (t : SidValue) (r q : ℕ)
    → option_and_then (λ (s : SidValue). child_of s r) domain ≡ Some t
    → option_and_then (λ (s : SidValue). child_of s q) domain ≡ Some t → r ≡ q
child_of_domain None t r q first second = absurd (none-some t first)
child_of_domain (Some s) t r q first second = child_once s t r q first second

pub rid_once : (dir : Directory) (sid : SidValue) (r q : ℕ) → domain_child dir r ≡ Some sid → domain_child dir q
    ≡ Some sid → r ≡ q
unfolding domain_child
rid_once dir sid r q first second = child_of_domain (domain_sid dir) sid r q first second

must_have : (must : ℕ → Bool) (attr : Option ℕ) (child : Option SidValue) (sid : SidValue)
    → option_and_then (λ (a : ℕ). if must a then child else None) attr ≡ Some sid → child ≡ Some sid
must_have must None child sid is = absurd (none-some sid is)
must_have must (Some a) child sid is =
    elim (cases_Bool (must a)) [
      | inl yes_must ↦ rw yes_must at is
      | inr not_must ↦ absurd (none-some sid (rw not_must at is))
    ]

-- the identifier that is got is the domain's with next_rid
pub new_sid_is : (dir : Directory) (class : ℕ) (sid : SidValue) → new_sid dir class ≡ Some sid
    → domain_child dir dir.meta.next_rid ≡ Some sid
unfolding new_sid
new_sid_is dir class sid is = must_have (is_must dir.schema class) (object_sid dir.schema)
    (domain_child dir dir.meta.next_rid) sid is

counted_number : (meta : Meta) (sid : Option SidValue) → (counted_on meta sid).next_number ≡ meta.next_number + 1
counted_number meta None = refl
counted_number meta (Some sid) = refl

counted_suffix : (meta : Meta) (sid : Option SidValue) → (counted_on meta sid).suffix ≡ meta.suffix
counted_suffix meta None = refl
counted_suffix meta (Some sid) = refl

counted_rid : (meta : Meta) (sid : Option SidValue) → meta.next_rid ≤ (counted_on meta sid).next_rid
counted_rid meta None = omega arith
counted_rid meta (Some sid) = omega arith

counted_fits : (meta : Meta) (sid : Option SidValue) → meta.next_rid ≤ max_counter
    → IfSome sid (λ s. meta.next_rid < max_counter) → (counted_on meta sid).next_rid ≤ max_counter
counted_fits meta None fits more = fits
counted_fits meta (Some sid) fits more = omega arith

-- ---- the whole

abbrev pub added_to : Directory → Object → Meta → Directory
added_to dir o meta = record dir { objects = put o dir.objects; meta = meta }

domain_added : (dir : Directory) (o : Object) (meta : Meta) → IsNew dir o.number → domain_sid (added_to dir o meta)
    ≡ domain_sid dir
unfolding domain_sid
domain_added dir o meta new = ap (sid_in dir.schema) (at-put_other o dir.objects root new.below)

domain_child_added : (dir : Directory) (o : Object) (meta : Meta) (rid : ℕ) → IsNew dir o.number
    → domain_child (added_to dir o meta) rid ≡ domain_child dir rid
unfolding domain_child
domain_child_added dir o meta rid new = ap
    (λ (domain : Option SidValue). option_and_then (λ (s : SidValue). child_of s rid) domain)
    (domain_added dir o meta new)

-- with the counters from before, one number on, and one identifier on where the object gets one
counters_added : (dir : Directory) (o : Object) (sid : Option SidValue) → IsSound dir → IsNew dir o.number → o.number
    ≡ dir.meta.next_number → sid_in dir.schema o ≡ sid
    → ((s : SidValue) → sid ≡ Some s → domain_child dir dir.meta.next_rid ≡ Some s) → dir.meta.next_number
    < max_counter → IfSome sid (λ s. dir.meta.next_rid < max_counter)
    → AreCounters (added_to dir o (counted_on dir.meta sid))
counters_added dir o sid sound new number own next number_fits rid_fits = record {
  number_above = λ n live. rw (counted_number dir.meta sid) (above n live);
  rid_above = λ n x rid s is has child.
      let before : domain_child dir rid ≡ Some s = sym (domain_child_added dir o (counted_on dir.meta sid) rid new)
      ∙ child in
      elim (put_or_before o dir.objects n x is) [
        | inl itself ↦ own_rid rid s (sym own ∙ rw itself has) before
        | inr from_before ↦
            let less : rid < dir.meta.next_rid = sound.frame.counters.rid_above n x rid s from_before.live has before in
            let more : dir.meta.next_rid ≤ (counted_on dir.meta sid).next_rid = counted_rid dir.meta sid in
            omega arith
      ];
  number_fits = rw (counted_number dir.meta sid) (omega arith);
  rid_fits = counted_fits dir.meta sid sound.frame.counters.rid_fits rid_fits;
}
  where
    above : (n : ℕ) → is_live (put o dir.objects) n ≡ true → n < dir.meta.next_number + 1
    above n live =
        elim (cases_Bool (nat_eq o.number n)) [
          | inl same ↦ let is : o.number ≡ n = eqb-true o.number n same in omega arith
          | inr differ ↦
              let less : n < dir.meta.next_number = sound.frame.counters.number_above n
              (sym (live-put_other o dir.objects n (eqb-false o.number n differ)) ∙ live) in
              omega arith
        ]

    own_rid : (rid : ℕ) (s : SidValue) → sid ≡ Some s → domain_child dir rid ≡ Some s → rid
        < (counted_on dir.meta sid).next_rid
    own_rid rid s is child =
        let same : rid ≡ dir.meta.next_rid = rid_once dir s rid dir.meta.next_rid child (next s is) in
        rw is (omega arith)

frame_added : (dir : Directory) (o : Object) (sid : Option SidValue) → IsSound dir → IsNew dir o.number
    → AreCounters (added_to dir o (counted_on dir.meta sid))
    → length dir.objects < max_objects → weight (with_objects (put o dir.objects) dir) ≤ max_weight
    → IsSoundFrame (added_to dir o (counted_on dir.meta sid))
unfolding weight
frame_added dir o sid sound new counters few light = record {
  schema = rw (domain_added dir o (counted_on dir.meta sid) new) sound.frame.schema;
  counters = counters;
  limits = record {
    objects = rw (length-put_new o dir.objects new.not_live) (omega arith);
    weight = light;
    suffix = rw (counted_suffix dir.meta sid) sound.frame.limits.suffix;
    records = sound.frame.limits.records;
  };
  root_live = live-put o dir.objects root sound.frame.root_live;
}

-- objects don't look at the counters
stands_with_meta : (dir : Directory) (meta : Meta) (x : Object) → Stands dir x → Stands (with_meta meta dir) x
unfolding whole_at
stands_with_meta dir meta x before =
    elim (cases_Bool (nat_eq x.number root)) [
      | inl same ↦
          let is : x.number ≡ root = eqb-true x.number root same in
          stands_from_root (with_meta meta dir) x is (stands_root dir x is before)
      | inr differ ↦
          let not_root : x.number ≡ root → ⊥ = eqb-false x.number root differ in
          let below : IsBelowRoot dir x = stands_below dir x not_root before in
          stands_from_below (with_meta meta dir) x not_root
          (record { parent_live = below.parent_live; placed = below.placed; inherits = below.inherits })
    ]

pub each_with_meta : (dir : Directory) (meta : Meta) → EachIsSound dir → EachIsSound (with_meta meta dir)
each_with_meta dir meta each m x is =
    let old : IsSoundObject dir x = each m x is in
    record {
      content = old.content;
      stands = stands_with_meta dir meta x old.stands;
      links = old.links;
      own_name
          = old.own_name;
      own_sid = old.own_sid;
    }

-- what fits doesn't look at the descriptor
fits_settled : (dir : Directory) (o : Object) (new : Sd)
    → ((n : ℕ) → is_live (put o dir.objects) n ≡ true → is_live (put (with_sd new o) dir.objects) n ≡ true)
    → Fits dir o → Fits dir (with_sd new o)
fits_settled dir o new keeps fits = record {
  content = record {
    class_of_schema = fits.content.class_of_schema;
    name = fits.content.name;
    attrs_rise
        = fits.content.attrs_rise;
    each = fits.content.each;
  };
  links = all_live_more (put o dir.objects) (put (with_sd new o) dir.objects) (links_in o.values) keeps fits.links;
  own_name = fits.own_name;
  own_sid = λ m other sid live has own. fits.own_sid m other sid live has (sym (sid_with_sd dir.schema o new) ∙ own);
}

live_any_sd : (o : Object) (new : Sd) (os : List Object) (n : ℕ) → is_live (put o os) n ≡ true
    → is_live (put (with_sd new o) os) n ≡ true
live_any_sd o new os n live =
    elim (cases_Bool (nat_eq o.number n)) [
      | inl same ↦ subst (λ (k : ℕ). is_live (put (with_sd new o) os) k ≡ true) (eqb-true o.number n same)
          (live-put_same (with_sd new o) os)
      | inr differ ↦
          let apart : o.number ≡ n → ⊥ = eqb-false o.number n differ in
          live-put_other (with_sd new o) os n apart ∙ sym (live-put_other o os n apart) ∙ live
    ]

pub added_sound : (dir : Directory) (o : Object) → IsSound dir → MayBeAdded dir o → IsSound (added dir o)
unfolding added
added_sound dir o sound may = record {
  rise = rise_put 0 object dir.objects sound.rise positive;
  frame = frame_added dir object (new_sid dir o.class) sound new
      (counters_added dir object (new_sid dir o.class) sound new refl
      (sid_with_sd dir.schema (numbered dir o) (whole_at dir (numbered dir o)) ∙ may.sid) (new_sid_is dir o.class)
      may.number_fits may.rid_fits)
      may.few (subst (λ (w : ℕ). w ≤ max_weight)
      (sym (weight_settled dir (numbered dir o) (whole_at dir (numbered dir o)))) may.weight);
  each = each_with_meta (placed dir object dir.pending) (counted_on dir.meta (new_sid dir o.class))
      (each_placed dir object dir.pending sound.each
      (fits_settled dir (numbered dir o) (whole_at dir (numbered dir o))
      (live_any_sd (numbered dir o) (whole_at dir (numbered dir o)) dir.objects) may.fits)
      (λ m x is. added_stands dir object x m sound new may.parent_live may.parent_depth may.parent_at
      may.parent_within (added_inherits dir (numbered dir o) sound new may.parent_live) is));
  live = live_in_more dir.objects (put object dir.objects) dir.pending (live-put object dir.objects) sound.live;
  distinct = sound.distinct;
}
  where
    object : Object
    object = settled dir (numbered dir o)

    new : IsNew dir dir.meta.next_number
    new = next_is_new dir sound

    positive : 0 < dir.meta.next_number
    positive = let less : root < dir.meta.next_number = sound.frame.counters.number_above root sound.frame.root_live
        in omega arith
