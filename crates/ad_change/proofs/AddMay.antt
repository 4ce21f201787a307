-- The edits of an addition may be applied, and make it.
use Rattle.std.proofs.Common.{◌≡◌, ℕ, ◌<◌, ◌≤◌, true, List, [], ◌∷◌, ◌++◌, map, Option, None, refl, sym, subst, ap}
use Rattle.std.proofs.Common.{◌∙◌, arith}
use Rattle.std.specs.List.{AllByRecursion, flat_map}
use Rattle.std.specs.Prelude.{is_some, Bool, Some, IfSome}
use Rattle.std.proofs.lemmas.Bool.{false≢true}
use Rattle.ad_ids.specs.SidValue.{SidValue}
use Rattle.ad_ids.specs.declared.guid.Guid.{Guid}
use Rattle.ad_schema.specs.declared.line.SchemaRecord.{SchemaRecord}
use Rattle.std.specs.Global.{Vec}
use Rattle.ad_ids.specs.declared.token.Token.{Token}
use Rattle.ad_sd.specs.declared.parts.Sd.{Sd}
use Rattle.ad_sd.specs.declared.parts.SdParts.{SdParts}
use Rattle.ad_sd.specs.Normal.{SpellsNormal}
use Rattle.ad_sd.specs.SdIn.{sd_in}
use Rattle.ad_sd.proofs.NormalReader.{spelled_in}
use Rattle.ad_inherit.specs.Creation.{chosen}
use Rattle.ad_inherit.specs.Whole.{whole}
use Rattle.ad_schema.specs.declared.info.AttrId.{AttrId}
use Rattle.ad_schema.specs.declared.info.ClassId.{ClassId}
use Rattle.ad_schema_defaults.specs.Defaults.{default_of}
use Rattle.ad_dir_objects.specs.declared.act.Act.TheVariants as act
use Rattle.ad_dir_objects.specs.declared.edit.Edit.{Edit as EditIn}
use Rattle.ad_dir_objects.specs.declared.edit.Edit.TheVariants as edit
use Rattle.ad_dir_objects.specs.declared.edit.Meta.{Meta as MetaIn}
use Rattle.ad_dir_objects.specs.declared.object.Object.{Object as ObjectIn}
use Rattle.ad_dir.specs.Conditions.{HasNormal, MayPut, AreEdits}
use Rattle.ad_dir_objects.specs.Seen.{object_seen, meta_seen, edit_seen}
use Rattle.ad_dir.proofs.AllMay.{MayAll, may_all}
use Rattle.ad_dir_model.specs.Limits.{max_counter}
use Rattle.ad_dir_model.specs.Object.{Object}
use Rattle.ad_dir_model.specs.Objects.{is_live, sd_at}
use Rattle.ad_dir_model.specs.Tree.{root}
use Rattle.ad_dir_model.specs.Identity.{self_sid, domain_sid}
use Rattle.ad_dir_model.specs.Directory.{Meta, Directory, Edit, put_object, put_meta, edited, all_edited}
use Rattle.ad_dir_model.specs.Inheritance.{guid_at, whole_at, settled}
use Rattle.ad_dir_model.specs.Changes.{new_sid, numbered, counted_on, added}
use Rattle.ad_dir_model.specs.Edits.{add_edits}
use Rattle.ad_dir_model.specs.Soundness.{IsSound, IsSoundObject}
use Rattle.ad_dir_model.proofs.Adding.{IsNew, next_is_new}
use Rattle.ad_dir_model.proofs.EditLaws.{added_edited}
use Rattle.ad_dir_model.proofs.Finding.{live-of, of-put_same, of-put_other, live-put_same}
use Rattle.ad_dir_model.proofs.Inheriting.{whole_below}
use Rattle.ad_dir_model.proofs.WorkLaws.{placed_at}
use Rattle.ad_needs_rules.specs.Checks.{first_failing}
use Rattle.ad_needs_rules.proofs.FirstFailing.{head_holds, both_hold}
use Rattle.ad_change.specs.Effects.{later_checks, made}
use Rattle.ad_change.specs.Adding.{new_object, attr_checks, add_later}
use Rattle.ad_change.specs.Creating.{IsNewObject, new_whole}
use Rattle.ad_change.specs.Plans.{AreEditsOf}
use Rattle.ad_change.proofs.Needed.{added_differs}
use Rattle.ad_change.proofs.AddSound.{room_of, add_is_sound}
use Rattle.ad_change.proofs.Contents.{ReadsBack}
use Rattle.ad_change.proofs.NewSid.{SidsRead, HasDomain}
use Rattle.ad_change.specs.Creating.{HasByteAttr}
use Rattle.ad_change.proofs.ResolvedValues.{IsAddition}

-- ---- where the new directory is sound

module _ (dir : Directory) (o : Object) (sound : IsSound dir) (after : IsSound (added dir o))
    (parent_live : is_live dir.objects o.parent ≡ true) where
  new_put : MayPut dir (settled dir (numbered dir o))
  unfolding added max_counter
  new_put =
      let x : Object = settled dir (numbered dir o) in
      let new : IsNew dir dir.meta.next_number = next_is_new dir sound in
      let is : IsSoundObject (added dir o) (settled dir (numbered dir o)) = after.each dir.meta.next_number
      (settled dir (numbered dir o))
      (of-put_same (settled dir (numbered dir o)) dir.objects) in
      record {
        some =
            let first : root < dir.meta.next_number = sound.frame.counters.number_above root sound.frame.root_live in
            omega (arith, first);
        fits_number =
            let above : dir.meta.next_number < (added dir o).meta.next_number = after.frame.counters.number_above
            dir.meta.next_number
            (live-put_same (settled dir (numbered dir o)) dir.objects) in
            let within : (added dir o).meta.next_number ≤ max_counter = after.frame.counters.number_fits in
            omega (arith, above, within);
        fits = record {
          content = is.content;
          links = is.links;
          own_name = λ m other at same_parent same_name. is.own_name m other
              (of-put_other (settled dir (numbered dir o)) dir.objects m
              (new.apart m (live-of dir.objects m other at)) ∙ at) same_parent same_name;
          own_sid = λ m other sid at has own. is.own_sid m other sid
              (of-put_other (settled dir (numbered dir o)) dir.objects m
              (new.apart m (live-of dir.objects m other at)) ∙ at) has own;
        };
        no_parent = λ top. absurd (new.below top);
        parent_live = λ below. parent_live;
        placed = λ below n live. placed_at (added dir o) after.each n live;
      }

  new_may : MayAll dir (add_edits dir o)
  unfolding edited
  new_may = (new_put, (tt, tt))

added_is : ReadsBack → SidsRead → (dir : Directory) (token : Token) (parent class : ℕ) (name : List ℕ)
    (values : List (AttrId × List (List ℕ))) (sd : Option SdParts) → IsSound dir → HasDomain dir
    → IsAddition dir parent class name values
    → AllByRecursion HasByteAttr values → first_failing (add_later dir token parent class name values sd) ≡ None
    → IsSound (added dir (new_object dir token parent class name values sd))
unfolding add_later
added_is back w dir token parent class name values sd sound has is bytes none =
    let owner = head_holds _ _ none in
    let lawful = head_holds _ _ owner.1 in
    let each = both_hold (flat_map (attr_checks dir) values) _ lawful.1 in
    let allowed = head_holds _ _ each.1 in
    let musts = head_holds _ _ allowed.1 in
    let free = head_holds _ _ musts.1 in
    let fits = head_holds _ _ free.1 in
    add_is_sound back w dir token parent class name values sd sound has is.parent_live is.class_within is.value
    (is.attrs bytes) free.0 fits.0

parent_of_new : (dir : Directory) (token : Token) (parent class : ℕ) (name : List ℕ)
    (values : List (AttrId × List (List ℕ))) (sd : Option SdParts)
    → (new_object dir token parent class name values sd).parent ≡ parent
unfolding new_object
parent_of_new dir token parent class name values sd = refl

pub addition_is : ReadsBack → SidsRead → (dir : Directory) (token : Token) (parent : ℕ) (class : ClassId)
    (name : List ℕ)
    (values : List (AttrId × List (List ℕ))) (sd : Option SdParts) (edits : List EditIn) → IsSound dir → HasDomain dir
    → IsAddition dir parent class.0 name values → AllByRecursion HasByteAttr values
    → first_failing (add_later dir token parent class.0 name values sd) ≡ None
    → AreEdits (add_edits dir (new_object dir token parent class.0 name values sd)) edits
    → AreEditsOf dir token (act.Add parent class name values sd) edits
unfolding later_checks made
addition_is back w dir token parent class name values sd edits sound has is bytes none are = record {
  holds = none;
  may = may_all dir edits are.normal (subst (MayAll dir) (sym are.are) (new_may dir o sound after
      (ap (is_live dir.objects) (parent_of_new dir token parent class.0 name values sd) ∙ is.parent_live)));
  make = ap (λ (es : List Edit). all_edited es dir) are.are ∙ added_edited dir o;
  nothing = λ same. absurd (added_differs dir o same);
}
  where
    o : Object
    o = new_object dir token parent class.0 name values sd

    after : IsSound (added dir (new_object dir token parent class.0 name values sd))
    after = added_is back w dir token parent class.0 name values sd sound has is bytes none

-- ---- what the two edits are

pub new_made : (dir : Directory) (token : Token) (o : Object) (object : ObjectIn) (items : List EditIn)
    (bytes : Vec ℕ) (meta : MetaIn)
    (sd : Option SdParts) → IsSound dir → items ≡ ([] ++ edit.PutObject object bytes ∷ []) ++ edit.PutMeta meta ∷ []
    → SpellsNormal (new_whole dir token object.parent object.class.0 sd) bytes.items
    → meta_seen meta ≡ counted_on dir.meta (new_sid dir o.class) → o.parent ≡ object.parent → o.class ≡ object.class.0
    → o.sd ≡ chosen sd (default_of dir.schema (domain_sid dir) o.class) token.owner token.primary
    → object_seen object o.sd ≡ numbered dir o → AreEdits (add_edits dir o) items
new_made dir token o object items bytes meta sd sound parts spelled counted parent class own seen = record {
  are = ap (map edit_seen) parts ∙ ap (λ (x : Object). put_object x ∷ put_meta (meta_seen meta) ∷ []) object_is
      ∙ ap (λ (m : Meta). put_object (settled dir (numbered dir o)) ∷ put_meta m ∷ []) counted;
  normal = subst (AllByRecursion HasNormal) (sym parts)
      (subst (λ (x : Sd). SpellsNormal x bytes.items) (sym in_bytes) spelled, (tt, tt));
}
  where
    in_bytes : sd_in bytes.items ≡ new_whole dir token object.parent object.class.0 sd
    in_bytes = spelled_in bytes.items (new_whole dir token object.parent object.class.0 sd) spelled

    whole_is : new_whole dir token object.parent object.class.0 sd ≡ whole_at dir (numbered dir o)
    whole_is =
        ap (λ (p : ℕ). new_whole dir token p object.class.0 sd) (sym parent)
        ∙ ap (λ (c : ℕ). new_whole dir token o.parent c sd) (sym class)
        ∙ ap (λ (x : Sd). whole (sd_at dir.objects o.parent) x (guid_at dir.schema o.class)) (sym own)
        ∙ sym (whole_below dir (numbered dir o) (next_is_new dir sound).below)

    object_is : object_seen object (sd_in bytes.items) ≡ settled dir (numbered dir o)
    object_is = ap (object_seen object) (in_bytes ∙ whole_is)
        ∙ ap (λ (x : Object). record x { sd = whole_at dir (numbered dir o) }) seen

-- ---- as the code has it

pub whole_made : (dir : Directory) (token : Token) (parent class : ℕ) (sd given : Option SdParts) (above : Sd)
    (default : SdParts) (guid : Guid)
    (schema : List SchemaRecord) (domain : Option SidValue) → above ≡ sd_at dir.objects parent → given ≡ sd → schema
    ≡ dir.schema → domain ≡ self_sid dir root
    → default ≡ default_of schema domain class → guid ≡ guid_at schema class
    → whole above (chosen given default token.owner token.primary) guid ≡ new_whole dir token parent class sd
unfolding domain_sid
whole_made dir token parent class sd given above default guid schema domain a g s d p c =
    ap (λ (x : Sd). whole x (chosen given default token.owner token.primary) guid) a
    ∙ ap (λ (x : Option SdParts). whole (sd_at dir.objects parent) (chosen x default token.owner token.primary) guid) g
    ∙ ap (λ (x : SdParts). whole (sd_at dir.objects parent) (chosen sd x token.owner token.primary) guid)
    (p ∙ ap (λ (x : List SchemaRecord). default_of x domain class) s
    ∙ ap (λ (x : Option SidValue). default_of dir.schema x class) d)
    ∙ ap (λ (x : Guid). whole (sd_at dir.objects parent)
    (chosen sd (default_of dir.schema (self_sid dir root) class) token.owner token.primary) x)
    (c ∙ ap (λ (x : List SchemaRecord). guid_at x class) s)

-- what the limits say of the counters
pub counters_fit : (dir : Directory) (token : Token) (parent class : ℕ) (name : List ℕ)
    (values : List (AttrId × List (List ℕ))) (sd : Option SdParts)
    → first_failing (add_later dir token parent class name values sd) ≡ None
    → (dir.meta.next_number < max_counter) × (is_some (new_sid dir class) ≡ true → dir.meta.next_rid < max_counter)
unfolding add_later new_object
counters_fit dir token parent class name values sd none =
    let owner = head_holds _ _ none in
    let lawful = head_holds _ _ owner.1 in
    let each = both_hold (flat_map (attr_checks dir) values) _ lawful.1 in
    let allowed = head_holds _ _ each.1 in
    let musts = head_holds _ _ allowed.1 in
    let free = head_holds _ _ musts.1 in
    let fits = head_holds _ _ free.1 in
    let room = room_of dir (new_object dir token parent class name values sd) fits.0 in
    (room.number, by_sid (new_sid dir class) room.rid)
  where
    by_sid : (sid : Option SidValue) → IfSome sid (λ x. dir.meta.next_rid < max_counter) → is_some sid ≡ true
        → dir.meta.next_rid < max_counter
    by_sid None fits is = absurd (false≢true is)
    by_sid (Some s) fits is = fits

pub new_own : (dir : Directory) (token : Token) (parent class : ℕ) (name : List ℕ)
    (values : List (AttrId × List (List ℕ))) (sd : Option SdParts)
    → (new_object dir token parent class name values sd).sd
    ≡ chosen sd (default_of dir.schema (domain_sid dir) (new_object dir token parent class name values sd).class)
    token.owner token.primary
unfolding new_object
new_own dir token parent class name values sd = refl

pub new_place : (dir : Directory) (token : Token) (parent class : ℕ) (name : List ℕ)
    (values : List (AttrId × List (List ℕ))) (sd : Option SdParts)
    (object : ObjectIn) (gets : Bool) → IsNewObject dir (new_object dir token parent class name values sd) object gets
    → (object.parent ≡ parent) × (object.class.0 ≡ class)
unfolding new_object
new_place dir token parent class name values sd object gets new
    = (ap (λ (x : Object). x.parent) new.seen, ap (λ (x : Object). x.class) new.seen)

pub new_place_back : (dir : Directory) (token : Token) (parent class : ℕ) (name : List ℕ)
    (values : List (AttrId × List (List ℕ))) (sd : Option SdParts)
    (object : ObjectIn) (gets : Bool) → IsNewObject dir (new_object dir token parent class name values sd) object gets
    → ((new_object dir token parent class name values sd).parent ≡ object.parent)
    × ((new_object dir token parent class name values sd).class ≡ object.class.0)
unfolding new_object
new_place_back dir token parent class name values sd object gets new =
    (sym (ap (λ (x : Object). x.parent) new.seen), sym (ap (λ (x : Object). x.class) new.seen))
