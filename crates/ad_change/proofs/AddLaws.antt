-- The checks of an addition one after the other, and the attributes that it has.
use Rattle.std.proofs.Common.{◌≡◌, ℕ, ◌+◌, ◌<◌, ◌≤◌, Bool, true, false, not, List, [], ◌∷◌, ◌++◌, map, length, get_or}
use Rattle.std.proofs.Common.{drop, Option, Some, None, refl, sym, ap, ◌∙◌, append_assoc, arith}
use Rattle.std.specs.Prelude.{nat_lt, ◌&&◌, ◌||◌, is_some, is_none, option_map, codes, if◌then◌else◌}
use Rattle.std.proofs.lemmas.List.{map-append, drop_all}
use Rattle.std.proofs.lemmas.Option.{none-some, same_Some}
use Rattle.std.specs.List.{list_all, flat_map}
use Rattle.std.specs.Option.{option_map_or}
use Rattle.ad_ids.specs.SidValue.{SidValue}
use Rattle.ad_ids.specs.declared.token.Token.{Token}
use Rattle.ad_sd.specs.declared.parts.SdParts.{SdParts}
use Rattle.ad_dn.specs.declared.rdn.Rdn.{Rdn}
use Rattle.ad_sd.specs.declared.parts.Sd.{Sd}
use Rattle.ad_schema.specs.declared.line.SchemaRecord.{SchemaRecord}
use Rattle.ad_schema.specs.declared.info.AttrId.{AttrId}
use Rattle.ad_schema.specs.declared.info.ClassId.{ClassId}
use Rattle.ad_schema.specs.declared.meaning.RuleAttr.TheVariants as rule
use Rattle.ad_schema.specs.Attributes.{attrs_of}
use Rattle.ad_schema.specs.Meaning.{attr_of_rule}
use Rattle.ad_dir_objects.specs.declared.object.Object.{Object as ObjectIn}
use Rattle.ad_dir_objects.specs.declared.object.Stored.{Stored as StoredIn}
use Rattle.ad_dir_objects.specs.Seen.{stored_seen, held_seen, object_seen}
use Rattle.ad_dir_model.specs.Limits.{max_depth, max_objects, max_counter}
use Rattle.ad_dir_model.specs.Attributes.{rule_place, object_sid}
use Rattle.ad_dir_model.specs.Tree.{root}
use Rattle.ad_dir_model.specs.Identity.{self_sid, domain_sid}
use Rattle.ad_dir_model.specs.Changes.{new_sid, with_new_sid, numbered, counted_on}
use Rattle.ad_dir_model.proofs.AdminCount.{place_within, rule_is_named}
use Rattle.ad_schema.specs.Classes.{is_under, is_allowed}
use Rattle.ad_dir_model.specs.Object.{Stored, Held, Object}
use Rattle.ad_dir_model.specs.Directory.{Directory, Meta, parents}
use Rattle.ad_dir_model.specs.Names.{child_named}
use Rattle.ad_dir_model.specs.Soundness.{AttrsRiseFrom}
use Rattle.ad_dir_model.proofs.WithValues.{rise_with}
use Rattle.ad_needs_rules.specs.Checks.{Check, Refusal, code, or_code, first_failing}
use Rattle.ad_needs_rules.proofs.FirstFailing.{head_passes, head_fails, all_pass, one_fails}
use Rattle.ad_needs_rules.specs.Requests.{class_at}
use Rattle.ad_needs_rules.specs.Descriptors.{is_owner_allowed}
use Rattle.ad_change_values.specs.Values.{all_stored}
use Rattle.ad_change.specs.Tree.{depth_of, fits_weight_limit}
use Rattle.ad_change_values.specs.Items.{with_these}
use Rattle.ad_change.specs.Adding.{held_before, all_held, attr_checks, has_musts, new_object, fits_in, add_later}
use Rattle.ad_change.specs.Creating.{all_read, all_before, sent_checks, IsNewObject}
use Rattle.ad_change_values.proofs.HeldLaws.{HeldIn}
use Rattle.ad_change_values.proofs.SentLaws.{cut}

-- ---- checks after checks that hold

pub then_fails : (before rest : List Check) (b : Bool) (n : ℕ) → first_failing before ≡ None → b ≡ false
    → first_failing (before ++ or_code b n ∷ rest) ≡ Some (code n)
then_fails before rest b n none fails = all_pass before (or_code b n ∷ rest) none ∙ head_fails (or_code b n) rest fails

pub then_holds : (before : List Check) (b : Bool) (n : ℕ) → first_failing before ≡ None → b ≡ true
    → first_failing (before ++ or_code b n ∷ []) ≡ None
unfolding first_failing
then_holds before b n none holds = all_pass before (or_code b n ∷ []) none ∙ head_passes (or_code b n) [] holds

pub both_none : (before others : List Check) → first_failing before ≡ None → first_failing others ≡ None
    → first_failing (before ++ others) ≡ None
both_none before others none other = all_pass before others none ∙ other

pub later_fails : (before others rest : List Check) (r : Refusal) → first_failing before ≡ None → first_failing others
    ≡ Some r
    → first_failing (before ++ (others ++ rest)) ≡ Some r
later_fails before others rest r none fails = all_pass before (others ++ rest) none ∙ one_fails others rest r fails

-- ---- the checks of each of some

pub each_more : {A : Type 0} (f : A → List Check) (xs : List A) (i : ℕ) (x : A) → i < length xs → x ≡ get_or xs i x
    → first_failing (f x) ≡ None
    → first_failing (flat_map f (drop (i + 1) xs)) ≡ first_failing (flat_map f (drop i xs))
each_more f xs i x less is none =
    sym (ap (λ (ys : List _). first_failing (flat_map f ys)) (cut xs i x less is)
    ∙ all_pass (f x) (flat_map f (drop (i + 1) xs)) none)

pub each_stops : {A : Type 0} (f : A → List Check) (xs : List A) (i : ℕ) (x : A) (r : Refusal) → i < length xs → x
    ≡ get_or xs i x
    → first_failing (f x) ≡ Some r → first_failing (flat_map f (drop i xs)) ≡ Some r
each_stops f xs i x r less is fails =
    ap (λ (ys : List _). first_failing (flat_map f ys)) (cut xs i x less is)
    ∙ one_fails (f x) (flat_map f (drop (i + 1) xs)) r fails

pub each_done : {A : Type 0} (f : A → List Check) (xs : List A) (i : ℕ) → length xs ≤ i
    → first_failing (flat_map f (drop i xs)) ≡ None
unfolding first_failing
each_done f xs i past = ap (λ (ys : List _). first_failing (flat_map f ys)) (drop_all i xs past)

-- ---- the checks of what is sent, and the others

pub add_parts : (dir : Directory) (token : Token) (parent class : ℕ) (name : List ℕ)
    (values : List (AttrId × List (List ℕ))) (sd : Option SdParts)
    → add_later dir token parent class name values sd
    ≡ sent_checks dir token parent class values sd ++ (or_code (is_none (child_named dir.objects parent name)) 68
    ∷ or_code (fits_in dir (new_object dir token parent class name values sd)) 11 ∷ [])
unfolding add_later
add_parts dir token parent class name values sd =
    ap (λ (checks : List Check). or_code (is_owner_allowed token sd) 19
    ∷ or_code (is_under dir.schema class (class_at dir parent)) 64 ∷ checks)
    (sym (append_assoc (flat_map (attr_checks dir) values)
    (or_code (list_all (λ attr. is_allowed dir.schema class attr.0.0) values) 65
    ∷ or_code (has_musts dir class values) 65 ∷ [])
    (or_code (is_none (child_named dir.objects parent name)) 68
    ∷ or_code (fits_in dir (new_object dir token parent class name values sd)) 11 ∷ [])))

-- ---- the attributes

pub held_is : (dir : Directory) (values : List (AttrId × List (List ℕ))) → all_before (all_read dir values) []
    ≡ all_held dir values
unfolding all_before all_held
held_is dir [] = refl
held_is dir (attr ∷ values) = ap (held_before attr.0.0 (all_stored dir attr.0.0 attr.1)) (held_is dir values)

pub before_last : (helds : List Held) (last : Held) (others : List Held)
    → all_before (helds ++ last ∷ []) others ≡ all_before helds (held_before last.attr last.values others)
unfolding all_before
before_last [] last others = refl
before_last (held ∷ helds) last others = ap (held_before held.attr held.values) (before_last helds last others)

pub none_before : (others : List Held) → all_before [] others ≡ others
unfolding all_before
none_before others = refl

pub rise_before : (attr : ℕ) (new : List Stored) (others : List Held) → AttrsRiseFrom 0 others
    → AttrsRiseFrom 0 (held_before attr new others)
rise_before attr [] others rise = rise
rise_before attr (first ∷ new) others rise = rise_with attr (first ∷ new) 0 others rise (omega arith)

pub rise_all : (dir : Directory) (values : List (AttrId × List (List ℕ))) → AttrsRiseFrom 0 (all_held dir values)
unfolding all_held
rise_all dir [] = tt
rise_all dir (attr ∷ values) = rise_before attr.0.0 (all_stored dir attr.0.0 attr.1) (all_held dir values)
    (rise_all dir values)

-- ---- limits

pub counts_sid : (sid : Option SidValue) (gets fits : Bool) → gets ≡ is_some sid → (not gets || fits)
    ≡ option_map_or (λ (s : SidValue). fits) sid true
counts_sid None gets fits is = rw is refl
counts_sid (Some s) gets fits is = rw is refl

pub these_before : (attr : ℕ) (new : List StoredIn) (others : List Held) → (length new ≡ 0 → ⊥)
    → with_these attr (map stored_seen new) others ≡ held_before attr (map stored_seen new) others
these_before attr [] others some = absurd (some refl)
these_before attr (x ∷ xs) others some = refl

pub pops : (read rest : List HeldIn) (last : HeldIn) (held held' whole : List Held) → read ≡ rest ++ last ∷ []
    → held' ≡ held_before (held_seen last).attr (held_seen last).values held → all_before (map held_seen read) held
    ≡ whole
    → all_before (map held_seen rest) held' ≡ whole
pops read rest last held held' whole parts put so_far =
    ap (all_before (map held_seen rest)) put ∙ sym (before_last (map held_seen rest) (held_seen last) held)
    ∙ ap (λ (hs : List Held). all_before hs held)
    (sym (map-append held_seen rest (last ∷ [])) ∙ ap (map held_seen) (sym parts))
    ∙ so_far

pub popped_all : (read : List HeldIn) (held whole : List Held) → length read ≡ 0 → all_before (map held_seen read)
    held ≡ whole → held ≡ whole
unfolding all_before
popped_all [] held whole none so_far = so_far
popped_all (x ∷ xs) held whole none so_far = absurd (omega (arith, none))

-- ---- the domain, and the attribute of identifiers

pub domain_by : (dir : Directory) (x s : SidValue) → Some x ≡ self_sid dir root → domain_sid dir ≡ Some s → x ≡ s
unfolding domain_sid
domain_by dir x s found is = same_Some x s (found ∙ is)

pub no_domain : (dir : Directory) (s : SidValue) → None ≡ self_sid dir root → domain_sid dir ≡ Some s → ⊥
unfolding domain_sid
no_domain dir s none is = none-some s (none ∙ is)

pub sid_attr_within : (schema other : List SchemaRecord) (id : AttrId) → other ≡ schema → Some id
    ≡ attr_of_rule other rule.ObjectSid
    → id.0 < length (attrs_of schema)
unfolding rule_place
sid_attr_within schema other id same is =
    place_within schema (codes "objectSid") id.0
    (rule_is_named schema rule.ObjectSid id.0
    (ap (option_map (λ (x : AttrId). x.0))
    (ap (λ (s : List SchemaRecord). attr_of_rule s rule.ObjectSid) (sym same) ∙ sym is)))

pub no_new_sid : (attr : Option ℕ) (values : List Held) → values ≡ with_new_sid attr None values
no_new_sid None values = refl
no_new_sid (Some attr) values = refl

-- ---- an object that is made

pub numbered_made : (dir : Directory) (parent : ℕ) (class : ClassId) (name sent : List ℕ) (held : List Held)
    (values : List HeldIn) (next : ℕ)
    (sid : Option SidValue) (sd : Sd) → next ≡ dir.meta.next_number → name ≡ sent → sid ≡ new_sid dir class.0
    → map held_seen values ≡ with_new_sid (object_sid dir.schema) sid held
    → object_seen (record { number = next; parent = parent; class = class; name = name; values = values }) sd
    ≡ numbered dir (record { number = 0; parent = parent; class = class.0; name = sent; values = held; sd = sd })
numbered_made dir parent class name sent held values next sid sd number same is put =
    ap (λ (n : ℕ). record {
      number = n;
      parent = parent;
      class = class.0;
      name = name;
      values
          = map held_seen values;
      sd = sd;
    }) number
    ∙ ap (λ (t : List ℕ). record {
      number = dir.meta.next_number;
      parent = parent;
      class = class.0;
      name = t;
      values
          = map held_seen values;
      sd = sd;
    }) same
    ∙ ap (λ (vs : List Held). record {
      number = dir.meta.next_number;
      parent = parent;
      class = class.0;
      name
          = sent;
      values = vs;
      sd = sd;
    })
    (put ∙ ap (λ (s : Option SidValue). with_new_sid (object_sid dir.schema) s held) is)

pub counted_made : (dir : Directory) (meta : Meta) (gets : Bool) (number rid : ℕ) (suffix : List Rdn)
    (sid : Option SidValue) → meta ≡ dir.meta
    → number ≡ meta.next_number + 1 → rid ≡ (if gets then meta.next_rid + 1 else meta.next_rid) → suffix ≡ meta.suffix
    → gets ≡ is_some sid
    → record { next_number = number; next_rid = rid; suffix = suffix } ≡ counted_on dir.meta sid
counted_made dir meta gets number rid suffix None is next more same none =
    ap (λ (n : ℕ). record { next_number = n; next_rid = rid; suffix = suffix }) next
    ∙ ap (λ (r : ℕ). record { next_number = meta.next_number + 1; next_rid = r; suffix = suffix })
    (more ∙ ap (λ (b : Bool). if b then meta.next_rid + 1 else meta.next_rid) none)
    ∙ ap (λ (t : List Rdn). record { next_number = meta.next_number + 1; next_rid = meta.next_rid; suffix = t }) same
    ∙ ap (λ (m : Meta). counted_on m None) is
counted_made dir meta gets number rid suffix (Some s) is next more same some =
    ap (λ (n : ℕ). record { next_number = n; next_rid = rid; suffix = suffix }) next
    ∙ ap (λ (r : ℕ). record { next_number = meta.next_number + 1; next_rid = r; suffix = suffix })
    (more ∙ ap (λ (b : Bool). if b then meta.next_rid + 1 else meta.next_rid) some)
    ∙ ap (λ (t : List Rdn). record { next_number = meta.next_number + 1; next_rid = meta.next_rid + 1; suffix = t })
    same
    ∙ ap (λ (m : Meta). counted_on m (Some s)) is

pub fits_is : (dir : Directory) (o : Object) (object : ObjectIn) (gets few shallow light counted all : Bool)
    → IsNewObject dir o object gets
    → few ≡ nat_lt (length dir.objects) max_objects → shallow ≡ nat_lt (depth_of (parents dir) object.parent) max_depth
    → ((sd : Sd) → light ≡ fits_weight_limit dir (object_seen object sd))
    → counted ≡ (nat_lt dir.meta.next_number max_counter && (not gets || nat_lt dir.meta.next_rid max_counter))
    → all ≡ (few && (shallow && (light && counted))) → all ≡ fits_in dir o
unfolding fits_in
fits_is dir o object gets few shallow light counted all new f s l c a =
    a ∙ ap (λ (b : Bool). b && (shallow && (light && counted))) f
    ∙ ap (λ (b : Bool). nat_lt (length dir.objects) max_objects && (b && (light && counted)))
    (s ∙ ap (λ (x : Object). nat_lt (depth_of (parents dir) x.parent) max_depth) new.seen)
    ∙ ap (λ (b : Bool). nat_lt (length dir.objects) max_objects
    && (nat_lt (depth_of (parents dir) o.parent) max_depth && (b && counted)))
    (l o.sd ∙ ap (fits_weight_limit dir) new.seen)
    ∙ ap (λ (b : Bool). nat_lt (length dir.objects) max_objects
    && (nat_lt (depth_of (parents dir) o.parent) max_depth && (fits_weight_limit dir (numbered dir o) && b)))
    (c ∙ ap (λ (b : Bool). nat_lt dir.meta.next_number max_counter && b)
    (counts_sid (new_sid dir o.class) gets (nat_lt dir.meta.next_rid max_counter) new.gets))
