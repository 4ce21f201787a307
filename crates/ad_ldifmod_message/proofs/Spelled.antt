-- What is written encodes its message.
use Rattle.std.proofs.Common.{◌≡◌, if◌then◌else◌, inl, inr, ℕ, ◌+◌, ◌^◌, ◌<◌, ◌≤◌, ◌%◌, Bool, true, false, not, List}
use Rattle.std.proofs.Common.{[], ◌∷◌, ◌++◌, length, Option, Some, None, Ok, pos, refl, sym, ap, subst, ◌∙◌}
use Rattle.std.proofs.Common.{append_assoc, length-append, arith}
use Rattle.std.specs.List.{flat_map, AllByRecursion}
use Rattle.std.proofs.lemmas.List.{append-nil}
use Rattle.ad_bytes.specs.Reading.{StartsWith, SpellsEach}
use Rattle.ad_ber.specs.Writing.{header, element_bytes, number_bytes, number_element}
use Rattle.ad_ber.proofs.Shortest.{element_spelled}
use Rattle.ad_ldap.specs.declared.controls.Control.{Control}
use Rattle.ad_ldap.specs.declared.items.Item.{Item}
use Rattle.ad_ldap.specs.declared.requests.Modify.{Modify}
use Rattle.ad_ldap.specs.declared.requests.Add.{Add}
use Rattle.ad_ldap.specs.declared.requests.Rename.{Rename}
use Rattle.ad_ldap.specs.Limits.{most_int}
use Rattle.ad_ldap.specs.MessageValue.{OpValue, ModifyOf, AddOf, DeleteOf, RenameOf, MessageValue}
use Rattle.ad_ldap.specs.Elements.{IsEmpty, Tagged, SpellsOctets, SpellsNumber, IsTruth, SpellsBoolean, SpellsOption}
use Rattle.ad_ldap.specs.Elements.{SpellsDefault, SpellsValues}
use Rattle.ad_ldap.specs.Filters.{Joined}
use Rattle.ad_ldap.specs.Requests.{SpellsAttribute, SpellsItem, SpellsModify, SpellsNew, SpellsAdd, SpellsRename}
use Rattle.ad_ldap.specs.Requests.{SpellsOp}
use Rattle.ad_ldap.specs.Messages.{SpellsControl, SpellsControls, SpellsBody, SpellsMessage}
use Rattle.ad_ldap.specs.Ranges.{HasOpRanges, HasRanges}
use Rattle.ad_ldap.specs.Reply.{values_bytes, attr_body, attr_bytes, attrs_bytes, entry_body}
use Rattle.ad_ldifmod_message.specs.Written.{truth_bytes, option_bytes, item_bytes, modify_body, rename_body}
use Rattle.ad_ldifmod_message.specs.Written.{op_bytes, IsChange, control_bytes, controls_bytes, message_bytes}
use Rattle.ad_ldifmod_message.specs.Written.{IsWritable}
use Rattle.ad_ldifmod_message.proofs.Numbers.{integer_again}

-- ---- lengths

-- an element may have so many bytes
abbrev pub Fits : List ℕ → Type 0
Fits text = length text < 2 ^ 32

front_fits : (a b : List ℕ) → Fits (a ++ b) → Fits a
front_fits a b h = omega (arith, h, length-append a b)

behind_fits : (a b : List ℕ) → Fits (a ++ b) → Fits b
behind_fits a b h = omega (arith, h, length-append a b)

inner_fits : (tag : ℕ) (body : List ℕ) → Fits (element_bytes tag body) → Fits body
unfolding element_bytes
inner_fits tag body h = behind_fits (header tag (length body)) body h

-- ---- parts

-- a tag of one byte whose number is at most 30
abbrev IsTag : ℕ → Type 0
IsTag tag = (tag < 256) × (tag % 32 < 31)

tagged : (Body : List ℕ → Type 0) (tag : ℕ) (body : List ℕ) → IsTag tag → Fits (element_bytes tag body) → Body body
    → Tagged tag Body (element_bytes tag body)
tagged Body tag body is fits inside = record
    { body = body; element = element_spelled tag body is.0 is.1 (inner_fits tag body fits); inside = inside }

first : {A : Type 0} (Spells : A → List ℕ → Type 0) (Follows : List ℕ → Type 0) (x : A) (front behind : List ℕ)
    → Spells x front → Follows behind → StartsWith Spells x Follows (front ++ behind)
first Spells Follows x front behind s f = record {
  front = front;
  behind = behind;
  parts = refl;
  spelled = s;
  follows
      = f;
}

last : (P : List ℕ → Type 0) (text : List ℕ) → P text → Joined P IsEmpty text
last P text p = record { front = text; behind = []; parts = sym (append-nil text); first = p; second = refl }

each : {A : Type 0} (Spells : A → List ℕ → Type 0) (P : A → Type 0) (bytes : A → List ℕ)
    → ((x : A) → P x → Fits (bytes x) → Spells x (bytes x))
    → (xs : List A) → AllByRecursion P xs → Fits (flat_map bytes xs) → SpellsEach Spells xs (flat_map bytes xs)
each Spells P bytes one [] all fits = refl
each Spells P bytes one (x ∷ xs) all fits = record {
  front = bytes x;
  behind = flat_map bytes xs;
  parts = refl;
  spelled = one x all.0 (front_fits (bytes x) (flat_map bytes xs) fits);
  follows = each Spells P bytes one xs all.1 (behind_fits (bytes x) (flat_map bytes xs) fits);
}

always : {A : Type 0} (xs : List A) → AllByRecursion {X = A} (λ x. Unit {0}) xs
always [] = tt
always (x ∷ xs) = (tt, always xs)

octets : (tag : ℕ) (bytes : List ℕ) → IsTag tag → Fits (element_bytes tag bytes)
    → SpellsOctets tag bytes (element_bytes tag bytes)
octets tag bytes is fits = tagged (λ body. body ≡ bytes) tag bytes is fits refl

number : (tag most n : ℕ) → IsTag tag → n ≤ most → n < 2 ^ 32 → Fits (number_element tag n) → SpellsNumber tag most n
    (number_element tag n)
unfolding number_element
number tag most n is within low fits = (
  within,
  tagged (λ body. _ ≡ Ok (pos n)) tag (number_bytes n) is fits
      (integer_again n low),
)

truth : (b : Bool) → Fits (truth_bytes b) → SpellsBoolean 1 b (truth_bytes b)
truth true fits = tagged (IsTruth true) 1 (255 ∷ []) (omega arith, omega arith) fits (255, refl, refl)
truth false fits = tagged (IsTruth false) 1 (0 ∷ []) (omega arith, omega arith) fits (0, refl, refl)

option : (tag : ℕ) (o : Option (List ℕ)) → IsTag tag → Fits (option_bytes tag o)
    → SpellsOption tag o (option_bytes tag o)
option tag None is fits = refl
option tag (Some bytes) is fits = octets tag bytes is fits

-- ---- requests

values : (vs : List (List ℕ)) → Fits (values_bytes vs) → SpellsValues vs (values_bytes vs)
values vs fits = each (SpellsOctets 4) (λ x. Unit {0}) (element_bytes 4)
    (λ x _ f. octets 4 x (omega arith, omega arith) f) vs (always vs) fits

attribute : (attr : List ℕ × List (List ℕ)) → Fits (attr_body attr) → SpellsAttribute attr.0 attr.1 (attr_body attr)
attribute attr fits =
    let N = element_bytes 4 attr.0 in
    let S = element_bytes 49 (values_bytes attr.1) in
    first (SpellsOctets 4) (Joined (Tagged 49 (SpellsValues attr.1)) IsEmpty) attr.0 N S
    (octets 4 attr.0 (omega arith, omega arith) (front_fits N S fits))
    (last (Tagged 49 (SpellsValues attr.1)) S
    (tagged (SpellsValues attr.1) 49 (values_bytes attr.1) (omega arith, omega arith) (behind_fits N S fits)
    (values attr.1 (inner_fits 49 (values_bytes attr.1) (behind_fits N S fits)))))

attr_spelled : (attr : List ℕ × List (List ℕ)) → Fits (attr_bytes attr) → Tagged 48 (SpellsAttribute attr.0 attr.1)
    (attr_bytes attr)
attr_spelled attr fits = tagged (SpellsAttribute attr.0 attr.1) 48 (attr_body attr) (omega arith, omega arith) fits
    (attribute attr (inner_fits 48 (attr_body attr) fits))

item : (i : Item) → i.op ≤ 2 → Fits (item_bytes i) → SpellsItem i (item_bytes i)
unfolding item_bytes
item i op fits =
    let O = number_element 10 i.op in
    let A = attr_bytes (i.attr, i.values) in
    let inner = inner_fits 48 (O ++ A) fits in
    let Follows = Joined (Tagged 48 (SpellsAttribute i.attr i.values)) IsEmpty in
    tagged (StartsWith (SpellsNumber 10 2) i.op Follows) 48 (O ++ A) (omega arith, omega arith) fits
    (first (SpellsNumber 10 2) Follows i.op O A
    (number 10 2 i.op (omega arith, omega arith) op (omega (arith, op)) (front_fits O A inner))
    (last (Tagged 48 (SpellsAttribute i.attr i.values)) A (attr_spelled (i.attr, i.values) (behind_fits O A inner))))

-- a name, and a list in an element
named : {A : Type 0} (Spells : A → List ℕ → Type 0) (P : A → Type 0) (bytes : A → List ℕ)
    → ((x : A) → P x → Fits (bytes x) → Spells x (bytes x))
    → (dn : List ℕ) (xs : List A) → AllByRecursion P xs
    → Fits (element_bytes 4 dn ++ element_bytes 48 (flat_map bytes xs))
    → StartsWith (SpellsOctets 4) dn (Joined (Tagged 48 (SpellsEach Spells xs)) IsEmpty)
    (element_bytes 4 dn ++ element_bytes 48 (flat_map bytes xs))
named Spells P bytes one dn xs all fits =
    let D = element_bytes 4 dn in
    let L = element_bytes 48 (flat_map bytes xs) in
    first (SpellsOctets 4) (Joined (Tagged 48 (SpellsEach Spells xs)) IsEmpty) dn D L
    (octets 4 dn (omega arith, omega arith) (front_fits D L fits))
    (last (Tagged 48 (SpellsEach Spells xs)) L
    (tagged (SpellsEach Spells xs) 48 (flat_map bytes xs) (omega arith, omega arith) (behind_fits D L fits)
    (each Spells P bytes one xs all (inner_fits 48 (flat_map bytes xs) (behind_fits D L fits)))))

modify : (m : Modify) → AllByRecursion (λ i. i.op ≤ 2) m.items → Fits (modify_body m.dn m.items)
    → SpellsModify m (modify_body m.dn m.items)
modify m ops fits = named SpellsItem (λ i. i.op ≤ 2) item_bytes item m.dn m.items ops fits

new : (attr : List ℕ × List (List ℕ)) → (attr.1 ≡ [] → ⊥) → Fits (attr_bytes attr) → SpellsNew attr (attr_bytes attr)
new attr some fits = (some, attr_spelled attr fits)

add : (a : Add) → AllByRecursion (λ attr. attr.1 ≡ [] → ⊥) a.attrs → Fits (entry_body a.dn a.attrs)
    → SpellsAdd a (entry_body a.dn a.attrs)
add a some fits = named SpellsNew (λ attr. attr.1 ≡ [] → ⊥) attr_bytes new a.dn a.attrs some fits

rename : (r : Rename) → Fits (rename_body r) → SpellsRename r (rename_body r)
rename r fits =
    let D = element_bytes 4 r.dn in
    let R = element_bytes 4 r.rdn in
    let T = truth_bytes (not r.keep) in
    let S = option_bytes 128 r.superior in
    let second = behind_fits D (R ++ (T ++ S)) fits in
    let third = behind_fits R (T ++ S) second in
    first (SpellsOctets 4) (StartsWith (SpellsOctets 4) r.rdn
    (StartsWith (SpellsBoolean 1) (not r.keep) (SpellsOption 128 r.superior))) r.dn D (R ++ (T ++ S))
    (octets 4 r.dn (omega arith, omega arith) (front_fits D (R ++ (T ++ S)) fits))
    (first (SpellsOctets 4) (StartsWith (SpellsBoolean 1) (not r.keep) (SpellsOption 128 r.superior)) r.rdn R (T ++ S)
    (octets 4 r.rdn (omega arith, omega arith) (front_fits R (T ++ S) second))
    (first (SpellsBoolean 1) (SpellsOption 128 r.superior) (not r.keep) T S
    (truth (not r.keep) (front_fits T S third))
    (option 128 r.superior (omega arith, omega arith) (behind_fits T S third))))

op : (o : OpValue) → IsChange o → HasOpRanges o → Fits (op_bytes o) → SpellsOp o (op_bytes o)
unfolding op_bytes
op (ModifyOf m) is ranges fits = tagged (SpellsModify m) 102 (modify_body m.dn m.items) (omega arith, omega arith)
    fits (modify m ranges (inner_fits 102 (modify_body m.dn m.items) fits))
op (AddOf a) is ranges fits = tagged (SpellsAdd a) 104 (entry_body a.dn a.attrs) (omega arith, omega arith) fits
    (add a ranges (inner_fits 104 (entry_body a.dn a.attrs) fits))
op (DeleteOf dn) is ranges fits = octets 74 dn (omega arith, omega arith) fits
op (RenameOf r) is ranges fits = tagged (SpellsRename r) 108 (rename_body r) (omega arith, omega arith) fits
    (rename r (inner_fits 108 (rename_body r) fits))
op _ is ranges fits = absurd is

-- ---- messages

critical : (b : Bool) → Fits (if b then truth_bytes b else []) → SpellsDefault 1 b (if b then truth_bytes b else [])
critical true fits = inl (truth true fits)
critical false fits = inr (refl, refl)

control : (c : Control) → Unit {0} → Fits (control_bytes c) → SpellsControl c (control_bytes c)
unfolding control_bytes
control c _ fits =
    let O = element_bytes 4 c.oid in
    let C = if c.critical then truth_bytes c.critical else [] in
    let V = option_bytes 4 c.value in
    let inner = inner_fits 48 (O ++ (C ++ V)) fits in
    let second = behind_fits O (C ++ V) inner in
    tagged (StartsWith (SpellsOctets 4) c.oid (StartsWith (SpellsDefault 1) c.critical (SpellsOption 4 c.value))) 48
    (O ++ (C ++ V)) (omega arith, omega arith) fits
    (first (SpellsOctets 4) (StartsWith (SpellsDefault 1) c.critical (SpellsOption 4 c.value)) c.oid O (C ++ V)
    (octets 4 c.oid (omega arith, omega arith) (front_fits O (C ++ V) inner))
    (first (SpellsDefault 1) (SpellsOption 4 c.value) c.critical C V (critical c.critical (front_fits C V second))
    (option 4 c.value (omega arith, omega arith) (behind_fits C V second))))

controls : (cs : List Control) → Fits (controls_bytes cs) → SpellsControls cs (controls_bytes cs)
unfolding controls_bytes
controls [] fits = inr (refl, refl)
controls (c ∷ cs) fits =
    inl (tagged (SpellsEach SpellsControl (c ∷ cs)) 160 (flat_map control_bytes (c ∷ cs)) (omega arith, omega arith)
    fits
    (each SpellsControl (λ x. Unit {0}) control_bytes control (c ∷ cs) (always (c ∷ cs))
    (inner_fits 160 (flat_map control_bytes (c ∷ cs)) fits)))

most : (n : ℕ) → n ≤ most_int → n < 2 ^ 32
unfolding most_int
most n h = omega (arith, h)

pub message_spelled : (m : MessageValue) → IsWritable m → Fits (message_bytes m) → SpellsMessage m (message_bytes m)
unfolding message_bytes
message_spelled m is fits =
    let I = number_element 2 m.id in
    let O = op_bytes m.op in
    let C = controls_bytes m.controls in
    let inner = inner_fits 48 (I ++ (O ++ C)) fits in
    let second = behind_fits I (O ++ C) inner in
    tagged (SpellsBody m) 48 (I ++ (O ++ C)) (omega arith, omega arith) fits
    (record {
      some = is.ranges.0;
      text_is = first (SpellsNumber 2 most_int) (StartsWith SpellsOp m.op (SpellsControls m.controls)) m.id I (O ++ C)
          (number 2 most_int m.id (omega arith, omega arith) is.ranges.1 (most m.id is.ranges.1)
          (front_fits I (O ++ C) inner))
          (first SpellsOp (SpellsControls m.controls) m.op O C (op m.op is.change is.ranges.2 (front_fits O C second))
          (controls m.controls (behind_fits O C second)));
    })

pub text_spelled : (m : MessageValue) (text : List ℕ) → IsWritable m → text ≡ message_bytes m → Fits text
    → SpellsMessage m text
text_spelled m text is same fits =
    let P : List ℕ → Type 0 = λ t. SpellsMessage m t in
    let low : Fits (message_bytes m) = omega (arith, fits, ap (λ (t : List ℕ). length t) same) in
    subst P (sym same) (message_spelled m is low)
