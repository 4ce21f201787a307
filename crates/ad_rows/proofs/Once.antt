-- Rows represent one sound directory at most: each body is encoded for one value, and none begins another.
use Rattle.std.proofs.Common.{◌≡◌, ◌∙◌, ℕ, suc, Bool, true, false, List, [], ◌∷◌, ◌++◌, length, take, drop, Option}
use Rattle.std.proofs.Common.{Some, None, Ok, refl, sym, ap, subst, append_assoc, arith}
use Rattle.std.specs.Prelude.{slice_get, IfOk, Result, Err}
use Rattle.std.specs.List.{AllByRecursion}
use Rattle.std.proofs.lemmas.List.{take_at, drop_at}
use Rattle.std.proofs.lemmas.Option.{none-some, same_Some}
use Rattle.ad_bytes.specs.Reading.{StartsWith, SpellsEach}
use Rattle.ad_bytes.specs.Numbers.{SpellsByte, SpellsBe, be_at, byte_at}
use Rattle.ad_bytes.proofs.Codec.{be_reader, byte_reader}
use Rattle.ad_bytes.proofs.Many.{spellings_apart}
use Rattle.ad_bytes.proofs.Steps.{from_ok}
use Rattle.ad_dn.specs.declared.rdn.Rdn.{Rdn}
use Rattle.ad_dn.specs.declared.rdn.Dn.{Dn}
use Rattle.ad_dn.specs.Value.{AreRdns}
use Rattle.ad_dn.specs.Text.{rdns_text}
use Rattle.ad_dn.specs.Reading.{dn_of}
use Rattle.ad_dn.proofs.Spelled.{rdns_spelled}
use Rattle.ad_dn.proofs.ReadOff.{dn_again}
use Rattle.ad_sd.specs.declared.parts.Sd.{Sd}
use Rattle.ad_sd.specs.Normal.{SpellsNormal}
use Rattle.ad_sd.proofs.NormalCodec.{normal_apart}
use Rattle.ad_value.specs.declared.syntax.Syntax.{Syntax}
use Rattle.ad_value.specs.Value.{Value, as_shown}
use Rattle.ad_value.specs.declared.fault.ValueFault.{ValueFault}
use Rattle.ad_value.specs.ValueOf.{normal_or_fault}
use Rattle.ad_schema.specs.declared.line.SchemaKind.{SchemaKind}
use Rattle.ad_schema.specs.declared.line.SchemaKind.TheVariants.{Attribute, Class, Right}
use Rattle.ad_schema.specs.declared.line.SchemaRecord.{SchemaRecord}
use Rattle.prop_queue.specs.declared.pending.Pending.{Pending}
use Rattle.site_io.specs.Disk.{Images}
use Rattle.gate_log.proofs.Single.{one_list}
use Rattle.row_store.specs.declared.row.Row.{Row}
use Rattle.row_store.specs.Row.{SpellBatches}
use Rattle.row_store.specs.Rows.{HasTable}
use Rattle.row_store.specs.Table.{Table, table_of, all_rows}
use Rattle.row_store.proofs.RowCodec.{batch_one}
use Rattle.row_store.proofs.Tables.{one_spelling}
use Rattle.ad_dir_model.specs.Object.{Stored, plain, link, Held, Object}
use Rattle.ad_dir_model.specs.Objects.{object_of}
use Rattle.ad_dir_model.specs.Directory.{Directory, Meta}
use Rattle.ad_dir_model.specs.Soundness.{IsValueBy, IsStored, IsHeld, IsContent, IsSound}
use Rattle.ad_dir_model.proofs.Finding.{of_number}
use Rattle.ad_dir_model.proofs.Extent.{same_objects}
use Rattle.ad_rows_write.specs.Body.{SpellsText, SpellsList, SpellsStored, SpellsHeld, SpellsObject, SpellsPending}
use Rattle.ad_rows_write.specs.Body.{SpellsQueue, SpellsMeta, SpellsLine, SpellsRecord, kind_byte}
use Rattle.ad_rows_write.specs.Rows.{HasBody, Shows, AreRowsOf, IsOnlyOf, IsStoreOf}

-- where texts of two values begin alike and end alike, the values are one
abbrev Apart : {A : Type 0} → (A → List ℕ → Type 0) → Type 0
Apart {A} Spells = (a b : A) (x y r s : List ℕ) → Spells a x → Spells b y → x ++ r ≡ y ++ s → (a ≡ b) × (r ≡ s)

be_apart : (n : ℕ) → Apart (SpellsBe n)
be_apart n a b x y r s sa sb e = let three = spellings_apart (SpellsBe n) (be_at n) (be_reader n) a b x y r s sa sb e
    in (three.0, three.2)

byte_apart : Apart SpellsByte
byte_apart a b x y r s sa sb e = let three = spellings_apart SpellsByte byte_at byte_reader a b x y r s sa sb e
    in (three.0, three.2)

-- the first part of two texts, and what follows it
record Split {A : Type 0} (a b : A) (F G : List ℕ → Type 0) (r s : List ℕ) : Type 0 where
  same : a ≡ b
  left : List ℕ
  right : List ℕ
  first : F left
  second : G right
  rest : left ++ r ≡ right ++ s

split : {A : Type 0} (Spells : A → List ℕ → Type 0) → Apart Spells → (a b : A) (F G : List ℕ → Type 0)
    (x y r s : List ℕ) → StartsWith Spells a F x → StartsWith Spells b G y → x ++ r ≡ y ++ s → Split a b F G r s
split Spells apart a b F G x y r s sx sy e =
    let whole : sx.front ++ (sx.behind ++ r) ≡ sy.front ++ (sy.behind ++ s) =
    sym (append_assoc sx.front sx.behind r) ∙ ap (λ (t : List ℕ). t ++ r) (sym sx.parts) ∙ e
    ∙ ap (λ (t : List ℕ). t ++ s) sy.parts ∙ append_assoc sy.front sy.behind s in
    let two = apart a b sx.front sy.front (sx.behind ++ r) (sy.behind ++ s) sx.spelled sy.spelled whole in
    record { same = two.0; left = sx.behind; right = sy.behind; first = sx.follows; second = sy.follows; rest = two.1 }

-- ---- texts and lists

same_length : (a b r s : List ℕ) → length a ≡ length b → a ++ r ≡ b ++ s → (a ≡ b) × (r ≡ s)
same_length a b r s long e = (
  sym (take_at a r (length a) refl) ∙ ap (take (length a)) e ∙ take_at b s (length a) (sym long),
  sym (drop_at a r (length a) refl) ∙ ap (drop (length a)) e ∙ drop_at b s (length a) (sym long),
)

text_apart : Apart SpellsText
text_apart a b x y r s sa sb e =
    let parts = split (SpellsBe 8) (be_apart 8) (length a) (length b) (λ t. t ≡ a) (λ t. t ≡ b) x y r s sa sb e in
    same_length a b r s parts.same (ap (λ (t : List ℕ). t ++ r) (sym parts.first) ∙ parts.rest
    ∙ ap (λ (t : List ℕ). t ++ s) parts.second)

each_apart : {A : Type 0} (Spells : A → List ℕ → Type 0) → Apart Spells → (as' bs : List A) (x y r s : List ℕ)
    → length as' ≡ length bs → SpellsEach Spells as' x → SpellsEach Spells bs y → x ++ r ≡ y ++ s → (as' ≡ bs)
    × (r ≡ s)
each_apart Spells apart [] [] x y r s long sa sb e
    = (refl, ap (λ (t : List ℕ). t ++ r) (sym sa) ∙ e ∙ ap (λ (t : List ℕ). t ++ s) sb)
each_apart Spells apart [] (b ∷ bs) x y r s long sa sb e = absurd (let bad : 0 ≡ suc (length bs) = long in cc bad)
each_apart Spells apart (a ∷ as') [] x y r s long sa sb e = absurd (let bad : suc (length as') ≡ 0 = long in cc bad)
each_apart Spells apart (a ∷ as') (b ∷ bs) x y r s long sa sb e =
    let parts = split Spells apart a b (SpellsEach Spells as') (SpellsEach Spells bs) x y r s sa sb e in
    let others = each_apart Spells apart as' bs parts.left parts.right r s (omega (arith, long)) parts.first
    parts.second parts.rest in
    ((λ i. parts.same i ∷ others.0 i), others.1)

list_apart : {A : Type 0} (Spells : A → List ℕ → Type 0) → Apart Spells → Apart (SpellsList Spells)
list_apart Spells apart as' bs x y r s sa sb e =
    let parts = split (SpellsBe 8) (be_apart 8) (length as') (length bs) (SpellsEach Spells as')
    (SpellsEach Spells bs) x y r s sa sb e in
    each_apart Spells apart as' bs parts.left parts.right r s parts.same parts.first parts.second parts.rest

-- the values of a list with what is known of each
each_with : {A : Type 0} (Known : A → Type 0) (Spells : A → List ℕ → Type 0) (xs : List A) (text : List ℕ)
    → AllByRecursion Known xs → SpellsEach Spells xs text → SpellsEach (λ (x : A) (t : List ℕ). Known x × Spells x t)
    xs text
each_with Known Spells [] text all each = each
each_with Known Spells (x ∷ xs) text all each
    = record {
      front = each.front;
      behind = each.behind;
      parts = each.parts;
      spelled = (all.0, each.spelled);
      follows
          = each_with Known Spells xs each.behind all.1 each.follows;
    }

pub list_with : {A : Type 0} (Known : A → Type 0) (Spells : A → List ℕ → Type 0) (xs : List A) (text : List ℕ)
    → AllByRecursion Known xs → SpellsList Spells xs text → SpellsList (λ (x : A) (t : List ℕ). Known x × Spells x t)
    xs text
list_with Known Spells xs text all list = record {
  front = list.front;
  behind = list.behind;
  parts
      = list.parts;
  spelled = list.spelled;
  follows = each_with Known Spells xs list.behind all list.follows;
}

-- ---- values and attributes

value_once : (b : Bool) (syntax : Syntax) (v w : Value) → IsValueBy b syntax v → IsValueBy b syntax w → v.shown
    ≡ w.shown → v ≡ w
value_once true syntax v w is_v is_w same = is_v.1 ∙ ap as_shown same ∙ sym is_w.1
value_once false syntax v w is_v is_w same = from_ok {E = ValueFault} v w
    (sym is_v ∙ ap (normal_or_fault syntax) same ∙ is_w)

stored_apart : (schema : List SchemaRecord) (attr : ℕ)
    → Apart (λ (stored : Stored) (t : List ℕ). IsStored schema attr stored × SpellsStored stored t)
stored_apart schema attr (plain v) (plain w) x y r s sa sb e =
    let two = text_apart v.shown w.shown x y r s sa.1 sb.1 e in
    (ap plain (value_once _ _ v w sa.0.1 sb.0.1 two.0), two.1)
stored_apart schema attr (plain v) (link n) x y r s sa sb e
    = absurd (let bad : false ≡ true = sym sa.0.0 ∙ sb.0 in cc bad)
stored_apart schema attr (link n) (plain v) x y r s sa sb e
    = absurd (let bad : false ≡ true = sym sb.0.0 ∙ sa.0 in cc bad)
stored_apart schema attr (link n) (link m) x y r s sa sb e =
    let parts = split (SpellsBe 8) (be_apart 8) 4 4 (SpellsBe 4 n) (SpellsBe 4 m) x y r s sa.1 sb.1 e in
    let two = be_apart 4 n m parts.left parts.right r s parts.first parts.second parts.rest in
    (ap link two.0, two.1)

held_apart : (schema : List SchemaRecord) → Apart (λ (held : Held) (t : List ℕ). IsHeld schema held × SpellsHeld held t)
held_apart schema a b x y r s sa sb e =
    let parts = split (SpellsBe 4) (be_apart 4) a.attr b.attr (SpellsList SpellsStored a.values)
    (SpellsList SpellsStored b.values) x y r s sa.1 sb.1 e in
    let each_b : AllByRecursion (IsStored schema a.attr) b.values
    = subst (λ (n : ℕ). AllByRecursion (IsStored schema n) b.values) (sym parts.same) sb.0.each in
    let two = list_apart (λ (stored : Stored) (t : List ℕ). IsStored schema a.attr stored × SpellsStored stored t)
    (stored_apart schema a.attr) a.values b.values parts.left parts.right r s
    (list_with (IsStored schema a.attr) SpellsStored a.values parts.left sa.0.each parts.first)
    (list_with (IsStored schema a.attr) SpellsStored b.values parts.right each_b parts.second) parts.rest in
    ((λ i. record { attr = parts.same i; values = two.0 i }), two.1)

-- ---- bodies

normal_once : (a b : Sd) (x y : List ℕ) → SpellsNormal a x → SpellsNormal b y → x ++ [] ≡ y ++ [] → a ≡ b
normal_once a b x y sa sb e = normal_apart a b [] [] sa.0 sb.0
    (ap (λ (t : List ℕ). t ++ []) (sym sa.1) ∙ e ∙ ap (λ (t : List ℕ). t ++ []) sb.1)

object_once : (schema : List SchemaRecord) (a b : Object) (body : List ℕ) → IsContent schema a → IsContent schema b
    → a.number ≡ b.number → SpellsObject a body → SpellsObject b body → a ≡ b
object_once schema a b body is_a is_b number sa sb =
    let Known : Held → List ℕ → Type 0 = λ held t. IsHeld schema held × SpellsHeld held t in
    let p = split (SpellsBe 4) (be_apart 4) a.parent b.parent _ _ body body [] [] sa sb refl in
    let q = split (SpellsBe 4) (be_apart 4) a.class b.class _ _ p.left p.right [] [] p.first p.second p.rest in
    let n = split SpellsText text_apart a.name b.name _ _ q.left q.right [] [] q.first q.second q.rest in
    let va : StartsWith (SpellsList Known) a.values (SpellsNormal a.sd) n.left
    = record {
      front = n.first.front;
      behind = n.first.behind;
      parts = n.first.parts;
      spelled
          = list_with (IsHeld schema) SpellsHeld a.values n.first.front is_a.each n.first.spelled;
      follows
          = n.first.follows;
    } in
    let vb : StartsWith (SpellsList Known) b.values (SpellsNormal b.sd) n.right
    = record {
      front = n.second.front;
      behind = n.second.behind;
      parts = n.second.parts;
      spelled
          = list_with (IsHeld schema) SpellsHeld b.values n.second.front is_b.each n.second.spelled;
      follows
          = n.second.follows;
    } in
    let v = split (SpellsList Known) (list_apart Known (held_apart schema)) a.values b.values (SpellsNormal a.sd)
    (SpellsNormal b.sd) n.left n.right [] [] va vb n.rest in
    let sd = normal_once a.sd b.sd v.left v.right v.first v.second v.rest in
    (λ i. record {
      number = number i;
      parent = p.same i;
      class = q.same i;
      name = n.same i;
      values = v.same i;
      sd
          = sd i;
    })

pending_apart : Apart SpellsPending
pending_apart a b x y r s sa sb e =
    let p = split (SpellsBe 4) (be_apart 4) a.parent b.parent (SpellsBe 4 a.cursor) (SpellsBe 4 b.cursor) x y r s sa
    sb e in
    let c = be_apart 4 a.cursor b.cursor p.left p.right r s p.first p.second p.rest in
    ((λ i. record { parent = p.same i; cursor = c.0 i }), c.1)

queue_once : (a b : List Pending) (body : List ℕ) → SpellsQueue a body → SpellsQueue b body → a ≡ b
queue_once a b body sa sb = (list_apart SpellsPending pending_apart a b body body [] [] sa sb refl).0

suffix_once : (a b : List Rdn) → AreRdns a → AreRdns b → rdns_text a ≡ rdns_text b → a ≡ b
suffix_once a b is_a is_b same =
    let read_a : dn_of (rdns_text a) ≡ Some (record { rdns = a }) = dn_again (rdns_text a) (record { rdns = a })
    (rdns_spelled a is_a) in
    let read_b : dn_of (rdns_text b) ≡ Some (record { rdns = b }) = dn_again (rdns_text b) (record { rdns = b })
    (rdns_spelled b is_b) in
    ap (λ (dn : Dn). dn.rdns) (same_Some (record { rdns = a }) (record { rdns = b })
    (sym read_a ∙ ap dn_of same ∙ read_b))

meta_once : (a b : Meta) (body : List ℕ) → SpellsMeta a body → SpellsMeta b body → a ≡ b
meta_once a b body sa sb =
    let n = split (SpellsBe 4) (be_apart 4) a.next_number b.next_number _ _ body body [] [] sa sb refl in
    let r = split (SpellsBe 4) (be_apart 4) a.next_rid b.next_rid _ _ n.left n.right [] [] n.first n.second n.rest in
    let t = text_apart (rdns_text a.suffix) (rdns_text b.suffix) r.left r.right [] [] r.first.1 r.second.1 r.rest in
    let suffix = suffix_once a.suffix b.suffix r.first.0 r.second.0 t.0 in
    (λ i. record { next_number = n.same i; next_rid = r.same i; suffix = suffix i })

line_apart : Apart SpellsLine
line_apart a b x y r s sa sb e =
    let n = split SpellsText text_apart a.name b.name (SpellsText a.value) (SpellsText b.value) x y r s sa sb e in
    let v = text_apart a.value b.value n.left n.right r s n.first n.second n.rest in
    ((λ i. record { name = n.same i; value = v.0 i }), v.1)

kind_once : (a b : SchemaKind) → kind_byte a ≡ kind_byte b → a ≡ b
kind_once Attribute Attribute e = refl
kind_once Class Class e = refl
kind_once Right Right e = refl
kind_once Attribute Class e = absurd (let bad : 0 ≡ 1 = e in cc bad)
kind_once Attribute Right e = absurd (let bad : 0 ≡ 2 = e in cc bad)
kind_once Class Attribute e = absurd (let bad : 1 ≡ 0 = e in cc bad)
kind_once Class Right e = absurd (let bad : 1 ≡ 2 = e in cc bad)
kind_once Right Attribute e = absurd (let bad : 2 ≡ 0 = e in cc bad)
kind_once Right Class e = absurd (let bad : 2 ≡ 1 = e in cc bad)

record_once : (a b : SchemaRecord) (body : List ℕ) → SpellsRecord a body → SpellsRecord b body → a ≡ b
record_once a b body sa sb =
    let k = split SpellsByte byte_apart (kind_byte a.kind) (kind_byte b.kind) (SpellsList SpellsLine a.lines)
    (SpellsList SpellsLine b.lines) body body [] [] sa sb refl in
    let l = list_apart SpellsLine line_apart a.lines b.lines k.left k.right [] [] k.first k.second k.rest in
    let kind = kind_once a.kind b.kind k.same in
    (λ i. record { kind = kind i; lines = l.0 i })

-- ---- what is shown once

shown_once : {A : Type 0} (Spells : A → List ℕ → Type 0) (a b : Option A) (stands : Option (List ℕ))
    → ((x y : A) (body : List ℕ) → a ≡ Some x → b ≡ Some y → Spells x body → Spells y body → x ≡ y)
    → Shows Spells a stands → Shows Spells b stands → a ≡ b
shown_once Spells None None stands one sa sb = refl
shown_once Spells None (Some y) stands one sa sb = absurd (none-some sb.0 (sym sa ∙ sb.1))
shown_once Spells (Some x) None stands one sa sb = absurd (none-some sa.0 (sym sb ∙ sa.1))
shown_once Spells (Some x) (Some y) stands one sa sb =
    let same : sb.0 ≡ sa.0 = same_Some sb.0 sa.0 (sym sb.1 ∙ sa.1) in
    ap (λ (z : _). Some z) (one x y sa.0 refl refl sa.2 (subst (Spells y) same sb.2))

body_once : {A : Type 0} (Spells : A → List ℕ → Type 0) (a b : A) (stands : Option (List ℕ))
    → ((body : List ℕ) → Spells a body → Spells b body → a ≡ b) → HasBody (Spells a) stands
    → HasBody (Spells b) stands → a ≡ b
body_once Spells a b stands one sa sb =
    let same : sb.0 ≡ sa.0 = same_Some sb.0 sa.0 (sym sb.1 ∙ sa.1) in
    one sa.0 sa.2 (subst (Spells b) same sb.2)

same_list : {A : Type 0} (xs ys : List A) → ((i : ℕ) → slice_get xs i ≡ slice_get ys i) → xs ≡ ys
same_list [] [] same = refl
same_list [] (y ∷ ys) same = absurd (none-some y (same 0))
same_list (x ∷ xs) [] same = absurd (none-some x (sym (same 0)))
same_list (x ∷ xs) (y ∷ ys) same =
    let first = same_Some x y (same 0) in
    let others = same_list xs ys (λ i. same (suc i)) in
    (λ i. first i ∷ others i)

pub one_directory : (a b : Directory) (table : Table) → IsSound a → IsSound b → AreRowsOf a table → AreRowsOf b table
    → a ≡ b
one_directory a b table sound_a sound_b rows_a rows_b =
    let schema : a.schema ≡ b.schema = same_list a.schema b.schema
    (λ i. shown_once SpellsRecord (slice_get a.schema i) (slice_get b.schema i) (table 4 i)
    (λ x y body _ _ sx sy. record_once x y body sx sy) (rows_a.schema i) (rows_b.schema i)) in
    let found : (n : ℕ) → object_of a.objects n ≡ object_of b.objects n = λ n.
    shown_once SpellsObject (object_of a.objects n) (object_of b.objects n) (table 1 n) (λ x y body is_x is_y sx sy.
    object_once a.schema x y body (sound_a.each n x is_x).content
    (subst (λ (s : List SchemaRecord). IsContent s y) (sym schema) (sound_b.each n y is_y).content)
    (of_number a.objects n x is_x ∙ sym (of_number b.objects n y is_y)) sx sy) (rows_a.objects n) (rows_b.objects n) in
    let objects : a.objects ≡ b.objects = same_objects 0 a.objects b.objects sound_a.rise sound_b.rise found in
    let pending : a.pending ≡ b.pending = body_once SpellsQueue a.pending b.pending (table 2 0)
    (λ body sx sy. queue_once a.pending b.pending body sx sy) rows_a.queue rows_b.queue in
    let meta : a.meta ≡ b.meta = body_once SpellsMeta a.meta b.meta (table 3 0)
    (λ body sx sy. meta_once a.meta b.meta body sx sy) rows_a.meta rows_b.meta in
    (λ i. record { schema = schema i; objects = objects i; pending = pending i; meta = meta i })

pub only_if : {E : Type 0} (r : Result Directory E) (table : Table) → IfOk r (λ dir. AreRowsOf dir table)
    → IfOk r IsSound → IfOk r (IsOnlyOf table)
only_if (Ok dir) table rows sound = λ other is_rows is_sound. one_directory other dir table is_sound sound is_rows rows
only_if (Err e) table rows sound = tt

-- ---- the slots

pub one_table : (images : Images) (a b : Table) → HasTable images a → HasTable images b → b ≡ a
one_table images a b has_a has_b =
    let bodies = one_list images has_a.bodies has_b.bodies has_a.has has_b.has in
    let one : has_b.left.batches ≡ has_a.left.batches = one_spelling has_a.left.batches has_b.left.batches
    has_a.bodies batch_one has_a.left.spelled (subst (SpellBatches has_b.left.batches) bodies has_b.left.spelled)
    in
    (λ i kind number. (has_b.left.same kind number
    ∙ ap (λ (batches : List (List Row)). table_of (all_rows batches) kind number) one
    ∙ sym (has_a.left.same kind number)) i)

pub one_store : (images : Images) (a b : Directory) → IsStoreOf images a → IsStoreOf images b → a ≡ b
one_store images a b of_a of_b =
    one_directory a b of_a.table of_a.sound of_b.sound of_a.rows
    (subst (AreRowsOf b) (one_table images of_a.table of_b.table of_a.has of_b.has) of_b.rows)
