-- A value has one body, so a directory has one table of rows.
use Rattle.std.proofs.Common.{◌≡◌, ◌∙◌, inl, inr, ℕ, zero, suc, List, [], ◌∷◌, ◌++◌, length, Option, Some, None, refl}
use Rattle.std.proofs.Common.{sym, ap, arith}
use Rattle.std.specs.Prelude.{slice_get}
use Rattle.ad_bytes.specs.Reading.{StartsWith, SpellsEach}
use Rattle.ad_bytes.specs.Numbers.{SpellsByte, SpellsBe}
use Rattle.ad_dn.specs.Text.{rdns_text}
use Rattle.ad_sd.specs.Normal.{SpellsNormal}
use Rattle.row_store.specs.Table.{Table}
use Rattle.ad_dir_model.specs.Object.{plain, link}
use Rattle.ad_dir_model.specs.Objects.{object_of}
use Rattle.ad_dir_model.specs.Directory.{Directory}
use Rattle.ad_rows_write.specs.Body.{SpellsText, SpellsList, SpellsStored, SpellsHeld, SpellsObject, SpellsPending}
use Rattle.ad_rows_write.specs.Body.{SpellsQueue, SpellsName, SpellsMeta, SpellsLine, SpellsRecord}
use Rattle.ad_rows_write.specs.Rows.{HasBody, Shows, AreRowsOf}

-- a value is encoded in one way
abbrev Fixed : {A : Type 0} → (A → List ℕ → Type 0) → Type 0
Fixed {A} Spells = (a : A) (x y : List ℕ) → Spells a x → Spells a y → x ≡ y

abbrev One : (List ℕ → Type 0) → Type 0
One Is = (x y : List ℕ) → Is x → Is y → x ≡ y

be_fixed : (n : ℕ) → Fixed (SpellsBe n)
be_fixed n a x y sx sy = sx.1 ∙ sym sy.1

byte_fixed : Fixed SpellsByte
byte_fixed a x y sx sy = sx.1 ∙ sym sy.1

starts_fixed : {A : Type 0} (Spells : A → List ℕ → Type 0) → Fixed Spells → (a : A) (F : List ℕ → Type 0) → One F
    → One (StartsWith Spells a F)
starts_fixed Spells fixed a F one x y sx sy =
    let front = fixed a sx.front sy.front sx.spelled sy.spelled in
    let behind = one sx.behind sy.behind sx.follows sy.follows in
    sx.parts ∙ (λ i. front i ++ behind i) ∙ sym sy.parts

text_fixed : Fixed SpellsText
text_fixed a = starts_fixed (SpellsBe 8) (be_fixed 8) (length a) (λ t. t ≡ a) (λ x y ex ey. ex ∙ sym ey)

each_fixed : {A : Type 0} (Spells : A → List ℕ → Type 0) → Fixed Spells → Fixed (SpellsEach Spells)
each_fixed Spells fixed [] x y sx sy = sx ∙ sym sy
each_fixed Spells fixed (a ∷ as') x y sx sy = starts_fixed Spells fixed a (SpellsEach Spells as')
    (each_fixed Spells fixed as') x y sx sy

list_fixed : {A : Type 0} (Spells : A → List ℕ → Type 0) → Fixed Spells → Fixed (SpellsList Spells)
list_fixed Spells fixed as' = starts_fixed (SpellsBe 8) (be_fixed 8) (length as') (SpellsEach Spells as')
    (each_fixed Spells fixed as')

stored_fixed : Fixed SpellsStored
stored_fixed (plain value) = text_fixed value.shown
stored_fixed (link number) = starts_fixed (SpellsBe 8) (be_fixed 8) 4 (SpellsBe 4 number) (be_fixed 4 number)

held_fixed : Fixed SpellsHeld
held_fixed held = starts_fixed (SpellsBe 4) (be_fixed 4) held.attr (SpellsList SpellsStored held.values)
    (list_fixed SpellsStored stored_fixed held.values)

object_fixed : Fixed SpellsObject
object_fixed o =
    starts_fixed (SpellsBe 4) (be_fixed 4) o.parent _ (
    starts_fixed (SpellsBe 4) (be_fixed 4) o.class _ (
    starts_fixed SpellsText text_fixed o.name _ (
    starts_fixed (SpellsList SpellsHeld) (list_fixed SpellsHeld held_fixed) o.values (SpellsNormal o.sd)
    (λ x y sx sy. sx.1 ∙ sym sy.1))))

pending_fixed : Fixed SpellsPending
pending_fixed entry = starts_fixed (SpellsBe 4) (be_fixed 4) entry.parent (SpellsBe 4 entry.cursor)
    (be_fixed 4 entry.cursor)

queue_fixed : Fixed SpellsQueue
queue_fixed = list_fixed SpellsPending pending_fixed

name_fixed : Fixed SpellsName
name_fixed rdns x y sx sy = text_fixed (rdns_text rdns) x y sx.1 sy.1

meta_fixed : Fixed SpellsMeta
meta_fixed meta =
    starts_fixed (SpellsBe 4) (be_fixed 4) meta.next_number _
    (starts_fixed (SpellsBe 4) (be_fixed 4) meta.next_rid (SpellsName meta.suffix) (name_fixed meta.suffix))

line_fixed : Fixed SpellsLine
line_fixed line = starts_fixed SpellsText text_fixed line.name (SpellsText line.value) (text_fixed line.value)

record_fixed : Fixed SpellsRecord
record_fixed r = starts_fixed SpellsByte byte_fixed _ (SpellsList SpellsLine r.lines)
    (list_fixed SpellsLine line_fixed r.lines)

-- ---- what stands in a table

body_fixed : {A : Type 0} (Spells : A → List ℕ → Type 0) → Fixed Spells → (a : A) (x y : Option (List ℕ))
    → HasBody (Spells a) x → HasBody (Spells a) y → x ≡ y
body_fixed Spells fixed a x y sx sy = sx.1 ∙ ap (λ (t : List ℕ). Some t) (fixed a sx.0 sy.0 sx.2 sy.2) ∙ sym sy.1

shows_fixed : {A : Type 0} (Spells : A → List ℕ → Type 0) → Fixed Spells → (a : Option A) (x y : Option (List ℕ))
    → Shows Spells a x → Shows Spells a y → x ≡ y
shows_fixed Spells fixed None x y sx sy = sx ∙ sym sy
shows_fixed Spells fixed (Some a) x y sx sy = body_fixed Spells fixed a x y sx sy

-- the rows of a directory make one table
pub one_table : (dir : Directory) (a b : Table) → AreRowsOf dir a → AreRowsOf dir b → (kind number : ℕ)
    → a kind number ≡ b kind number
one_table dir a b of_a of_b zero number = of_a.no_kind 0 number (inl refl) ∙ sym (of_b.no_kind 0 number (inl refl))
one_table dir a b of_a of_b (suc zero) number = shows_fixed SpellsObject object_fixed (object_of dir.objects number)
    (a 1 number) (b 1 number) (of_a.objects number) (of_b.objects number)
one_table dir a b of_a of_b (suc (suc zero)) zero = body_fixed SpellsQueue queue_fixed dir.pending (a 2 0) (b 2 0)
    of_a.queue of_b.queue
one_table dir a b of_a of_b (suc (suc zero)) (suc n) = of_a.no_queue (suc n) (omega arith)
    ∙ sym (of_b.no_queue (suc n) (omega arith))
one_table dir a b of_a of_b (suc (suc (suc zero))) zero = body_fixed SpellsMeta meta_fixed dir.meta (a 3 0) (b 3 0)
    of_a.meta of_b.meta
one_table dir a b of_a of_b (suc (suc (suc zero))) (suc n) = of_a.no_meta (suc n) (omega arith)
    ∙ sym (of_b.no_meta (suc n) (omega arith))
one_table dir a b of_a of_b (suc (suc (suc (suc zero)))) number = shows_fixed SpellsRecord record_fixed
    (slice_get dir.schema number) (a 4 number) (b 4 number) (of_a.schema number) (of_b.schema number)
one_table dir a b of_a of_b (suc (suc (suc (suc (suc k))))) number =
    let kind = suc (suc (suc (suc (suc k)))) in
    of_a.no_kind kind number (inr (omega arith)) ∙ sym (of_b.no_kind kind number (inr (omega arith)))
