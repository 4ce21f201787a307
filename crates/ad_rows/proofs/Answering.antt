-- What is answered of rows: from what was taken in of them, and from how that was judged.
use Rattle.std.proofs.Common.{◌≡◌, ◌∙◌, ◌⊎◌, inl, inr, ℕ, ◌<◌, Bool, false, List, Option, Some, None, Result, Ok, Err}
use Rattle.std.proofs.Common.{refl, sym, ap, subst, arith, if◌then◌else◌}
use Rattle.std.specs.Prelude.{IfErr, IfOk, IfSome, is_none}
use Rattle.std.specs.List.{AllByRecursion}
use Rattle.std.proofs.lemmas.Option.{none-some, same_Some}
use Rattle.ad_bytes.specs.Reading.{GivesUnless, ◌>>=◌}
use Rattle.ad_bytes.proofs.Steps.{from_ok}
use Rattle.ad_schema.specs.declared.line.SchemaRecord.{SchemaRecord}
use Rattle.prop_queue.specs.declared.pending.Pending.{Pending}
use Rattle.row_store.specs.declared.row.Row.{Row}
use Rattle.row_store.specs.Table.{Table, table_of, AreListed}
use Rattle.ad_dir_model.specs.Object.{Stored, plain, link, Held, Object}
use Rattle.ad_dir_model.specs.Objects.{Rise, object_of}
use Rattle.ad_dir_model.specs.Directory.{Directory, Meta}
use Rattle.ad_dir_model.specs.Soundness.{IsSound}
use Rattle.ad_rows_sound.specs.declared.fault.SoundnessFault.{SoundnessFault}
use Rattle.ad_rows_sound.specs.declared.fault.SoundnessFault.TheVariants as sound
use Rattle.ad_rows_sound.specs.Told.{IsToldBy}
use Rattle.ad_rows_sound.proofs.Reports.{never_told}
use Rattle.ad_rows.specs.declared.fault.RowsFault.{RowsFault}
use Rattle.ad_rows.specs.declared.fault.RowsFault.TheVariants as rows
use Rattle.ad_rows.specs.declared.fault.RowFault.{RowFault}
use Rattle.ad_rows.specs.declared.fault.RowFault.TheVariants as row
use Rattle.ad_rows_write.specs.Body.{SpellsObject, SpellsQueue, SpellsMeta}
use Rattle.ad_rows.specs.Faults.{of_row, of_soundness}
use Rattle.ad_rows.specs.Form.{IsForm, object_form, queue_form, meta_form, record_form, AreRight, IsLeastBad}
use Rattle.ad_rows.specs.Form.{IsByBytes, IsHeldByRow, IsByRow, IsMade}
use Rattle.ad_rows.specs.Reading.{AreTaken, IsFaultOf, IsToldOfParts, none, told, IsAnswerOf, Answers, IsReading}
use Rattle.ad_rows.specs.Refusal.{StandsForNone, IsToldOf, no_schema, unsound, IsRefusal, IsUnsound}
use Rattle.ad_rows.specs.Refusal as refused
use Rattle.ad_rows_write.specs.Rows.{HasBody, Shows, AreRowsOf, IsOnlyOf}
use Rattle.ad_rows.specs.Taking.{Parts, AreAll, HasBytes, no_parts, completed, with_rows, schema_among}
use Rattle.ad_rows.specs.Taking as taking
use Rattle.ad_rows.proofs.Codec.{IsStoredValue, IsKeptHeld, IsReadAs}
use Rattle.ad_rows.proofs.Complete.{reads_schema, reads_all}
use Rattle.ad_rows.proofs.Folding.{TakingSays, taking_says, split, form_there}
use Rattle.ad_rows.proofs.Gathered.{IsKeptObject, Gathers, gathers}
use Rattle.ad_rows.proofs.Growing.{rises, taken_rise}
use Rattle.ad_rows.proofs.Once.{one_directory, only_if}
use Rattle.ad_rows.proofs.Reread.{all_as}
use Rattle.ad_rows.proofs.Schemas.{knows, schema_there, schema_has}

-- ---- the directory that was read

by_bytes : (schema : List SchemaRecord) (attr : ℕ) (stored : Stored) → IsStoredValue (Some schema) attr stored
    → IsByBytes schema attr stored
by_bytes schema attr (plain value) kept = kept
by_bytes schema attr (link number) kept = kept

held_by_row : (schema : List SchemaRecord) (held : Held) → IsKeptHeld (Some schema) held → IsHeldByRow schema held
held_by_row schema held kept = record {
  some = kept.some;
  each = all_as (IsStoredValue (Some schema) held.attr)
      (IsByBytes schema held.attr) (by_bytes schema held.attr) held.values kept.each;
}

by_row : (schema : List SchemaRecord) (o : Object) → IsKeptObject (Some schema) o → IsByRow schema o
by_row schema o kept = record {
  rise = rises 0 o.values kept.0;
  each = all_as (IsKeptHeld (Some schema))
      (IsHeldByRow schema) (held_by_row schema) o.values kept.1;
}

shows_as : {A : Type 0} (P Q : A → List ℕ → Type 0) → ((x : A) (t : List ℕ) → P x t → Q x t)
    → (found : Option A) (stands : Option (List ℕ)) → Shows P found stands → Shows Q found stands
shows_as P Q so None stands shows = shows
shows_as P Q so (Some x) stands shows = (shows.0, shows.1, so x shows.0 shows.2)

nothing : (table : Table) (k n : ℕ) → AreRight table → ((body : List ℕ) → IsForm table k n body → ⊥) → table k n ≡ None
nothing table k n right not_of_form = by (table k n) refl
  where
    by : (stands : Option (List ℕ)) → table k n ≡ stands → table k n ≡ None
    by None is = is
    by (Some body) is = absurd (not_of_form body (form_there table k n body is (right k n)))

no_queue_form : (table : Table) (n : ℕ) (body : List ℕ) → 0 < n → IsForm table 2 n body → ⊥
no_queue_form table n body some (object_form kind _ _ _) = omega (arith, kind)
no_queue_form table n body some (queue_form kind number _ _) = omega (arith, number, some)
no_queue_form table n body some (meta_form kind _ _ _) = omega (arith, kind)
no_queue_form table n body some (record_form kind _ _ _) = omega (arith, kind)

no_meta_form : (table : Table) (n : ℕ) (body : List ℕ) → 0 < n → IsForm table 3 n body → ⊥
no_meta_form table n body some (object_form kind _ _ _) = omega (arith, kind)
no_meta_form table n body some (queue_form kind _ _ _) = omega (arith, kind)
no_meta_form table n body some (meta_form kind number _ _) = omega (arith, number, some)
no_meta_form table n body some (record_form kind _ _ _) = omega (arith, kind)

out_of : (k kind : ℕ) → (k ≡ 0) ⊎ (4 < k) → k ≡ kind → 0 < kind → kind < 5 → ⊥
out_of k kind (inl zero_is) is some few = omega (arith, zero_is, is, some)
out_of k kind (inr more) is some few = omega (arith, more, is, few)

no_form : (table : Table) (k n : ℕ) (body : List ℕ) → (k ≡ 0) ⊎ (4 < k) → IsForm table k n body → ⊥
no_form table k n body out (object_form kind _ _ _) = out_of k 1 out kind (omega arith) (omega arith)
no_form table k n body out (queue_form kind _ _ _) = out_of k 2 out kind (omega arith) (omega arith)
no_form table k n body out (meta_form kind _ _ _) = out_of k 3 out kind (omega arith) (omega arith)
no_form table k n body out (record_form kind _ _ _) = out_of k 4 out kind (omega arith) (omega arith)

module _ (all : List Row) (parts : Parts) (listed : AreListed all) (bytes : AllByRecursion HasBytes all)
    (taken : with_rows (schema_among all) no_parts all ≡ Ok parts) where
  -- the directory of the parts is the one that the rows make
  made : (dir : Directory) → schema_among all ≡ Some dir.schema → AreAll dir parts → Rise parts.objects
      → AreRight (table_of all) → IsMade (table_of all) dir
  made dir is whole rise right =
      let table = table_of all in
      let has = schema_has all dir.schema listed bytes is in
      let g : Gathers (schema_among all) no_parts all parts = gathers (schema_among all) all no_parts parts listed
      bytes taken in
      let objects : g.more ≡ dir.objects = sym g.objects ∙ whole.objects in
      let kept : AllByRecursion (IsKeptObject (Some dir.schema)) dir.objects
      = subst (λ (s : Option (List SchemaRecord)). AllByRecursion (IsKeptObject s) dir.objects) is
      (subst (AllByRecursion (IsKeptObject (schema_among all))) objects g.kept) in
      record {
        rows = record {
          objects = λ n. subst (λ (os : List Object). Shows SpellsObject (object_of os n) (table 1 n)) objects
              (shows_as (IsReadAs (schema_among all) n) SpellsObject (λ o t read. read.spelled) (object_of g.more n)
              (table 1 n) (g.shows n));
          queue = stood SpellsQueue dir.pending (table 2 0) (g.queue dir.pending whole.pending);
          meta = stood SpellsMeta dir.meta (table 3 0) (g.meta dir.meta whole.meta);
          schema = has.rows;
          no_queue = λ n some. nothing table 2 n right (λ body. no_queue_form table n body some);
          no_meta = λ n some. nothing table 3 n right (λ body. no_meta_form table n body some);
          no_kind = λ k n out. nothing table k n right (λ body. no_form table k n body out);
        };
        schema = has.makes;
        rise = subst Rise whole.objects rise;
        objects = all_as (IsKeptObject (Some dir.schema)) (IsByRow dir.schema) (by_row dir.schema) dir.objects kept;
      }
    where
      stood : {A : Type 0} (Spells : A → List ℕ → Type 0) (x : A) (stands : Option (List ℕ)) → (None ≡ Some x)
          ⊎ HasBody (Spells x) stands → HasBody (Spells x) stands
      stood Spells x stands (inl never) = absurd (none-some x never)
      stood Spells x stands (inr has) = has

  -- what taking in says, where this is what came of it
  says : (end : Result Parts RowFault) → completed parts ≡ end → TakingSays (table_of all) end
  says end is =
      subst (TakingSays (table_of all)) (ap (λ (r : Result Parts RowFault). r >>= completed) taken ∙ is)
      (taking_says all (schema_among all) (knows all listed bytes) listed bytes)

  whole_is : (dir : Directory) → AreAll dir parts → completed parts ≡ Ok parts
  whole_is dir whole = (λ i. given (is_none (whole.pending i)) (is_none (whole.meta i)))
    where
      given : Bool → Bool → Result Parts RowFault
      given a b = if a then Err (row.Row 2 0) else if b then Err (row.Row 3 0) else Ok parts

  -- of a sound directory all was taken in
  sound_parts : (dir : Directory) → AreRowsOf dir (table_of all) → IsSound dir → (schema_among all ≡ Some dir.schema)
      × AreAll dir parts
  sound_parts dir of is =
      let schema = reads_schema dir all listed of is in
      let read = reads_all dir all listed of is in
      let same : with_rows (schema_among all) no_parts all ≡ Ok read.0
      = ap (λ (s : Option (List SchemaRecord)). with_rows s no_parts all) schema ∙ read.1 in
      (schema, subst (AreAll dir) (from_ok {E = RowFault} read.0 parts (sym same ∙ taken)) read.2)

  one_whole : (a b : Directory) → schema_among all ≡ Some a.schema → AreAll a parts → schema_among all ≡ Some b.schema
      → AreAll b parts → a ≡ b
  one_whole a b schema_a whole_a schema_b whole_b =
      let schema = same_Some a.schema b.schema (sym schema_a ∙ schema_b) in
      let objects : a.objects ≡ b.objects = sym whole_a.objects ∙ whole_b.objects in
      let pending = same_Some a.pending b.pending (sym whole_a.pending ∙ whole_b.pending) in
      let meta = same_Some a.meta b.meta (sym whole_a.meta ∙ whole_b.meta) in
      (λ i. record { schema = schema i; objects = objects i; pending = pending i; meta = meta i })

  pub answered : (result : Result Directory RowsFault) → IfSome (schema_among all) (λ s. Rise parts.objects)
      → IsAnswerOf (schema_among all) parts result → Answers (table_of all) result
  answered (Ok dir) rise is =
      let right : AreRight (table_of all) = says (Ok parts) (whole_is dir is.1) in (
        (made dir is.0 is.1 (subst (λ (s : Option (List SchemaRecord)). IfSome s (λ x. Rise parts.objects)) is.0 rise)
            right).rows,
        is.2,
        right,
      )
  answered (Err (rows.Row k n)) rise is = (
    λ dir of is_sound. let clash : Ok parts ≡ Err (row.Row k n) = sym (whole_is dir (sound_parts dir of is_sound).1)
        ∙ is in cc clash,
    says (Err (row.Row k n)) is,
  )
  answered (Err (rows.Unsound n)) rise is =
      let right : AreRight (table_of all) = says (Ok parts) is.0 in
      (none_for is.1, right, told_of right is.1)
    where
      none_for : IsToldOfParts (schema_among all) parts n → StandsForNone (table_of all)
      none_for (none empty zero_is) = λ dir of is_sound.
          absurd (none-some dir.schema (sym empty ∙ (sound_parts dir of is_sound).0))
      none_for (told other schema whole at) = λ dir of is_sound.
          let its = sound_parts dir of is_sound in
          never_told other n (subst IsSound (one_whole dir other its.0 its.1 schema whole) is_sound) at

      told_of : AreRight (table_of all) → IsToldOfParts (schema_among all) parts n → IsToldOf (table_of all) n
      told_of right (none empty zero_is) = no_schema zero_is
          (λ schema has. none-some schema (sym empty ∙ schema_there all schema listed has))
      told_of right (told dir schema whole at)
          = unsound dir (made dir schema whole
          (subst (λ (s : Option (List SchemaRecord)). IfSome s (λ x. Rise parts.objects)) schema rise) right) at
  answered (Err rows.Memory) rise is = tt

-- ---- in the words of the code

rise_of : (schema : Option (List SchemaRecord)) (bad : Option ℕ) (last : ℕ) (objects : List Object)
    → IfSome schema (λ s. AreTaken s bad last objects) → IfSome schema (λ s. Rise objects)
rise_of None bad last objects are = tt
rise_of (Some s) bad last objects are = taken_rise s bad last objects are

-- all rows were taken in
pub all_answered : (all : List Row) (parts : Parts) (schema copied : Option (List SchemaRecord)) (bad : Option ℕ)
    (last : ℕ) (result : Result Directory RowsFault) → AreListed all → AllByRecursion HasBytes all
    → schema ≡ schema_among all → copied ≡ schema_among all → with_rows copied no_parts all ≡ Ok parts
    → IfSome copied (λ s. AreTaken s bad last parts.objects) → IsAnswerOf schema parts result
    → Answers (table_of all) result
all_answered all parts schema copied bad last result listed bytes is copied_is taken are answer =
    answered all parts listed bytes (sym (ap (λ (s : Option (List SchemaRecord)). with_rows s no_parts all) copied_is)
    ∙ taken) result
    (rise_of (schema_among all) bad last parts.objects
    (subst (λ (s : Option (List SchemaRecord)). IfSome s (λ x. AreTaken x bad last parts.objects)) copied_is are))
    (subst (λ (s : Option (List SchemaRecord)). IsAnswerOf s parts result) is answer)

-- one wasn't
pub row_answered : (all : List Row) (copied : Option (List SchemaRecord)) (e : RowFault) → AreListed all
    → AllByRecursion HasBytes all → copied ≡ schema_among all
    → (taking.is_memory e ≡ false → with_rows copied no_parts all ≡ Err e) → IsRefusal (table_of all) (of_row e)
row_answered all copied row.Memory listed bytes is gave = tt
row_answered all copied (row.Row k n) listed bytes is gave =
    let gave_it : with_rows (schema_among all) no_parts all ≡ Err (row.Row k n)
    = sym (ap (λ (s : Option (List SchemaRecord)). with_rows s no_parts all) is) ∙ gave refl in (
      λ dir of is_sound.
          let read = reads_all dir all listed of is_sound in
          let same : with_rows (schema_among all) no_parts all ≡ Ok read.0
          = ap (λ (s : Option (List SchemaRecord)). with_rows s no_parts all)
          (reads_schema dir all listed of is_sound) ∙ read.1 in
          let clash : Ok read.0 ≡ Err (row.Row k n) = sym same ∙ gave_it in cc clash,
      subst (TakingSays (table_of all)) (ap (λ (r : Result Parts RowFault). r >>= completed) gave_it)
          (taking_says all (schema_among all) (knows all listed bytes) listed bytes),
    )

pub fault_of : (dir : Directory) (fault : SoundnessFault) → IsToldBy dir fault → IsFaultOf dir (of_soundness fault)
fault_of dir (sound.Unsound number) at = at
fault_of dir sound.Memory at = tt

pub judged_answer : (schema : Option (List SchemaRecord)) (dir : Directory) (parts : Parts)
    (result : Result Directory RowsFault) → schema ≡ Some dir.schema → AreAll dir parts
    → IfOk result (λ d. d ≡ dir) → IfOk result IsSound → IfErr result (IsFaultOf dir) → IsAnswerOf schema parts result
judged_answer schema dir parts (Ok d) is whole same sound_is fault_is
    = (
      is ∙ ap (λ (x : Directory). Some x.schema) (sym same),
      subst (λ (x : Directory). AreAll x parts) (sym same)
          whole,
      sound_is,
    )
judged_answer schema dir parts (Err (rows.Row k n)) is whole same sound_is fault_is = absurd fault_is
judged_answer schema dir parts (Err (rows.Unsound n)) is whole same sound_is fault_is
    = (whole_by parts dir.pending dir.meta whole.pending whole.meta, told dir is whole fault_is)
  where
    whole_by : (p : Parts) (pending : List Pending) (meta : Meta) → p.pending ≡ Some pending → p.meta ≡ Some meta
        → completed p ≡ Ok p
    whole_by p pending meta q m = rw (q, m) refl
judged_answer schema dir parts (Err rows.Memory) is whole same sound_is fault_is = tt

-- ---- what follows for who reads rows

module _ (table : Table) where
  rows_by : (r : Result Directory RowsFault) → Answers table r → IfOk r (λ dir. AreRowsOf dir table)
  rows_by (Ok dir) is = is.0
  rows_by (Err e) is = tt

  sound_by : (r : Result Directory RowsFault) → Answers table r → IfOk r IsSound
  sound_by (Ok dir) is = is.1
  sound_by (Err e) is = tt

  only_by : (r : Result Directory RowsFault) → Answers table r → IfOk r (IsOnlyOf table)
  only_by r is = only_if r table (rows_by r is) (sound_by r is)

  told_by : (r : Result Directory RowsFault) → Answers table r → IfErr r (IsRefusal table)
  told_by (Ok dir) is = tt
  told_by (Err e) is = is

  gives : (r : Result Directory RowsFault) → Answers table r → (dir : Directory) → AreRowsOf dir table → IsSound dir
      → GivesUnless refused.is_memory (λ (read : Directory). read) r (Ok dir)
  gives (Ok d) is dir of is_sound = ap (λ (x : Directory). Ok x) (one_directory dir d table is_sound is.1 of is.0)
  gives (Err (rows.Row k n)) is dir of is_sound = absurd (is.0 dir of is_sound)
  gives (Err (rows.Unsound n)) is dir of is_sound = absurd (is.0 dir of is_sound)
  gives (Err rows.Memory) is dir of is_sound = λ never. absurd cc

  one_least : (k n kt nt : ℕ) → IsLeastBad table k n → IsLeastBad table kt nt → (k ≡ kt) × (n ≡ nt)
  one_least k n kt nt a b = elim (split k n kt nt) [
    | inl sooner ↦ absurd (a.bad (b.before k n sooner))
    | inr other ↦ elim other [
      | inl at ↦ (sym at.0, sym at.1)
      | inr later ↦ absurd (b.bad (a.before kt nt (elim later [
        | inl less ↦ inl less
        | inr level ↦ inr (level.0, let more = level.1 in omega (arith, more))
      ])))
    ]
  ]

  row_by : (r : Result Directory RowsFault) → Answers table r → (k n : ℕ) → IsLeastBad table k n
      → GivesUnless refused.is_memory (λ (read : Directory). read) r (Err (rows.Row k n))
  row_by (Ok d) is k n least = absurd (least.bad (is.2 k n))
  row_by (Err (rows.Row kt nt)) is k n least = λ _. let same = one_least k n kt nt least is.1
      in (λ i. Err (rows.Row (same.0 i) (same.1 i)))
  row_by (Err (rows.Unsound m)) is k n least = absurd (least.bad (is.1 k n))
  row_by (Err rows.Memory) is k n least = λ never. absurd cc

  unsound_by : (r : Result Directory RowsFault) → Answers table r → AreRight table → StandsForNone table → IsUnsound r
  unsound_by (Ok d) is right never = absurd (never d is.0 is.1)
  unsound_by (Err (rows.Row k n)) is right never = absurd (is.1.bad (right k n))
  unsound_by (Err (rows.Unsound m)) is right never = tt
  unsound_by (Err rows.Memory) is right never = tt

  -- what is answered is what is said of a reading
  pub read_so : (r : Result Directory RowsFault) → Answers table r → IsReading table r
  read_so r is = record {
    rows = rows_by r is;
    sound = sound_by r is;
    only = only_by r is;
    told
        = told_by r is;
    complete = gives r is;
    row = row_by r is;
    unsound = unsound_by r is;
  }

  pub refused_so : (fault : RowFault) (e : RowsFault) (r : Result Directory RowsFault) → r ≡ Err e → e ≡ of_row fault
      → IsRefusal table (of_row fault) → IsReading table r
  refused_so fault e r is e_is refusal = read_so r
      (subst (Answers table) (sym (is ∙ ap (λ (f : RowsFault). Err f) e_is)) refusal)
