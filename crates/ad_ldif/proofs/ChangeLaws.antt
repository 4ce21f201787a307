-- What is true of the change records of every text.
use Rattle.std.proofs.Common.{◌≡◌, ℕ, suc, ◌+◌, ◌≤◌, ◌==◌, ◌&&◌, Bool, true, false, List, [], ◌∷◌, ◌++◌, length}
use Rattle.std.proofs.Common.{Option, Some, None, Result, Ok, Err, IfOk, if◌then◌else◌, arith}
use Rattle.std.specs.Prelude.{codes}
use Rattle.std.specs.List.{AllByRecursion}
use Rattle.ad_bytes.specs.Reading.{◌>>=◌}
use Rattle.ad_ldif.specs.declared.change.LdifItem.{LdifItem}
use Rattle.ad_ldif.specs.declared.change_lines.ChangeType.{ChangeType}
use Rattle.ad_ldif.specs.declared.change_lines.ChangeType.TheVariants as type
use Rattle.ad_ldif.specs.declared.fault.LdifKind.TheVariants as kind
use Rattle.ad_ldif.specs.Fields.{behind_colon}
use Rattle.ad_ldif.specs.Lines.{Line, Block, begins_with, is_empty, lengthened, physical, logical, lines_from}
use Rattle.ad_ldif.specs.Lines.{lines_before_empty, continuation, blocks}
use Rattle.ad_ldif.specs.Records.{Fault, fault, name_at, from_dn, dn_at}
use Rattle.ad_ldif.specs.Change.{Op, Adds, Deletes, Renames, Modifies, Change}
use Rattle.ad_ldif.specs.ChangeLines.{ok_or, op_of, attribute_at, item_at, value_in, flag_in, ends_item}
use Rattle.ad_ldif.specs.Changing.{Opened, Begun, Led, next_of, opened_behind, with_value, added, ended, superior_of}
use Rattle.ad_ldif.specs.Changing.{items_from, item_and, items_behind, renamed, op_from, change_of}
use Rattle.ad_ldif.specs.Changes.{Changes, changed, changes_in, changes}
use Rattle.ad_ldif.specs.Ranges.{HasOps, HasItemOps}

-- ---- what a reading gives, if it gives anything

by_test : {A : Type 0} (P : A → Type 0) (test : Bool) (a b : Result A Fault) → IfOk a P → IfOk b P
    → IfOk (if test then a else b) P
by_test P true a b p q = p
by_test P false a b p q = q

by_step : {A B : Type 0} (P : B → Type 0) (read : Result A Fault) (next : A → Result B Fault)
    → ((x : A) → IfOk (next x) P) → IfOk (read >>= next) P
by_step P (Ok x) next h = h x
by_step P (Err e) next h = tt

by_known : {A B : Type 0} (Q : A → Type 0) (P : B → Type 0) (read : Result A Fault) (next : A → Result B Fault)
    → IfOk read Q → ((x : A) → Q x → IfOk (next x) P) → IfOk (read >>= next) P
by_known Q P (Ok x) next q h = h x q
by_known Q P (Err e) next q h = tt

-- ---- the ops of items

among : (a b c : Bool) (f : Fault) → IfOk
    (ok_or f (if a then Some 0 else (if b then Some 1 else (if c then Some 2 else None)))) (λ op. op ≤ 2)
among true b c f = omega arith
among false true c f = omega arith
among false false true f = omega arith
among false false false f = tt

op_is : (name : List ℕ) (f : Fault) → IfOk (ok_or f (op_of name)) (λ op. op ≤ 2)
unfolding op_of
op_is name f = among _ _ _ f

abbrev HasOp : LdifItem → Type 0
HasOp item = item.op ≤ 2

item_op : (line : Line) → IfOk (item_at line) HasOp
unfolding item_at
item_op line =
    let attribute : ℕ → Result LdifItem Fault = λ op. attribute_at line.number (behind_colon line.text) >>= λ name.
    Ok (record { op = op; name = name; values = [] }) in
    by_step HasOp (name_at line) (λ name. ok_or (fault line.number kind.Line) (op_of name) >>= attribute) (λ name.
    by_known (λ (op : ℕ). op ≤ 2) HasOp (ok_or (fault line.number kind.Line) (op_of name)) attribute
    (op_is name (fault line.number kind.Line)) (λ op is.
    by_step HasOp (attribute_at line.number (behind_colon line.text))
    (λ name. Ok (record { op = op; name = name; values = [] })) (λ name. is)))

abbrev BegunOp : Option Begun → Type 0
BegunOp None = Unit {0}
BegunOp (Some begun) = begun.item.op ≤ 2

abbrev Ops : List LdifItem → Type 0
Ops items = AllByRecursion (λ item. item.op ≤ 2) items

and_ops : (item : LdifItem) (others : Result (List LdifItem) Fault) → item.op ≤ 2 → IfOk others Ops
    → IfOk (item_and item others) Ops
and_ops item (Ok items) is h = (is, h)
and_ops item (Err e) is h = tt

items_ops : (begun : Option Begun) (lines : List Line) → BegunOp begun → IfOk (items_from begun lines) Ops
unfolding items_from
items_ops None [] h = tt
items_ops (Some begun) [] h = tt
items_ops None (line ∷ lines) h = by_known HasOp Ops (item_at line)
    (λ item. items_from (Some (record { item = item; line = line.number })) lines) (item_op line)
    (λ item is. items_ops (Some (record { item = item; line = line.number })) lines is)
items_ops (Some begun) (line ∷ lines) h =
    let next : List ℕ → Result (List LdifItem) Fault = λ value.
    items_from (Some (record { item = with_value begun.item value; line = line.number })) lines in
    by_test Ops (ends_item line) (item_and begun.item (items_from None lines))
    (value_in begun.item.name line >>= next)
    (and_ops begun.item (items_from None lines) h (items_ops None lines tt))
    (by_step Ops (value_in begun.item.name line) next
    (λ value. items_ops (Some (record { item = with_value begun.item value; line = line.number })) lines h))

behind_ops : (lines : List Line) → IfOk (items_behind [] lines) Ops
unfolding items_behind
behind_ops lines = by_known Ops Ops (items_from None lines) (λ items. Ok ([] ++ items)) (items_ops None lines tt)
    (λ items is. is)

superior_ops : (rdn : List ℕ) (old : Bool) (lines : List Line)
    → IfOk (superior_of lines >>= λ superior. Ok (Renames rdn old superior)) HasOps
superior_ops rdn old lines = by_step HasOps (superior_of lines) (λ superior. Ok (Renames rdn old superior))
    (λ superior. tt)

renamed_ops : (n : ℕ) (lines : List Line) → IfOk (renamed n lines) HasOps
unfolding renamed
renamed_ops n lines =
    let old : Led (List ℕ) → Result Op Fault = λ rdn. next_of (flag_in (codes "deleteoldrdn")) rdn.line rdn.others
    >>= λ old. superior_of old.others >>= λ superior. Ok (Renames rdn.value old.value superior) in
    by_step HasOps (next_of (value_in (codes "newrdn")) n lines) old (λ rdn.
    by_step HasOps (next_of (flag_in (codes "deleteoldrdn")) rdn.line rdn.others)
    (λ old. superior_of old.others >>= λ superior. Ok (Renames rdn.value old.value superior))
    (λ old. superior_ops rdn.value old.value old.others))

op_ops : (t : ChangeType) (n : ℕ) (lines : List Line) → IfOk (op_from t n lines) HasOps
unfolding op_from
op_ops type.Add n lines = by_step HasOps (added n lines) (λ fields. Ok (Adds fields)) (λ fields. tt)
op_ops type.Delete n lines = by_step HasOps (ended lines) (λ u. Ok Deletes) (λ u. tt)
op_ops type.Rename n lines = renamed_ops n lines
op_ops type.Modify n lines = by_known Ops HasOps (items_behind [] lines) (λ items. Ok (Modifies items))
    (behind_ops lines) (λ items is. is)

change_ops : (block : Block) → IfOk (change_of block) HasItemOps
unfolding change_of
change_ops block =
    let whole : ℕ → List ℕ → Opened → Op → Result Change Fault = λ line dn opened op.
    Ok (record { line = line; dn = dn; controls = opened.controls; op = op }) in
    let body : ℕ → List ℕ → Opened → Result Change Fault = λ line dn opened. op_from opened.type opened.line
    opened.others >>= whole line dn opened in
    let rest : Block → List ℕ → Result Change Fault = λ head dn. opened_behind [] head.first.number head.others
    >>= body head.first.number dn in
    by_step HasItemOps (from_dn block.first block.others) (λ head. dn_at head.first >>= rest head) (λ head.
    by_step HasItemOps (dn_at head.first) (rest head) (λ dn.
    by_step HasItemOps (opened_behind [] head.first.number head.others) (body head.first.number dn) (λ opened.
    by_known HasOps HasItemOps (op_from opened.type opened.line opened.others) (whole head.first.number dn opened)
    (op_ops opened.type opened.line opened.others) (λ op is. is))))

changed_ops : (read : Result Change Fault) (others : Changes) → IfOk read HasItemOps → AllByRecursion HasItemOps
    others.changes → AllByRecursion HasItemOps (changed read others).changes
changed_ops (Ok c) others is h = (is, h)
changed_ops (Err f) others is h = tt

all_ops : (bs : List Block) → AllByRecursion HasItemOps (changes_in bs).changes
unfolding changes_in
all_ops [] = tt
all_ops (block ∷ bs) = changed_ops (change_of block) (changes_in bs) (change_ops block) (all_ops bs)

pub changes_ops : (text : List ℕ) → AllByRecursion HasItemOps (changes text).changes
unfolding changes
changes_ops text = all_ops (blocks false (lines_from 1 text))

-- ---- how many there are

changed_few : (read : Result Change Fault) (others : Changes) (n : ℕ) → length others.changes ≤ n
    → length (changed read others).changes ≤ suc n
changed_few (Ok c) others n h = omega (arith, h)
changed_few (Err f) others n h = omega arith

told_few : (bs : List Block) → length (changes_in bs).changes ≤ length bs
unfolding changes_in
told_few [] = omega arith
told_few (block ∷ bs) = changed_few (change_of block) (changes_in bs) (length bs) (told_few bs)

block_more : (empty inside : Bool) (a b : List Block) (x : Block) (n : ℕ) → length a ≤ n → length b ≤ n
    → length (if empty then a else (if inside then b else x ∷ b)) ≤ suc n
block_more true inside a b x n h i = omega (arith, h)
block_more false true a b x n h i = omega (arith, i)
block_more false false a b x n h i = omega (arith, i)

blocks_few : (inside : Bool) (lines : List Line) → length (blocks inside lines) ≤ length lines
unfolding blocks
blocks_few inside [] = omega arith
blocks_few inside (line ∷ lines) = block_more (is_empty line.text) inside (blocks false lines) (blocks true lines) _
    (length lines) (blocks_few false lines) (blocks_few true lines)

line_more : (goes comment empty : Bool) (a b : List Line) (x y : Line) (n : ℕ) → length a ≤ n → length b ≤ n
    → length (if goes then a else (if comment then a else (if empty then x ∷ b else y ∷ a))) ≤ suc n
line_more true comment empty a b x y n h i = omega (arith, h)
line_more false true empty a b x y n h i = omega (arith, h)
line_more false false true a b x y n h i = omega (arith, i)
line_more false false false a b x y n h i = omega (arith, h)

logical_few : (goes : Bool) (n : ℕ) (lines : List (List ℕ)) → length (logical goes n lines) ≤ length lines
unfolding logical
logical_few goes n [] = omega arith
logical_few goes n (line ∷ lines) =
    line_more (goes && begins_with 32 line) (begins_with 35 line) (is_empty line) (logical true (n + 1) lines)
    (logical false (n + 1) lines) _ _ (length lines) (logical_few true (n + 1) lines)
    (logical_few false (n + 1) lines)

lengthened_few : (b : ℕ) (lines : List (List ℕ)) (n : ℕ) → length lines ≤ n → length (lengthened b lines) ≤ suc n
lengthened_few b [] n h = omega arith
lengthened_few b (line ∷ lines) n h = omega (arith, h)

physical_more : (cr lf : Bool) (b : ℕ) (lines : List (List ℕ)) (n : ℕ) → length lines ≤ n
    → length (if cr then lines else (if lf then [] ∷ lines else lengthened b lines)) ≤ suc n
physical_more true lf b lines n h = omega (arith, h)
physical_more false true b lines n h = omega (arith, h)
physical_more false false b lines n h = lengthened_few b lines n h

physical_few : (text : List ℕ) → length (physical text) ≤ length text
unfolding physical
physical_few [] = omega arith
physical_few (b ∷ rest) = physical_more (b == 13 && begins_with 10 rest) (b == 10) b (physical rest) (length rest)
    (physical_few rest)

pub changes_few : (text : List ℕ) → length (changes text).changes ≤ length text
unfolding changes lines_from
changes_few text = omega (
  arith,
  told_few (blocks false (lines_from 1 text)),
  blocks_few false (lines_from 1 text),
  logical_few false 1 (physical text),
  physical_few text,
)
