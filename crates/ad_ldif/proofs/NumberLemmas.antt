-- The line of a fault is a line of the text.
use Rattle.std.proofs.Common.{◌≡◌, ℕ, ◌+◌, ◌<◌, ◌≤◌, Bool, true, false, ◌&&◌, cond, List, [], ◌∷◌, ◌++◌, length, Some}
use Rattle.std.proofs.Common.{Result, Ok, Err, subst, arith}
use Rattle.std.specs.List.{AllByRecursion}
use Rattle.ad_bytes.specs.Reading.{◌>>=◌, need, fault_as}
use Rattle.ad_ldif.specs.declared.fault.LdifKind.{LdifKind}
use Rattle.ad_ldif.specs.Fields.{name_of}
use Rattle.ad_ldif.specs.Lines.{Line, Block, begins_with, is_empty, physical, continuation, logical, lines_from}
use Rattle.ad_ldif.specs.Lines.{lines_before_empty, blocks}
use Rattle.ad_ldif.specs.Records.{Field, Entry, Fault, fault, name_at, value_at, short_value_at, value_is, is_fixed}
use Rattle.ad_ldif.specs.Records.{dn_at, field_at, behind_line, from_dn, fields_of, fields_behind, opening_of}
use Rattle.ad_ldif.specs.Records.{body_of, record_of}
use Rattle.ad_ldif.specs.Story.{Story, IsLineOf, told, story_of, story}

-- ---- the numbers of the lines and of their records

abbrev AllLines : (ℕ → Type 0) → List Line → Type 0
AllLines P lines = AllByRecursion (λ (line : Line). P line.number) lines

abbrev InBlock : (ℕ → Type 0) → Block → Type 0
InBlock P block = P block.first.number × AllLines P block.others

all_cond : {A : Type 0} (Q : A → Type 0) (b : Bool) (xs ys : List A) → AllByRecursion Q xs → AllByRecursion Q ys
    → AllByRecursion Q (cond b xs ys)
all_cond Q true xs ys x y = x
all_cond Q false xs ys x y = y

-- the numbers rise by one with each physical line
numbered : (P : ℕ → Type 0) (open_line : Bool) (n : ℕ) (lines : List (List ℕ))
    → ((k : ℕ) → n ≤ k → k < n + length lines → P k) → AllLines P (logical open_line n lines)
unfolding logical
numbered P open_line n [] all = tt
numbered P open_line n (line ∷ lines) all =
    let here : P n = all n (omega arith) (omega arith) in
    let rest : (k : ℕ) → n + 1 ≤ k → k < n + 1 + length lines → P k = λ k low high. all k (omega (arith, low))
    (omega (arith, high)) in
    let Q : Line → Type 0 = λ (l : Line). P l.number in
    let closed : AllLines P (record { number = n; text = [] } ∷ logical false (n + 1) lines)
    = (here, numbered P false (n + 1) lines rest) in
    let opened : AllLines P (record { number = n; text = line ++ continuation lines } ∷ logical true (n + 1) lines)
    = (here, numbered P true (n + 1) lines rest) in
    let passed : AllLines P (logical true (n + 1) lines) = numbered P true (n + 1) lines rest in
    let behind : List Line = logical true (n + 1) lines in
    let empty : List Line = record { number = n; text = [] } ∷ logical false (n + 1) lines in
    let text : List Line = record { number = n; text = line ++ continuation lines } ∷ behind in
    all_cond Q (open_line && begins_with 32 line) behind
    (cond (begins_with 35 line) behind (cond (is_empty line) empty text)) passed
    (all_cond Q (begins_with 35 line) behind (cond (is_empty line) empty text) passed
    (all_cond Q (is_empty line) empty text closed opened))

before_empty : (P : ℕ → Type 0) (lines : List Line) → AllLines P lines → AllLines P (lines_before_empty lines)
unfolding lines_before_empty
before_empty P [] all = tt
before_empty P (line ∷ lines) all =
    let none : AllLines P [] = tt in
    let more : AllLines P (line ∷ lines_before_empty lines) = (all.0, before_empty P lines all.1) in
    all_cond (λ (l : Line). P l.number) (is_empty line.text) [] (line ∷ lines_before_empty lines) none more

in_blocks : (P : ℕ → Type 0) (inside : Bool) (lines : List Line) → AllLines P lines → AllByRecursion (InBlock P)
    (blocks inside lines)
unfolding blocks
in_blocks P inside [] all = tt
in_blocks P inside (line ∷ lines) all =
    let begun : AllByRecursion (InBlock P) (record { first = line; others = lines_before_empty lines }
    ∷ blocks true lines) = ((all.0, before_empty P lines all.1), in_blocks P true lines all.1) in
    let ended : AllByRecursion (InBlock P) (blocks false lines) = in_blocks P false lines all.1 in
    let passed : AllByRecursion (InBlock P) (blocks true lines) = in_blocks P true lines all.1 in
    let first : Block = record { first = line; others = lines_before_empty lines } in
    all_cond (InBlock P) (is_empty line.text) (blocks false lines)
    (cond inside (blocks true lines) (first ∷ blocks true lines)) ended
    (all_cond (InBlock P) inside (blocks true lines) (first ∷ blocks true lines) passed begun)

-- ---- the lines of faults

abbrev each_of : {A : Type 0} → (A → Type 0) → (ℕ → Type 0) → Result A Fault → Type 0
each_of G P (Ok x) = G x
each_of G P (Err f) = P f.line

-- what is read is such, and a fault's line is such
record Each {A : Type 0} (G : A → Type 0) (P : ℕ → Type 0) (read : Result A Fault) : Type 0 where
  holds : each_of G P read

-- a fault's line is such
record Stops {A : Type 0} (P : ℕ → Type 0) (read : Result A Fault) : Type 0 where
  stops : each_of (λ (x : A). Unit {0}) P read

-- a step, and what comes after it
then_stops : {A B : Type 0} (P : ℕ → Type 0) (read : Result A Fault) (next : A → Result B Fault) → Stops P read
    → ((x : A) → Stops P (next x)) → Stops P (read >>= next)
then_stops P (Ok x) next first then = then x
then_stops P (Err f) next first then = record { stops = first.stops }

then_each : {A B : Type 0} (H : B → Type 0) (P : ℕ → Type 0) (read : Result A Fault) (next : A → Result B Fault)
    → Stops P read → ((x : A) → Each H P (next x)) → Each H P (read >>= next)
then_each H P (Ok x) next first then = then x
then_each H P (Err f) next first then = record { holds = first.stops }

from_each : {A B : Type 0} (G : A → Type 0) (P : ℕ → Type 0) (read : Result A Fault) (next : A → Result B Fault)
    → Each G P read → ((x : A) → G x → Stops P (next x)) → Stops P (read >>= next)
from_each G P (Ok x) next first then = then x first.holds
from_each G P (Err f) next first then = record { stops = first.holds }

read_ok : {A : Type 0} (P : ℕ → Type 0) (x : A) → Stops P (Ok x)
read_ok P x = record { stops = tt }

read_err : {A : Type 0} (P : ℕ → Type 0) (n : ℕ) (k : LdifKind) → P n → Stops {A = A} P (Err (fault n k))
read_err P n k p = record { stops = p }

stops_cond : {A : Type 0} (P : ℕ → Type 0) (b : Bool) (x y : Result A Fault) → Stops P x → Stops P y
    → Stops P (cond b x y)
stops_cond P true x y p q = p
stops_cond P false x y p q = q

each_cond : {A : Type 0} (G : A → Type 0) (P : ℕ → Type 0) (b : Bool) (x y : Result A Fault) → Each G P x → Each G P y
    → Each G P (cond b x y)
each_cond G P true x y p q = p
each_cond G P false x y p q = q

stops_need : (P : ℕ → Type 0) (b : Bool) (n : ℕ) (k : LdifKind) → P n → Stops P (need b (fault n k))
stops_need P true n k p = record { stops = tt }
stops_need P false n k p = record { stops = p }

stops_fault_as : {A : Type 0} (P : ℕ → Type 0) (n : ℕ) (read : Result A LdifKind) → P n
    → Stops P (fault_as (fault n) read)
stops_fault_as P n (Ok x) p = record { stops = tt }
stops_fault_as P n (Err k) p = record { stops = p }

name_line : (P : ℕ → Type 0) (line : Line) → P line.number → Stops P (name_at line)
unfolding name_at
name_line P line p = stops_cond P _ _ _ (read_ok P (name_of line.text)) (read_err P line.number _ p)

value_line : (P : ℕ → Type 0) (n : ℕ) (behind : List ℕ) → P n → Stops P (value_at n behind)
unfolding value_at
value_line P n behind p = stops_fault_as P n _ p

short_value_line : (P : ℕ → Type 0) (n : ℕ) (behind : List ℕ) → P n → Stops P (short_value_at n behind)
unfolding short_value_at
short_value_line P n behind p = then_stops P (value_at n behind) _ (value_line P n behind p)
    (λ value. then_stops P _ _ (stops_need P _ n _ p) (λ _. read_ok P value))

value_is_line : (P : ℕ → Type 0) (value : List ℕ) (other : LdifKind) (n : ℕ) (behind : List ℕ) → P n
    → Stops P (value_is value other n behind)
unfolding value_is
value_is_line P value other n behind p = then_stops P (value_at n behind) _ (value_line P n behind p)
    (λ given. then_stops P _ _ (stops_need P _ n _ p) (λ _. read_ok P true))

fixed_line : (P : ℕ → Type 0) (name value : List ℕ) (other : LdifKind) (line : Line) → P line.number
    → Stops P (is_fixed name value other line)
unfolding is_fixed
fixed_line P name value other line p = then_stops P (name_at line) _ (name_line P line p)
    (λ found. stops_cond P _ _ _ (value_is_line P value other line.number _ p) (read_ok P false))

dn_line : (P : ℕ → Type 0) (line : Line) → P line.number → Stops P (dn_at line)
unfolding dn_at
dn_line P line p = then_stops P (name_at line) _ (name_line P line p)
    (λ name. then_stops P _ _ (stops_need P _ line.number _ p) (λ _. short_value_line P line.number _ p))

field_line : (P : ℕ → Type 0) (line : Line) → P line.number → Stops P (field_at line)
unfolding field_at
field_line P line p = then_stops P (name_at line) _ (name_line P line p)
    (λ name. then_stops P _ _ (short_value_line P line.number _ p) (λ value. read_ok P _))

fields_lines : (P : ℕ → Type 0) (lines : List Line) → AllLines P lines → Stops P (fields_of lines)
unfolding fields_of
fields_lines P [] all = read_ok P []
fields_lines P (line ∷ lines) all = then_stops P (field_at line) _ (field_line P line all.0)
    (λ field. then_stops P (fields_of lines) _ (fields_lines P lines all.1) (λ fields. read_ok P (field ∷ fields)))

opening_line : (P : ℕ → Type 0) (line : Line) → P line.number → Stops P (opening_of line)
unfolding opening_of
opening_line P line p = then_stops P _ _ (fixed_line P _ _ _ line p)
    (λ changetype. stops_cond P _ _ _ (read_ok P [])
    (then_stops P (field_at line) _ (field_line P line p) (λ field. read_ok P (field ∷ []))))

behind_fields : (P : ℕ → Type 0) (front : List Field) (lines : List Line) → AllLines P lines
    → Stops P (fields_behind front lines)
unfolding fields_behind
behind_fields P front lines all = then_stops P (fields_of lines) _ (fields_lines P lines all) (λ fields. read_ok P _)

body_lines : (P : ℕ → Type 0) (lines : List Line) → AllLines P lines → Stops P (body_of lines)
unfolding body_of
body_lines P [] all = read_ok P []
body_lines P (line ∷ lines) all = then_stops P (opening_of line) _ (opening_line P line all.0)
    (λ front. behind_fields P front lines all.1)

behind_lines : (P : ℕ → Type 0) (line : Line) (lines : List Line) → P line.number → AllLines P lines
    → Each (InBlock P) P (behind_line line lines)
behind_lines P line [] p all = record { holds = p }
behind_lines P line (next ∷ lines) p all = record { holds = all }

from_dn_lines : (P : ℕ → Type 0) (first : Line) (others : List Line) → P first.number → AllLines P others
    → Each (InBlock P) P (from_dn first others)
unfolding from_dn
from_dn_lines P first others p all =
    let whole : Each (InBlock P) P (Ok (record { first = first; others = others })) = record { holds = (p, all) } in
    then_each (InBlock P) P _ _ (fixed_line P _ _ _ first p)
    (λ version. each_cond (InBlock P) P _ _ _ (behind_lines P first others p all) whole)

record_lines : (P : ℕ → Type 0) (block : Block) → InBlock P block → Stops P (record_of block)
unfolding record_of
record_lines P block all =
    from_each (InBlock P) P (from_dn block.first block.others) _ (from_dn_lines P block.first block.others all.0 all.1)
    (λ head in_head. then_stops P (dn_at head.first) _ (dn_line P head.first in_head.0)
    (λ dn. then_stops P (body_of head.others) _ (body_lines P head.others in_head.1) (λ fields. read_ok P _)))

-- ---- the story

told_line : (P : ℕ → Type 0) (read : Result Entry Fault) (others : Story) (f : Fault) → Stops P read
    → ((g : Fault) → others.stop ≡ Some g → P g.line) → (told read others).stop ≡ Some f → P f.line
told_line P (Ok entry) others f here behind e = behind f e
told_line P (Err g) others f here behind e = let same : g ≡ f = cc in subst (λ (h : Fault). P h.line) same here.stops

story_lines : (P : ℕ → Type 0) (all : List Block) → AllByRecursion (InBlock P) all → (f : Fault) → (story_of all).stop
    ≡ Some f → P f.line
unfolding story_of
story_lines P [] in_all f e = absurd cc
story_lines P (block ∷ others) in_all f e = told_line P (record_of block) (story_of others) f
    (record_lines P block in_all.0) (story_lines P others in_all.1) e

-- the fault of a text names a line of it
pub stops_within : (text : List ℕ) (f : Fault) → (story text).stop ≡ Some f → IsLineOf text f
unfolding story lines_from
stops_within text f e =
    story_lines (λ k. (0 < k) × (k ≤ length (physical text))) _
    (in_blocks _ false _ (numbered _ false 1 (physical text)
    (λ k low high. (omega (arith, low), omega (arith, high))))) f e
