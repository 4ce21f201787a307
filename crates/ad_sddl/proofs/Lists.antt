-- Lists: what is read is encoded so, and what is encoded so is read.
use Rattle.std.proofs.Common.{Bool, true, false, ◌≡◌, inl, inr, ℕ, zero, suc, ◌+◌, ◌≤◌, List, [], ◌∷◌, ◌++◌, length}
use Rattle.std.proofs.Common.{drop, Option, Some, None, unwrap_or, if◌then◌else◌, Ok, codes, refl, sym, ap, subst}
use Rattle.std.proofs.Common.{◌∙◌, append_assoc, arith}
use Rattle.std.specs.Prelude.{◌||◌}
use Rattle.std.specs.List.{flat_map, list_any, AllByRecursion}
use Rattle.std.proofs.lemmas.List.{length-append}
use Rattle.ad_bytes.specs.Reading.{TakesFront, SpellsEach}
use Rattle.ad_bytes.proofs.Steps.{from_bind, from_ok}
use Rattle.ad_ids.specs.SidValue.{SidValue}
use Rattle.ad_acl.specs.Entry.{Entry}
use Rattle.ad_sd.specs.declared.parts.AceList.{AceList}
use Rattle.ad_sddl.specs.declared.fault.ParseError.{ParseError}
use Rattle.ad_sddl.specs.Words.{begins}
use Rattle.ad_sddl.specs.Grammar.{IsListFlag, is_p, same, SpellsEntry, SpellsList}
use Rattle.ad_sddl.specs.Reading.{if_given, list_flag_at, list_flags_at, all_flags, all_entries, list_at}
use Rattle.ad_sddl.proofs.Beginnings.{begins_one, begins_two}
use Rattle.ad_sddl.proofs.Entries.{entries_take, entries_again}

-- ---- flags

-- a flag at the beginning
record FlagIs (bytes : List ℕ) (p : Bool) (after : List ℕ) : Type 0 where
  flag : List ℕ
  is_one : IsListFlag flag
  is : is_p flag ≡ p
  parts : bytes ≡ flag ++ after

some_pair : (a b : Bool × List ℕ) → Some a ≡ Some b → a ≡ b
some_pair a b e = ap (λ (o : Option (Bool × List ℕ)). unwrap_or o a) e

some_length : (flag : List ℕ) → IsListFlag flag → 1 ≤ length flag
some_length flag (inl e) = omega (arith, ap length e)
some_length flag (inr (inl e)) = omega (arith, ap length e)
some_length flag (inr (inr e)) = omega (arith, ap length e)

flag_if : (p ar ai : Bool) (bytes : List ℕ) (found : Bool × List ℕ) → begins (codes "p") bytes ≡ p
    → begins (codes "ar") bytes ≡ ar → begins (codes "ai") bytes ≡ ai
    → (if p then Some (true, drop 1 bytes) else if ar || ai then Some (false, drop 2 bytes) else None) ≡ Some found
    → FlagIs bytes found.0 found.1
flag_if true ar ai bytes found hp har hai e =
    subst (λ (f : Bool × List ℕ). FlagIs bytes f.0 f.1) (some_pair (true, drop 1 bytes) found e)
    (record { flag = codes "p"; is_one = inl refl; is = refl; parts = begins_one 112 bytes hp })
flag_if false true ai bytes found hp har hai e =
    subst (λ (f : Bool × List ℕ). FlagIs bytes f.0 f.1) (some_pair (false, drop 2 bytes) found e)
    (record { flag = codes "ar"; is_one = inr (inl refl); is = refl; parts = begins_two 97 114 bytes har })
flag_if false false true bytes found hp har hai e =
    subst (λ (f : Bool × List ℕ). FlagIs bytes f.0 f.1) (some_pair (false, drop 2 bytes) found e)
    (record { flag = codes "ai"; is_one = inr (inr refl); is = refl; parts = begins_two 97 105 bytes hai })
flag_if false false false bytes found hp har hai e = absurd cc

flag_takes : (bytes : List ℕ) (found : Bool × List ℕ) → list_flag_at bytes ≡ Some found → FlagIs bytes found.0 found.1
unfolding list_flag_at
flag_takes bytes found e = flag_if (begins (codes "p") bytes) (begins (codes "ar") bytes) (begins (codes "ai") bytes)
    bytes found refl refl refl e

flag_again : (flag : List ℕ) (rest : List ℕ) → IsListFlag flag → list_flag_at (flag ++ rest) ≡ Some (is_p flag, rest)
unfolding list_flag_at begins
flag_again flag rest (inl e) = ap (λ (f : List ℕ). list_flag_at (f ++ rest)) e
    ∙ ap (λ (f : List ℕ). Some (is_p f, rest)) (sym e)
flag_again flag rest (inr (inl e)) = ap (λ (f : List ℕ). list_flag_at (f ++ rest)) e
    ∙ ap (λ (f : List ℕ). Some (is_p f, rest)) (sym e)
flag_again flag rest (inr (inr e)) = ap (λ (f : List ℕ). list_flag_at (f ++ rest)) e
    ∙ ap (λ (f : List ℕ). Some (is_p f, rest)) (sym e)

-- flags at the beginning
record FlagsAre (before : Bool) (bytes : List ℕ) (protected : Bool) (rest : List ℕ) : Type 0 where
  given : List (List ℕ)
  each : AllByRecursion IsListFlag given
  protected_is : protected ≡ before || list_any is_p given
  parts : bytes ≡ flat_map same given ++ rest

or_assoc : (a b c : Bool) → (a || b) || c ≡ a || (b || c)
or_assoc true b c = refl
or_assoc false b c = refl

or_none : (a : Bool) → a ≡ a || false
or_none true = refl
or_none false = refl

flags_if : (n : ℕ) (before : Bool) (bytes : List ℕ) (o : Option (Bool × List ℕ)) → list_flag_at bytes ≡ o
    → ((b : Bool) (after : List ℕ) → FlagsAre b after (list_flags_at n b after).0 (list_flags_at n b after).1)
    → let r = if_given (before, bytes) (λ flag. list_flags_at n (before || flag.0) flag.1) o
    in FlagsAre before bytes r.0 r.1
flags_if n before bytes None e others = record { given = []; each = tt; protected_is = or_none before; parts = refl }
flags_if n before bytes (Some flag) e others =
    let f = flag_takes bytes flag e in
    let g = others (before || flag.0) flag.1 in
    record {
      given = f.flag ∷ g.given;
      each = (f.is_one, g.each);
      protected_is = g.protected_is ∙ ap (λ (b : Bool). (before || b) || list_any is_p g.given) (sym f.is)
          ∙ or_assoc before (is_p f.flag) (list_any is_p g.given);
      parts = f.parts ∙ ap (λ (r : List ℕ). f.flag ++ r) g.parts ∙ sym (append_assoc f.flag (flat_map same g.given) _);
    }

flags_take : (n : ℕ) (before : Bool) (bytes : List ℕ) → FlagsAre before bytes (list_flags_at n before bytes).0
    (list_flags_at n before bytes).1
unfolding list_flags_at
flags_take zero before bytes = record { given = []; each = tt; protected_is = or_none before; parts = refl }
flags_take (suc n) before bytes = flags_if n before bytes (list_flag_at bytes) refl (flags_take n)

flags_again : (n : ℕ) (before : Bool) (given : List (List ℕ)) (rest : List ℕ) → AllByRecursion IsListFlag given
    → list_flag_at rest ≡ None → length (flat_map same given ++ rest) ≤ n
    → list_flags_at n before (flat_map same given ++ rest) ≡ (before || list_any is_p given, rest)
unfolding list_flags_at
flags_again zero before [] rest each other le = ap (λ (b : Bool). (b, rest)) (or_none before)
flags_again (suc n) before [] rest each other le = rw other (ap (λ (b : Bool). (b, rest)) (or_none before))
flags_again zero before (f ∷ given) rest each other le
    = absurd (omega (
      arith,
      le,
      some_length f each.0,
      length-append f (flat_map same given),
      length-append
          (f ++ flat_map same given) rest,
    ))
flags_again (suc n) before (f ∷ given) rest each other le =
    let parts : (f ++ flat_map same given) ++ rest ≡ f ++ (flat_map same given ++ rest)
    = append_assoc f (flat_map same given) rest in
    let lengths : length ((f ++ flat_map same given) ++ rest) ≡ length f + length (flat_map same given ++ rest)
    = ap length parts ∙ length-append f (flat_map same given ++ rest) in
    let shorter : length (flat_map same given ++ rest) ≤ n = omega (arith, le, some_length f each.0, lengths) in
    ap (list_flags_at (suc n) before) parts ∙ rw (flag_again f (flat_map same given ++ rest) each.0)
    (flags_again n (before || is_p f) given rest each.1 other shorter ∙ ap (λ (b : Bool). (b, rest))
    (or_assoc before (is_p f) (list_any is_p given)))

-- ---- lists

pub list_takes : (domain : Option SidValue) (bytes : List ℕ) (v : AceList) (rest : List ℕ) → list_at domain bytes
    ≡ Ok (v, rest) → TakesFront (SpellsList domain) bytes v rest
unfolding list_at
list_takes domain bytes v rest e =
    let f = flags_take (length bytes) false bytes in
    let behind = (all_flags bytes).1 in
    from_bind (all_entries domain behind) _ (v, rest) e
    (λ (entries : List Entry × List ℕ) (e1 : all_entries domain behind ≡ Ok entries) e2.
    let list : AceList = record { protected = (all_flags bytes).0; entries = entries.0 } in
    let t = entries_take domain (length behind) entries.0 behind entries.1 e1 in
    subst (λ (p : AceList × List ℕ). TakesFront (SpellsList domain) bytes p.0 p.1)
    (from_ok {E = ParseError} (list, entries.1) (v, rest) e2)
    (record {
      text = flat_map same f.given ++ t.text;
      parts = f.parts ∙ ap (λ (r : List ℕ). flat_map same f.given ++ r) t.parts
          ∙ sym (append_assoc (flat_map same f.given) t.text entries.1);
      spelled = record {
        flags = flat_map same f.given;
        entries = t.text;
        flags_are = record { given = f.given; each = f.each; protected_is = f.protected_is; parts = refl };
        entries_are = t.spelled;
        parts = refl;
      };
    }))

-- no flag and no entry begins here
pub record Follows (rest : List ℕ) : Type 0 where
  pub no_flag : list_flag_at rest ≡ None
  pub no_entry : begins (codes "(") rest ≡ false

-- no flag begins with an entry
behind_flags : (domain : Option SidValue) (es : List Entry) (text rest : List ℕ) → SpellsEach (SpellsEntry domain) es
    text → Follows rest → list_flag_at (text ++ rest) ≡ None
unfolding list_flag_at begins
behind_flags domain [] text rest s follows = ap (λ (t : List ℕ). list_flag_at (t ++ rest)) s ∙ follows.no_flag
behind_flags domain (x ∷ es) text rest s follows = ap (λ (t : List ℕ). list_flag_at (t ++ rest))
    (s.parts ∙ ap (λ (t : List ℕ). t ++ s.behind) s.spelled.parts) ∙ refl

pub list_again : (domain : Option SidValue) (v : AceList) (text rest : List ℕ) → SpellsList domain v text
    → Follows rest → list_at domain (text ++ rest) ≡ Ok (v, rest)
unfolding list_at
list_again domain v text rest s follows =
    let parts : text ++ rest ≡ flat_map same s.flags_are.given ++ (s.entries ++ rest) = ap (λ (t : List ℕ). t ++ rest)
    s.parts ∙ append_assoc s.flags s.entries rest ∙ ap (λ (t : List ℕ). t ++ (s.entries ++ rest))
    s.flags_are.parts in
    let bytes = flat_map same s.flags_are.given ++ (s.entries ++ rest) in
    let flags : list_flags_at (length bytes) false bytes ≡ (v.protected, s.entries ++ rest)
    = flags_again (length bytes) false s.flags_are.given (s.entries ++ rest) s.flags_are.each
    (behind_flags domain v.entries s.entries rest s.entries_are follows) (omega arith)
    ∙ ap (λ (b : Bool). (b, s.entries ++ rest)) (sym s.flags_are.protected_is) in
    let entries : all_entries domain (s.entries ++ rest) ≡ Ok (v.entries, rest)
    = entries_again domain (length (s.entries ++ rest)) v.entries s.entries rest s.entries_are follows.no_entry
    (omega arith) in
    ap (list_at domain) parts ∙ rw (flags, entries) refl
