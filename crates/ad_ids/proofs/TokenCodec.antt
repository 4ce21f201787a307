-- The reader of a token is that of its encodings.
use Rattle.std.proofs.Common.{◌≡◌, ◌⊎◌, inl, inr, ℕ, ◌<◌, Bool, true, eqb, ltb, List, [], ◌++◌, length, Result, Ok}
use Rattle.std.proofs.Common.{Err, refl, sym, ap, subst, ◌∙◌, append_assoc, arith}
use Rattle.std.specs.Prelude.{◌||◌, IfOk}
use Rattle.std.proofs.lemmas.Bool.{cases_Bool, eqb-true, ltb-true, lt-ltb}
use Rattle.std.proofs.lemmas.List.{append-nil, nil_from_length}
use Rattle.ad_bytes.specs.Reading.{IsBytes, ◌>>=◌, or_fault, fault_as, many_at, TakesFront, StartsWith, IsReaderOf}
use Rattle.ad_bytes.specs.Reading.{SpellsEach, SpellsMany, GivesUnless}
use Rattle.ad_bytes.specs.Numbers.{byte_at, SpellsByte, SpellsBe}
use Rattle.ad_bytes.proofs.Steps.{from_bind, from_need, from_or_fault, from_fault_as, from_ok}
use Rattle.ad_bytes.proofs.Codec.{byte_reader, rest_fits, front_then, again_first}
use Rattle.ad_bytes.proofs.Many.{many_reader}
use Rattle.ad_ids.specs.declared.token.Token.{Token}
use Rattle.ad_ids.specs.declared.token_fault.TokenFault.{TokenFault}
use Rattle.ad_ids.specs.declared.token_fault.TokenFault.TheVariants as fault
use Rattle.ad_ids.specs.declared.mark.Mark.{Mark}
use Rattle.ad_ids.specs.SidValue.{SidValue}
use Rattle.ad_ids.specs.Sid.{SpellsSid}
use Rattle.ad_ids.specs.SidReading.{sid_at}
use Rattle.ad_ids.specs.Token.{SpellsMarked, enabled_of, deny_only_of, Lists, SpellsSids, SpellsWithMarks}
use Rattle.ad_ids.specs.Token.{SpellsLists, lists_of, SpellsFields, SpellsToken, has_own_owner}
use Rattle.ad_ids.specs.TokenReading.{is_memory, marked_at, sids_at, groups_at, count_at, marked_lists_at, version_at}
use Rattle.ad_ids.specs.TokenReading.{privileges_at, lists_at, fields_at, token_of}
use Rattle.ad_ids.proofs.SidCodec.{sid_reader}
use Rattle.ad_ids.proofs.TokenParts.{sids_reader, marked_reader, count_takes, count_again, sids_take, plain_reader}

-- ---- the lists of version 2

marked_lists_take : (bytes : List ℕ) (lists : Lists) (rest : List ℕ) → IsBytes bytes → marked_lists_at bytes
    ≡ Ok (lists, rest) → TakesFront SpellsWithMarks bytes lists rest
unfolding marked_lists_at groups_at
marked_lists_take bytes lists rest fits e =
    from_bind (count_at fault.Groups bytes) _ (lists, rest) e
    (λ (n : ℕ × List ℕ) (e1 : count_at fault.Groups bytes ≡ Ok n) e2.
    from_bind (many_at marked_at n.0 n.1 >>= λ m. Ok ((enabled_of m.0, deny_only_of m.0), m.1)) _ (lists, rest) e2
    (λ (g : (List SidValue × List SidValue) × List ℕ)
    (e3 : (many_at marked_at n.0 n.1 >>= λ m. Ok ((enabled_of m.0, deny_only_of m.0), m.1)) ≡ Ok g) e4.
    from_bind (many_at marked_at n.0 n.1) _ g e3
    (λ (m : List (Mark × SidValue) × List ℕ) (e5 : many_at marked_at n.0 n.1 ≡ Ok m)
    (e6 : Ok ((enabled_of m.0, deny_only_of m.0), m.1) ≡ Ok g).
    let parted : ((enabled_of m.0, deny_only_of m.0), m.1) ≡ g = from_ok {E = TokenFault}
    ((enabled_of m.0, deny_only_of m.0), m.1) g e6 in
    let left : m.1 ≡ g.1 = ap (λ (p : (List SidValue × List SidValue) × List ℕ). p.1) parted in
    from_bind (count_at fault.Restricting g.1) _ (lists, rest) e4
    (λ (k : ℕ × List ℕ) (e7 : count_at fault.Restricting g.1 ≡ Ok k) e8.
    from_bind (sids_at k.0 k.1) _ (lists, rest) e8
    (λ (r : List SidValue × List ℕ) (e9 : sids_at k.0 k.1 ≡ Ok r)
    (e10 : Ok (record { groups = g.0.0; deny_only = g.0.1; restricting = r.0 }, r.1) ≡ Ok (lists, rest)).
    let count = count_takes fault.Groups bytes n.0 n.1 fits e1 in
    let fits1 = rest_fits (SpellsBe 2) bytes n.0 n.1 fits count.0 in
    let marked = (many_reader SpellsMarked marked_at marked_reader n.0).takes n.1 m.0 m.1 fits1 e5 in
    let fits2 = rest_fits (SpellsMany SpellsMarked n.0) n.1 m.0 m.1 fits1 marked in
    let others = count_takes fault.Restricting m.1 k.0 k.1 fits2 (ap (count_at fault.Restricting) left ∙ e7) in
    let restricting = (sids_reader k.0).takes k.1 r.0 r.1 (rest_fits (SpellsBe 2) m.1 k.0 k.1 fits2 others.0) e9 in
    let last = sids_take m.1 k.0 k.1 r.0 r.1 others.1 others.0 restricting in
    let each : TakesFront (SpellsEach SpellsMarked) n.1 m.0 m.1
    = record { text = marked.text; parts = marked.parts; spelled = marked.spelled.1 } in
    let second = front_then (SpellsEach SpellsMarked) SpellsSids n.1 m.0 m.1 r.0 r.1 each last in
    let first : TakesFront (SpellsBe 2) bytes (length m.0) n.1
    = subst (λ (i : ℕ). TakesFront (SpellsBe 2) bytes i n.1) (sym marked.spelled.0) count.0 in
    let whole = front_then (SpellsBe 2) (λ (xs : List SidValue). StartsWith (SpellsEach SpellsMarked) m.0
    (SpellsSids xs)) bytes (length m.0) n.1 r.0 r.1 first second in
    let value : Lists = record { groups = g.0.0; deny_only = g.0.1; restricting = r.0 } in
    subst (λ (p : Lists × List ℕ). TakesFront SpellsWithMarks bytes p.0 p.1)
    (from_ok {E = TokenFault} (value, r.1) (lists, rest) e10)
    (record {
      text = whole.text;
      parts = whole.parts;
      spelled = record {
        marked = m.0;
        count = omega (arith, count.1, marked.spelled.0);
        groups = sym (ap (λ (p : (List SidValue × List SidValue) × List ℕ). p.0.0) parted);
        deny_only = sym (ap (λ (p : (List SidValue × List SidValue) × List ℕ). p.0.1) parted);
        text_is = whole.spelled;
      };
    }))))))

marked_lists_again : (lists : Lists) (text rest : List ℕ) → SpellsWithMarks lists text
    → marked_lists_at (text ++ rest) ≡ Ok (lists, rest)
unfolding marked_lists_at groups_at
marked_lists_again lists text rest s =
    let t = s.text_is in
    let u = t.follows in
    let v = u.follows in
    let n = length s.marked in
    let regrouped : t.behind ++ rest ≡ u.front ++ (u.behind ++ rest) = ap (λ (x : List ℕ). x ++ rest) u.parts
    ∙ append_assoc u.front u.behind rest in
    let groups : many_at marked_at n (t.behind ++ rest) ≡ Ok (s.marked, u.behind ++ rest) = ap (many_at marked_at n)
    regrouped ∙ (many_reader SpellsMarked marked_at marked_reader n).again s.marked u.front (u.behind ++ rest)
    (refl, u.spelled) in
    rw (
      count_again fault.Groups n (StartsWith (SpellsEach SpellsMarked) s.marked (SpellsSids lists.restricting)) text
          rest t s.count,
      groups,
      count_again fault.Restricting (length lists.restricting)
          (SpellsEach SpellsSid lists.restricting) u.behind rest v.text_is v.count,
      (sids_reader (length lists.restricting)).again lists.restricting v.text_is.behind rest
          (refl, v.text_is.follows),
      ← s.groups,
      ← s.deny_only,
    ) refl

-- ---- the lists of either version

lists_take : (version : ℕ) (bytes : List ℕ) (lists : Lists) (rest : List ℕ) → (version ≡ 1) ⊎ (version ≡ 2)
    → IsBytes bytes → lists_at version bytes ≡ Ok (lists, rest) → TakesFront (SpellsLists version) bytes lists rest
unfolding lists_at
lists_take version bytes lists rest (inl one) fits e =
    let t = plain_reader.takes bytes lists rest fits (sym (rw one refl) ∙ e) in
    record { text = t.text; parts = t.parts; spelled = inl (one, t.spelled) }
lists_take version bytes lists rest (inr two) fits e =
    let t = marked_lists_take bytes lists rest fits (sym (rw two refl) ∙ e) in
    record { text = t.text; parts = t.parts; spelled = inr (two, t.spelled) }

lists_again : (version : ℕ) (lists : Lists) (text rest : List ℕ) → SpellsLists version lists text
    → lists_at version (text ++ rest) ≡ Ok (lists, rest)
unfolding lists_at
lists_again version lists text rest (inl s) = rw s.0 (plain_reader.again lists text rest s.1)
lists_again version lists text rest (inr s) = rw s.0 (marked_lists_again lists text rest s.1)

-- ---- the fields

version_takes : (bytes : List ℕ) (version : ℕ) (rest : List ℕ) → IsBytes bytes → version_at bytes ≡ Ok (version, rest)
    → TakesFront SpellsByte bytes version rest × ((version ≡ 1) ⊎ (version ≡ 2))
unfolding version_at
version_takes bytes version rest fits e =
    from_bind (or_fault fault.Short (byte_at bytes)) _ (version, rest) e
    (λ (b : ℕ × List ℕ) (e1 : or_fault fault.Short (byte_at bytes) ≡ Ok b) e2.
    from_need (eqb b.0 1 || eqb b.0 2) (fault.Version b.0) _ (version, rest) e2
    (λ (test : eqb b.0 1 || eqb b.0 2 ≡ true) (e3 : Ok b ≡ Ok (version, rest)).
    subst (λ (p : ℕ × List ℕ). TakesFront SpellsByte bytes p.0 p.1 × ((p.0 ≡ 1) ⊎ (p.0 ≡ 2)))
    (from_ok {E = TokenFault} b (version, rest) e3)
    (byte_reader.takes bytes b.0 b.1 fits (from_or_fault fault.Short (byte_at bytes) b e1), one_or_two b.0 test)))
  where
    one_or_two : (n : ℕ) → eqb n 1 || eqb n 2 ≡ true → (n ≡ 1) ⊎ (n ≡ 2)
    one_or_two n test = elim (cases_Bool (eqb n 1)) [
      | inl yes-one ↦ inl (eqb-true n 1 yes-one)
      | inr no-one
          ↦ inr (eqb-true n 2 (sym (ap (λ (p : Bool). p || eqb n 2) no-one) ∙ test))
    ]

version_again : (version : ℕ) (Follows : List ℕ → Type 0) (text rest : List ℕ)
    (s : StartsWith SpellsByte version Follows text) → (version ≡ 1) ⊎ (version ≡ 2) → version_at (text ++ rest)
    ≡ Ok (version, s.behind ++ rest)
unfolding version_at
version_again version Follows text rest s (inl one)
    = rw (again_first SpellsByte byte_at byte_reader version Follows text rest s, one) refl
version_again version Follows text rest s (inr two)
    = rw (again_first SpellsByte byte_at byte_reader version Follows text rest s, two) refl

privileges_take : (bytes : List ℕ) (privileges : ℕ) (rest : List ℕ) → IsBytes bytes → privileges_at bytes
    ≡ Ok (privileges, rest) → TakesFront SpellsByte bytes privileges rest × (privileges < 8)
unfolding privileges_at
privileges_take bytes privileges rest fits e =
    from_bind (or_fault fault.Short (byte_at bytes)) _ (privileges, rest) e
    (λ (b : ℕ × List ℕ) (e1 : or_fault fault.Short (byte_at bytes) ≡ Ok b) e2.
    from_need (ltb b.0 8) (fault.Privileges b.0) _ (privileges, rest) e2
    (λ (few : ltb b.0 8 ≡ true) (e3 : Ok b ≡ Ok (privileges, rest)).
    subst (λ (p : ℕ × List ℕ). TakesFront SpellsByte bytes p.0 p.1 × (p.0 < 8))
    (from_ok {E = TokenFault} b (privileges, rest) e3)
    (byte_reader.takes bytes b.0 b.1 fits (from_or_fault fault.Short (byte_at bytes) b e1), ltb-true _ _ few)))

privileges_again : (privileges : ℕ) (Follows : List ℕ → Type 0) (text rest : List ℕ)
    (s : StartsWith SpellsByte privileges Follows text) → privileges < 8 → privileges_at (text ++ rest)
    ≡ Ok (privileges, s.behind ++ rest)
unfolding privileges_at
privileges_again privileges Follows text rest s few =
    let test : ltb privileges 8 ≡ true = lt-ltb privileges 8 few in
    rw (again_first SpellsByte byte_at byte_reader privileges Follows text rest s, test) refl

-- ---- the fields, one after the other

sid_part : (bytes : List ℕ) (s : SidValue × List ℕ) → IsBytes bytes → fault_as fault.Sid (sid_at bytes) ≡ Ok s
    → TakesFront SpellsSid bytes s.0 s.1
sid_part bytes s fits e = sid_reader.takes bytes s.0 s.1 fits (from_fault_as fault.Sid (sid_at bytes) s e)

pub fields_take : (bytes : List ℕ) (token : Token) (rest : List ℕ) → IsBytes bytes → fields_at bytes
    ≡ Ok (token, rest) → TakesFront SpellsFields bytes token rest
unfolding fields_at
fields_take bytes token rest fits e =
    from_bind (version_at bytes) _ (token, rest) e (λ (v : ℕ × List ℕ) (e1 : version_at bytes ≡ Ok v) e2.
    from_bind (privileges_at v.1) _ (token, rest) e2 (λ (p : ℕ × List ℕ) (e3 : privileges_at v.1 ≡ Ok p) e4.
    from_bind (fault_as fault.Sid (sid_at p.1)) _ (token, rest) e4
    (λ (user : SidValue × List ℕ) (e5 : fault_as fault.Sid (sid_at p.1) ≡ Ok user) e6.
    from_bind (fault_as fault.Sid (sid_at user.1)) _ (token, rest) e6
    (λ (owner : SidValue × List ℕ) (e7 : fault_as fault.Sid (sid_at user.1) ≡ Ok owner) e8.
    from_bind (fault_as fault.Sid (sid_at owner.1)) _ (token, rest) e8
    (λ (primary : SidValue × List ℕ) (e9 : fault_as fault.Sid (sid_at owner.1) ≡ Ok primary) e10.
    from_bind (lists_at v.0 primary.1) _ (token, rest) e10
    (λ (l : Lists × List ℕ) (e11 : lists_at v.0 primary.1 ≡ Ok l)
    (e12 : Ok (
      record {
        version = v.0;
        privileges = p.0;
        user = user.0;
        owner = owner.0;
        primary
            = primary.0;
        groups = l.0.groups;
        deny_only = l.0.deny_only;
        restricting = l.0.restricting;
      },
      l.1,
    )
    ≡ Ok (token, rest)).
    let t1 = version_takes bytes v.0 v.1 fits e1 in
    let f1 = rest_fits SpellsByte bytes v.0 v.1 fits t1.0 in
    let t2 = privileges_take v.1 p.0 p.1 f1 e3 in
    let f2 = rest_fits SpellsByte v.1 p.0 p.1 f1 t2.0 in
    let t3 = sid_part p.1 user f2 e5 in
    let f3 = rest_fits SpellsSid p.1 user.0 user.1 f2 t3 in
    let t4 = sid_part user.1 owner f3 e7 in
    let f4 = rest_fits SpellsSid user.1 owner.0 owner.1 f3 t4 in
    let t5 = sid_part owner.1 primary f4 e9 in
    let f5 = rest_fits SpellsSid owner.1 primary.0 primary.1 f4 t5 in
    let t6 = lists_take v.0 primary.1 l.0 l.1 t1.1 f5 e11 in
    let w5 = front_then SpellsSid (SpellsLists v.0) owner.1 primary.0 primary.1 l.0 l.1 t5 t6 in
    let w4 = front_then SpellsSid (λ (z : Lists). StartsWith SpellsSid primary.0 (SpellsLists v.0 z)) user.1 owner.0
    owner.1 l.0 l.1 t4 w5 in
    let w3 = front_then SpellsSid (λ (z : Lists). StartsWith SpellsSid owner.0
    (StartsWith SpellsSid primary.0 (SpellsLists v.0 z))) p.1 user.0 user.1 l.0 l.1 t3 w4 in
    let w2 = front_then SpellsByte (λ (z : Lists). StartsWith SpellsSid user.0
    (StartsWith SpellsSid owner.0 (StartsWith SpellsSid primary.0 (SpellsLists v.0 z)))) v.1 p.0 p.1 l.0 l.1 t2.0
    w3 in
    let w1 = front_then SpellsByte (λ (z : Lists). StartsWith SpellsByte p.0
    (StartsWith SpellsSid user.0 (StartsWith SpellsSid owner.0
    (StartsWith SpellsSid primary.0 (SpellsLists v.0 z))))) bytes v.0 v.1 l.0 l.1 t1.0 w2 in
    let value : Token = record {
      version = v.0;
      privileges = p.0;
      user = user.0;
      owner = owner.0;
      primary
          = primary.0;
      groups = l.0.groups;
      deny_only = l.0.deny_only;
      restricting = l.0.restricting;
    } in
    subst (λ (x : Token × List ℕ). TakesFront SpellsFields bytes x.0 x.1)
    (from_ok {E = TokenFault} (value, l.1) (token, rest) e12)
    (record { text = w1.text; parts = w1.parts; spelled = record { privileges = t2.1; text_is = w1.spelled } })))))))

either_version : (version : ℕ) (lists : Lists) (text : List ℕ) → SpellsLists version lists text → (version ≡ 1)
    ⊎ (version ≡ 2)
either_version version lists text (inl s) = inl s.0
either_version version lists text (inr s) = inr s.0

sid_named : {Follows : List ℕ → Type 0} (s : SidValue) (text rest : List ℕ) (w : StartsWith SpellsSid s Follows text)
    → fault_as fault.Sid (sid_at (text ++ rest)) ≡ Ok (s, w.behind ++ rest)
sid_named {Follows = Follows} s text rest w = ap (fault_as fault.Sid)
    (again_first SpellsSid sid_at sid_reader s Follows text rest w)

pub fields_again : (token : Token) (text rest : List ℕ) → SpellsFields token text → fields_at (text ++ rest)
    ≡ Ok (token, rest)
unfolding fields_at
fields_again token text rest s =
    let w1 = s.text_is in
    let w2 = w1.follows in
    let w3 = w2.follows in
    let w4 = w3.follows in
    let w5 = w4.follows in
    let either = either_version token.version (lists_of token) w5.behind w5.follows in
    rw (
      version_again token.version (StartsWith SpellsByte token.privileges
          (StartsWith SpellsSid token.user
          (StartsWith SpellsSid token.owner
          (StartsWith SpellsSid token.primary (SpellsLists token.version (lists_of token)))))) text rest w1 either,
      privileges_again token.privileges (StartsWith SpellsSid token.user
          (StartsWith SpellsSid token.owner
          (StartsWith SpellsSid token.primary (SpellsLists token.version (lists_of token))))) w1.behind rest w2
          s.privileges,
      sid_named token.user w2.behind rest w3,
      sid_named token.owner w3.behind rest w4,
      sid_named token.primary w4.behind rest w5,
      lists_again token.version (lists_of token) w5.behind rest w5.follows,
    ) refl

-- what is read is an encoding of the fields, and each encoding is read, whatever follows
pub fields_reader : IsReaderOf SpellsFields fields_at
fields_reader = record { takes = fields_take; again = fields_again }

-- ---- the token

pub token_found : (bytes : List ℕ) (token : Token) → IsBytes bytes → token_of bytes ≡ Ok token → SpellsToken token bytes
unfolding token_of
token_found bytes token fits e =
    from_bind (fields_at bytes) _ token e (λ (t : Token × List ℕ) (e1 : fields_at bytes ≡ Ok t) e2.
    from_need (eqb (length t.1) 0) fault.Rest _ token e2 (λ (none : eqb (length t.1) 0 ≡ true) e3.
    from_need (has_own_owner t.0) fault.Owner _ token e3 (λ (own : has_own_owner t.0 ≡ true) (e4 : Ok t.0 ≡ Ok token).
    let w = fields_take bytes t.0 t.1 fits e1 in
    let end : t.1 ≡ [] = nil_from_length t.1 (eqb-true (length t.1) 0 none) in
    let all : bytes ≡ w.text = w.parts ∙ ap (λ (r : List ℕ). w.text ++ r) end ∙ append-nil w.text in
    subst (λ (x : Token). SpellsToken x bytes) (from_ok {E = TokenFault} t.0 token e4)
    (subst (SpellsFields t.0) (sym all) w.spelled, own))))

pub token_again : (bytes : List ℕ) (token : Token) → SpellsToken token bytes → token_of bytes ≡ Ok token
unfolding token_of
token_again bytes token s =
    let fields : fields_at bytes ≡ Ok (token, []) = ap fields_at (sym (append-nil bytes)) ∙ fields_again token bytes
    [] s.0 in
    rw (fields, s.1) refl

pub is_found : (bytes : List ℕ) (r : Result Token TokenFault) → IsBytes bytes
    → GivesUnless is_memory (λ (t : Token). t) r (token_of bytes) → IfOk r (λ t. SpellsToken t bytes)
is_found bytes (Ok token) fits given = token_found bytes token fits given
is_found bytes (Err e) fits given = tt
