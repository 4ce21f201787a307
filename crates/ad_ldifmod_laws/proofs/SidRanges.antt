-- The ranges of identifiers, entries and parts that a line of a change gives.
use Rattle.std.proofs.Common.{◌≡◌, inl, inr, ℕ, ◌+◌, ◌^◌, ◌<◌, Bool, true, false, cond, Option}
use Rattle.std.proofs.Common.{Some, None, List, [], ◌∷◌, ◌++◌, length, Ok, refl, sym, subst, ◌∙◌, arith}
use Rattle.std.specs.Prelude.{IfSome, nat_lt}
use Rattle.std.specs.Option.{is_some}
use Rattle.std.specs.List.{AllByRecursion}
use Rattle.std.specs.Str.{str_to_ascii_lowercase}
use Rattle.std.proofs.lemmas.Bool.{cases_Bool, ltb-true}
use Rattle.std.proofs.lemmas.List.{length-append}
use Rattle.std.proofs.lemmas.Option.{cond_some, same_Some, none-some}
use Rattle.ad_bytes.specs.Reading.{SpellsEach}
use Rattle.ad_ids.specs.Sid.{IsSid}
use Rattle.ad_ids.specs.SidChild.{child_of}
use Rattle.ad_ids.specs.SidValue.{SidValue}
use Rattle.ad_acl.specs.Entry.{Entry}
use Rattle.ad_acl.specs.Writing.{IsEntry}
use Rattle.ad_sd.specs.declared.parts.SdParts.{SdParts}
use Rattle.ad_sddl.specs.Words.{find_alias, alias_codes, are_letters, meant_by, sid}
use Rattle.ad_sddl.specs.Grammar.{SpellsSid}
use Rattle.ad_sddl.specs.Grammar.{SpellsEntry, Piece, owner, group, dacl, sacl, SpellsPiece, with_piece, with_pieces}
use Rattle.ad_sddl.specs.Grammar.{no_parts}
use Rattle.ad_sddl.specs.Canonical.{AreParts}
use Rattle.ad_sddl.specs.Reading.{read_of}
use Rattle.ad_sddl.proofs.Texts.{text_takes}
use Rattle.ad_ldifmod_laws.proofs.Ranges.{flags_are, mask_is, guid_if}

-- ---- identifiers

one_below : (authority n : ℕ) → authority < 2 ^ 48 → n < 2 ^ 32 → IsSid (sid authority (n ∷ []))
one_below authority n small less = record {
  authority = small;
  at_least_one = omega arith;
  at_most_15
      = omega arith;
  sub_authorities = (less, tt);
}

each_push : (ns : List ℕ) (n : ℕ) → AllByRecursion (λ m. m < 2 ^ 32) ns → n < 2 ^ 32
    → AllByRecursion (λ m. m < 2 ^ 32) (ns ++ n ∷ [])
each_push [] n each one = (one, tt)
each_push (x ∷ ns) n each one = (each.0, each_push ns n each.1 one)

child_is : (d : SidValue) (n : ℕ) (s : SidValue) → n < 2 ^ 32 → IsSid d → child_of d n ≡ Some s → IsSid s
child_is d n s less is e =
    let t = cond_some (nat_lt (length d.sub_authorities) 15) (sid d.authority (d.sub_authorities ++ n ∷ [])) s e in
    let room : length d.sub_authorities < 15 = ltb-true (length d.sub_authorities) 15 t.0 in
    let long = length-append d.sub_authorities (n ∷ []) in
    subst IsSid t.1 (record {
      authority = is.authority;
      at_least_one = omega (arith, long);
      at_most_15 = omega (arith, long, room);
      sub_authorities = each_push d.sub_authorities n is.sub_authorities less;
    })

-- an identifier that an alias of the table represents
abbrev Means : Option SidValue → Option SidValue → Type 0
Means domain meant = IfSome domain IsSid → (s : SidValue) → meant ≡ Some s → IsSid s

fixed : (domain : Option SidValue) (s : SidValue) → IsSid s → Means domain (Some s)
fixed domain s is known t e = subst IsSid (same_Some s t e) is

of_domain : (n : ℕ) → n < 2 ^ 32 → (below : Option SidValue → Option SidValue) → below None ≡ None
    → ((d : SidValue) → below (Some d) ≡ child_of d n) → (domain : Option SidValue) → Means domain (below domain)
of_domain n less below none some None is s e = absurd (none-some s (sym none ∙ e))
of_domain n less below none some (Some d) is s e = child_is d n s less is (sym (some d) ∙ e)

find_all : (P : _ → Type 0) (table : _) (a b : ℕ) (c : _) → find_alias table a b ≡ Some c → AllByRecursion P table → P c
find_all P [] a b c e all = absurd (none-some c e)
find_all P (d ∷ table) a b c e all = elim (cases_Bool (are_letters a b d.letters)) [
  | inl here ↦ subst P (same_Some d c (rw here at e)) all.0
  | inr other ↦ find_all P table a b c (rw other at e) all.1
]

builtin : (n : ℕ) → n < 2 ^ 32 → IsSid (sid 5 (32 ∷ n ∷ []))
builtin n less = record {
  authority = omega arith;
  at_least_one = omega arith;
  at_most_15
      = omega arith;
  sub_authorities = (omega arith, (less, tt));
}

each_alias : AllByRecursion (λ a. (domain : Option SidValue) → Means domain (meant_by domain a.base a.number))
    alias_codes
unfolding alias_codes
each_alias = (
  λ domain. fixed domain (sid 1 (0 ∷ [])) (one_below 1 0 (omega arith) (omega arith)),
  (
    λ domain. fixed domain (sid 3 (0 ∷ [])) (one_below 3 0 (omega arith) (omega arith)),
    (
      λ domain. fixed domain (sid 3 (1 ∷ [])) (one_below 3 1 (omega arith) (omega arith)),
      (
        λ domain. fixed domain (sid 3 (4 ∷ [])) (one_below 3 4 (omega arith) (omega arith)),
        (
          λ domain. fixed domain (sid 5 (2 ∷ [])) (one_below 5 2 (omega arith) (omega arith)),
          (
            λ domain. fixed domain (sid 5 (4 ∷ [])) (one_below 5 4 (omega arith) (omega arith)),
            (
              λ domain. fixed domain (sid 5 (6 ∷ [])) (one_below 5 6 (omega arith) (omega arith)),
              (
                λ domain. fixed domain (sid 5 (7 ∷ [])) (one_below 5 7 (omega arith) (omega arith)),
                (
                  λ domain. fixed domain (sid 5 (9 ∷ [])) (one_below 5 9 (omega arith) (omega arith)),
                  (
                    λ domain. fixed domain (sid 5 (10 ∷ [])) (one_below 5 10 (omega arith) (omega arith)),
                    (
                      λ domain. fixed domain (sid 5 (11 ∷ [])) (one_below 5 11 (omega arith) (omega arith)),
                      (
                        λ domain. fixed domain (sid 5 (12 ∷ [])) (one_below 5 12 (omega arith) (omega arith)),
                        (
                          λ domain. fixed domain (sid 5 (18 ∷ [])) (one_below 5 18 (omega arith) (omega arith)),
                          (
                            λ domain. fixed domain (sid 5 (19 ∷ [])) (one_below 5 19 (omega arith) (omega arith)),
                            (
                              λ domain. fixed domain (sid 5 (20 ∷ [])) (one_below 5 20 (omega arith) (omega arith)),
                              (
                                λ domain. fixed domain (sid 5 (32 ∷ 544 ∷ [])) (builtin 544 (omega arith)),
                                (
                                  λ domain. fixed domain (sid 5 (32 ∷ 545 ∷ [])) (builtin 545 (omega arith)),
                                  (
                                    λ domain. fixed domain (sid 5 (32 ∷ 546 ∷ [])) (builtin 546 (omega arith)),
                                    (
                                      λ domain. fixed domain (sid 5 (32 ∷ 547 ∷ [])) (builtin 547 (omega arith)),
                                      (
                                        λ domain. fixed domain (sid 5 (32 ∷ 548 ∷ [])) (builtin 548 (omega arith)),
                                        (
                                          λ domain. fixed domain (sid 5 (32 ∷ 549 ∷ [])) (builtin 549 (omega arith)),
                                          (
                                            λ domain. fixed domain (sid 5 (32 ∷ 550 ∷ [])) (builtin 550 (omega arith)),
                                            (
                                              λ domain. fixed domain (sid 5 (32 ∷ 551 ∷ []))
                                                  (builtin 551 (omega arith)),
                                              (
                                                λ domain. fixed domain (sid 5 (32 ∷ 552 ∷ []))
                                                    (builtin 552 (omega arith)),
                                                (
                                                  λ domain. fixed domain (sid 5 (32 ∷ 554 ∷ []))
                                                      (builtin 554 (omega arith)),
                                                  (
                                                    λ domain. fixed domain (sid 5 (32 ∷ 555 ∷ []))
                                                        (builtin 555 (omega arith)),
                                                    (
                                                      λ domain. fixed domain (sid 5 (32 ∷ 556 ∷ []))
                                                          (builtin 556 (omega arith)),
                                                      (
                                                        of_domain 500 (omega arith) _ refl (λ d. refl),
                                                        (
                                                          of_domain 501 (omega arith) _ refl (λ d. refl),
                                                          (
                                                            of_domain 512 (omega arith) _ refl (λ d. refl),
                                                            (
                                                              of_domain 513 (omega arith) _ refl (λ d. refl),
                                                              (
                                                                of_domain 514 (omega arith) _ refl (λ d. refl),
                                                                (
                                                                  of_domain 515 (omega arith) _ refl (λ d. refl),
                                                                  (
                                                                    of_domain 516 (omega arith) _ refl (λ d. refl),
                                                                    (
                                                                      of_domain 517 (omega arith) _ refl (λ d. refl),
                                                                      (
                                                                        of_domain 518 (omega arith) _ refl (λ d. refl),
                                                                        (
                                                                          of_domain 519 (omega arith) _ refl
                                                                              (λ d. refl),
                                                                          (
                                                                            of_domain 520 (omega arith) _ refl
                                                                                (λ d. refl),
                                                                            (
                                                                              of_domain 553 (omega arith) _ refl
                                                                                  (λ d. refl),
                                                                              tt,
                                                                            ),
                                                                          ),
                                                                        ),
                                                                      ),
                                                                    ),
                                                                  ),
                                                                ),
                                                              ),
                                                            ),
                                                          ),
                                                        ),
                                                      ),
                                                    ),
                                                  ),
                                                ),
                                              ),
                                            ),
                                          ),
                                        ),
                                      ),
                                    ),
                                  ),
                                ),
                              ),
                            ),
                          ),
                        ),
                      ),
                    ),
                  ),
                ),
              ),
            ),
          ),
        ),
      ),
    ),
  ),
)

sid_is : (domain : Option SidValue) (s : SidValue) (text : List ℕ) → IfSome domain IsSid → SpellsSid domain s text
    → IsSid s
sid_is domain s text is (inl spelled) = spelled.is_sid
sid_is domain s text is (inr a) =
    find_all (λ x. (d : Option SidValue) → Means d (meant_by d x.base x.number)) alias_codes a.first a.second a.alias
    a.known each_alias domain is s a.meant

-- ---- entries and lists

entry_is : (domain : Option SidValue) (e : Entry) (text : List ℕ) → IfSome domain IsSid → SpellsEntry domain e text
    → IsEntry e
entry_is domain e text is s =
    let flags = flags_are e.flags s.flags s.flags_are in
    record {
      flags = flags.0;
      clear = flags.1;
      mask = mask_is e.mask s.rights s.rights_are;
      object = guid_if s.is_object e.object s.object s.object_is;
      inherited = guid_if s.is_object e.inherited s.inherited s.inherited_is;
      sid = sid_is domain e.sid s.sid is s.sid_is;
    }

entries_are : (domain : Option SidValue) (es : List Entry) (text : List ℕ) → IfSome domain IsSid
    → SpellsEach (SpellsEntry domain) es text → AllByRecursion IsEntry es
entries_are domain [] text is s = tt
entries_are domain (e ∷ es) text is s = (
  entry_is domain e s.front is s.spelled,
  entries_are domain es s.behind is
      s.follows,
)

-- ---- parts

absent : {A : Type 0} (b : Bool) (x y : A) → cond b None (Some x) ≡ Some y → x ≡ y
absent true x y e = absurd (none-some y e)
absent false x y e = same_Some x y e

with_is : (domain : Option SidValue) (p next : SdParts) (piece : Piece) (text : List ℕ) → IfSome domain IsSid
    → AreParts p → SpellsPiece domain piece text → with_piece p piece ≡ Some next → AreParts next
with_is domain p next (owner s) text is are spelled e = subst AreParts (absent (is_some p.owner) _ next e)
    (record {
      owner = sid_is domain s spelled.behind is spelled.spelled;
      group = are.group;
      dacl = are.dacl;
      sacl
          = are.sacl;
    })
with_is domain p next (group s) text is are spelled e = subst AreParts (absent (is_some p.group) _ next e)
    (record {
      owner = are.owner;
      group = sid_is domain s spelled.behind is spelled.spelled;
      dacl = are.dacl;
      sacl
          = are.sacl;
    })
with_is domain p next (dacl list) text is are spelled e =
    subst AreParts (absent (is_some p.dacl) _ next e)
    (record {
      owner = are.owner;
      group = are.group;
      dacl = entries_are domain list.entries spelled.spelled.entries
          is spelled.spelled.entries_are;
      sacl = are.sacl;
    })
with_is domain p next (sacl list) text is are spelled e =
    subst AreParts (absent (is_some p.sacl) _ next e)
    (record {
      owner = are.owner;
      group = are.group;
      dacl = are.dacl;
      sacl = entries_are domain list.entries
          spelled.spelled.entries is spelled.spelled.entries_are;
    })

next_is : {P : Type 0} (p : SdParts) (piece : Piece) (o : Option SdParts) (pieces : List Piece) (whole : SdParts)
    → with_piece p piece ≡ o → with_pieces o pieces ≡ Some whole
    → ((next : SdParts) → with_piece p piece ≡ Some next → with_pieces (Some next) pieces ≡ Some whole → P) → P
next_is p piece None pieces whole is e k = absurd (none-some whole (none_stays pieces e))
  where
    none_stays : (ps : List Piece) → with_pieces None ps ≡ Some whole → None ≡ Some whole
    none_stays [] e' = e'
    none_stays (x ∷ ps) e' = e'
next_is p piece (Some next) pieces whole is e k = k next is e

pieces_are : (domain : Option SidValue) (p : SdParts) (pieces : List Piece) (text : List ℕ) (whole : SdParts)
    → IfSome domain IsSid → AreParts p → SpellsEach (SpellsPiece domain) pieces text → with_pieces (Some p) pieces
    ≡ Some whole → AreParts whole
pieces_are domain p [] text whole is are spelled e = subst AreParts (same_Some p whole e) are
pieces_are domain p (piece ∷ pieces) text whole is are spelled e =
    next_is p piece (with_piece p piece) pieces whole refl e
    (λ next here others. pieces_are domain next pieces spelled.behind whole is
    (with_is domain p next piece spelled.front is are spelled.spelled here) spelled.follows others)

pub parts_are : (domain : Option SidValue) (text : List ℕ) (parts : SdParts) → IfSome domain IsSid
    → read_of domain text ≡ Ok parts → AreParts parts
parts_are domain text parts is e =
    let s = text_takes domain text parts e in
    pieces_are domain no_parts s.pieces (str_to_ascii_lowercase text) parts is
    (record { owner = tt; group = tt; dacl = tt; sacl = tt }) s.spelled s.parts_are
