-- A security identifier, as contracts see it.
use Rattle.std.specs.Prelude.{ℕ, Bool, ◌&&◌, nat_eq, List, ◌++◌}
use Rattle.std.specs.List.{list_any}
use Rattle.std.specs.Str.{bytes_eq}
use Rattle.std.specs.Hash as fed
use Rattle.std.specs.Cmp.{IsEquivalence, and_equiv, on_equiv, nat_eq_equiv, unsigned_Decides}
use Rattle.std.specs.Cmp.Lexicographic.{nat_list_eq_equiv}

-- the authority and the sub-authorities below it
pub record SidValue : Type 0 where
  pub authority : ℕ
  pub sub_authorities : List ℕ

-- the two are one identifier
abbrev pub same_sid : SidValue → SidValue → Bool
same_sid a b = nat_eq a.authority b.authority && bytes_eq a.sub_authorities b.sub_authorities

-- the identifier stands in the list
abbrev pub contains_sid : List SidValue → SidValue → Bool
contains_sid sids sid = list_any (λ s. same_sid s sid) sids

-- equal identifiers are hashed alike
pub same_sid_alike : fed.Alike same_sid (λ s. fed.u64 s.authority ++ fed.slice fed.u32 s.sub_authorities)
same_sid_alike = fed.and-Alike (fed.on_Alike (λ (s : SidValue). s.authority)
    (fed.same_Alike fed.u64 unsigned_Decides)) (fed.on_Alike (λ (s : SidValue). s.sub_authorities)
    (fed.items_Alike (fed.same_Alike fed.u32 unsigned_Decides)))

pub same_sid_laws : IsEquivalence same_sid
same_sid_laws = and_equiv (on_equiv (λ (s : SidValue). s.authority) nat_eq_equiv)
    (on_equiv (λ (s : SidValue). s.sub_authorities) nat_list_eq_equiv)
