-- The names of records are read back.
use Rattle.std.proofs.Common.{◌≡◌, ℕ, ◌+◌, true, nat_le, List, [], ◌∷◌, length, None, Option, Some, Ok, refl}
use Rattle.std.specs.List.{AllByRecursion}
use Rattle.std.specs.Str.{str_to_ascii_uppercase}
use Rattle.std.proofs.lemmas.Bool.{leb-true}
use Rattle.std.proofs.lemmas.Str.{IsUtf8-from_ascii}
use Rattle.ad_dn.specs.declared.rdn.Rdn.{Rdn}
use Rattle.ad_dn.specs.AttributeType.{is_type}
use Rattle.ad_dn.specs.Reading.{dn_of}
use Rattle.ad_dn.specs.Text.{rdns_text}
use Rattle.ad_dn.specs.Value.{IsRdn, AreRdns}
use Rattle.ad_dn.proofs.ReadOff.{dn_again}
use Rattle.ad_dn.proofs.Spelled.{rdns_spelled}
use Rattle.ad_schema.specs.declared.line.SchemaKind.{SchemaKind}
use Rattle.ad_load_records.specs.Records.{may_be_named, kind_of, record_of, records_of}
use Rattle.ad_gen_laws.specs.Plain.{Plain, fields_from, next_at, entry_at, record_at, entries_from, records_from}
use Rattle.ad_gen_laws.proofs.Words.{is_word, word_ascii}

-- a type in upper case, and a word as its value
pub record IsWordRdn (r : Rdn) : Type 0 where
  pub kind : is_type r.kind ≡ true
  pub upper : str_to_ascii_uppercase r.kind ≡ r.kind
  pub word : is_word r.value ≡ true
  pub some : nat_le 1 (length r.value) ≡ true
  pub few : nat_le (length r.value) 1024 ≡ true

rdn_is : (r : Rdn) → IsWordRdn r → IsRdn r
rdn_is r is = record {
  kind = record { form = is.kind; upper = is.upper };
  value = record {
    utf8 = IsUtf8-from_ascii r.value (word_ascii r.value is.word);
    at_least_one = leb-true 1 (length r.value) is.some;
    at_most_1024 = leb-true (length r.value) 1024 is.few;
  };
}

rdns_are : (rdns : List Rdn) → AllByRecursion IsWordRdn rdns → AreRdns rdns
rdns_are [] all = tt
rdns_are (r ∷ rdns) all = (rdn_is r all.0, rdns_are rdns all.1)

-- such a name reads back
pub name_read : (rdns : List Rdn) → AllByRecursion IsWordRdn rdns → dn_of (rdns_text rdns)
    ≡ Some (record { rdns = rdns })
name_read rdns all = dn_again (rdns_text rdns) (record { rdns = rdns }) (rdns_spelled rdns (rdns_are rdns all))

pub record IsNamed (p : Plain) : Type 0 where
  pub words : AllByRecursion IsWordRdn p.rdns
  pub some : may_be_named None p.rdns ≡ true

may_be : (kind : Option SchemaKind) (rdns : List Rdn) → may_be_named None rdns ≡ true → may_be_named kind rdns ≡ true
may_be None rdns some = some
may_be (Some kind) rdns some = refl

one_named : (k : ℕ) (p : Plain) → IsNamed p → record_of (entry_at k p) ≡ Ok (record_at k p)
unfolding record_of
one_named k p is = rw (name_read p.rdns is.words)
    (rw (may_be (kind_of (fields_from (k + 1) p.lines)) p.rdns is.some) refl)

-- the records of entries
pub all_named : (k : ℕ) (ps : List Plain) → AllByRecursion IsNamed ps → records_of None (entries_from k ps)
    ≡ Ok (records_from k ps)
unfolding records_of entries_from records_from
all_named k [] all = refl
all_named k (p ∷ ps) all = rw (one_named k p all.0, all_named (next_at k p) ps all.1) refl
