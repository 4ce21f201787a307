-- The objects that have an entry in an answer.
use Rattle.std.proofs.Common.{◌≡◌, ℕ, suc, ◌+◌, Bool, true, false, ◌||◌, List, [], ◌∷◌, ◌++◌, map, length, Option}
use Rattle.std.proofs.Common.{Some, None, refl, sym, ap, ◌∙◌, append_assoc}
use Rattle.std.specs.Prelude.{if◌then◌else◌}
use Rattle.std.specs.List.{flat_map}
use Rattle.ad_ids.specs.declared.token.Token.{Token}
use Rattle.ad_dn.specs.declared.rdn.Dn.{Dn}
use Rattle.ad_dn.specs.Reading.{dn_of}
use Rattle.ad_ldap.specs.MessageValue.{SearchValue}
use Rattle.ad_dir_model.specs.Objects.{numbers}
use Rattle.ad_dir_model.specs.Directory.{Directory}
use Rattle.ad_entries.specs.Seen.{seen_of, view}
use Rattle.ad_search.specs.Scope.{is_there, matched}
use Rattle.ad_entries.specs.Entry.{entry_of}
use Rattle.ad_search.specs.Search.{done, end_code, entry_or_end, stop_code, entries_from, entries_of, answer_at}
use Rattle.ad_search.specs.Search.{search_answer, answer_seen}
use Rattle.ad_search.specs.Reads.{found_among, unless_stops, given_from, numbers_given, HasEntries}
use Rattle.ad_search.specs.Steps.{entries_among}
use Rattle.ad_search.proofs.AmongLaws.{one, entries_are}

-- those that are given, from so many on
ends : (dir : Directory) (token : Token) (id : ℕ) (search : SearchValue) (flags : ℕ) (given joined : ℕ) (short : Bool)
    (ns : List ℕ)
    → HasEntries dir token id search flags (given_from dir token id search flags given joined ns)
    (entries_from id search.size given joined short (map (one dir token id search flags) ns))
unfolding entries_from given_from
ends dir token id search flags given joined short [] = record { code = end_code short; is = refl }
ends dir token id search flags given joined short (n ∷ ns) =
    by (ends dir token id search flags (suc given) (joined + length (one dir token id search flags n).message)
    (short || (one dir token id search flags n).is_short) ns)
    (stop_code search.size given joined (length (one dir token id search flags n).message))
  where
    message : List ℕ
    message = (one dir token id search flags n).message

    later : List ℕ
    later = given_from dir token id search flags (suc given)
        (joined + length (one dir token id search flags n).message) ns

    others : List ℕ
    others = entries_from id search.size (suc given) (joined + length (one dir token id search flags n).message)
        (short || (one dir token id search flags n).is_short) (map (one dir token id search flags) ns)

    by : HasEntries dir token id search flags later others → (stop : Option ℕ) → HasEntries dir token id search flags
        (unless_stops stop (n ∷ later)) (entry_or_end id stop message others)
    by rest (Some code) = record { code = code; is = refl }
    by rest None = record {
      code = rest.code;
      is = ap (λ (bs : List ℕ). message ++ bs) rest.is
          ∙ sym (append_assoc message (flat_map (λ (m : ℕ). (one dir token id search flags m).message) later)
          (done id rest.code []));
    }

pub has_entries : (dir : Directory) (token : Token) (id : ℕ) (search : SearchValue) (flags : ℕ) (base : Dn)
    → dn_of search.base ≡ Some base → is_there (view dir token) base.rdns ≡ true
    → HasEntries dir token id search flags (numbers_given dir token id search flags base)
    (search_answer dir token id search flags)
unfolding search_answer answer_seen view entries_among
has_entries dir token id search flags base reads there =
    let all = ends dir token id search flags 0 0 false (found_among dir token search base (numbers dir.objects)) in
    record {
      code = all.code;
      is = ap (answer_at dir.schema (view dir token) id search flags) reads
          ∙ ap (λ (b : Bool). if b then entries_from id search.size 0 0 false
          (entries_of dir.schema id search flags base (view dir token))
          else done id 32 (matched (view dir token) base.rdns)) there
          ∙ ap (entries_from id search.size 0 0 false)
          (entries_are dir token id search flags base (numbers dir.objects))
          ∙ all.is;
    }
