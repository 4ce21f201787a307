-- The answers come from the schema and from what a token sees.
use Rattle.std.proofs.Common.{◌≡◌, ℕ, List, Result, Ok, Err, Vec, Global, sym, ap, ◌∙◌}
use Rattle.std.specs.Prelude.{IfOk}
use Rattle.ad_ids.specs.declared.token.Token.{Token}
use Rattle.ad_schema.specs.declared.line.SchemaRecord.{SchemaRecord}
use Rattle.ad_ldap.specs.MessageValue.{SearchValue}
use Rattle.ad_ldap.specs.declared.requests.Compare.{Compare}
use Rattle.ad_dir_model.specs.Directory.{Directory}
use Rattle.ad_entries.specs.Seen.{Seen, view}
use Rattle.ad_search.specs.Search.{answer_seen, search_answer}
use Rattle.ad_search.specs.Compare.{compare_seen, compare_answer}

pub same_search : (dir other : Directory) (token : Token) (id : ℕ) (search : SearchValue) (flags : ℕ) → other.schema
    ≡ dir.schema → view other token ≡ view dir token
    → search_answer other token id search flags ≡ search_answer dir token id search flags
unfolding search_answer
same_search dir other token id search flags schema seen =
    ap (λ (records : List SchemaRecord). answer_seen records (view other token) id search flags) schema
    ∙ ap (λ (objects : List Seen). answer_seen dir.schema objects id search flags) seen

pub same_compare : (dir other : Directory) (token : Token) (id : ℕ) (request : Compare) → other.schema ≡ dir.schema
    → view other token ≡ view dir token
    → compare_answer other token id request ≡ compare_answer dir token id request
unfolding compare_answer
same_compare dir other token id request schema seen =
    ap (λ (records : List SchemaRecord). compare_seen records (view other token) id request) schema
    ∙ ap (λ (objects : List Seen). compare_seen dir.schema objects id request) seen

-- an answer in one of two directories is one in the other
pub both_search : {E : Type 0} → (r : Result (Vec ℕ Global) E) (dir : Directory) (token : Token) (id : ℕ)
    (search : SearchValue) (flags : ℕ) → IfOk r (λ bytes. bytes.items ≡ search_answer dir token id search flags)
    → IfOk r (λ bytes. (other : Directory) → other.schema ≡ dir.schema → view other token ≡ view dir token
    → bytes.items ≡ search_answer other token id search flags)
both_search (Ok bytes) dir token id search flags is = λ other schema seen. is
    ∙ sym (same_search dir other token id search flags schema seen)
both_search (Err e) dir token id search flags is = tt

pub both_compare : {E : Type 0} → (r : Result (Vec ℕ Global) E) (dir : Directory) (token : Token) (id : ℕ)
    (request : Compare) → IfOk r (λ bytes. bytes.items ≡ compare_answer dir token id request)
    → IfOk r (λ bytes. (other : Directory) → other.schema ≡ dir.schema → view other token ≡ view dir token
    → bytes.items ≡ compare_answer other token id request)
both_compare (Ok bytes) dir token id request is = λ other schema seen. is
    ∙ sym (same_compare dir other token id request schema seen)
both_compare (Err e) dir token id request is = tt
