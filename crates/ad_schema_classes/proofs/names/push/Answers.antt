use Rattle.std.proofs.Common.{◌≡◌, ℕ, List, Some, cond, ◌∷◌, ◌++◌, [], length, sym, ap, subst, ◌∙◌}
use Rattle.std.specs.Prelude.{nat_eq}
use Rattle.indexmap.specs.IndexMap.{get}
use Rattle.ad_schema_classes.specs.Hashes.{hash_of, bucket, key, IsIndexOf}
use Rattle.ad_schema_classes.proofs.IndexLemmas.{noted}
use Rattle.ad_schema_classes.proofs.names.push.Goals as goal

pub returns-clause-index : goal.returns-clause-index
returns-clause-index c =
    let hash : c.hash_of-hash.result ≡ hash_of c.args.name = c.hash_of-hash.ensures.value
    ∙ ap hash_of c.as_slice.ensures in
    let n : c.bucket_len-n.result ≡ length (bucket (hash_of c.args.name) 0 c.args.names.now.items) =
    c.bucket_len-n.ensures.len ∙ ap (λ (names : List (List ℕ)). length (bucket c.hash_of-hash.result 0 names))
    c.as_slice-2.ensures.value ∙ ap (λ (h : ℕ). length (bucket h 0 c.args.names.now.items)) hash in
    let place : length c.as_slice-3.result.now ≡ length c.args.names.now.items = ap length c.as_slice-3.ensures.value in
    let at : c.key_of.result ≡ key (hash_of c.args.name) c.bucket_len-n.result = c.key_of.ensures
    ∙ ap (λ (h : ℕ). key h c.bucket_len-n.result) hash in
    let updates = λ (q : ℕ). c.in_ok-insert.ensures.updates.0 q
    ∙ ap (λ (k : ℕ). cond (nat_eq k q) (Some (length c.as_slice-3.result.now)) (get nat_eq c.args.places.now q)) at
    ∙ ap (λ (p : ℕ). cond (nat_eq (key (hash_of c.args.name) c.bucket_len-n.result) q) (Some p)
    (get nat_eq c.args.places.now q)) place in
    let whole : c.push.new.self.items ≡ c.args.names.now.items ++ c.args.name ∷ [] = c.in_ok-push.ensures.items
    ∙ ap (λ (names : List (List ℕ)). names ++ c.args.name ∷ []) c.in_ok-reserve.ensures.items in
    subst (λ (names : List (List ℕ)). IsIndexOf names c.insert.new.self) (sym whole)
    (noted c.args.names.now.items c.args.places.now c.insert.new.self c.args.name c.bucket_len-n.result
    c.requires.index n c.requires.few updates)
