use Rattle.std.proofs.Common.{◌≡◌, ℕ, Some, None, sym, ap, ◌∙◌, arith}
use Rattle.std.specs.Prelude.{slice_get}
use Rattle.ad_schema_classes.specs.Hashes.{hash_of, bucket}
use Rattle.ad_schema_classes.proofs.IndexLemmas.{bucket_finds, bucket_few, walks_here, walks_on, walks_out, walks_past}
use Rattle.ad_schema_classes.proofs.names.place_of.Goals as goal

pub loop-n-init : goal.loop-n-init
loop-n-init c = bucket_finds c.args.case c.args.name.now c.args.names.now

pub returns-in_default : goal.returns-in_default
returns-in_default c =
    let found = c.requires.index.found c.hash_of-hash.result c.loop-n.n (omega (arith, c.requires.few)) in
    let out : slice_get (bucket (hash_of c.args.name.now) 0 c.args.names.now) c.loop-n.n ≡ None =
    ap (λ (h : ℕ). slice_get (bucket h 0 c.args.names.now) c.loop-n.n) (sym c.hash_of-hash.ensures.value) ∙ sym found
    ∙ sym c.place_at.ensures ∙ c.in_default.is in
    sym (walks_out c.args.case c.args.names.now c.args.name.now (bucket (hash_of c.args.name.now) 0 c.args.names.now)
    c.loop-n.n out) ∙ c.loop-n.invariant

pub returns-then-is_at : goal.returns-then-is_at
returns-then-is_at c =
    let found = c.requires.index.found c.hash_of-hash.result c.loop-n.n (omega (arith, c.requires.few)) in
    let here : slice_get (bucket (hash_of c.args.name.now) 0 c.args.names.now) c.loop-n.n ≡ Some c.in-Some.place =
    ap (λ (h : ℕ). slice_get (bucket h 0 c.args.names.now) c.loop-n.n) (sym c.hash_of-hash.ensures.value) ∙ sym found
    ∙ sym c.place_at.ensures ∙ c.in-Some.is in
    sym (walks_here c.args.case c.args.names.now c.args.name.now (bucket (hash_of c.args.name.now) 0 c.args.names.now)
    c.loop-n.n c.in-Some.place here (sym c.is_at.ensures ∙ c.if-is_at.true)) ∙ c.loop-n.invariant

pub loop-n-preserved : goal.loop-n-preserved
loop-n-preserved c =
    let found = c.requires.index.found c.hash_of-hash.result c.loop-n.n (omega (arith, c.requires.few)) in
    let here : slice_get (bucket (hash_of c.args.name.now) 0 c.args.names.now) c.loop-n.n ≡ Some c.in-Some.place =
    ap (λ (h : ℕ). slice_get (bucket h 0 c.args.names.now) c.loop-n.n) (sym c.hash_of-hash.ensures.value) ∙ sym found
    ∙ sym c.place_at.ensures ∙ c.in-Some.is in
    sym (walks_on c.args.case c.args.names.now c.args.name.now (bucket (hash_of c.args.name.now) 0 c.args.names.now)
    c.loop-n.n c.in-Some.place here (sym c.is_at.ensures ∙ c.if-is_at.false)) ∙ c.loop-n.invariant

pub returns : goal.returns
returns c =
    sym (walks_past c.args.case c.args.names.now c.args.name.now (bucket (hash_of c.args.name.now) 0 c.args.names.now)
    c.loop-n.n (omega (arith, bucket_few (hash_of c.args.name.now) 0 c.args.names.now))) ∙ c.loop-n.invariant
