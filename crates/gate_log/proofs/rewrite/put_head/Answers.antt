use Rattle.std.proofs.Common.{◌≡◌, ◌∙◌, ℕ, List, [], ◌∷◌, ◌++◌, Result, Ok, Err, append_assoc}
use Rattle.std.specs.Prelude.{if◌then◌else◌}
use Rattle.std.specs.Result.{OnOk, is_ok}
use Rattle.std.specs.Int.{to_be_bytes, w64}
use Rattle.gate_log.proofs.rewrite.put_head.Goals as goal

five : {T E : Type 0} (r : Result T E) (a0 a1 a2 a3 a4 a5 m p g G q l L : List ℕ) → a1 ≡ a0 ++ m → a2 ≡ a1 ++ p → a3
    ≡ a2 ++ g → g ≡ G → a4 ≡ a3 ++ q → a5 ≡ (if is_ok r then a4 ++ l else a4) → l ≡ L
    → OnOk r (a5 ≡ a0 ++ (m ++ (p ++ (G ++ (q ++ L)))))
five (Ok x) a0 a1 a2 a3 a4 a5 m p g G q l L e1 e2 e3 eg e4 e5 el =
    let whole : a5 ≡ ((((a0 ++ m) ++ p) ++ G) ++ q) ++ L = cc in
    whole ∙ simp append_assoc
five (Err e) a0 a1 a2 a3 a4 a5 m p g G q l L e1 e2 e3 eg e4 e5 el = tt

pub returns : goal.returns
returns c =
    five c.extend_from_slice-3.result c.args.into.now.items c.extend_from_slice.new.self.items c.push.new.self.items
    c.extend_from_slice-2.new.self.items c.push-2.new.self.items c.extend_from_slice-3.new.self.items
    (65 ∷ 68 ∷ 83 ∷ 68 ∷ []) (2 ∷ []) c.to_be_bytes.result (to_be_bytes w64 c.args.generation) (1 ∷ [])
    c.to_be_bytes-2.result (to_be_bytes w64 c.args.length)
    c.in_ok-extend_from_slice.ensures.items c.in_ok-push.ensures.items c.in_ok-extend_from_slice-2.ensures.items
    c.to_be_bytes.ensures c.in_ok-push-2.ensures.items c.extend_from_slice-3.ensures.items c.to_be_bytes-2.ensures
