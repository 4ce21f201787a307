use Rattle.std.proofs.Common.{◌≡◌, ◌++◌, List, ℕ, OnOk, codes, sym, ap, subst, ◌∙◌, append_assoc}
use Rattle.std.specs.String.{string_bytes}
use Rattle.ad_sddl.specs.Canonical.{codes_text, rights_text, hex_text}
use Rattle.ad_sddl.proofs.Pieces.{rights_ascii, as_codes, as_hex}
use Rattle.ad_sddl.proofs.printing.push_rights.Goals as goal

pub push_codes-requires : goal.push_codes-requires
push_codes-requires c = rights_ascii c.right_codes.result.now c.right_codes.ensures

pub returns-then-mask-eq-ALL_RIGHTS : goal.returns-then-mask-eq-ALL_RIGHTS
returns-then-mask-eq-ALL_RIGHTS c =
    let text : codes_text c.right_codes.result.now c.args.mask ≡ rights_text c.args.mask
    = ap (λ t. codes_text t c.args.mask) c.right_codes.ensures
    ∙ sym (as_codes c.args.mask c.if-mask-eq-ALL_RIGHTS.true) in
    subst (λ (t : List ℕ). OnOk c.push_codes.result (string_bytes c.push_codes.new.text ≡ string_bytes c.args.text.now
    ++ t)) text c.push_codes.ensures

pub returns : goal.returns
returns c =
    let text : string_bytes c.push_str.new.self ++ hex_text 8 c.args.mask ≡ string_bytes c.args.text.now
    ++ rights_text c.args.mask =
    ap (λ (t : List ℕ). t ++ hex_text 8 c.args.mask) c.in_ok-push_str.ensures.bytes
    ∙ append_assoc (string_bytes c.args.text.now) (codes "0x") (hex_text 8 c.args.mask)
    ∙ ap (λ (t : List ℕ). string_bytes c.args.text.now ++ t)
    (sym (as_hex c.args.mask c.if-mask-eq-ALL_RIGHTS.false)) in
    subst (λ (t : List ℕ). OnOk c.push_hex.result (string_bytes c.push_hex.new.text ≡ t)) text c.push_hex.ensures
