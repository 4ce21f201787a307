-- The question of `access` is read as it is spelled, and is no longer than it can be.
use Rattle.std.proofs.Common.{◌≡◌, ℕ, ◌<◌, ◌≤◌, ◌^◌, true, leb, eqb, List, [], ◌++◌, length, Result, Ok, Err, refl}
use Rattle.std.proofs.Common.{sym, ap, subst, ◌∙◌, arith}
use Rattle.std.specs.Prelude.{IfOk}
use Rattle.std.proofs.lemmas.Bool.{leb-true, le-leb, eqb-true}
use Rattle.std.proofs.lemmas.List.{append-nil, nil_from_length, length-append}
use Rattle.ad_bytes.specs.Reading.{IsBytes, or_fault, StartsWith, GivesUnless}
use Rattle.ad_bytes.specs.Numbers.{be_at, part_at, be_bytes, SpellsBe, SpellsPart}
use Rattle.ad_bytes.proofs.Steps.{from_bind, from_need, from_or_fault, from_ok}
use Rattle.ad_bytes.proofs.Codec.{be_reader, part_reader, length-be_bytes, rest_fits, IsBytes-front, front_then}
use Rattle.ad_bytes.proofs.Codec.{again_first}
use Rattle.ad_ids.specs.declared.token.Token.{Token}
use Rattle.ad_ids.specs.SidValue.{SidValue}
use Rattle.ad_ids.specs.Sid.{SpellsSid}
use Rattle.ad_ids.specs.SidReading.{sid_at}
use Rattle.ad_ids.specs.TokenReading.{token_of}
use Rattle.ad_ids.proofs.SidCodec.{sid_reader}
use Rattle.ad_ids.proofs.SidWriting.{length-sid_bytes}
use Rattle.ad_ids.proofs.TokenCodec.{token_found, token_again}
use Rattle.ad_acl.specs.Entry.{Entry}
use Rattle.ad_acl.specs.Acl.{SpellsList}
use Rattle.ad_acl.specs.Reading.{list_at}
use Rattle.ad_acl.proofs.AclCodec.{acl_reader}
use Rattle.cmd_call.proofs.Lengths.{sid_length}
use Rattle.cmd_plain.specs.declared.request.Request.{Request}
use Rattle.cmd_plain.specs.declared.request.RequestFault.{RequestFault}
use Rattle.cmd_plain.specs.declared.request.RequestFault.TheVariants.{Form}
use Rattle.cmd_plain.specs.Request.{Question, SpellsQuestion, max_token}
use Rattle.cmd_plain.specs.RequestReading.{is_memory, question_of}
use Rattle.cmd_plain.specs.RequestView.{question_seen}

pub question_found : (bytes : List ℕ) (q : Question) → IsBytes bytes → question_of bytes ≡ Ok q → SpellsQuestion q bytes
unfolding question_of
question_found bytes q fits e =
    from_bind (or_fault Form (be_at 4 bytes)) _ q e (λ (n : ℕ × List ℕ) (e1 : or_fault Form (be_at 4 bytes) ≡ Ok n) e2.
    from_need (leb n.0 max_token) Form _ q e2 (λ (few : leb n.0 max_token ≡ true) e3.
    from_bind (or_fault Form (part_at n.0 n.1)) _ q e3
    (λ (p : List ℕ × List ℕ) (e4 : or_fault Form (part_at n.0 n.1) ≡ Ok p) e5.
    from_bind (or_fault Form (token_of p.0)) _ q e5
    (λ (token : Token) (e6 : or_fault Form (token_of p.0) ≡ Ok token) e7.
    from_bind (or_fault Form (sid_at p.1)) _ q e7
    (λ (owner : SidValue × List ℕ) (e8 : or_fault Form (sid_at p.1) ≡ Ok owner) e9.
    from_bind (or_fault Form (list_at owner.1)) _ q e9
    (λ (dacl : List Entry × List ℕ) (e10 : or_fault Form (list_at owner.1) ≡ Ok dacl) e11.
    from_bind (or_fault Form (be_at 4 dacl.1)) _ q e11
    (λ (want : ℕ × List ℕ) (e12 : or_fault Form (be_at 4 dacl.1) ≡ Ok want) e13.
    from_need (eqb (length want.1) 0) Form _ q e13
    (λ (none : eqb (length want.1) 0 ≡ true)
    (e14 : Ok (record { token = token; owner = owner.0; dacl = dacl.0; want = want.0 }) ≡ Ok q).
    let t1 = (be_reader 4).takes bytes n.0 n.1 fits (from_or_fault Form (be_at 4 bytes) n e1) in
    let f1 = rest_fits (SpellsBe 4) bytes n.0 n.1 fits t1 in
    let t2 = (part_reader n.0).takes n.1 p.0 p.1 f1 (from_or_fault Form (part_at n.0 n.1) p e4) in
    let f2 = rest_fits (SpellsPart n.0) n.1 p.0 p.1 f1 t2 in
    let both : n.1 ≡ p.0 ++ p.1 = t2.parts ∙ ap (λ (x : List ℕ). x ++ p.1) t2.spelled.1 in
    let t3 = token_found p.0 token (IsBytes-front p.0 p.1 (subst IsBytes both f1))
    (from_or_fault Form (token_of p.0) token e6) in
    let t4 = sid_reader.takes p.1 owner.0 owner.1 f2 (from_or_fault Form (sid_at p.1) owner e8) in
    let f4 = rest_fits SpellsSid p.1 owner.0 owner.1 f2 t4 in
    let t5 = acl_reader.takes owner.1 dacl.0 dacl.1 f4 (from_or_fault Form (list_at owner.1) dacl e10) in
    let f5 = rest_fits SpellsList owner.1 dacl.0 dacl.1 f4 t5 in
    let t6 = (be_reader 4).takes dacl.1 want.0 want.1 f5 (from_or_fault Form (be_at 4 dacl.1) want e12) in
    let w5 = front_then SpellsList (SpellsBe 4) owner.1 dacl.0 dacl.1 want.0 want.1 t5 t6 in
    let w4 = front_then SpellsSid (λ (z : ℕ). StartsWith SpellsList dacl.0 (SpellsBe 4 z)) p.1 owner.0 owner.1 want.0
    want.1 t4 w5 in
    let end : want.1 ≡ [] = nil_from_length want.1 (eqb-true (length want.1) 0 none) in
    let others : p.1 ≡ w4.text = w4.parts ∙ ap (λ (r : List ℕ). w4.text ++ r) end ∙ append-nil w4.text in
    let value : Question = record { token = token; owner = owner.0; dacl = dacl.0; want = want.0 } in
    subst (λ (x : Question). SpellsQuestion x bytes) (from_ok {E = RequestFault} value q e14)
    (record {
      token = p.0;
      others = p.1;
      token_fits = omega (arith, leb-true _ _ few, t2.spelled.0);
      token_is = t3;
      others_are = subst (StartsWith SpellsSid owner.0 (StartsWith SpellsList dacl.0 (SpellsBe 4 want.0)))
          (sym others) w4.spelled;
      parts = t1.parts ∙ rw (t1.spelled.1, both, t2.spelled.0) refl;
    })))))))))

pub question_again : (bytes : List ℕ) (q : Question) → SpellsQuestion q bytes → question_of bytes ≡ Ok q
unfolding question_of
question_again bytes q s =
    let n = length s.token in
    let w = s.others_are in
    let v = w.follows in
    let small : n < 256 ^ 4 = omega (arith, s.token_fits) in
    let few : leb n max_token ≡ true = le-leb n max_token s.token_fits in
    let size : be_at 4 bytes ≡ Ok (n, s.token ++ s.others) = ap (be_at 4) s.parts
    ∙ (be_reader 4).again n (be_bytes 4 n) (s.token ++ s.others) (small, refl) in
    let part : part_at n (s.token ++ s.others) ≡ Ok (s.token, s.others) = (part_reader n).again s.token s.token
    s.others (refl, refl) in
    let owner : sid_at s.others ≡ Ok (q.owner, w.behind) = ap sid_at (sym (append-nil s.others))
    ∙ again_first SpellsSid sid_at sid_reader q.owner (StartsWith SpellsList q.dacl (SpellsBe 4 q.want)) s.others
    [] w ∙ ap (λ (r : List ℕ). Ok (q.owner, r)) (append-nil w.behind) in
    let dacl : list_at w.behind ≡ Ok (q.dacl, v.behind) = ap list_at (sym (append-nil w.behind))
    ∙ again_first SpellsList list_at acl_reader q.dacl (SpellsBe 4 q.want) w.behind [] v
    ∙ ap (λ (r : List ℕ). Ok (q.dacl, r)) (append-nil v.behind) in
    let want : be_at 4 v.behind ≡ Ok (q.want, []) = ap (be_at 4) (sym (append-nil v.behind))
    ∙ (be_reader 4).again q.want v.behind [] v.follows in
    rw (size, few, part, token_again s.token q.token s.token_is, owner, dacl, want) refl

pub is_found : (bytes : List ℕ) (r : Result Request RequestFault) → IsBytes bytes
    → GivesUnless is_memory question_seen r (question_of bytes)
    → IfOk r (λ request. SpellsQuestion (question_seen request) bytes)
is_found bytes (Ok request) fits given = question_found bytes (question_seen request) fits given
is_found bytes (Err e) fits given = tt

-- ---- the length of a question

pub question_length : (q : Question) (bytes : List ℕ) → SpellsQuestion q bytes → length bytes ≤ 327755
question_length q bytes s =
    let w = s.others_are in
    let v = w.follows in
    omega (
      arith,
      ap length s.parts,
      length-append (be_bytes 4 (length s.token)) (s.token ++ s.others),
      length-append s.token s.others,
      length-be_bytes 4 (length s.token),
      s.token_fits,
      ap length w.parts,
      length-append w.front w.behind,
      sid_length q.owner w.front w.spelled,
      ap length v.parts,
      length-append v.front v.behind,
      v.spelled.size_fits,
      ap length v.follows.1,
      length-be_bytes 4 q.want,
    )
