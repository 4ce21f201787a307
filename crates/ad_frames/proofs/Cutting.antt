-- What is read of a frame needs nothing after it, and what is cut short is too short for a frame.
use Rattle.std.proofs.Common.{◌≡◌, ◌∙◌, ℕ, ◌<◌, ◌≤◌, true, false, ltb, List, [], ◌++◌, length, take, drop, Option}
use Rattle.std.proofs.Common.{None, Some, Result, Ok, Err, refl, sym, ap, subst, append_assoc, arith}
use Rattle.std.proofs.lemmas.Bool.{lt-ltb, ltb-false}
use Rattle.std.proofs.lemmas.List.{take-append-drop, length-take}
use Rattle.ad_bytes.specs.Reading.{Reading, ◌>>=◌, or_fault, fault_as}
use Rattle.ad_bytes.specs.Numbers.{short, part_at}
use Rattle.ad_bytes.proofs.Steps.{from_bind, from_guard, from_or_fault, from_ok}
use Rattle.ad_bytes.proofs.Codec.{part_reader}
use Rattle.site_io.specs.Told.{BothTold}
use Rattle.ad_ids.specs.declared.token.Token.{Token}
use Rattle.ad_ids.specs.TokenReading.{token_of}
use Rattle.ad_frames.specs.declared.fault.FrameFault.{FrameFault}
use Rattle.ad_frames.specs.declared.fault.FrameFault.TheVariants as fault
use Rattle.ad_frames.specs.declared.frame.Frame.{Frame}
use Rattle.ad_frames.specs.declared.frame.FrameBody.{FrameBody}
use Rattle.ad_frames.specs.declared.frame.FrameBody.TheVariants as body
use Rattle.ad_frames.specs.declared.reading.FrameKind.{FrameKind}
use Rattle.ad_frames.specs.declared.reading.FrameKind.TheVariants as kind
use Rattle.ad_frames.specs.declared.reading.Header.{Header}
use Rattle.ad_frames.specs.Reading.{ReadsFront, header_of, header_at, option_header_at, content_at, token_at}
use Rattle.ad_frames.specs.Reading.{message_at, steps_of, steps_at, body_by, frame_at}
use Rattle.ad_frames.specs.Source.{IsCutShort, TakesFewer}
use Rattle.ad_frames.proofs.SourceSteps.{told_more, told_then, content_read, content_cut, has_header}

-- ---- parts

part_front : (n : ℕ) (b c a : List ℕ) → part_at n b ≡ Ok (c, a) → (b ≡ c ++ a) × (length c ≡ n)
unfolding part_at
part_front n b c a e =
    from_guard (ltb (length b) n) short (take n b, drop n b) (c, a) e
    (λ (long : ltb (length b) n ≡ false) (same : (take n b, drop n b) ≡ (c, a)).
    let le : n ≤ length b = ltb-false _ _ long in
    let so_many : length (take n b) ≡ n = omega (arith, length-take n b) in
    subst (λ (p : List ℕ × List ℕ). (b ≡ p.0 ++ p.1) × (length p.0 ≡ n)) same (sym (take-append-drop n b), so_many))

content_front : (len : ℕ) (b c a : List ℕ) → content_at len b ≡ Ok (c, a) → ReadsFront (content_at len) b c a
unfolding content_at
content_front len b c a e =
    let parts = part_front len b c a (from_or_fault fault.Truncated (part_at len b) (c, a) e) in
    record {
      text = c;
      parts = parts.0;
      again = λ behind. content_read len (c ++ behind) c behind ((part_reader len).again c c behind (parts.1, refl));
    }

-- what is made of a part that was read
made_front : {X Y : Type 0} (read : List ℕ → Reading X FrameFault) (whole : List ℕ → Reading Y FrameFault)
    (b : List ℕ) (x : X) (y : Y) (a : List ℕ)
    → ((t r : List ℕ) → read t ≡ Ok (x, r) → whole t ≡ Ok (y, r)) → ReadsFront read b x a → ReadsFront whole b y a
made_front read whole b x y a make front = record {
  text = front.text;
  parts = front.parts;
  again = λ behind. make (front.text ++ behind) behind (front.again behind);
}

token_front : (len : ℕ) (b : List ℕ) (x : FrameBody) (a : List ℕ) → token_at len b ≡ Ok (x, a)
    → ReadsFront (token_at len) b x a
unfolding token_at
token_front len b x a e =
    from_bind (content_at len b) _ (x, a) e (λ (c : List ℕ × List ℕ) (e1 : content_at len b ≡ Ok c) h1.
    from_bind (fault_as fault.Token (token_of c.0)) _ (x, a) h1
    (λ (t : Token) (e2 : fault_as fault.Token (token_of c.0) ≡ Ok t) (e3 : Ok (body.Token t, c.1) ≡ Ok (x, a)).
    subst (λ (p : FrameBody × List ℕ). ReadsFront (token_at len) b p.0 p.1)
    (from_ok {E = FrameFault} (body.Token t, c.1) (x, a) e3)
    (made_front (content_at len) (token_at len) b c.0 (body.Token t) c.1 (λ u r is. rw (is, e2) refl)
    (content_front len b c.0 c.1 e1))))

message_front : (len : ℕ) (b : List ℕ) (x : FrameBody) (a : List ℕ) → message_at len b ≡ Ok (x, a)
    → ReadsFront (message_at len) b x a
unfolding message_at
message_front len b x a e =
    from_bind (content_at len b) _ (x, a) e
    (λ (c : List ℕ × List ℕ) (e1 : content_at len b ≡ Ok c) (e2 : Ok (body.Message c.0, c.1) ≡ Ok (x, a)).
    subst (λ (p : FrameBody × List ℕ). ReadsFront (message_at len) b p.0 p.1)
    (from_ok {E = FrameFault} (body.Message c.0, c.1) (x, a) e2)
    (made_front (content_at len) (message_at len) b c.0 (body.Message c.0) c.1 (λ u r is. rw is refl)
    (content_front len b c.0 c.1 e1)))

steps_front : (b : List ℕ) (x : FrameBody) (a : List ℕ) → steps_at b ≡ Ok (x, a) → ReadsFront steps_at b x a
unfolding steps_at
steps_front b x a e =
    from_bind (content_at 4 b) _ (x, a) e (λ (c : List ℕ × List ℕ) (e1 : content_at 4 b ≡ Ok c) h1.
    from_bind (steps_of c.0) _ (x, a) h1 (λ (n : FrameBody) (e2 : steps_of c.0 ≡ Ok n) (e3 : Ok (n, c.1) ≡ Ok (x, a)).
    subst (λ (p : FrameBody × List ℕ). ReadsFront steps_at b p.0 p.1) (from_ok {E = FrameFault} (n, c.1) (x, a) e3)
    (made_front (content_at 4) steps_at b c.0 n c.1 (λ u r is. rw (is, e2) refl) (content_front 4 b c.0 c.1 e1))))

run_front : (len : ℕ) (b : List ℕ) (x : FrameBody) (a : List ℕ) → body_by kind.Run len b ≡ Ok (x, a)
    → ReadsFront (body_by kind.Run len) b x a
run_front len b x a e =
    subst (λ (p : FrameBody × List ℕ). ReadsFront (body_by kind.Run len) b p.0 p.1)
    (from_ok {E = FrameFault} (body.Run, b) (x, a) e)
    (record { text = []; parts = refl; again = λ behind. refl })

body_front : (k : FrameKind) (len : ℕ) (b : List ℕ) (x : FrameBody) (a : List ℕ) → body_by k len b ≡ Ok (x, a)
    → ReadsFront (body_by k len) b x a
body_front kind.Token len b x a e = token_front len b x a e
body_front kind.Message len b x a e = message_front len b x a e
body_front kind.Steps len b x a e = steps_front b x a e
body_front kind.Run len b x a e = run_front len b x a e

header_front : (b : List ℕ) (h : Header) (a : List ℕ) → header_at b ≡ Ok (h, a) → ReadsFront header_at b h a
unfolding header_at
header_front b h a e =
    from_bind (or_fault fault.Truncated (part_at 7 b)) _ (h, a) e
    (λ (c : List ℕ × List ℕ) (e1 : or_fault fault.Truncated (part_at 7 b) ≡ Ok c) h1.
    from_bind (header_of c.0) _ (h, a) h1 (λ (x : Header) (e2 : header_of c.0 ≡ Ok x) (e3 : Ok (x, c.1) ≡ Ok (h, a)).
    let parts = part_front 7 b c.0 c.1 (from_or_fault fault.Truncated (part_at 7 b) c e1) in
    subst (λ (p : Header × List ℕ). ReadsFront header_at b p.0 p.1) (from_ok {E = FrameFault} (x, c.1) (h, a) e3)
    (record {
      text = c.0;
      parts = parts.0;
      again = λ behind. rw ((part_reader 7).again c.0 c.0 behind (parts.1, refl), e2) refl;
    })))

-- ---- a frame

pub frame_front : (b rest : List ℕ) (f : Frame) → frame_at b ≡ Ok (f, rest) → ReadsFront frame_at b f rest
unfolding frame_at
frame_front b rest f e =
    from_bind (header_at b) _ (f, rest) e (λ (h : Header × List ℕ) (e1 : header_at b ≡ Ok h) h1.
    from_bind (body_by h.0.kind h.0.len h.1) _ (f, rest) h1
    (λ (x : FrameBody × List ℕ) (e2 : body_by h.0.kind h.0.len h.1 ≡ Ok x)
    (e3 : Ok (record { connection = h.0.connection; body = x.0 }, x.1) ≡ Ok (f, rest)).
    let value : Frame = record { connection = h.0.connection; body = x.0 } in
    let head = header_front b h.0 h.1 e1 in
    let content = body_front h.0.kind h.0.len h.1 x.0 x.1 e2 in
    subst (λ (p : Frame × List ℕ). ReadsFront frame_at b p.0 p.1) (from_ok {E = FrameFault} (value, x.1) (f, rest) e3)
    (record {
      text = head.text ++ content.text;
      parts = head.parts ∙ ap (λ (y : List ℕ). head.text ++ y) content.parts
          ∙ sym (append_assoc head.text content.text x.1);
      again = λ behind. ap frame_at (append_assoc head.text content.text behind)
          ∙ rw (head.again (content.text ++ behind), content.again behind) refl;
    })))

-- ---- what is cut short

short_part : (n : ℕ) (t : List ℕ) → length t < n → part_at n t ≡ Err short
unfolding part_at
short_part n t few = let test : ltb (length t) n ≡ true = lt-ltb _ _ few in rw test refl

-- of whatever is cut short where its first bytes are
pub cut_fewer : {X : Type 0} (old new : Option (List ℕ)) (n room : ℕ) (read : List ℕ → Reading X FrameFault)
    → ((t : List ℕ) → part_at n t ≡ Err short → read t ≡ Err fault.Truncated) → room ≡ n → TakesFewer old new room
    → IsCutShort old new read
cut_fewer old new n room read cuts is few =
    told_more old new _ _ (λ b a p. let less : length p.0 < n = omega (arith, p.2, is)
    in (p.0, p.1, cuts p.0 (short_part n p.0 less))) few

-- of whatever is cut short where a part of it is
pub cut_part : {X Y : Type 0} (old new : Option (List ℕ)) (read : List ℕ → Reading X FrameFault)
    (whole : List ℕ → Reading Y FrameFault)
    → ((t : List ℕ) → read t ≡ Err fault.Truncated → whole t ≡ Err fault.Truncated) → IsCutShort old new read
    → IsCutShort old new whole
cut_part old new read whole cuts cut = told_more old new _ _ (λ b a p. (p.0, p.1, cuts p.0 p.2)) cut

pub frame_cut_head : (t : List ℕ) → header_at t ≡ Err fault.Truncated → frame_at t ≡ Err fault.Truncated
unfolding frame_at
frame_cut_head t e = rw e refl

frame_cut_body : (b m a taken : List ℕ) (h : Header) → option_header_at b ≡ Ok (Some h, m) → m ≡ taken ++ a
    → body_by h.kind h.len taken ≡ Err fault.Truncated
    → (t : List ℕ) × (b ≡ t ++ a) × (frame_at t ≡ Err fault.Truncated)
unfolding frame_at
frame_cut_body b m a taken h e parts cut =
    let head = header_front b h m (has_header b h m e).1 in (
      head.text ++ taken,
      head.parts ∙ ap (λ (y : List ℕ). head.text ++ y) parts ∙ sym (append_assoc head.text taken a),
      rw (head.again taken, cut) refl,
    )

pub cut_behind : (old middle new : Option (List ℕ)) (h : Header)
    → BothTold old middle (λ b m. option_header_at b ≡ Ok (Some h, m))
    → IsCutShort middle new (body_by h.kind h.len) → IsCutShort old new frame_at
cut_behind old middle new h head cut = told_then old middle new _ _ _
    (λ b m a e p. frame_cut_body b m a p.0 h e p.1 p.2) head cut

-- a fault of a part is the same fault of the whole
pub same_fault : {X Y : Type 0} (d e : FrameFault) → ◌≡◌ {A = Result X FrameFault} (Err d) (Err e)
    → ◌≡◌ {A = Result Y FrameFault} (Err d) (Err e)
same_fault {X} d e is = ap (λ (f : FrameFault). Err f) (inside is)
  where
    inside : ◌≡◌ {A = Result X FrameFault} (Err d) (Err e) → d ≡ e
    inside same = cc same
