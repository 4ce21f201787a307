-- The reader of frames is that of their encodings.
use Rattle.std.proofs.Common.{◌≡◌, ℕ, ◌+◌, ◌<◌, ◌≤◌, true, cond, eqb, eq-eqb, leb, ltb, List, [], ◌++◌, length}
use Rattle.std.proofs.Common.{Option, None, Some, Ok, refl, sym, ap, subst, ◌∙◌, append_assoc, length-append, inl}
use Rattle.std.proofs.Common.{inr, ◌&&◌, arith}
use Rattle.std.proofs.lemmas.Bool.{cases_Bool, eqb-true, leb-true, le-leb, ltb-true, lt-ltb}
use Rattle.std.proofs.lemmas.List.{append-nil, nil_from_length}
use Rattle.ad_bytes.specs.Reading.{IsBytes, ◌>>=◌, or_fault, fault_as, TakesFront, StartsWith, IsReaderOf}
use Rattle.ad_bytes.specs.Numbers.{byte_at, be_at, part_at, SpellsByte, SpellsBe, SpellsPart}
use Rattle.ad_bytes.proofs.Steps.{from_bind, from_need, from_or_fault, from_fault_as, from_ok, both_true}
use Rattle.ad_bytes.proofs.Codec.{byte_reader, be_reader, part_reader, rest_fits, IsBytes-front, length-be_bytes}
use Rattle.ad_ids.specs.declared.token.Token.{Token}
use Rattle.ad_ids.specs.Token.{SpellsToken}
use Rattle.ad_ids.specs.TokenReading.{token_of}
use Rattle.ad_ids.proofs.TokenCodec.{token_found, token_again}
use Rattle.ad_frames.specs.declared.fault.FrameFault.{FrameFault}
use Rattle.ad_frames.specs.declared.fault.FrameFault.TheVariants as fault
use Rattle.ad_frames.specs.declared.frame.Frame.{Frame}
use Rattle.ad_frames.specs.declared.frame.FrameBody.{FrameBody}
use Rattle.ad_frames.specs.declared.frame.FrameBody.TheVariants as body
use Rattle.ad_frames.specs.declared.reading.FrameKind.{FrameKind}
use Rattle.ad_frames.specs.declared.reading.FrameKind.TheVariants as kind
use Rattle.ad_frames.specs.declared.reading.Header.{Header}
use Rattle.ad_frames.specs.Kinds.{token_byte, message_byte, steps_byte, run_byte}
use Rattle.ad_frames.specs.Limits.{max_body, max_connections, max_steps}
use Rattle.ad_frames.specs.Frame.{kind_byte, SpellsContent, SpellsFrame}
use Rattle.ad_frames.specs.Reading.{kind_by_byte, ok_or, has_length, header_of, header_at, content_at, token_at}
use Rattle.ad_frames.specs.Reading.{message_at, steps_of, steps_at, body_by, frame_at}

-- ---- the header

byte_of : FrameKind → ℕ
byte_of kind.Token = token_byte
byte_of kind.Message = message_byte
byte_of kind.Steps = steps_byte
byte_of kind.Run = run_byte

kind_of_body : FrameBody → FrameKind
kind_of_body (body.Token t) = kind.Token
kind_of_body (body.Message m) = kind.Message
kind_of_body (body.Steps n) = kind.Steps
kind_of_body body.Run = kind.Run

from_some : {A : Type 0} (d : FrameFault) (o : Option A) (x : A) → ok_or d o ≡ Ok x → o ≡ Some x
from_some d None x e = absurd cc
from_some d (Some y) x e = cc

-- one of the tests held
one_kind : (b n : ℕ) (k found : FrameKind) (others : Option FrameKind) → n ≡ byte_of k
    → (others ≡ Some found → b ≡ byte_of found) → cond (eqb b n) (Some k) others ≡ Some found → b ≡ byte_of found
one_kind b n k found others is rest e =
    elim (cases_Bool (eqb b n)) [
      | inl here ↦ let same : Some k ≡ Some found = sym (rw here refl) ∙ e in eqb-true b n here ∙ is
          ∙ ap byte_of (let inner : k ≡ found = cc in inner)
      | inr away ↦ rest (sym (rw away refl) ∙ e)
    ]

kind_byte_is : (b : ℕ) (k : FrameKind) → kind_by_byte b ≡ Some k → b ≡ byte_of k
unfolding byte_of
kind_byte_is b k e =
    one_kind b token_byte kind.Token k _ refl (one_kind b message_byte kind.Message k _ refl (one_kind b steps_byte
    kind.Steps k _ refl (one_kind b run_byte kind.Run k None refl (λ (none : None ≡ Some k). absurd cc)))) e

kind_byte_again : (k : FrameKind) → kind_by_byte (byte_of k) ≡ Some k
unfolding byte_of
kind_byte_again kind.Token = refl
kind_byte_again kind.Message = refl
kind_byte_again kind.Steps = refl
kind_byte_again kind.Run = refl

abbrev IsHeader : Header → List ℕ → Type 0
IsHeader h text = StartsWith SpellsByte (byte_of h.kind)
    (StartsWith (SpellsBe 2) h.connection (StartsWith (SpellsBe 4) h.len (λ (t : List ℕ). t ≡ []))) text

header_found : (bytes : List ℕ) (h : Header) → IsBytes bytes → length bytes ≡ 7 → header_of bytes ≡ Ok h
    → IsHeader h bytes × (h.connection < max_connections) × (has_length h.kind h.len ≡ true)
unfolding header_of
header_found bytes h fits seven e =
    from_bind (or_fault fault.Truncated (byte_at bytes)) _ h e
    (λ (b : ℕ × List ℕ) (e1 : or_fault fault.Truncated (byte_at bytes) ≡ Ok b) h1.
    from_bind (ok_or (fault.Kind b.0) (kind_by_byte b.0)) _ h h1
    (λ (k : FrameKind) (e2 : ok_or (fault.Kind b.0) (kind_by_byte b.0) ≡ Ok k) h2.
    from_bind (or_fault fault.Truncated (be_at 2 b.1)) _ h h2
    (λ (c : ℕ × List ℕ) (e3 : or_fault fault.Truncated (be_at 2 b.1) ≡ Ok c) h3.
    from_need (ltb c.0 max_connections) (fault.Connection c.0) _ h h3 (λ (few : ltb c.0 max_connections ≡ true) h4.
    from_bind (or_fault fault.Truncated (be_at 4 c.1)) _ h h4
    (λ (n : ℕ × List ℕ) (e4 : or_fault fault.Truncated (be_at 4 c.1) ≡ Ok n) h5.
    from_need (has_length k n.0) (fault.Length n.0) _ h h5
    (λ (right : has_length k n.0 ≡ true) (e5 : Ok (record { kind = k; connection = c.0; len = n.0 }) ≡ Ok h).
    let t1 = byte_reader.takes bytes b.0 b.1 fits (from_or_fault fault.Truncated (byte_at bytes) b e1) in
    let f1 = rest_fits SpellsByte bytes b.0 b.1 fits t1 in
    let t2 = (be_reader 2).takes b.1 c.0 c.1 f1 (from_or_fault fault.Truncated (be_at 2 b.1) c e3) in
    let f2 = rest_fits (SpellsBe 2) b.1 c.0 c.1 f1 t2 in
    let t3 = (be_reader 4).takes c.1 n.0 n.1 f2 (from_or_fault fault.Truncated (be_at 4 c.1) n e4) in
    let l1 : length bytes ≡ length t1.text + length b.1 = ap length t1.parts ∙ length-append t1.text b.1 in
    let l2 : length b.1 ≡ length t2.text + length c.1 = ap length t2.parts ∙ length-append t2.text c.1 in
    let l3 : length c.1 ≡ length t3.text + length n.1 = ap length t3.parts ∙ length-append t3.text n.1 in
    let n1 : length t1.text ≡ 1 = ap length t1.spelled.1 in
    let n2 : length t2.text ≡ 2 = ap length t2.spelled.1 ∙ length-be_bytes 2 c.0 in
    let n3 : length t3.text ≡ 4 = ap length t3.spelled.1 ∙ length-be_bytes 4 n.0 in
    let left : n.1 ≡ [] = nil_from_length n.1 (omega arith) in
    let is_kind : b.0 ≡ byte_of k = kind_byte_is b.0 k (from_some (fault.Kind b.0) (kind_by_byte b.0) k e2) in
    let value : Header = record { kind = k; connection = c.0; len = n.0 } in
    subst (λ (x : Header). IsHeader x bytes × (x.connection < max_connections) × (has_length x.kind x.len ≡ true))
    (from_ok {E = FrameFault} value h e5) (
      record {
        front = t1.text;
        behind = b.1;
        parts = t1.parts;
        spelled = subst (λ (x : ℕ). SpellsByte x t1.text) is_kind t1.spelled;
        follows = record {
          front = t2.text;
          behind = c.1;
          parts = t2.parts;
          spelled = t2.spelled;
          follows
              = record { front = t3.text; behind = n.1; parts = t3.parts; spelled = t3.spelled; follows = left };
        };
      },
      ltb-true _ _ few,
      right,
    )))))))

header_again : (h : Header) (text : List ℕ) → IsHeader h text → h.connection < max_connections
    → has_length h.kind h.len ≡ true → header_of text ≡ Ok h
unfolding header_of
header_again h text s few right =
    let w2 = s.follows in
    let w3 = w2.follows in
    let test : ltb h.connection max_connections ≡ true = lt-ltb _ _ few in
    let byte : byte_at text ≡ Ok (byte_of h.kind, s.behind) = ap byte_at s.parts ∙ byte_reader.again (byte_of h.kind)
    s.front s.behind s.spelled in
    let connection : be_at 2 s.behind ≡ Ok (h.connection, w2.behind) = ap (be_at 2) w2.parts
    ∙ (be_reader 2).again h.connection w2.front w2.behind w2.spelled in
    let len : be_at 4 w2.behind ≡ Ok (h.len, w3.behind) = ap (be_at 4) w3.parts ∙ (be_reader 4).again h.len w3.front
    w3.behind w3.spelled in
    rw (byte, kind_byte_again h.kind, connection, test, len, right) refl

header_length : (h : Header) (text : List ℕ) → IsHeader h text → length text ≡ 7
header_length h text s =
    let w2 = s.follows in
    let w3 = w2.follows in
    let l1 : length text ≡ length s.front + length s.behind = ap length s.parts ∙ length-append s.front s.behind in
    let l2 : length s.behind ≡ length w2.front + length w2.behind = ap length w2.parts
    ∙ length-append w2.front w2.behind in
    let l3 : length w2.behind ≡ length w3.front + length w3.behind = ap length w3.parts
    ∙ length-append w3.front w3.behind in
    let n1 : length s.front ≡ 1 = ap length s.spelled.1 in
    let n2 : length w2.front ≡ 2 = ap length w2.spelled.1 ∙ length-be_bytes 2 h.connection in
    let n3 : length w3.front ≡ 4 = ap length w3.spelled.1 ∙ length-be_bytes 4 h.len in
    let n4 : length w3.behind ≡ 0 = ap length w3.follows in
    omega arith

-- ---- the body

abbrev TakesContent : List ℕ → ℕ → FrameBody → List ℕ → Type 0
TakesContent bytes len b rest = (content : List ℕ) × (length content ≡ len) × (bytes ≡ content ++ rest)
    × SpellsContent b content

content_takes : (len : ℕ) (bytes content rest : List ℕ) → IsBytes bytes → content_at len bytes ≡ Ok (content, rest)
    → (length content ≡ len) × (bytes ≡ content ++ rest) × IsBytes content
unfolding content_at
content_takes len bytes content rest fits h =
    let t = (part_reader len).takes bytes content rest fits
    (from_or_fault fault.Truncated (part_at len bytes) (content, rest) h) in
    let parts : bytes ≡ content ++ rest = t.parts ∙ ap (λ (x : List ℕ). x ++ rest) t.spelled.1 in
    (t.spelled.0, parts, IsBytes-front content rest (subst IsBytes parts fits))

content_again : (len : ℕ) (content rest : List ℕ) → length content ≡ len → content_at len (content ++ rest)
    ≡ Ok (content, rest)
unfolding content_at
content_again len content rest is = rw ((part_reader len).again content content rest (is, refl)) refl

steps_takes : (bytes : List ℕ) (b : FrameBody) → IsBytes bytes → length bytes ≡ 4 → steps_of bytes ≡ Ok b
    → SpellsContent b bytes
unfolding steps_of
steps_takes bytes b fits four h =
    from_bind (or_fault fault.Truncated (be_at 4 bytes)) _ b h
    (λ (n : ℕ × List ℕ) (e1 : or_fault fault.Truncated (be_at 4 bytes) ≡ Ok n) h1.
    from_need (leb 1 n.0 && leb n.0 max_steps) (fault.Steps n.0) _ b h1
    (λ (range : leb 1 n.0 && leb n.0 max_steps ≡ true) (e2 : Ok (body.Steps n.0) ≡ Ok b).
    let t = (be_reader 4).takes bytes n.0 n.1 fits (from_or_fault fault.Truncated (be_at 4 bytes) n e1) in
    let both = both_true (leb 1 n.0) (leb n.0 max_steps) range in
    let size : length t.text ≡ 4 = ap length t.spelled.1 ∙ length-be_bytes 4 n.0 in
    let all : length bytes ≡ length t.text + length n.1 = ap length t.parts ∙ length-append t.text n.1 in
    let left : n.1 ≡ [] = nil_from_length n.1 (omega arith) in
    let whole : bytes ≡ t.text = t.parts ∙ ap (λ (r : List ℕ). t.text ++ r) left ∙ append-nil t.text in
    subst (λ (x : FrameBody). SpellsContent x bytes) (from_ok {E = FrameFault} (body.Steps n.0) b e2)
    (leb-true _ _ both.0, leb-true _ _ both.1, (t.spelled.0, whole ∙ t.spelled.1))))

steps_again : (n : ℕ) (text : List ℕ) → SpellsContent (body.Steps n) text → steps_of text ≡ Ok (body.Steps n)
unfolding steps_of
steps_again n text s =
    let low : leb 1 n ≡ true = le-leb _ _ s.0 in
    let high : leb n max_steps ≡ true = le-leb _ _ s.1 in
    let read : be_at 4 text ≡ Ok (n, []) = ap (be_at 4) (sym (append-nil text)) ∙ (be_reader 4).again n text [] s.2 in
    rw (read, low, high) refl

steps_kind : (bytes : List ℕ) (b : FrameBody) → steps_of bytes ≡ Ok b → kind_of_body b ≡ kind.Steps
unfolding steps_of kind_of_body
steps_kind bytes b h =
    from_bind (or_fault fault.Truncated (be_at 4 bytes)) _ b h
    (λ (n : ℕ × List ℕ) (e1 : or_fault fault.Truncated (be_at 4 bytes) ≡ Ok n) h1.
    from_need (leb 1 n.0 && leb n.0 max_steps) (fault.Steps n.0) _ b h1
    (λ (range : leb 1 n.0 && leb n.0 max_steps ≡ true) (e2 : Ok (body.Steps n.0) ≡ Ok b).
    subst (λ (x : FrameBody). kind_of_body x ≡ kind.Steps) (from_ok {E = FrameFault} (body.Steps n.0) b e2) refl))

none_fits : (n : ℕ) → n ≡ 0 → n ≤ max_body
none_fits n is = omega (arith, is)

four_fits : (n : ℕ) → n ≡ 4 → n ≤ max_body
unfolding max_body
four_fits n is = omega (arith, is)

-- the number of bytes of a body is that of the header
body_takes : (k : FrameKind) (len : ℕ) (bytes : List ℕ) (b : FrameBody) (rest : List ℕ) → IsBytes bytes
    → has_length k len ≡ true → body_by k len bytes ≡ Ok (b, rest) → (kind_of_body b ≡ k) × (len ≤ max_body)
    × TakesContent bytes len b rest
unfolding token_at message_at steps_at kind_of_body
body_takes kind.Token len bytes b rest fits right h =
    from_bind (content_at len bytes) _ (b, rest) h (λ (c : List ℕ × List ℕ) (e1 : content_at len bytes ≡ Ok c) h1.
    from_bind (fault_as fault.Token (token_of c.0)) _ (b, rest) h1
    (λ (t : Token) (e2 : fault_as fault.Token (token_of c.0) ≡ Ok t) (e3 : Ok (body.Token t, c.1) ≡ Ok (b, rest)).
    let taken = content_takes len bytes c.0 c.1 fits e1 in
    let spelled : SpellsToken t c.0 = token_found c.0 t taken.2 (from_fault_as fault.Token (token_of c.0) t e2) in
    subst (λ (p : FrameBody × List ℕ). (kind_of_body p.0 ≡ kind.Token) × (len ≤ max_body) × TakesContent bytes len p.0
    p.1) (from_ok {E = FrameFault} (body.Token t, c.1) (b, rest) e3)
    (refl, leb-true _ _ right, (c.0, taken.0, taken.1, spelled))))
body_takes kind.Message len bytes b rest fits right h =
    from_bind (content_at len bytes) _ (b, rest) h
    (λ (c : List ℕ × List ℕ) (e1 : content_at len bytes ≡ Ok c) (e2 : Ok (body.Message c.0, c.1) ≡ Ok (b, rest)).
    let taken = content_takes len bytes c.0 c.1 fits e1 in
    subst (λ (p : FrameBody × List ℕ). (kind_of_body p.0 ≡ kind.Message) × (len ≤ max_body)
    × TakesContent bytes len p.0 p.1) (from_ok {E = FrameFault} (body.Message c.0, c.1) (b, rest) e2)
    (refl, leb-true _ _ right, (c.0, taken.0, taken.1, refl)))
body_takes kind.Steps len bytes b rest fits right h =
    let four : len ≡ 4 = eqb-true _ _ right in
    from_bind (content_at 4 bytes) _ (b, rest) h (λ (c : List ℕ × List ℕ) (e1 : content_at 4 bytes ≡ Ok c) h1.
    from_bind (steps_of c.0) _ (b, rest) h1
    (λ (x : FrameBody) (e2 : steps_of c.0 ≡ Ok x) (e3 : Ok (x, c.1) ≡ Ok (b, rest)).
    let taken = content_takes 4 bytes c.0 c.1 fits e1 in
    let is_steps = steps_kind c.0 x e2 in
    subst (λ (p : FrameBody × List ℕ). (kind_of_body p.0 ≡ kind.Steps) × (len ≤ max_body) × TakesContent bytes len p.0
    p.1) (from_ok {E = FrameFault} (x, c.1) (b, rest) e3)
    (is_steps, four_fits len four, (c.0, taken.0 ∙ sym four, taken.1, steps_takes c.0 x taken.2 taken.0 e2))))
body_takes kind.Run len bytes b rest fits right h =
    let none : len ≡ 0 = eqb-true _ _ right in
    subst (λ (p : FrameBody × List ℕ). (kind_of_body p.0 ≡ kind.Run) × (len ≤ max_body) × TakesContent bytes len p.0
    p.1) (from_ok {E = FrameFault} (body.Run, bytes) (b, rest) h)
    (refl, none_fits len none, ([], sym none, refl, refl))

-- ---- the frame

-- a header, and a body of so many bytes
header_then : (h : Header) (head content : List ℕ) → IsHeader h head → length content ≡ h.len
    → StartsWith SpellsByte (byte_of h.kind)
    (StartsWith (SpellsBe 2) h.connection
    (StartsWith (SpellsBe 4) (length content) (SpellsPart (length content) content))) (head ++ content)
header_then h head content s is =
    let w2 = s.follows in
    let w3 = w2.follows in
    record {
      front = s.front;
      behind = s.behind ++ content;
      parts = ap (λ (t : List ℕ). t ++ content) s.parts ∙ append_assoc s.front s.behind content;
      spelled = s.spelled;
      follows = record {
        front = w2.front;
        behind = w2.behind ++ content;
        parts = ap (λ (t : List ℕ). t ++ content) w2.parts ∙ append_assoc w2.front w2.behind content;
        spelled = w2.spelled;
        follows = record {
          front = w3.front;
          behind = content;
          parts = ap (λ (t : List ℕ). t ++ content) (w3.parts ∙ ap (λ (r : List ℕ). w3.front ++ r) w3.follows
              ∙ append-nil w3.front);
          spelled = subst (λ (n : ℕ). SpellsBe 4 n w3.front) (sym is) w3.spelled;
          follows = (refl, refl);
        };
      };
    }

kind_byte_of : (b : FrameBody) → byte_of (kind_of_body b) ≡ kind_byte b
unfolding byte_of kind_of_body
kind_byte_of (body.Token t) = refl
kind_byte_of (body.Message m) = refl
kind_byte_of (body.Steps n) = refl
kind_byte_of body.Run = refl

frame_takes : (bytes : List ℕ) (f : Frame) (rest : List ℕ) → IsBytes bytes → frame_at bytes ≡ Ok (f, rest)
    → TakesFront SpellsFrame bytes f rest
unfolding frame_at header_at
frame_takes bytes f rest fits e =
    from_bind (or_fault fault.Truncated (part_at 7 bytes) >>= λ head. header_of head.0 >>= λ h. Ok (h, head.1)) _
    (f, rest) e
    (λ (h : Header × List ℕ) (e1 : (or_fault fault.Truncated (part_at 7 bytes) >>= λ head. header_of head.0
    >>= λ x. Ok (x, head.1)) ≡ Ok h) h1.
    from_bind (or_fault fault.Truncated (part_at 7 bytes)) _ h e1
    (λ (head : List ℕ × List ℕ) (e2 : or_fault fault.Truncated (part_at 7 bytes) ≡ Ok head) h2.
    from_bind (header_of head.0) _ h h2 (λ (x : Header) (e3 : header_of head.0 ≡ Ok x) (e4 : Ok (x, head.1) ≡ Ok h).
    from_bind (body_by h.0.kind h.0.len h.1) _ (f, rest) h1
    (λ (b : FrameBody × List ℕ) (e5 : body_by h.0.kind h.0.len h.1 ≡ Ok b)
    (e6 : Ok (record { connection = h.0.connection; body = b.0 }, b.1) ≡ Ok (f, rest)).
    let t = (part_reader 7).takes bytes head.0 head.1 fits (from_or_fault fault.Truncated (part_at 7 bytes) head e2) in
    let front : bytes ≡ head.0 ++ head.1 = t.parts ∙ ap (λ (y : List ℕ). y ++ head.1) t.spelled.1 in
    let same : (x, head.1) ≡ h = from_ok {E = FrameFault} (x, head.1) h e4 in
    let is_header : x ≡ h.0 = ap (λ (p : Header × List ℕ). p.0) same in
    let is_left : head.1 ≡ h.1 = ap (λ (p : Header × List ℕ). p.1) same in
    let head_fits : IsBytes head.0 = IsBytes-front head.0 head.1 (subst IsBytes front fits) in
    let found = header_found head.0 h.0 head_fits t.spelled.0 (e3 ∙ ap (λ (y : Header). Ok y) is_header) in
    let left_fits : IsBytes h.1 = subst IsBytes is_left (rest_fits (SpellsPart 7) bytes head.0 head.1 fits t) in
    let taken = body_takes h.0.kind h.0.len h.1 b.0 b.1 left_fits found.2 e5 in
    let c = taken.2 in
    let text = header_then h.0 head.0 c.0 found.0 c.1 in
    let is_byte : byte_of h.0.kind ≡ kind_byte b.0 = ap byte_of (sym taken.0) ∙ kind_byte_of b.0 in
    let value : Frame = record { connection = h.0.connection; body = b.0 } in
    subst (λ (p : Frame × List ℕ). TakesFront SpellsFrame bytes p.0 p.1)
    (from_ok {E = FrameFault} (value, b.1) (f, rest) e6)
    (record {
      text = head.0 ++ c.0;
      parts = front ∙ ap (λ (y : List ℕ). head.0 ++ y) (is_left ∙ c.2) ∙ sym (append_assoc head.0 c.0 b.1);
      spelled = record {
        content = c.0;
        few = subst (λ (n : ℕ). n ≤ max_body) (sym c.1) taken.1;
        connection = found.1;
        spelled = c.3;
        text_is = subst (λ (n : ℕ). StartsWith SpellsByte n
            (StartsWith (SpellsBe 2) h.0.connection
            (StartsWith (SpellsBe 4) (length c.0) (SpellsPart (length c.0) c.0))) (head.0 ++ c.0)) is_byte text;
      };
    })))))

body_again : (b : FrameBody) (content rest : List ℕ) → SpellsContent b content → body_by (kind_of_body b)
    (length content) (content ++ rest) ≡ Ok (b, rest)
unfolding token_at message_at steps_at kind_of_body
body_again (body.Token t) content rest s = rw (
  content_again (length content) content rest refl,
  token_again content t
      s,
) refl
body_again (body.Message m) content rest s = rw (content_again (length content) content rest refl)
    (ap (λ (c : List ℕ). Ok (body.Message c, rest)) s)
body_again (body.Steps n) content rest s =
    let four : length content ≡ 4 = ap length s.2.1 ∙ length-be_bytes 4 n in
    rw (content_again 4 content rest four, steps_again n content s) refl
body_again body.Run content rest s = ap (λ (c : List ℕ). Ok (body.Run, c ++ rest)) s

length_again : (b : FrameBody) (content : List ℕ) → length content ≤ max_body → SpellsContent b content
    → has_length (kind_of_body b) (length content) ≡ true
unfolding kind_of_body
length_again (body.Token t) content few s = le-leb _ _ few
length_again (body.Message m) content few s = le-leb _ _ few
length_again (body.Steps n) content few s = eq-eqb (length content) 4 (ap length s.2.1 ∙ length-be_bytes 4 n)
length_again body.Run content few s = eq-eqb (length content) 0 (ap length s)

frame_again : (f : Frame) (text rest : List ℕ) → SpellsFrame f text → frame_at (text ++ rest) ≡ Ok (f, rest)
unfolding frame_at header_at
frame_again f text rest s =
    let w1 = s.text_is in
    let w2 = w1.follows in
    let w3 = w2.follows in
    let k = kind_of_body f.body in
    let h : Header = record { kind = k; connection = f.connection; len = length s.content } in
    let head = w1.front ++ (w2.front ++ w3.front) in
    let is_head : IsHeader h head = record {
      front = w1.front;
      behind = w2.front ++ w3.front;
      parts = refl;
      spelled = subst (λ (n : ℕ). SpellsByte n w1.front) (sym (kind_byte_of f.body)) w1.spelled;
      follows = record {
        front = w2.front;
        behind = w3.front;
        parts = refl;
        spelled = w2.spelled;
        follows
            = record {
              front = w3.front;
              behind = [];
              parts = sym (append-nil w3.front);
              spelled = w3.spelled;
              follows
                  = refl;
            };
      };
    } in
    let behind : w1.behind ≡ (w2.front ++ w3.front) ++ s.content = w2.parts ∙ ap (λ (y : List ℕ). w2.front ++ y)
    (w3.parts ∙ ap (λ (y : List ℕ). w3.front ++ y) w3.follows.1) ∙ sym (append_assoc w2.front w3.front s.content)
    in
    let whole : text ≡ head ++ s.content = w1.parts ∙ ap (λ (y : List ℕ). w1.front ++ y) behind
    ∙ sym (append_assoc w1.front (w2.front ++ w3.front) s.content) in
    let all : text ++ rest ≡ head ++ (s.content ++ rest) = ap (λ (y : List ℕ). y ++ rest) whole
    ∙ append_assoc head s.content rest in
    let seven : length head ≡ 7 = header_length h head is_head in
    let first : part_at 7 (text ++ rest) ≡ Ok (head, s.content ++ rest) = ap (part_at 7) all
    ∙ (part_reader 7).again head head (s.content ++ rest) (seven, refl) in
    let header : header_of head ≡ Ok h = header_again h head is_head s.connection
    (length_again f.body s.content s.few s.spelled) in
    rw (first, header, body_again f.body s.content rest s.spelled) refl

pub frame_reader : IsReaderOf SpellsFrame frame_at
frame_reader = record { takes = frame_takes; again = frame_again }
