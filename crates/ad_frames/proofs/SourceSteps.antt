-- Steps of reading from a source, by what it tells.
use Rattle.std.proofs.Common.{◌≡◌, ℕ, ◌<◌, ◌≤◌, true, false, ltb, List, [], ◌∷◌, ◌++◌, length, take, drop, Option}
use Rattle.std.proofs.Common.{None, Some, Result, Ok, Err, refl, sym, ap, ◌∙◌, append_assoc, length-append, arith}
use Rattle.std.proofs.lemmas.Bool.{lt-ltb}
use Rattle.std.proofs.lemmas.List.{take_all, take_at, length-take}
use Rattle.ad_bytes.specs.Reading.{Reading, ◌>>=◌}
use Rattle.ad_bytes.specs.Numbers.{short, part_at}
use Rattle.ad_bytes.proofs.Steps.{from_bind, from_ok}
use Rattle.ad_bytes.proofs.Codec.{part_reader}
use Rattle.site_io.specs.Told.{BothTold}
use Rattle.site_io.specs.Whole.{LeavesAnEnd, Fills}
use Rattle.ad_ids.specs.declared.token.Token.{Token}
use Rattle.ad_ids.specs.declared.token_fault.TokenFault.{TokenFault}
use Rattle.ad_ids.specs.declared.token_fault.TokenFault.TheVariants as token
use Rattle.ad_ids.specs.TokenReading.{token_of, is_memory}
use Rattle.ad_frames.specs.declared.fault.FrameFault.{FrameFault}
use Rattle.ad_frames.specs.declared.fault.FrameFault.TheVariants as fault
use Rattle.ad_frames.specs.declared.frame.Frame.{Frame}
use Rattle.ad_frames.specs.declared.frame.FrameBody.{FrameBody}
use Rattle.ad_frames.specs.declared.frame.FrameBody.TheVariants as body
use Rattle.ad_frames.specs.declared.reading.Header.{Header}
use Rattle.ad_frames.specs.Fault.{token_fault, is_outside}
use Rattle.ad_frames.specs.Reading.{header_of, header_at, option_header_at, content_at, token_at, message_at}
use Rattle.ad_frames.specs.Reading.{steps_of, steps_at, body_by, frame_at, next_of}
use Rattle.ad_frames.specs.Source.{ReadsSource}

-- ---- what is told

pub told_more : {A : Type 0} (old new : Option A) (P Q : A → A → Type 0) → ((b a : A) → P b a → Q b a)
    → BothTold old new P → BothTold old new Q
told_more None None P Q f t = tt
told_more (Some b) (Some a) P Q f t = f b a t
told_more None (Some a) P Q f t = absurd t
told_more (Some b) None P Q f t = absurd t

pub told_then : {A : Type 0} (old middle new : Option A) (P Q R : A → A → Type 0)
    → ((b m a : A) → P b m → Q m a → R b a) → BothTold old middle P → BothTold middle new Q → BothTold old new R
told_then None None None P Q R f t u = tt
told_then (Some b) (Some m) (Some a) P Q R f t u = f b m a t u
told_then None (Some m) new P Q R f t u = absurd t
told_then (Some b) None new P Q R f t u = absurd t
told_then None None (Some a) P Q R f t u = absurd u
told_then (Some b) (Some m) None P Q R f t u = absurd u

pub left_then : (old middle new : Option (List ℕ)) → LeavesAnEnd old middle → LeavesAnEnd middle new
    → LeavesAnEnd old new
left_then old middle new t u = told_then old middle new _ _ _
    (λ b m a p q. (p.0 ++ q.0, p.1 ∙ ap (λ (r : List ℕ). p.0 ++ r) q.1 ∙ sym (append_assoc p.0 q.0 a))) t u

-- a fault of a part is one of the whole
pub fault_on : {X Y : Type 0} (old new : Option (List ℕ)) (e : FrameFault) (read : List ℕ → Reading X FrameFault)
    (whole : List ℕ → Reading Y FrameFault) → ((b : List ℕ) → read b ≡ Err e → whole b ≡ Err e)
    → ReadsSource {X = X} old new (Err e) read → ReadsSource {X = Y} old new (Err e) whole
fault_on old new (fault.Kind k) read whole f t = told_more old new _ _ (λ b a. f b) t
fault_on old new (fault.Connection k) read whole f t = told_more old new _ _ (λ b a. f b) t
fault_on old new (fault.Length k) read whole f t = told_more old new _ _ (λ b a. f b) t
fault_on old new (fault.Steps k) read whole f t = told_more old new _ _ (λ b a. f b) t
fault_on old new (fault.Token k) read whole f t = told_more old new _ _ (λ b a. f b) t
fault_on old new fault.Truncated read whole f t = told_more old new _ _ (λ b a. f b) t
fault_on old new fault.Source read whole f t = tt
fault_on old new fault.Memory read whole f t = tt

-- a fault after a part that was read
pub fault_then : {X Y : Type 0} (old middle new : Option (List ℕ)) (e : FrameFault) (P : List ℕ → List ℕ → Type 0)
    (read : List ℕ → Reading X FrameFault) (whole : List ℕ → Reading Y FrameFault)
    → ((b m : List ℕ) → P b m → read m ≡ Err e → whole b ≡ Err e) → BothTold old middle P → ReadsSource {X = X} middle
    new (Err e) read → ReadsSource {X = Y} old new (Err e) whole
fault_then old middle new (fault.Kind k) P read whole f t u = told_then old middle new P _ _ (λ b m a. f b m) t u
fault_then old middle new (fault.Connection k) P read whole f t u = told_then old middle new P _ _ (λ b m a. f b m) t u
fault_then old middle new (fault.Length k) P read whole f t u = told_then old middle new P _ _ (λ b m a. f b m) t u
fault_then old middle new (fault.Steps k) P read whole f t u = told_then old middle new P _ _ (λ b m a. f b m) t u
fault_then old middle new (fault.Token k) P read whole f t u = told_then old middle new P _ _ (λ b m a. f b m) t u
fault_then old middle new fault.Truncated P read whole f t u = told_then old middle new P _ _ (λ b m a. f b m) t u
fault_then old middle new fault.Source P read whole f t u = tt
fault_then old middle new fault.Memory P read whole f t u = tt

-- a fault of bytes that were taken
pub fault_here : {Y : Type 0} (old new : Option (List ℕ)) (e : FrameFault) (P : List ℕ → List ℕ → Type 0)
    (whole : List ℕ → Reading Y FrameFault) → ((b a : List ℕ) → P b a → whole b ≡ Err e) → BothTold old new P
    → ReadsSource {X = Y} old new (Err e) whole
fault_here old new (fault.Kind k) P whole f t = told_more old new P _ f t
fault_here old new (fault.Connection k) P whole f t = told_more old new P _ f t
fault_here old new (fault.Length k) P whole f t = told_more old new P _ f t
fault_here old new (fault.Steps k) P whole f t = told_more old new P _ f t
fault_here old new (fault.Token k) P whole f t = told_more old new P _ f t
fault_here old new fault.Truncated P whole f t = told_more old new P _ f t
fault_here old new fault.Source P whole f t = tt
fault_here old new fault.Memory P whole f t = tt

-- ---- bytes that were filled in

-- all of a buffer
pub filled : (old new : Option (List ℕ)) (n len : ℕ) (into : List ℕ) → length into ≡ len → len ≤ n
    → Fills old new n into → BothTold old new (λ b a. part_at len b ≡ Ok (into, a))
filled old new n len into is enough t = told_more old new _ _ (λ b a f.
    let whole : b ≡ into ++ a = f.0 ∙ ap (λ (x : List ℕ). x ++ a) (take_all n into (omega arith)) in
    ap (part_at len) whole ∙ (part_reader len).again into into a (is, refl)) t

-- fewer bytes than there is room for
abbrev CutShort : ℕ → ℕ → List ℕ → List ℕ → Type 0
CutShort n len b a = (length b ≡ n) × (a ≡ []) × (part_at len b ≡ Err short)

pub cut : (old new : Option (List ℕ)) (n len : ℕ) (into : List ℕ) → length into ≡ len → n < len → Fills old new n into
    → BothTold old new (CutShort n len)
unfolding part_at
cut old new n len into is few t = told_more old new _ _ (λ b a f.
    let less : n < length into = omega arith in
    let none : a ≡ [] = f.1 less in
    let so_many : length b ≡ n = ap length f.0 ∙ length-append (take n into) a
    ∙ omega (arith, length-take n into, ap length none) in
    let test : ltb (length b) len ≡ true = lt-ltb _ _ (omega arith) in
    (so_many, none, rw test refl)) t

-- a buffer that was filled has what was filled in
pub buffer_whole : (into items : List ℕ) (n : ℕ) → length into ≡ n → take n (into ++ drop (length into) items) ≡ into
buffer_whole into items n is = take_at into (drop (length into) items) n is

-- ---- parts of a frame

pub content_read : (len : ℕ) (b c a : List ℕ) → part_at len b ≡ Ok (c, a) → content_at len b ≡ Ok (c, a)
unfolding content_at
content_read len b c a e = rw e refl

pub content_cut : (len : ℕ) (b : List ℕ) → part_at len b ≡ Err short → content_at len b ≡ Err fault.Truncated
unfolding content_at
content_cut len b e = rw e refl

pub steps_read : (b c a : List ℕ) (x : FrameBody) → part_at 4 b ≡ Ok (c, a) → steps_of c ≡ Ok x → steps_at b ≡ Ok (x, a)
unfolding steps_at
steps_read b c a x e h = rw (content_read 4 b c a e, h) refl

pub steps_fault : (b c a : List ℕ) (d : FrameFault) → part_at 4 b ≡ Ok (c, a) → steps_of c ≡ Err d → steps_at b ≡ Err d
unfolding steps_at
steps_fault b c a d e h = rw (content_read 4 b c a e, h) refl

pub steps_told : (old new : Option (List ℕ)) (r : Result FrameBody FrameFault) (into : List ℕ) → r ≡ steps_of into
    → BothTold old new (λ b a. part_at 4 b ≡ Ok (into, a)) → ReadsSource old new r steps_at
steps_told old new (Ok x) into e t = told_more old new _ _ (λ b a p. steps_read b into a x p (sym e)) t
steps_told old new (Err d) into e t = fault_here old new d (λ (b a : List ℕ). part_at 4 b ≡ Ok (into, a)) steps_at
    (λ b a p. steps_fault b into a d p (sym e)) t

pub steps_cut : (b : List ℕ) → part_at 4 b ≡ Err short → steps_at b ≡ Err fault.Truncated
unfolding steps_at
steps_cut b e = rw (content_cut 4 b e) refl

pub message_read : (len : ℕ) (b c a : List ℕ) → content_at len b ≡ Ok (c, a) → message_at len b ≡ Ok (body.Message c, a)
unfolding message_at
message_read len b c a e = rw e refl

pub message_fault : (len : ℕ) (d : FrameFault) (b : List ℕ) → content_at len b ≡ Err d → message_at len b ≡ Err d
unfolding message_at
message_fault len d b e = rw e refl

pub token_read : (len : ℕ) (b c a : List ℕ) (t : Token) → token_of c ≡ Ok t → content_at len b ≡ Ok (c, a)
    → token_at len b ≡ Ok (body.Token t, a)
unfolding token_at
token_read len b c a t h e = rw (e, h) refl

pub token_cut : (len : ℕ) (d : FrameFault) (b : List ℕ) → content_at len b ≡ Err d → token_at len b ≡ Err d
unfolding token_at
token_cut len d b e = rw e refl

-- a fault of the token is the frame's
token_wrong : (len : ℕ) (b c a : List ℕ) (d : TokenFault) → token_of c ≡ Err d → content_at len b ≡ Ok (c, a)
    → token_at len b ≡ Err (fault.Token d)
unfolding token_at
token_wrong len b c a d h e = rw (e, h) refl

pub token_faulty : (old new : Option (List ℕ)) (len : ℕ) (c : List ℕ) (d : TokenFault)
    → (is_memory d ≡ false → token_of c ≡ Err d) → BothTold old new (λ b a. content_at len b ≡ Ok (c, a))
    → ReadsSource {X = FrameBody} old new (Err (token_fault d)) (token_at len)
token_faulty old new len c token.Memory h t = tt
token_faulty old new len c token.Short h t = told_more old new _ _ (λ b a. token_wrong len b c a token.Short (h refl)) t
token_faulty old new len c (token.Version n) h t
    = told_more old new _ _ (λ b a. token_wrong len b c a (token.Version n) (h refl)) t
token_faulty old new len c (token.Privileges n) h t
    = told_more old new _ _ (λ b a. token_wrong len b c a (token.Privileges n) (h refl)) t
token_faulty old new len c (token.Sid n) h t
    = told_more old new _ _ (λ b a. token_wrong len b c a (token.Sid n) (h refl)) t
token_faulty old new len c (token.Groups n) h t
    = told_more old new _ _ (λ b a. token_wrong len b c a (token.Groups n) (h refl)) t
token_faulty old new len c (token.Mark n) h t
    = told_more old new _ _ (λ b a. token_wrong len b c a (token.Mark n) (h refl)) t
token_faulty old new len c (token.Restricting n) h t
    = told_more old new _ _ (λ b a. token_wrong len b c a (token.Restricting n) (h refl)) t
token_faulty old new len c token.Rest h t = told_more old new _ _ (λ b a. token_wrong len b c a token.Rest (h refl)) t
token_faulty old new len c token.Owner h t = told_more old new _ _ (λ b a. token_wrong len b c a token.Owner (h refl)) t

-- ---- the header

abbrev some_of : {A : Type 0} → A × List ℕ → Option A × List ℕ
some_of x = (Some x.0, x.1)

header_read : (b c a : List ℕ) (h : Header) → part_at 7 b ≡ Ok (c, a) → header_of c ≡ Ok h → header_at b ≡ Ok (h, a)
unfolding header_at
header_read b c a h e i = rw (e, i) refl

header_wrong : (b c a : List ℕ) (d : FrameFault) → part_at 7 b ≡ Ok (c, a) → header_of c ≡ Err d → header_at b ≡ Err d
unfolding header_at
header_wrong b c a d e i = rw (e, i) refl

pub header_cut : (b : List ℕ) → part_at 7 b ≡ Err short → header_at b ≡ Err fault.Truncated
unfolding header_at
header_cut b e = rw e refl

-- what has bytes has a header or a fault
there : (b : List ℕ) → 0 < length b → option_header_at b ≡ (header_at b >>= λ h. Ok (Some h.0, h.1))
unfolding option_header_at
there [] some = absurd (omega arith)
there (c ∷ b) some = refl

pub option_none : (b a : List ℕ) → length b ≡ 0 → a ≡ [] → option_header_at b ≡ Ok (None, a)
unfolding option_header_at
option_none [] a none is = rw is refl
option_none (c ∷ b) a none is = absurd (omega arith)

pub option_cut : (b : List ℕ) → 0 < length b → part_at 7 b ≡ Err short → option_header_at b ≡ Err fault.Truncated
option_cut b some e = there b some ∙ rw (header_cut b e) refl

some_part : (b c a : List ℕ) → part_at 7 b ≡ Ok (c, a) → 0 < length b
unfolding part_at
some_part [] c a e = absurd cc
some_part (x ∷ b) c a e = omega arith

pub option_read : (b c a : List ℕ) (h : Header) → part_at 7 b ≡ Ok (c, a) → header_of c ≡ Ok h → option_header_at b
    ≡ Ok (Some h, a)
option_read b c a h e i = there b (some_part b c a e) ∙ rw (header_read b c a h e i) refl

pub option_wrong : (b c a : List ℕ) (d : FrameFault) → part_at 7 b ≡ Ok (c, a) → header_of c ≡ Err d
    → option_header_at b ≡ Err d
option_wrong b c a d e i = there b (some_part b c a e) ∙ rw (header_wrong b c a d e i) refl

-- ---- the next frame

pub next_none : (b a : List ℕ) → option_header_at b ≡ Ok (None, a) → next_of b ≡ Ok (None, a)
unfolding option_header_at
next_none [] a e = ap (λ (p : Option Header × List ℕ). Ok (None, p.1)) (from_ok {E = FrameFault} (None, []) (None, a) e)
next_none (c ∷ b) a e =
    from_bind (header_at (c ∷ b)) (λ h. Ok (Some h.0, h.1)) (None, a) e
    (λ (h : Header × List ℕ) (e1 : header_at (c ∷ b) ≡ Ok h) (e2 : Ok (Some h.0, h.1) ≡ Ok (None, a)).
    let some : Some h.0 ≡ None = ap (λ (p : Option Header × List ℕ). p.0)
    (from_ok {E = FrameFault} (Some h.0, h.1) (None, a) e2) in
    absurd cc)

-- there is a header
abbrev HasHeader : List ℕ → Header → List ℕ → Type 0
HasHeader b h m = (0 < length b) × (header_at b ≡ Ok (h, m))

pub has_header : (b : List ℕ) (h : Header) (m : List ℕ) → option_header_at b ≡ Ok (Some h, m) → HasHeader b h m
unfolding option_header_at
has_header [] h m e = let none : None ≡ Some h = ap (λ (p : Option Header × List ℕ). p.0)
    (from_ok {E = FrameFault} (None, []) (Some h, m) e) in absurd cc
has_header (c ∷ b) h m e =
    from_bind (header_at (c ∷ b)) (λ x. Ok (Some x.0, x.1)) (Some h, m) e
    (λ (x : Header × List ℕ) (e1 : header_at (c ∷ b) ≡ Ok x) (e2 : Ok (Some x.0, x.1) ≡ Ok (Some h, m)).
    let same : (Some x.0, x.1) ≡ (Some h, m) = from_ok {E = FrameFault} (Some x.0, x.1) (Some h, m) e2 in
    let some : Some x.0 ≡ Some h = ap (λ (p : Option Header × List ℕ). p.0) same in
    let first : x.0 ≡ h = cc in
    let second : x.1 ≡ m = ap (λ (p : Option Header × List ℕ). p.1) same in
    (omega arith, e1 ∙ ap (λ (y : Header). Ok (y, x.1)) first ∙ ap (λ (r : List ℕ). Ok (h, r)) second))

next_there : (b : List ℕ) → 0 < length b → next_of b ≡ (frame_at b >>= λ f. Ok (Some f.0, f.1))
next_there [] some = absurd (omega arith)
next_there (c ∷ b) some = refl

pub next_read : (b m a : List ℕ) (h : Header) (x : FrameBody) → option_header_at b ≡ Ok (Some h, m)
    → body_by h.kind h.len m ≡ Ok (x, a) → next_of b ≡ Ok (Some (record { connection = h.connection; body = x }), a)
unfolding frame_at
next_read b m a h x e i =
    let has = has_header b h m e in
    next_there b has.0 ∙ rw (has.1, i) refl

pub next_wrong : (b m : List ℕ) (h : Header) (d : FrameFault) → option_header_at b ≡ Ok (Some h, m)
    → body_by h.kind h.len m ≡ Err d → next_of b ≡ Err d
unfolding frame_at
next_wrong b m h d e i =
    let has = has_header b h m e in
    next_there b has.0 ∙ rw (has.1, i) refl

-- where the header has the fault, so has the frame
fault_of_header : (r : Reading Header FrameFault) (d : FrameFault) (f : Header × List ℕ → Reading Frame FrameFault)
    → (r >>= λ h. Ok (some_of h)) ≡ Err d → (r >>= f >>= λ x. Ok (some_of x)) ≡ Err d
fault_of_header (Ok h) d f e = absurd cc
fault_of_header (Err c) d f e = cc

pub next_fault : (d : FrameFault) (b : List ℕ) → option_header_at b ≡ Err d → next_of b ≡ Err d
unfolding option_header_at frame_at
next_fault d [] e = absurd cc
next_fault d (c ∷ b) e = fault_of_header (header_at (c ∷ b)) d
    (λ h. body_by h.0.kind h.0.len h.1 >>= λ x. Ok (record { connection = h.0.connection; body = x.0 }, x.1)) e

pub not_at_end : (b : List ℕ) (h : Header) (m : List ℕ) → option_header_at b ≡ Ok (Some h, m) → b ≡ [] → ⊥
not_at_end b h m e none = let has = has_header b h m e in omega (arith, has.0, ap length none)

-- ---- faults that no bytes have

pub not_source : (d : FrameFault) → is_outside d ≡ false → d ≡ fault.Source → ⊥
not_source d inside is = let clash : is_outside fault.Source ≡ false = ap is_outside (sym is) ∙ inside in absurd cc

pub not_memory : (d : FrameFault) → is_outside d ≡ false → d ≡ fault.Memory → ⊥
not_memory d inside is = let clash : is_outside fault.Memory ≡ false = ap is_outside (sym is) ∙ inside in absurd cc
