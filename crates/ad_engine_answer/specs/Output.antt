-- The frames that are written: a kind of one byte, the connection in two bytes, the length of the body in four, the
-- most significant first, and the body.
use Rattle.std.specs.Prelude.{ℕ, List, [], ◌∷◌, ◌++◌, length}
use Rattle.ad_bytes.specs.Numbers.{be_bytes}

abbrev pub token_kind : ℕ
token_kind = 0x81

abbrev pub reply_kind : ℕ
reply_kind = 0x82

abbrev pub steps_kind : ℕ
steps_kind = 0x83

abbrev pub run_kind : ℕ
run_kind = 0x84

unfoldable pub output_frame : ℕ → ℕ → List ℕ → List ℕ
output_frame kind connection body = kind ∷ (be_bytes 2 connection ++ (be_bytes 4 (length body) ++ body))

-- that a token was taken
abbrev pub token_output : ℕ → List ℕ
token_output connection = output_frame token_kind connection []

-- the messages of a reply, joined
abbrev pub reply_output : ℕ → List ℕ → List ℕ
reply_output connection reply = output_frame reply_kind connection reply

-- two numbers of four bytes
abbrev pub counts : ℕ → ℕ → List ℕ
counts first second = be_bytes 4 first ++ be_bytes 4 second

-- how many steps were made, and how many entries are pending then
abbrev pub steps_output : ℕ → ℕ → ℕ → List ℕ
steps_output connection made pending = output_frame steps_kind connection (counts made pending)

-- how many objects a run changed, and how many are protected
abbrev pub run_output : ℕ → ℕ → ℕ → List ℕ
run_output connection changed protected = output_frame run_kind connection (counts changed protected)
