-- The faults of a frame.
use Rattle.std.specs.Prelude.{Bool, true, false}
use Rattle.ad_ids.specs.declared.token_fault.TokenFault.{TokenFault}
use Rattle.ad_ids.specs.declared.token_fault.TokenFault.TheVariants as token
use Rattle.ad_frames.specs.declared.fault.FrameFault.{FrameFault}
use Rattle.ad_frames.specs.declared.fault.FrameFault.TheVariants as fault

-- want of memory in a token is the frame's own
abbrev pub token_fault : TokenFault → FrameFault
token_fault token.Memory = fault.Memory
token_fault other = fault.Token other

-- the two faults that no bytes have
abbrev pub is_outside : FrameFault → Bool
is_outside fault.Memory = true
is_outside fault.Source = true
is_outside _ = false
