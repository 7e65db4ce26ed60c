-- What a header makes of a bit read.
-- Assumes nothing.
use Rattle.std.specs.Prelude.{Result, Ok, Err}
use Rattle.base_bits.specs.declared.BitsError.{BitsError}
use Rattle.base_bits.specs.declared.Refusal.{Refusal}
use Rattle.base_bits.specs.declared.Refusal.TheVariants.{PastEnd}

-- its value, or the refusal 6, whichever error it is: no field of a header is too wide
abbrev pub past_end : {A : Type 0} → Result A BitsError → Result A Refusal
past_end (Ok v) = Ok v
past_end (Err e) = Err PastEnd
