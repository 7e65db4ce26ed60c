-- Where a spelling stops, by places and by what the bits begin with: the same, for fewer than 2^64 bits.
-- Assumes nothing.
use Prim.Native.Nat.{ℕ, ◌+◌, ◌<◌, ◌^◌}
use mathlib.Core.Path.{◌≡◌, ap, ◌∙◌}
use mathlib.Core.Logic.{◌↔◌}
use mathlib.Core.List.{List, ◌∷◌, ◌++◌}
use native.Mathlib.Omega.{arith}
use lib.ListN.{length, length-append}
use Rattle.base_bits.specs.Bit.{spell, bits_of, reach}
use Rattle.base_bits.specs.Refusal.{Mark}
use Rattle.base_syntax.specs.Syntax.{Field, flat, size}
use Rattle.base_syntax.specs.Fault.{StopsIn, PastLast, OtherNumber, CutOff, Unmarked}
use Rattle.base_bits.proofs.Stand.{stands_join, stands_right, length_spell}
use Rattle.base_syntax.proofs.Fields.{size_append, length_flat}
use Rattle.base_bits.proofs.Begins.{length_bits, begins}

module _ (s : List ℕ) (fs : List Field) (few : size fs < 2 ^ 64) where
  within : (b c : List Field) (f : Field) → fs ≡ b ++ (f ∷ c) → length (flat b) + f.width < 2 ^ 64
  within b c f e = omega (arith, ap size e, size_append b (f ∷ c), length_flat b)

  pub cut_begins : CutOff s 0 fs ↔ StopsIn s fs (PastLast s)
  unfolding reach
  cut_begins = (
    λ h.
        let b = h.before in
        let l = within b h.after h.at h.split in record {
          before = b;
          at = h.at;
          after = h.after;
          split = h.split;
          ranged = h.well.ranged;
          begins = (begins s (flat b) (omega arith)).0 h.well.stands;
          fault = omega (arith, h.fault.past, length_flat b, length_bits s);
        },
    λ h.
        let b = h.before in
        let l = within b h.after h.at h.split in
        let n : length (bits_of s) ≡ length (flat b) + length h.begins.0 = ap length h.begins.1 ∙ length-append (flat b) h.begins.0 in record {
          before = b;
          at = h.at;
          after = h.after;
          split = h.split;
          well = record { ranged = h.ranged; stands = (begins s (flat b) (omega arith)).1 h.begins };
          fault = record { some = omega (arith, h.fault); past = omega (arith, h.fault, length_flat b, length_bits s) };
        },
  )

  pub mark_begins : (k : Mark) → Unmarked s 0 fs k ↔ StopsIn s fs (OtherNumber s k)
  mark_begins k = (
    λ h.
        let b = h.before in
        let o = h.fault in
        let bits = spell h.at.width o.found in
        let l = within b h.after h.at h.split in
        let n : length (flat b ++ bits) < 2 ^ 64 = omega (arith, length-append (flat b) bits, length_spell h.at.width o.found) in record {
          before = b;
          at = h.at;
          after = h.after;
          split = h.split;
          ranged = h.well.ranged;
          begins = (begins s (flat b) (omega arith)).0 h.well.stands;
          fault = record {
            found = o.found;
            expected = o.expected;
            demanded = o.demanded;
            range = o.range;
            begins = (begins s (flat b ++ bits) n).0 (stands_join s 0 (flat b) bits h.well.stands (rw (length_flat b) o.stands));
            differs = o.differs;
          };
        },
    λ h.
        let b = h.before in
        let o = h.fault in
        let bits = spell h.at.width o.found in
        let l = within b h.after h.at h.split in
        let n : length (flat b ++ bits) < 2 ^ 64 = omega (arith, length-append (flat b) bits, length_spell h.at.width o.found) in record {
          before = b;
          at = h.at;
          after = h.after;
          split = h.split;
          well = record { ranged = h.ranged; stands = (begins s (flat b) (omega arith)).1 h.begins };
          fault = record {
            found = o.found;
            expected = o.expected;
            demanded = o.demanded;
            range = o.range;
            stands = rw (length_flat b) at (stands_right s 0 (flat b) bits ((begins s (flat b ++ bits) n).1 o.begins));
            differs = o.differs;
          };
        },
  )
