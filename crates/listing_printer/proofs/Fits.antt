-- The text of what is yielded is put whole: where there is room for 16,384 bytes, it takes fewer.
-- Assumes nothing.
use Prim.Native.Nat.{ℕ, ◌+◌, ◌≤◌}
use mathlib.Core.Path.{◌≡◌}
use mathlib.Core.List.{List, ◌++◌}
use native.Mathlib.Omega.{arith}
use lib.ListN.{length, take, drop, length-append}
use Rattle.base_bytes.specs.Put.{Written}
use Rattle.base_bytes.proofs.Append.{whole_place, whole_text}
use Rattle.base_types.specs.declared.header.Header.{Header}
use Rattle.segment_records.specs.declared.Segmentation.{Segmentation}
use Rattle.text_records.proofs.Fits.{header_fits, segments_fit}
use Rattle.listing_printer.proofs.Sizes.{frame_size, refused_size, column_size, last_size, file_size}
use Rattle.listing_printer.specs.Text.{items_text}
use Rattle.listing_tracer.specs.declared.Yields.{Yields}
use Rattle.listing_tracer.specs.declared.Yields.TheVariants.{More, Again, Columns, Frame, Refused, NoFile, Cut, Last, Over}
use Rattle.listing_tracer.specs.declared.Traced.{Traced}
use Rattle.listing_tracer.specs.Traced.{items_by, items_in}

yields_fit : (y : Yields) (h : Header) (records : List Segmentation) → length records ≡ 8 → length (items_text (items_by y h records)) ≤ 16384
unfolding items_text
yields_fit More h records e = omega arith
yields_fit Again h records e = omega arith
yields_fit Columns h records e = simp length-append (omega (arith, column_size))
yields_fit (Frame c i at size) h records e = simp length-append (omega (arith, frame_size c i at size h, header_fits h, segments_fit 0 records))
yields_fit (Refused c number i) h records e = simp length-append (omega (arith, refused_size c number i))
yields_fit NoFile h records e = simp length-append (omega (arith, file_size 7))
yields_fit (Cut chunks n) h records e = simp length-append (omega (arith, file_size 8, last_size chunks n))
yields_fit (Last chunks n) h records e = simp length-append (omega (arith, last_size chunks n))
yields_fit Over h records e = omega arith

-- of eight segment records
module _ {out : List ℕ} {at next : ℕ} {after : List ℕ} (t : Traced) (eight : length t.tracer.records ≡ 8) (room : at + 16384 ≤ length out) (w : Written out at (items_text (items_in t)) next after) where
  abbrev text : List ℕ
  text = items_text (items_in t)

  enough : at + length text ≤ length out
  enough = omega (arith, yields_fit t.yields t.header t.tracer.records eight)

  pub text_whole : (next ≡ at + length text) × (after ≡ take at out ++ text ++ drop (at + length text) out)
  text_whole = (whole_place w enough, whole_text w enough)
