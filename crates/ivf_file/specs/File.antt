-- The header of an IVF file: docs/RULES.md, "IVF", and number 7.
-- Assumes nothing.
use Rattle.std.specs.Prelude.{ℕ, ◌+◌, Bool, true, ◌&&◌, Result, Ok, Err, List, [], ◌∷◌, eqb, leb, length, get_or}
use Rattle.base_shared.specs.Choice.{pick}
use Rattle.base_little.specs.Little.{little}
use Rattle.ivf_file.specs.declared.IvfHeader.{IvfHeader}
use Rattle.ivf_file.specs.declared.NotIvf.{NotIvf}

-- the four bytes DKIF, and VP90
abbrev pub dkif : List ℕ
dkif = 0x44 ∷ 0x4b ∷ 0x49 ∷ 0x46 ∷ []

abbrev pub vp90 : List ℕ
vp90 = 0x56 ∷ 0x50 ∷ 0x39 ∷ 0x30 ∷ []

-- those bytes stand from `at` on
unfoldable pub stands_at : List ℕ → ℕ → List ℕ → Bool
stands_at s at [] = true
stands_at s at (b ∷ bs) = eqb (get_or s at 0) b && stands_at s (at + 1) bs

-- DKIF 4, version 2, header size 2, VP90 4, width 2, height 2, rate 4, scale 4, count 4, unused 4
abbrev pub header_bytes : ℕ
header_bytes = 32

abbrev pub header_size : List ℕ → ℕ
header_size f = little f 6 2

unfoldable pub is_ivf : List ℕ → Bool
is_ivf f = leb header_bytes (length f) && (stands_at f 0 dkif && (eqb (header_size f) header_bytes && stands_at f 8 vp90))

unfoldable pub file_header_of : List ℕ → IvfHeader
file_header_of f = record { width = little f 12 2; height = little f 14 2; rate = little f 16 4; scale = little f 20 4; count = little f 24 4 }

unfoldable pub file_of : List ℕ → Result IvfHeader NotIvf
file_of f = pick (is_ivf f) (Ok (file_header_of f)) (Err (record {}))

-- docs/RULES.md's number, 0 for a header
abbrev pub file_number : Result IvfHeader NotIvf → ℕ
file_number (Ok h) = 0
file_number (Err e) = 7

-- the frame number that comes with docs/RULES.md's 7, 8 and 9
abbrev pub file_frame : ℕ
file_frame = 0
