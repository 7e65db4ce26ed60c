-- SegLvl: the number of each feature of a segment.
use Rattle.std.specs.Prelude.{ℕ}
use Rattle.base_enums.specs.declared.SegLvl.{SegLvl}
use Rattle.base_enums.specs.declared.SegLvl.TheVariants.{AltQ, AltL, RefFrame, LvlSkip}

-- numbers
abbrev pub seg_lvl_number : SegLvl → ℕ
seg_lvl_number AltQ = 0
seg_lvl_number AltL = 1
seg_lvl_number RefFrame = 2
seg_lvl_number LvlSkip = 3
