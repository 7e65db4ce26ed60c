-- The table of a depth, and the scale that a table holds at an index.
use Rattle.std.specs.Prelude.{ℕ, List, map, get_or, ℤ, pos}
use Rattle.base_enums.specs.declared.BitDepth.{BitDepth}
use Rattle.base_enums.specs.declared.BitDepth.TheVariants.{Depth8, Depth10, Depth12}
use Rattle.segment_tables.specs.Lists.{dc_qlookup8, dc_qlookup10, dc_qlookup12, ac_qlookup8, ac_qlookup10, ac_qlookup12}

-- dc_qlookup[(BitDepth - 8) >> 1]
unfoldable pub dc_row : BitDepth → List ℕ
dc_row Depth8 = dc_qlookup8
dc_row Depth10 = dc_qlookup10
dc_row Depth12 = dc_qlookup12

-- ac_qlookup[(BitDepth - 8) >> 1]
unfoldable pub ac_row : BitDepth → List ℕ
ac_row Depth8 = ac_qlookup8
ac_row Depth10 = ac_qlookup10
ac_row Depth12 = ac_qlookup12

-- the rows as signed numbers
unfoldable pub dc_table : BitDepth → List ℤ
dc_table depth = map pos (dc_row depth)

unfoldable pub ac_table : BitDepth → List ℤ
ac_table depth = map pos (ac_row depth)

abbrev pub entry : List ℤ → ℕ → ℤ
entry table i = get_or table i (pos 0)
