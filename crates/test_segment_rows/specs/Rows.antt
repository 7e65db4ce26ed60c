-- Settings, and the eight records that the Rust makes of them from `old_records`. The numbers are the Rust's:
-- tests/segments/rows.py wrote this file from its answers, and the gate compares it with them.
-- Assumes nothing.
use Rattle.std.specs.Prelude.{true, false, List, [], ◌∷◌, pos}
use Rattle.base_enums.specs.declared.BitDepth.TheVariants.{Depth8, Depth10, Depth12}
use Rattle.segment_records.specs.declared.Segmentation.{Segmentation}
use Rattle.test_segment_rows.specs.Settings.{minus, off, on, features, filter, quantizers, segments, header_with, segment, SegmentRow}

abbrev pub old_records : List Segmentation
old_records =
    segment (100 ∷ 101 ∷ 102 ∷ 103 ∷ 104 ∷ 105 ∷ 106 ∷ 107 ∷ []) (minus 1) (minus 2) (minus 3) (minus 4) false (minus 5) false
    ∷ segment (108 ∷ 109 ∷ 110 ∷ 111 ∷ 112 ∷ 113 ∷ 114 ∷ 115 ∷ []) (minus 1) (minus 2) (minus 3) (minus 4) false (minus 5) false
    ∷ segment (116 ∷ 117 ∷ 118 ∷ 119 ∷ 120 ∷ 121 ∷ 122 ∷ 123 ∷ []) (minus 1) (minus 2) (minus 3) (minus 4) false (minus 5) false
    ∷ segment (124 ∷ 125 ∷ 126 ∷ 127 ∷ 128 ∷ 129 ∷ 130 ∷ 131 ∷ []) (minus 1) (minus 2) (minus 3) (minus 4) false (minus 5) false
    ∷ segment (132 ∷ 133 ∷ 134 ∷ 135 ∷ 136 ∷ 137 ∷ 138 ∷ 139 ∷ []) (minus 1) (minus 2) (minus 3) (minus 4) false (minus 5) false
    ∷ segment (140 ∷ 141 ∷ 142 ∷ 143 ∷ 144 ∷ 145 ∷ 146 ∷ 147 ∷ []) (minus 1) (minus 2) (minus 3) (minus 4) false (minus 5) false
    ∷ segment (148 ∷ 149 ∷ 150 ∷ 151 ∷ 152 ∷ 153 ∷ 154 ∷ 155 ∷ []) (minus 1) (minus 2) (minus 3) (minus 4) false (minus 5) false
    ∷ segment (156 ∷ 157 ∷ 158 ∷ 159 ∷ 160 ∷ 161 ∷ 162 ∷ 163 ∷ []) (minus 1) (minus 2) (minus 3) (minus 4) false (minus 5) false
    ∷ []

-- absolute features at level 31, where a delta counts once
abbrev pub absolute_row : SegmentRow
absolute_row =
    record {
      header =
          header_with Depth8
          (filter 31 true (pos 5 ∷ minus 3 ∷ pos 7 ∷ minus 11 ∷ []) (pos 2 ∷ minus 6 ∷ []))
          (quantizers 60 (pos 3) (minus 7) (pos 11))
          (segments true true (
          features off off off off
          ∷ features (on (pos 200)) off off off
          ∷ features off (on (pos 20)) off off
          ∷ features (on (pos 255)) (on (pos 63)) off off
          ∷ features off off (on (pos 2)) off
          ∷ features off off off (on (pos 0))
          ∷ features (on (pos 0)) (on (pos 0)) off off
          ∷ features (on (pos 17)) (on (pos 40)) (on (pos 3)) (on (pos 0))
          ∷ []
          ));
      after =
          segment (36 ∷ 101 ∷ 30 ∷ 22 ∷ 40 ∷ 32 ∷ 22 ∷ 14 ∷ []) (pos 67) (pos 60) (pos 78) (pos 52) false (pos 0) false
          ∷ segment (36 ∷ 109 ∷ 30 ∷ 22 ∷ 40 ∷ 32 ∷ 22 ∷ 14 ∷ []) (pos 639) (pos 406) (pos 786) (pos 354) false (pos 0) false
          ∷ segment (25 ∷ 117 ∷ 19 ∷ 11 ∷ 29 ∷ 21 ∷ 11 ∷ 3 ∷ []) (pos 67) (pos 60) (pos 78) (pos 52) false (pos 0) false
          ∷ segment (63 ∷ 125 ∷ 62 ∷ 54 ∷ 63 ∷ 63 ∷ 54 ∷ 46 ∷ []) (pos 1828) (pos 1336) (pos 1828) (pos 1022) false (pos 0) false
          ∷ segment (36 ∷ 133 ∷ 30 ∷ 22 ∷ 40 ∷ 32 ∷ 22 ∷ 14 ∷ []) (pos 67) (pos 60) (pos 78) (pos 52) true (pos 2) false
          ∷ segment (36 ∷ 141 ∷ 30 ∷ 22 ∷ 40 ∷ 32 ∷ 22 ∷ 14 ∷ []) (pos 67) (pos 60) (pos 78) (pos 52) false (pos 0) true
          ∷ segment (5 ∷ 149 ∷ 0 ∷ 0 ∷ 9 ∷ 1 ∷ 0 ∷ 0 ∷ []) (pos 4) (pos 9) (pos 18) (pos 4) false (pos 0) false
          ∷ segment (45 ∷ 157 ∷ 39 ∷ 31 ∷ 49 ∷ 41 ∷ 31 ∷ 23 ∷ []) (pos 24) (pos 24) (pos 35) (pos 15) true (pos 3) true
          ∷ [];
    }

-- features that are added, at level 40, where a delta counts twice
abbrev pub relative_row : SegmentRow
relative_row =
    record {
      header =
          header_with Depth10
          (filter 40 true (pos 4 ∷ pos 1 ∷ minus 2 ∷ minus 8 ∷ []) (minus 3 ∷ pos 6 ∷ []))
          (quantizers 100 (minus 5) (pos 9) (minus 14))
          (segments true false (
          features off off off off
          ∷ features (on (minus 25)) off off off
          ∷ features off (on (minus 9)) off off
          ∷ features (on (pos 215)) (on (pos 30)) off off
          ∷ features off off (on (pos 1)) off
          ∷ features off off off (on (pos 0))
          ∷ features (on (minus 255)) (on (minus 63)) off off
          ∷ features (on (pos 40)) (on (minus 20)) (on (pos 3)) (on (pos 0))
          ∷ []
          ));
      after =
          segment (48 ∷ 101 ∷ 36 ∷ 54 ∷ 30 ∷ 48 ∷ 18 ∷ 36 ∷ []) (pos 441) (pos 337) (pos 362) (pos 424) false (pos 0) false
          ∷ segment (48 ∷ 109 ∷ 36 ∷ 54 ∷ 30 ∷ 48 ∷ 18 ∷ 36 ∷ []) (pos 315) (pos 251) (pos 253) (pos 300) false (pos 0) false
          ∷ segment (39 ∷ 117 ∷ 27 ∷ 45 ∷ 21 ∷ 39 ∷ 9 ∷ 27 ∷ []) (pos 441) (pos 337) (pos 362) (pos 424) false (pos 0) false
          ∷ segment (63 ∷ 125 ∷ 59 ∷ 63 ∷ 53 ∷ 63 ∷ 41 ∷ 59 ∷ []) (pos 7312) (pos 4394) (pos 5584) (pos 5347) false (pos 0) false
          ∷ segment (48 ∷ 133 ∷ 36 ∷ 54 ∷ 30 ∷ 48 ∷ 18 ∷ 36 ∷ []) (pos 441) (pos 337) (pos 362) (pos 424) true (pos 1) false
          ∷ segment (48 ∷ 141 ∷ 36 ∷ 54 ∷ 30 ∷ 48 ∷ 18 ∷ 36 ∷ []) (pos 441) (pos 337) (pos 362) (pos 424) false (pos 0) true
          ∷ segment (8 ∷ 149 ∷ 0 ∷ 14 ∷ 0 ∷ 8 ∷ 0 ∷ 0 ∷ []) (pos 4) (pos 4) (pos 4) (pos 28) false (pos 0) false
          ∷ segment (28 ∷ 157 ∷ 16 ∷ 34 ∷ 10 ∷ 28 ∷ 0 ∷ 16 ∷ []) (pos 857) (pos 617) (pos 676) (pos 759) true (pos 3) true
          ∷ [];
    }

-- segmentation off, and no deltas
abbrev pub off_row : SegmentRow
off_row =
    record {
      header =
          header_with Depth12
          (filter 63 false (pos 1 ∷ pos 0 ∷ minus 1 ∷ minus 1 ∷ []) (pos 7 ∷ pos 9 ∷ []))
          (quantizers 250 (pos 15) (minus 15) (pos 8))
          (segments false true (
          features off off off off
          ∷ features (on (pos 200)) off off off
          ∷ features off (on (pos 20)) off off
          ∷ features (on (pos 255)) (on (pos 63)) off off
          ∷ features off off (on (pos 2)) off
          ∷ features off off off (on (pos 0))
          ∷ features (on (pos 0)) (on (pos 0)) off off
          ∷ features (on (pos 17)) (on (pos 40)) (on (pos 3)) (on (pos 0))
          ∷ []
          ));
      after =
          segment (63 ∷ 63 ∷ 63 ∷ 63 ∷ 63 ∷ 63 ∷ 63 ∷ 63 ∷ []) (pos 26559) (pos 21387) (pos 29247) (pos 11210) false (pos 0) false
          ∷ segment (63 ∷ 63 ∷ 63 ∷ 63 ∷ 63 ∷ 63 ∷ 63 ∷ 63 ∷ []) (pos 26559) (pos 21387) (pos 29247) (pos 11210) false (pos 0) false
          ∷ segment (63 ∷ 63 ∷ 63 ∷ 63 ∷ 63 ∷ 63 ∷ 63 ∷ 63 ∷ []) (pos 26559) (pos 21387) (pos 29247) (pos 11210) false (pos 0) false
          ∷ segment (63 ∷ 63 ∷ 63 ∷ 63 ∷ 63 ∷ 63 ∷ 63 ∷ 63 ∷ []) (pos 26559) (pos 21387) (pos 29247) (pos 11210) false (pos 0) false
          ∷ segment (63 ∷ 63 ∷ 63 ∷ 63 ∷ 63 ∷ 63 ∷ 63 ∷ 63 ∷ []) (pos 26559) (pos 21387) (pos 29247) (pos 11210) true (pos 2) false
          ∷ segment (63 ∷ 63 ∷ 63 ∷ 63 ∷ 63 ∷ 63 ∷ 63 ∷ 63 ∷ []) (pos 26559) (pos 21387) (pos 29247) (pos 11210) false (pos 0) true
          ∷ segment (63 ∷ 63 ∷ 63 ∷ 63 ∷ 63 ∷ 63 ∷ 63 ∷ 63 ∷ []) (pos 26559) (pos 21387) (pos 29247) (pos 11210) false (pos 0) false
          ∷ segment (63 ∷ 63 ∷ 63 ∷ 63 ∷ 63 ∷ 63 ∷ 63 ∷ 63 ∷ []) (pos 26559) (pos 21387) (pos 29247) (pos 11210) true (pos 3) true
          ∷ [];
    }

-- level 0
abbrev pub zero_row : SegmentRow
zero_row =
    record {
      header =
          header_with Depth12
          (filter 0 true (pos 9 ∷ pos 8 ∷ pos 7 ∷ pos 6 ∷ []) (pos 5 ∷ pos 4 ∷ []))
          (quantizers 5 (minus 9) (minus 2) (pos 12))
          (segments true true (
          features off off off off
          ∷ features (on (pos 200)) off off off
          ∷ features off (on (pos 20)) off off
          ∷ features (on (pos 255)) (on (pos 63)) off off
          ∷ features off off (on (pos 2)) off
          ∷ features off off off (on (pos 0))
          ∷ features (on (pos 0)) (on (pos 0)) off off
          ∷ features (on (pos 17)) (on (pos 40)) (on (pos 3)) (on (pos 0))
          ∷ []
          ));
      after =
          segment (0 ∷ 0 ∷ 0 ∷ 0 ∷ 0 ∷ 0 ∷ 0 ∷ 0 ∷ []) (pos 44) (pos 4) (pos 199) (pos 25) false (pos 0) false
          ∷ segment (0 ∷ 0 ∷ 0 ∷ 0 ∷ 0 ∷ 0 ∷ 0 ∷ 0 ∷ []) (pos 10220) (pos 5517) (pos 12813) (pos 6063) false (pos 0) false
          ∷ segment (0 ∷ 0 ∷ 0 ∷ 0 ∷ 0 ∷ 0 ∷ 0 ∷ 0 ∷ []) (pos 44) (pos 4) (pos 199) (pos 25) false (pos 0) false
          ∷ segment (0 ∷ 0 ∷ 0 ∷ 0 ∷ 0 ∷ 0 ∷ 0 ∷ 0 ∷ []) (pos 29247) (pos 15290) (pos 29247) (pos 19718) false (pos 0) false
          ∷ segment (0 ∷ 0 ∷ 0 ∷ 0 ∷ 0 ∷ 0 ∷ 0 ∷ 0 ∷ []) (pos 44) (pos 4) (pos 199) (pos 25) true (pos 2) false
          ∷ segment (0 ∷ 0 ∷ 0 ∷ 0 ∷ 0 ∷ 0 ∷ 0 ∷ 0 ∷ []) (pos 44) (pos 4) (pos 199) (pos 25) false (pos 0) true
          ∷ segment (0 ∷ 0 ∷ 0 ∷ 0 ∷ 0 ∷ 0 ∷ 0 ∷ 0 ∷ []) (pos 4) (pos 4) (pos 126) (pos 4) false (pos 0) false
          ∷ segment (0 ∷ 0 ∷ 0 ∷ 0 ∷ 0 ∷ 0 ∷ 0 ∷ 0 ∷ []) (pos 199) (pos 70) (pos 402) (pos 153) true (pos 3) true
          ∷ [];
    }
