-- VP9's section 8.8.1 once more, in its words: the level of one reference in one mode. Of the source is kept that the
-- shift goes by loop_filter_level, where VP9 has lvlSeg >> 5, and that intra's mode 1 keeps what stood there.
use Rattle.std.specs.Prelude.{ℕ, ◌/◌, ◌^◌, Bool, eqb, ℤ, pos, ◌+ℤ◌, ◌*ℤ◌, get_or}
use Rattle.base_loop_filter.specs.declared.LoopFilterParams.{LoopFilterParams}
use Rattle.base_shared.specs.Choice.{pick}
use Rattle.segment_clamp.specs.Vp9.{clip3}
use Rattle.segment_grid.specs.Vp9.{Reference, INTRA_FRAME, LAST_FRAME, GOLDEN_FRAME, ALTREF_FRAME, Mode, mode0, mode1, ref_frame, mode_number}

-- loop_filter_ref_deltas[r] << n and loop_filter_mode_deltas[m] << n
abbrev pub ref_shifted : LoopFilterParams → ℕ → Reference → ℤ
ref_shifted lf n r = get_or lf.ref_deltas (ref_frame r) (pos 0) *ℤ pos (2 ^ n)

abbrev pub mode_shifted : LoopFilterParams → ℕ → Mode → ℤ
mode_shifted lf n m = get_or lf.mode_deltas (mode_number m) (pos 0) *ℤ pos (2 ^ n)

-- lvlSeg by seg_feature_active(SEG_LVL_ALT_L), segmentation_abs_or_delta_update and the feature's data; clamped also
-- where the feature isn't active, as a header of any level gets an answer
unfoldable pub lvl_seg : ℕ → Bool → Bool → ℤ → ℤ
lvl_seg level active absolute d = clip3 (pos 0) (pos 63) (pick active (pick absolute d (pos level +ℤ d)) (pos level))

-- lvlSeg with the deltas of a reference other than intra and of a mode, shifted by n
abbrev pub inter_level : LoopFilterParams → ℕ → ℤ → Reference → Mode → ℤ
inter_level lf n l r m = clip3 (pos 0) (pos 63) (l +ℤ (ref_shifted lf n r +ℤ mode_shifted lf n m))

-- lvlSeg with the deltas, where old stood
unfoldable pub deltas_added : LoopFilterParams → ℕ → ℤ → Reference → Mode → ℤ → ℤ
deltas_added lf n l INTRA_FRAME mode0 old = clip3 (pos 0) (pos 63) (l +ℤ ref_shifted lf n INTRA_FRAME)
deltas_added lf n l INTRA_FRAME mode1 old = old
deltas_added lf n l LAST_FRAME m old = inter_level lf n l LAST_FRAME m
deltas_added lf n l GOLDEN_FRAME m old = inter_level lf n l GOLDEN_FRAME m
deltas_added lf n l ALTREF_FRAME m old = inter_level lf n l ALTREF_FRAME m

-- the level by lvlSeg; 0 in a frame that isn't filtered
unfoldable pub filter_level : LoopFilterParams → ℤ → Reference → Mode → ℤ → ℤ
filter_level lf l r m old =
    pick (eqb lf.level 0) (pos 0)
    (pick lf.delta_enabled (deltas_added lf (lf.level / 2 ^ 5) l r m old) l)
