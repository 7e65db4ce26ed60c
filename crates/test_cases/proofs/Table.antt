-- docs/RULES.md's cases, by computation.
-- Assumes nothing.
use Prim.Native.Nat.{ℕ, ◌<◌, ◌^◌}
use mathlib.Core.Path.{◌≡◌, refl}
use mathlib.Core.List.{List}
use native.Mathlib.Omega.{arith}
use lib.ListN.{length}
use Rattle.base_bits.specs.Bit as Bit
use Rattle.base_syntax.specs.Many as Many
use Rattle.base_syntax.specs.Reader as Reader
use Rattle.base_shared.specs.Lists as Lists
use Rattle.grammar_tables.specs.Tables as Tables
use Rattle.grammar_tables.specs.Header as Header
use Rattle.grammar_settings.specs.Settings as Settings
use Rattle.grammar_record.specs.Record as Record
use Rattle.grammar_tables.specs.Reading as Reading
use Rattle.header_parser.specs.Answer as Answer
use Rattle.base_little.specs.Little as Little
use Rattle.chunk_index.specs.Layout as Layout
use Rattle.chunk_index.specs.Split as Split
use Rattle.chunk_judged.specs.Frames as Frames
use Rattle.chunk_judged.specs.Answer as Chunk
use Rattle.segment_clamp.specs.Clamp as Clamp
use Rattle.segment_features.specs.Features as Features
use Rattle.segment_levels.specs.Levels as Levels
use Rattle.base_syntax.specs.Syntax.{flat}
use Rattle.base_syntax.specs.Reader.{read}
use Rattle.base_bits.proofs.Begins.{begins}
use Rattle.base_syntax.proofs.Fields.{length_flat}
use Rattle.base_size.specs.declared.FrameSize.{FrameSize}
use Rattle.grammar_tables.specs.Header.{HeaderValues, header_fields}
use Rattle.grammar_tables.specs.Reading.{read_header}
use Rattle.grammar_tables.proofs.Header.{header_reads, header_size_lem}
use Rattle.test_cases.specs.Table.{frames_from, Bits, i, after_k, table, AllHold}

-- a reading that came to its end has spelled values, of as many bits as it passed
bits_read : (s : List ℕ) (slots : List FrameSize) (v : HeaderValues) (n : ℕ) → read_header slots s 0 ≡ read v n → Bits s slots n
bits_read s slots v n h =
    let r = (header_reads slots).sound s 0 v n h in
    let fs = header_fields slots v in
    let few : length (flat fs) < 2 ^ 64 = omega (arith, length_flat fs, header_size_lem slots v) in
    let many : length (flat fs) ≡ n = omega (arith, length_flat fs, r.2) in
    (v, record { ranged = r.1.ranged; begins = (begins s (flat fs) few).0 r.1.stands }, many)

infixr 5 ◌and◌
abbrev ◌and◌ : {A B : Type 0} → A → B → A × B
a and b = (a, b)

pub all_hold : AllHold table
unfolding
    Bit.spell Bit.bits_of Bit.bit_at Bit.reach Bit.Stands Bit.number Bit.fits Bit.missing Many.many_fields Reader.field
    Reader.must Reader.group_if Reader.field_if Tables.color_fields Tables.size_fields Tables.render_fields Tables.ref_fields Tables.refs_fields Tables.found_fields Tables.found_at Tables.delta_fields Tables.loop_filter_fields Tables.quantizer_fields Tables.prob_fields Tables.probs_fields Tables.feature_fields Tables.features_fields Tables.segmentation_fields Tables.run_fields Lists.first Tables.least Tables.most Tables.tiles_fields Header.size_of Header.frame_fields Header.header_fields Settings.delta_value Settings.loop_filter_of Settings.quantizer_of Settings.lossless Settings.segmentation_of Record.frame_of Record.header_of Record.state_from Record.state_after Reading.read_color Reading.read_size Reading.read_render Reading.read_ref Reading.read_refs Reading.read_found Reading.read_delta Reading.read_loop_filter Reading.read_quantizer Reading.read_segmentation Reading.read_run Reading.read_tiles Reading.read_sync Reading.read_frame Reading.read_header Lists.each Answer.parsed
    Little.little Layout.announced Layout.cut Layout.indexed Layout.layout_of Layout.start
    Split.filled Split.first_past Split.placed Split.split_of Frames.state_before Frames.frame_read
    Frames.first_fault Chunk.judged_chunk Features.features_of Levels.levels_of Levels.levels_at
    Levels.delta_grid Levels.pair_of Levels.segment_level Levels.level_moved Levels.scaled Clamp.clamp_to frames_from
all_hold =
    (refl, refl, refl)
    and (refl, refl, refl, refl, refl, refl)
    and (refl, refl, refl)
    and bits_read i after_k.reference_frame_sz _ _ refl
    and (refl, refl, refl)
    and (refl, refl, refl)
    and (refl, refl, refl, refl, refl, refl)
    and (refl, refl, refl, refl, refl, refl)
    and (refl, refl, refl, refl, refl, refl)
    and (refl, refl, refl, refl, refl, refl)
    and (refl, refl)
    and (refl, refl)
    and (refl, refl)
    and (refl, refl)
    and (refl, refl, refl)
    and (refl, refl, refl)
    and (refl, refl, refl)
    and (refl, refl, refl)
    and (refl, refl, refl)
    and (refl, refl, refl, refl, refl, refl)
    and (refl, refl, refl, refl, refl, refl)
    and tt
