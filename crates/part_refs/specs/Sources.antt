-- The slots that an inter frame writes and those that it reads (VP9 6.2).
-- Assumes nothing.
use Rattle.std.specs.Prelude.{ℕ}
use Rattle.base_bits.specs.Refusal.{the}
use Rattle.base_syntax.specs.Reader.{Reader, give, field, ◌>>=◌}
use Rattle.part_refs.specs.Refs.{refs_of}
use Rattle.grammar_tables.specs.Tables.{RefsValues}
use Rattle.grammar_tables.specs.Reading.{no_refs, read_refs}
use Rattle.part_refs.specs.declared.Sources.{Sources}

pub record SourcesValues : Type 0 where
  pub refresh_frame_flags : ℕ
  pub refs : RefsValues

-- reading
abbrev pub no_sources : SourcesValues
no_sources = record { refresh_frame_flags = 0; refs = no_refs }

unfoldable pub read_sources : Reader SourcesValues
read_sources = do
  r ← field (the "refresh_frame_flags") 8
  x ← read_refs
  give (record { refresh_frame_flags = r; refs = x })

-- the code's answer
unfoldable pub sources_of : SourcesValues → Sources
sources_of v = record { refresh_frame_flags = v.refresh_frame_flags; refs = refs_of v.refs }
