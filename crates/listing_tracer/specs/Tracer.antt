-- A tracer, and what becomes of it.
-- Assumes nothing.
use Rattle.std.specs.Prelude.{ℕ, ◌+◌, List}
use Rattle.base_types.specs.ReaderState.{fresh_state}
use Rattle.chunk_answer.specs.declared.Answer.TheVariants.{Empty}
use Rattle.chunk_answer.specs.declared.ChunkRead.{ChunkRead}
use Rattle.chunk_answer.specs.Answer.{refused_chunk}
use Rattle.ivf_walk.specs.declared.Stage.{Stage}
use Rattle.ivf_walk.specs.declared.Stage.TheVariants.{Start}
use Rattle.segment_records.specs.declared.Segmentation.{Segmentation}
use Rattle.listing_items.specs.Items.{default_records}
use Rattle.listing_lister.specs.Lister.{one_more}
use Rattle.listing_tracer.specs.declared.Tracer.{Tracer}

abbrev pub fresh_tracer : Tracer
fresh_tracer =
    record {
      stage = Start;
      chunks = 0;
      refused = 0;
      state = fresh_state;
      records = default_records;
      chunk = 0;
      frame = 0;
      count = 0;
      read = refused_chunk Empty fresh_state;
    }

abbrev pub tracer_at : Tracer → Stage → Tracer
tracer_at t stage =
    record {
      stage = stage;
      chunks = t.chunks;
      refused = t.refused;
      state = t.state;
      records = t.records;
      chunk = t.chunk;
      frame = t.frame;
      count = t.count;
      read = t.read;
    }

-- behind a chunk that is refused
abbrev pub after_refused : Tracer → Stage → Tracer
after_refused t stage =
    record {
      stage = stage;
      chunks = one_more t.chunks;
      refused = one_more t.refused;
      state = t.state;
      records = t.records;
      chunk = t.chunk;
      frame = t.frame;
      count = t.count;
      read = t.read;
    }

-- behind one that is accepted, before its frames
abbrev pub after_accepted : Tracer → Stage → ChunkRead → ℕ → Tracer
after_accepted t stage r n =
    record {
      stage = stage;
      chunks = one_more t.chunks;
      refused = t.refused;
      state = r.state;
      records = t.records;
      chunk = t.chunks;
      frame = 0;
      count = n;
      read = r;
    }

-- behind a frame, with the records after it
abbrev pub after_frame : Tracer → List Segmentation → Tracer
after_frame t records =
    record {
      stage = t.stage;
      chunks = t.chunks;
      refused = t.refused;
      state = t.state;
      records = records;
      chunk = t.chunk;
      frame = t.frame + 1;
      count = t.count;
      read = t.read;
    }
