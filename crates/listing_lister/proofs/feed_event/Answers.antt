use Rattle.listing_file.specs.Chunk.{chunk_lines}
use Rattle.listing_lister.specs.Feed.{NoData, read_of, event_lines}
use mathlib.Core.Path.{refl, sym, ◌∙◌}
use Rattle.listing_lister.proofs.Event.{no_data_lem}
use borrow.Author.Rules.{rules}
use Rattle.listing_lister.proofs.feed_event.Goals as goal

pub returns : goal.returns
returns c =
    let a = c.args in
    let h : NoData a.turn.event = search rules in
    record {
      lister = c.after_event.ensures ∙ sym (no_data_lem a.turn.event h _ _);
      used = refl;
      wants = c.wanted.ensures;
      text = rw (no_data_lem a.turn.event h (λ n. chunk_lines a.lister.chunks (read_of a.lister a.s.now n)) (event_lines a.lister a.turn.event)) c.put_event-next.ensures;
    }
