-- The text of a call is put whole: where there is room for 4096 bytes, it takes fewer.
-- Assumes nothing.
use Prim.Native.Nat.{ℕ, zero, suc, ◌+◌, ◌*◌, ◌<◌, ◌≤◌}
use mathlib.Core.Path.{◌≡◌, refl}
use mathlib.Core.Bool.{Bool, true}
use mathlib.Core.List.{List, [], ◌∷◌, ◌++◌}
use native.Mathlib.Omega.{arith}
use lib.ListN.{length, get_or, take, drop, length-append}
use borrow.Author.Tests.{leb-true}
use Rattle.base_shared.specs.Lists.{values_of}
use Rattle.base_bytes.proofs.Append.{whole_place, whole_text}
use Rattle.base_bits.specs.Refusal.{refusal_number}
use Rattle.base_types.specs.declared.header.Header.{Header}
use Rattle.base_types.specs.Header.{default_header}
use Rattle.chunk_answer.specs.declared.Answer.{Answer}
use Rattle.chunk_answer.specs.declared.Answer.TheVariants as answer
use Rattle.chunk_answer.specs.declared.ChunkRead.{ChunkRead}
use Rattle.ivf_walk.specs.declared.Event.{Event}
use Rattle.ivf_walk.specs.declared.Event.TheVariants.{More, Pass, NoFile, Opened, Data, TooLong, Cut, End, Over}
use Rattle.ivf_walk.specs.declared.Turn.{Turn}
use Rattle.text_numeral.proofs.Digits.{length_numeral}
use Rattle.text_line.specs.Line.{Word, number, word, word_text, line_text, text_of}
use Rattle.text_line.proofs.Lines.{text_append, text_one}
use Rattle.text_listing.specs.Lines.{column_line, refused_line, file_refused_line, last_line}
use Rattle.text_frame_line.specs.declared.Kind.{Kind}
use Rattle.text_frame_line.specs.declared.Kind.TheVariants.{Key, Intra, Inter, Show}
use Rattle.text_frame_line.specs.Frame.{frame_kind, kind_word, frame_line}
use Rattle.listing_file.specs.Chunk.{answer_lines, line_of_frame}
use Rattle.listing_lister.specs.declared.Lister.{Lister}
use Rattle.listing_lister.specs.declared.Fed.{Fed}
use Rattle.listing_lister.specs.Lister.{FewFrames}
use Rattle.listing_lister.specs.Feed.{has_room, read_of, lines_by, Answers}
use Rattle.listing_lister.proofs.Few.{few_frames}

-- no word of a line takes more than 20 bytes
abbrev Short : Word → Type 0
Short w = length (word_text w) ≤ 20

abbrev AllShort : List Word → Type 0
AllShort [] = Unit
AllShort (w ∷ ws) = Short w × AllShort ws

line_size : (ws : List Word) → AllShort ws → length (line_text ws) ≤ 21 * length ws + 1
unfolding line_text
line_size [] h = omega arith
line_size (w ∷ []) h = simp length-append (omega (arith, h.0))
line_size (w ∷ v ∷ ws) h = simp length-append (omega (arith, h.0, line_size (v ∷ ws) h.1))

kind_short : (k : Kind) → Short (word (kind_word k))
kind_short Key = omega arith
kind_short Intra = omega arith
kind_short Inter = omega arith
kind_short Show = omega arith

frame_size_lem : (chunk frame at size : ℕ) (h : Header) → length (line_text (frame_line chunk frame at size h)) ≤ 256
frame_size_lem chunk frame at size h =
    let n = length_numeral in
    omega (arith, line_size (frame_line chunk frame at size h) (n _, (n _, (kind_short (frame_kind h), (n _, (n _, (n _, (n _, (n _, (n _, tt))))))))))

-- lines of at most 256 bytes
frames_size : (g : ℕ → List Word) → ((i : ℕ) → length (line_text (g i)) ≤ 256) → (n : ℕ) → length (text_of (values_of g n)) ≤ 256 * n
unfolding values_of text_of
frames_size g h zero = omega arith
frames_size g h (suc n) = rw (text_append (values_of g n) (g n ∷ []), text_one (g n), length-append) (omega (arith, frames_size g h n, h n))

refused_size : (chunk refusal frame : ℕ) → length (text_of (refused_line chunk refusal frame ∷ [])) ≤ 4096
refused_size chunk refusal frame =
    let n = length_numeral in
    rw (text_one (refused_line chunk refusal frame)) (omega (arith, line_size (refused_line chunk refusal frame) (n _, (omega arith, (n _, (omega arith, (n _, tt)))))))

chunk_size : (chunk : ℕ) (r : ChunkRead) (a : Answer) → FewFrames a → length (text_of (answer_lines chunk r a)) ≤ 4096
chunk_size chunk r (answer.Frames n) h = omega (arith, frames_size (line_of_frame chunk r) (λ i. frame_size_lem chunk i (get_or r.at i 0) (get_or r.size i 0) (get_or r.headers i default_header)) n)
chunk_size chunk r answer.Empty h = refused_size chunk 1 0
chunk_size chunk r answer.Short h = refused_size chunk 2 0
chunk_size chunk r (answer.Past i) h = refused_size chunk 3 i
chunk_size chunk r (answer.Header i e) h = refused_size chunk (refusal_number e) i

last_size : (chunks refused : ℕ) → length (line_text (last_line chunks refused)) ≤ 256
last_size chunks refused = let n = length_numeral in omega (arith, line_size (last_line chunks refused) (n _, (omega arith, (n _, (omega arith, tt)))))

file_size : (refusal : ℕ) → length (line_text (file_refused_line refusal)) ≤ 256
file_size refusal = omega (arith, line_size (file_refused_line refusal) (omega arith, (omega arith, (length_numeral _, tt))))

pub text_size : (l : Lister) (s : List ℕ) (e : Event) → length (text_of (lines_by l s e)) ≤ 4096
unfolding text_of
text_size l s More = omega arith
text_size l s Pass = omega arith
text_size l s NoFile = rw length-append (omega (arith, file_size 7))
text_size l s Opened = rw length-append (omega (arith, line_size column_line (omega arith, (omega arith, (omega arith, (omega arith, (omega arith, (omega arith, (omega arith, (omega arith, (omega arith, tt)))))))))))
text_size l s (Data n) = let r = read_of l s n in chunk_size l.chunks r r.answer (few_frames (take n (drop 12 s)) l.state)
text_size l s TooLong = refused_size l.chunks 9 0
text_size l s Cut = simp length-append (omega (arith, file_size 8, last_size l.chunks l.refused))
text_size l s End = rw length-append (omega (arith, last_size l.chunks l.refused))
text_size l s Over = omega arith

-- where there is room, all of a call's text stands in the buffer from `at` on
module _ {out : List ℕ} {at : ℕ} {l : Lister} {s : List ℕ} {t : Turn} {r : Fed} {after : List ℕ} (room : has_room (length out) at ≡ true) (a : Answers out at l s t r after) where
  abbrev text : List ℕ
  text = text_of (lines_by l s t.event)

  enough : at + length text ≤ length out
  unfolding has_room
  enough = omega (arith, leb-true (at + 4096) (length out) room, text_size l s t.event)

  pub text_whole : (r.at ≡ at + length text) × (after ≡ take at out ++ text ++ drop (at + length text) out)
  text_whole = (whole_place a.text enough, whole_text a.text enough)
