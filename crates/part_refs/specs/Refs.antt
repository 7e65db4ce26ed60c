-- The three references of an inter frame (VP9 6.2): the slot of each, and its sign bias.
-- Assumes nothing.
use Rattle.std.specs.Prelude.{ℕ, ◌≡◌, List, Result}
use Rattle.base_bits.specs.declared.Cursor.{Cursor}
use Rattle.base_bits.specs.declared.Refusal.{Refusal}
use Rattle.base_syntax.specs.Reader.{over}
use Rattle.part_refs.specs.declared.Ref.{Ref}
use Rattle.part_refs.specs.declared.Refs.{Refs}
use Rattle.grammar_tables.specs.Tables.{RefValues, RefsValues}
use Rattle.grammar_tables.specs.Reading.{read_ref}

-- the code's answer
unfoldable pub ref_of : RefValues → Ref
ref_of v = record { idx = v.ref_frame_idx; sign_bias = v.ref_frame_sign_bias }

unfoldable pub refs_of : RefsValues → Refs
refs_of v = record { last = ref_of v.last; golden = ref_of v.golden; altref = ref_of v.altref }

-- what `parse_ref` answers, whichever of the references it reads
abbrev pub RefIs : List ℕ → ℕ → Result (Ref × Cursor) Refusal → Type 0
RefIs s p r = (i : ℕ) → r ≡ over ref_of (read_ref i s p)
