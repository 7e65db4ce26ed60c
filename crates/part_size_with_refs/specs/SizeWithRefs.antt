-- frame_size_with_refs() (VP9 6.2.5): the size of the first reference whose found_ref is 1, or one of its own; and
-- the render size.
-- Assumes nothing.
use Rattle.std.specs.Prelude.{ℕ, List, [], ◌∷◌, eqb, get_or, Option, Some, None}
use Rattle.base_shared.specs.Choice.{pick}
use Rattle.base_syntax.specs.Reader.{Reader, give, group_if, ◌>>=◌}
use Rattle.base_size.specs.FrameSize.{no_size}
use Rattle.base_size.specs.declared.FrameSize.{FrameSize}
use Rattle.part_sizes.specs.Size.{size_or}
use Rattle.grammar_tables.specs.Tables.{SizeValues, RenderValues, FoundValues, found_at}
use Rattle.grammar_tables.specs.Reading.{no_size_values, read_frame_size, no_render, read_render, no_found, read_found}
use Rattle.part_sizes.specs.Sizes.{with_render}
use Rattle.part_refs.specs.declared.Refs.{Refs}
use Rattle.part_sizes.specs.declared.Sizes.{Sizes}

pub record SizeWithRefsValues : Type 0 where
  pub found_ref : FoundValues
  pub size : SizeValues
  pub render : RenderValues

-- the reference of number k; 3 is none
abbrev pub of_three : ℕ → Option ℕ
of_three k = pick (eqb k 3) None (Some k)

-- the reference that gives the size, if one does
abbrev pub found_ref : FoundValues → Option ℕ
found_ref v = of_three (found_at v)

-- the size that slot i remembers
abbrev pub slot_size : List FrameSize → ℕ → FrameSize
slot_size slots i = get_or slots i no_size

-- the slot of reference k
abbrev pub ref_slot : Refs → ℕ → ℕ
ref_slot refs k = get_or (refs.last.idx ∷ refs.golden.idx ∷ refs.altref.idx ∷ []) k 0

-- from the references and the remembered sizes
abbrev pub found_size : List FrameSize → Refs → SizeWithRefsValues → FrameSize
found_size slots refs v = size_or (eqb (found_at v.found_ref) 3) (slot_size slots (ref_slot refs (found_at v.found_ref))) v.size

-- reading

abbrev pub no_size_with_refs : SizeWithRefsValues
no_size_with_refs = record { found_ref = no_found; size = no_size_values; render = no_render }

unfoldable pub read_size_with_refs : Reader SizeWithRefsValues
read_size_with_refs = do
  k ← read_found
  z ← group_if (eqb (found_at k) 3) no_size_values read_frame_size
  r ← read_render
  give (record { found_ref = k; size = z; render = r })

-- the code's answer
unfoldable pub size_with_refs_of : List FrameSize → Refs → SizeWithRefsValues → Sizes
size_with_refs_of slots refs v = with_render (found_size slots refs v) v.render
