-- Lines after lines.
-- Assumes nothing.
use mathlib.Core.Path.{◌≡◌, refl, sym, ap, ◌∙◌}
use mathlib.Core.List.{List, [], ◌∷◌, ◌++◌, append_assoc, append-nil}
use Rattle.text_line.specs.Line.{Word, line_text, text_of}

pub text_append : (ls ms : List (List Word)) → text_of (ls ++ ms) ≡ text_of ls ++ text_of ms
unfolding text_of
text_append [] ms = refl
text_append (l ∷ ls) ms = ap (λ t. line_text l ++ t) (text_append ls ms) ∙ sym (append_assoc (line_text l) (text_of ls) (text_of ms))

pub text_one : (l : List Word) → text_of (l ∷ []) ≡ line_text l
unfolding text_of
text_one l = append-nil (line_text l)
