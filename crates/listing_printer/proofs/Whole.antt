-- However a file arrives, the text of what a tracer yields is the long form of the whole file.
-- Assumes nothing.
use Prim.Native.Nat.{ℕ, ◌^◌, ◌<◌}
use mathlib.Core.Path.{◌≡◌, refl, sym, ap, ◌∙◌}
use mathlib.Core.List.{List, [], ◌∷◌, ◌++◌, append_assoc}
use lib.ListN.{length}
use Rattle.listing_lister.specs.Arrival.{joined}
use Rattle.listing_items.specs.Items.{Item}
use Rattle.listing_printer.specs.Text.{item_text, items_text, long_text}
use Rattle.listing_tracer.specs.Arrival.{yielded}
use Rattle.listing_tracer.proofs.Whole as tracer

-- items put call by call are put as one
pub text_append : (a b : List Item) → items_text (a ++ b) ≡ items_text a ++ items_text b
unfolding items_text
text_append [] b = refl
text_append (item ∷ a) b = ap (λ t. item_text item ++ t) (text_append a b) ∙ sym (append_assoc (item_text item) (items_text a) (items_text b))

pub however : (blocks : List (List ℕ)) → length (joined blocks) < 2 ^ 64 → items_text (yielded blocks) ≡ long_text (joined blocks)
unfolding long_text
however blocks few = ap items_text (tracer.however blocks few)
