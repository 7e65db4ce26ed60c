use mathlib.Core.Path.{◌≡◌}
use Rattle.text_frame_line.specs.declared.Kind.TheVariants.{Key, Intra, Inter, Show}
use borrow.Author.Rules.{rules}
use Rattle.text_frame_line.proofs.put_kind.Goals as goal

pub returns-in-Key : goal.returns-in-Key
returns-in-Key c = let e : c.args.kind ≡ Key = search rules in rw e c.put.ensures

pub returns-in-Intra : goal.returns-in-Intra
returns-in-Intra c = let e : c.args.kind ≡ Intra = search rules in rw e c.put-in-Intra.ensures

pub returns-in-Inter : goal.returns-in-Inter
returns-in-Inter c = let e : c.args.kind ≡ Inter = search rules in rw e c.put-in-Inter.ensures

pub returns-in-Show : goal.returns-in-Show
returns-in-Show c = let e : c.args.kind ≡ Show = search rules in rw e c.put-in-Show.ensures
