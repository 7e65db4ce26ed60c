use mathlib.Core.Path.{◌≡◌, ◌∙◌}
use Rattle.ivf_walk.specs.declared.Event.TheVariants.{More, Pass, NoFile, Opened, TooLong, Cut, End, Over}
use Rattle.listing_tracer.specs.Traced.{DataThere}
use borrow.Author.Rules.{rules}
use Rattle.listing_tracer.proofs.turn_item.Goals as goal

pub data_item-requires : goal.data_item-requires
data_item-requires c =
    let a = c.args in
    let there : DataThere a.turn a.s.now = search rules in
    there _ c.in-Data.is

pub returns-in-More : goal.returns-in-More
returns-in-More c = let e : c.args.turn.event ≡ More = search rules in c.turned.ensures ∙ rw e

pub returns-in-Pass : goal.returns-in-Pass
returns-in-Pass c = let e : c.args.turn.event ≡ Pass = search rules in c.turned-in-Pass.ensures ∙ rw e

pub returns-in-NoFile : goal.returns-in-NoFile
returns-in-NoFile c = let e : c.args.turn.event ≡ NoFile = search rules in c.turned-in-NoFile.ensures ∙ rw e

pub returns-in-Opened : goal.returns-in-Opened
returns-in-Opened c = let e : c.args.turn.event ≡ Opened = search rules in c.turned-in-Opened.ensures ∙ rw e

pub returns-in-Data : goal.returns-in-Data
returns-in-Data c = c.data_item.ensures ∙ rw c.in-Data.is

pub returns-in-TooLong : goal.returns-in-TooLong
returns-in-TooLong c = let e : c.args.turn.event ≡ TooLong = search rules in c.refused_item.ensures ∙ rw e

pub returns-in-Cut : goal.returns-in-Cut
returns-in-Cut c = let e : c.args.turn.event ≡ Cut = search rules in c.turned-in-Cut.ensures ∙ rw e

pub returns-in-End : goal.returns-in-End
returns-in-End c = let e : c.args.turn.event ≡ End = search rules in c.turned-in-End.ensures ∙ rw e

pub returns-in-Over : goal.returns-in-Over
returns-in-Over c = let e : c.args.turn.event ≡ Over = search rules in c.turned-in-Over.ensures ∙ rw e
