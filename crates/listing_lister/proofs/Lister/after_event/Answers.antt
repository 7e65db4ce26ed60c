use mathlib.Core.Path.{◌≡◌, ◌∙◌}
use Rattle.ivf_walk.specs.declared.Event.TheVariants.{More, Pass, NoFile, Opened, TooLong, Cut, End, Over}
use borrow.Author.Rules.{rules}
use Rattle.listing_lister.proofs.Lister.after_event.Goals as goal

pub returns-in-TooLong : goal.returns-in-TooLong
returns-in-TooLong c = let e : c.args.event ≡ TooLong = search rules in c.after_too_long.ensures ∙ rw e

pub returns-in-More : goal.returns-in-More
returns-in-More c = let e : c.args.event ≡ More = search rules in c.at_stage.ensures ∙ rw e

pub returns-in-Pass : goal.returns-in-Pass
returns-in-Pass c = let e : c.args.event ≡ Pass = search rules in c.at_stage-in-Pass.ensures ∙ rw e

pub returns-in-NoFile : goal.returns-in-NoFile
returns-in-NoFile c = let e : c.args.event ≡ NoFile = search rules in c.at_stage-in-NoFile.ensures ∙ rw e

pub returns-in-Opened : goal.returns-in-Opened
returns-in-Opened c = let e : c.args.event ≡ Opened = search rules in c.at_stage-in-Opened.ensures ∙ rw e

pub returns-in-Data : goal.returns-in-Data
returns-in-Data c = c.at_stage-in-Data.ensures ∙ rw c.in-Data.is

pub returns-in-Cut : goal.returns-in-Cut
returns-in-Cut c = let e : c.args.event ≡ Cut = search rules in c.at_stage-in-Cut.ensures ∙ rw e

pub returns-in-End : goal.returns-in-End
returns-in-End c = let e : c.args.event ≡ End = search rules in c.at_stage-in-End.ensures ∙ rw e

pub returns-in-Over : goal.returns-in-Over
returns-in-Over c = let e : c.args.event ≡ Over = search rules in c.at_stage-in-Over.ensures ∙ rw e
