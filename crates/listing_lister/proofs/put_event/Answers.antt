use mathlib.Core.Path.{◌≡◌}
use Rattle.ivf_walk.specs.declared.Event.TheVariants.{More, Pass, NoFile, Opened, TooLong, Cut, End, Over}
use Rattle.listing_lister.proofs.Lines.{no_line, a_line}
use borrow.Author.Rules.{rules}
use Rattle.listing_lister.proofs.put_event.Goals as goal

pub returns-in-NoFile : goal.returns-in-NoFile
returns-in-NoFile c = let e : c.args.event ≡ NoFile = search rules in rw e (a_line _ c.file_refused_line.ensures)

pub returns-in-Opened : goal.returns-in-Opened
returns-in-Opened c = let e : c.args.event ≡ Opened = search rules in rw e (a_line _ c.column_line.ensures)

pub returns-in-TooLong : goal.returns-in-TooLong
returns-in-TooLong c = let e : c.args.event ≡ TooLong = search rules in rw e (a_line _ c.refused_line.ensures)

pub returns-in-Cut : goal.returns-in-Cut
returns-in-Cut c = let e : c.args.event ≡ Cut = search rules in rw e c.put_cut.ensures

pub returns-in-End : goal.returns-in-End
returns-in-End c = let e : c.args.event ≡ End = search rules in rw e (a_line _ c.last_line.ensures)

pub returns-in-More : goal.returns-in-More
returns-in-More c = let e : c.args.event ≡ More = search rules in rw e (no_line _ _)

pub returns-in-Pass : goal.returns-in-Pass
returns-in-Pass c = let e : c.args.event ≡ Pass = search rules in rw e (no_line _ _)

pub returns-in-Data : goal.returns-in-Data
returns-in-Data c = rw c.in-Data.is (no_line _ _)

pub returns-in-Over : goal.returns-in-Over
returns-in-Over c = let e : c.args.event ≡ Over = search rules in rw e (no_line _ _)
