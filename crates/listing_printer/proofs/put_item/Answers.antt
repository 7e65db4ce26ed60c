use mathlib.Core.Path.{◌≡◌}
use Rattle.base_bytes.proofs.Append.{nothing}
use Rattle.listing_printer.specs.Text.{items_text}
use Rattle.listing_tracer.specs.declared.Yields.TheVariants.{Columns, NoFile, More, Again, Over}
use Rattle.listing_printer.proofs.Lines.{alone, bare}
use borrow.Author.Rules.{rules}
use Rattle.listing_printer.proofs.put_item.Goals as goal

pub returns-in-Columns : goal.returns-in-Columns
unfolding items_text
returns-in-Columns c = let e : c.args.traced.yields ≡ Columns = search rules in rw e (bare c.column_line.ensures)

pub returns-in-Frame : goal.returns-in-Frame
unfolding items_text
returns-in-Frame c = rw c.in-Frame.is (alone c.put_frame.ensures)

pub returns-in-Refused : goal.returns-in-Refused
unfolding items_text
returns-in-Refused c = rw c.in-Refused.is (bare c.refused_line.ensures)

pub returns-in-NoFile : goal.returns-in-NoFile
unfolding items_text
returns-in-NoFile c = let e : c.args.traced.yields ≡ NoFile = search rules in rw e (bare c.file_refused_line.ensures)

pub returns-in-Cut : goal.returns-in-Cut
unfolding items_text
returns-in-Cut c = rw c.in-Cut.is c.put_cut.ensures

pub returns-in-More : goal.returns-in-More
unfolding items_text
returns-in-More c = let e : c.args.traced.yields ≡ More = search rules in rw e (nothing _ _)

pub returns-in-Again : goal.returns-in-Again
unfolding items_text
returns-in-Again c = let e : c.args.traced.yields ≡ Again = search rules in rw e (nothing _ _)

pub returns-in-Over : goal.returns-in-Over
unfolding items_text
returns-in-Over c = let e : c.args.traced.yields ≡ Over = search rules in rw e (nothing _ _)

pub returns-in-Last : goal.returns-in-Last
unfolding items_text
returns-in-Last c = rw c.in-Last.is (bare c.last_line.ensures)
