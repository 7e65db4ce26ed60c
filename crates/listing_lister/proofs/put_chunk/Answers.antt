use borrow.Author.Rules.{rules}
use Rattle.listing_lister.proofs.Lines.{a_line}
use Rattle.listing_lister.proofs.Event.{other_answer}
use Rattle.listing_lister.specs.Lister.{FewFrames}
use Rattle.listing_lister.proofs.put_chunk.Goals as goal

pub returns-in_default : goal.returns-in_default
returns-in_default c =
    let a = c.args in
    let k = c.number in
    let f = c.frame in
    rw (other_answer a.chunk a.read a.read.answer (search rules)) (a_line _ (rw (k.ensures, f.ensures) at c.refused_line.ensures))

pub put_frames-requires : goal.put_frames-requires
put_frames-requires c =
    let h : FewFrames c.args.read.answer = search rules in
    rw c.in-Frames.is at h

pub returns : goal.returns
returns c = rw c.in-Frames.is c.put_frames.ensures
