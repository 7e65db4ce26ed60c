use Rattle.header_lead.proofs.Shots.{key_shot, no_kind_shot, intra_only_shot, inter_shot, pictured, unpictured}
use Rattle.header_lead.proofs.parse_shot.Goals.{then-kind, else-kind}
use Rattle.header_lead.proofs.parse_shot.Goals as goal

pub returns-in_err-picture : goal.returns-in_err-picture
returns-in_err-picture c = search (key_shot, unpictured)

pub returns-then-traits : goal.returns-then-traits
returns-then-traits c = search (key_shot, pictured)

pub returns-in_err-kind : goal.returns-in_err-kind
returns-in_err-kind c = search no_kind_shot

pub returns-in_err-picture-2 : goal.returns-in_err-picture-2
returns-in_err-picture-2 c = elim c.if-kind.branch [ then-kind w ↦ search (intra_only_shot, unpictured) | else-kind w ↦ search (inter_shot, unpictured) ]

pub returns : goal.returns
returns c = elim c.if-kind.branch [ then-kind w ↦ search (intra_only_shot, pictured) | else-kind w ↦ search (inter_shot, pictured) ]
