use Rattle.relations.proofs.Rows.{at_all, square_all}
use Rattle.relations.proofs.relation.access.all.Goals as goal

pub returns : goal.returns
returns c = record { square = square_all c.args.holds; same = at_all c.args.holds 16 16 }
