use Rattle.std.proofs.Common.{arith}
use Rattle.graph.specs.Neighbourhoods.{near}
use Rattle.queueing.specs.Entries.{no_entry_where_thinking, room_for_one}
use Rattle.queueing.proofs.queue_diner.QueueDiner.become_hungry.Goals as goal

pub push-requires : goal.push-requires
push-requires c =
    let d = c.args.self.now in
    let p = c.args.p in
    let room = room_for_one (near d.neighbourhood) d.neighbourhood.drinkers d.entries.items d.sound p c.requires.0 (no_entry_where_thinking d.entries.items p c.requires.1) in
    (omega arith, omega arith)
