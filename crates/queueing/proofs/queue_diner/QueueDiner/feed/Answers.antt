use Rattle.std.proofs.Common.{[], rules, ap, ◌∙◌}
use Rattle.arrayvec.proofs.ArrayVecLemmas.{items-with_items}
use Rattle.graph.specs.Neighbourhoods.{near}
use Rattle.queueing.specs.Orderly.{orderly}
use Rattle.queueing.specs.Queue.{fed}
use Rattle.queueing.specs.Turning.{orderly_fed}
use Rattle.queueing.proofs.queue_diner.QueueDiner.feed.Goals as goal

pub invariant_of-self : goal.invariant_of-self
invariant_of-self c =
    let d = c.args.self.now in record {
      sound = ap (orderly (near d.neighbourhood) d.neighbourhood.drinkers) (items-with_items d.entries c.feed_unblocked.new.entries (search rules) ∙ c.feed_unblocked.ensures ∙ ap (fed (near d.neighbourhood) []) c.as_mut_slice.ensures.value)
          ∙ orderly_fed (near d.neighbourhood) d.neighbourhood.drinkers [] d.entries.items d.sound;
    }
