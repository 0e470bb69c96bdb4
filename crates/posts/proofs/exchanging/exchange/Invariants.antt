use Rattle.std.proofs.Common.{◌≡◌, ◌≤◌, map, length, take, vec_items, vec_len, vec_capacity}
use Rattle.posts.specs.Exchange.{Happened, call_of}
use Rattle.posts.proofs.exchanging.exchange.Given as goal

-- the calls passed have been tried, and there is room for what comes of the others
abbrev pub invariant-loop-call : goal.invariant-loop-call
invariant-loop-call g l =
    let p = g.P.Post in
    record {
      tried : map call_of (vec_items l.events) ≡ take l.call-index l.calls;
      happened : Happened p.means p.puts p.takes p.ticks (vec_items l.events) l.initial.post l.post;
      one_each : vec_len l.events ≡ l.call-index;
      room : length l.calls ≤ vec_capacity l.events;
    }
