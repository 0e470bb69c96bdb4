use Rattle.std.proofs.Common.{◌≡◌, ℕ, ◌+◌, ◌<◌, List, [], ◌∷◌, ◌++◌, map, length, get_or, take, vec_items, ◌∙◌, arith}
use Rattle.std.proofs.lemmas.List.{map_push, take_more, take_all}
use Rattle.posts.specs.declared.event.PostCall.{PostCall}
use Rattle.posts.specs.declared.event.PostEvent.{PostEvent}
use Rattle.posts.specs.Exchange.{call_of}
use Rattle.posts.proofs.Exchanges.{happened_more, in_order, in_time, never_late}
use Rattle.posts.proofs.exchanging.exchange.Goals as goal

-- The calls of the events so far are the calls so far.
calls_more : (calls : List PostCall) (i : ℕ) (d : PostCall) (before after : List PostEvent) (e : PostEvent) → after ≡ before ++ e ∷ [] → map call_of before ≡ take i calls → call_of e ≡ get_or calls i d → i < length calls → map call_of after ≡ take (i + 1) calls
calls_more calls i d before after e one_more so its inside = cc (map_push call_of before e, take_more calls i d inside)

pub loop-call-preserved : goal.loop-call-preserved
loop-call-preserved g c =
    let p = g.P.Post in
    let so = c.loop-call.invariant in
    let before = vec_items c.loop-call.events in
    let after = vec_items c.push_reserved.new.self in
    let one_more = c.push_reserved.ensures.items in
    let tried = happened_more g.met.P.Post.laws before c.try_call.result c.args.post.now c.loop-call.post c.try_call.new.post so.happened c.try_call.ensures.did in
    record {
      tried = calls_more c.args.calls.now c.loop-call.call-index _ before after c.try_call.result one_more so.tried c.try_call.ensures.made (omega arith);
      happened = rw one_more tried;
      one_each = omega arith;
      room = omega arith;
    }

pub returns : goal.returns
returns g c =
    let laws = g.met.P.Post.laws in
    let es = vec_items c.loop-call.events in
    let before = c.args.post.now in
    let after = c.loop-call.post in
    let so = c.loop-call.invariant in
    record {
      exact = (so.tried ∙ take_all c.loop-call.call-index c.args.calls.now (omega arith), so.happened);
      in_order = in_order laws es before after so.happened;
      in_time = in_time laws es before after so.happened;
      never_late = never_late laws es before after so.happened;
    }
